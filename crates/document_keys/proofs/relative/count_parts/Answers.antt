use Rattle.std.proofs.Common.{rules, tests, arith}
use Rattle.std.specs.Bool.{◌==◌}
use Rattle.std.proofs.lemmas.Iterator.{YieldsList-from_slice}
use Rattle.std.proofs.lemmas.Iterator.Consumers.{YieldsList-from_filter, count_from_yields_List}
use Rattle.std.proofs.lemmas.List.Splits.{length-slice_split}
use Rattle.std.proofs.lemmas.List.Sums.{length-filter}
use Rattle.document_keys.proofs.relative.count_parts.Goals as goal

pub returns : goal.returns
returns c =
    let counted = count_from_yields_List c.filter.result c.count.result c.count.ensures.ran (YieldsList-from_filter _ (λ byte. byte == 47) (YieldsList-from_slice c.args.path.now cc) c.filter.ensures.closure (λ x r q k. search (rules, tests))) in
    omega (arith, counted, length-filter (λ byte. byte == 47) c.args.path.now, length-slice_split (λ byte. byte == 47) c.args.path.now)
