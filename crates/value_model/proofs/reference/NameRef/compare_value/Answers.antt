use Rattle.std.proofs.Common.{◌∙◌, ap, sym}
use Rattle.std.specs.Ordering.{nat_cmp}
use Rattle.value_model.specs.Data.{reference}
use Rattle.value_model.specs.Lent.{lent_name}
use Rattle.value_model.proofs.ByRank.{reference_apart}
use Rattle.value_model.proofs.Exact.{ranks_values, ranked_paths}
use Rattle.value_model.proofs.reference.NameRef.compare_value.Goals as goal

pub returns-in-Reference : goal.returns-in-Reference
returns-in-Reference c = ranks_values c.compare.result (reference (lent_name c.args.self.now)) c.args.other.now (rw (← c.other.view_is, c.in-Reference.is, ← c.deref.ensures) (ranked_paths c.compare.result (lent_name c.args.self.now) c.deref.result.now c.compare.ensures))

pub returns-in_default : goal.returns-in_default
returns-in_default c =
    ranks_values c.cmp.result (reference (lent_name c.args.self.now)) c.args.other.now
    (c.cmp.ensures ∙ ap (nat_cmp 7) c.rank.ensures ∙ rw (← c.other.view_is) (sym (reference_apart (lent_name c.args.self.now) c.other.inside.kind c.in_default.not-Reference)))
