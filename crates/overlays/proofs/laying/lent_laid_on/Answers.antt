use Rattle.std.proofs.Common.{◌<◌, ◌∙◌, sym, ap, subst}
use Rattle.std.proofs.lemmas.List.{get_or-map, length-map}
use Rattle.overlays.specs.Table.{IsBatchOfFields}
use Rattle.overlays.proofs.laying.lent_laid_on.Goals as goal

pub laid_on-requires : goal.laid_on-requires
laid_on-requires c =
    let i = c.loop-batch.batch-index in
    let item = c.batch-item.result in
    let below = subst (λ n. i < n) (sym (length-map c.args.batches.now (λ b. b.now))) c.loop-batch-test.true in
    subst IsBatchOfFields (get_or-map (λ b. b.now) c.args.batches.now i item item.now c.loop-batch-test.true ∙ ap (λ b. b.now) (sym c.batch-item.is)) (c.requires i item.now below)
