use Rattle.std.proofs.Common.{◌≡◌, ◌∙◌, map, drop, sym, ap, subst}
use Rattle.std.specs.List.{All}
use Rattle.std.proofs.lemmas.List.Elements.{All-drop, All-filter}
use Rattle.mutation_queue.specs.Queue.{names, naming}
use Rattle.overlays.specs.Lent.{known}
use Rattle.overlays.specs.LocalDocument.{local_document}
use Rattle.overlays.specs.Table.{IsBatchOfFields}
use Rattle.overlays.proofs.Naming.{local_naming}
use Rattle.overlays.proofs.overlays.Overlays.prepare_pending.Goals as goal

pub lent_laid_on-requires : goal.lent_laid_on-requires
lent_laid_on-requires c =
    subst (All IsBatchOfFields) (sym (ap (map (λ b. b.now)) c.as_slice.ensures.value ∙ c.in_ok-batches.ensures)) (All-filter (names c.args.key.now) IsBatchOfFields (drop c.args.past c.args.pending.now.batches) (All-drop IsBatchOfFields c.args.past c.args.pending.now.batches c.requires))

pub returns-clause-document : goal.returns-clause-document
returns-clause-document c =
    let key = c.args.key.now in
    let lent : map (λ b. b.now) c.as_slice.result.now ≡ naming key (drop c.args.past c.args.pending.now.batches) = ap (map (λ b. b.now)) c.as_slice.ensures.value ∙ c.in_ok-batches.ensures in
    c.in_ok-document-2.ensures ∙ ap (local_document key c.in_ok-document.document) lent ∙ ap (λ d. local_document key d (naming key (drop c.args.past c.args.pending.now.batches))) c.in_ok-document.ensures ∙ local_naming key (drop c.args.past c.args.pending.now.batches) (known c.args.entry)
