use Rattle.std.proofs.Common.{lit<, rules, sym, ◌∙◌, append_assoc, ◌∷◌, []}
use Rattle.std.proofs.lemmas.Result.{err_from_is_err_and}
use Rattle.std.proofs.lemmas.Str.Pattern.{split_parts}
use Rattle.document_keys.proofs.Parts.{cut_part, cut_last, not_all, All_segments-push}
use Rattle.document_keys.proofs.path.read_segments.Goals as goal

pub returns-in_err-read-clause-fault : goal.returns-in_err-read-clause-fault
returns-in_err-read-clause-fault c =
    let p = err_from_is_err_and c.from_residual-in_err-read.result c.from_residual-in_err-read.ensures.1 in
    let cut = split_parts 47 c.loop-part.rest.now c.split_once.result c.split_once.ensures.cases (lit< tt) in
    let here = rw c.in-Some.is at cut in
    let parts = cut_part c.args.path.now c.loop-part.rest.now _ _ _ c.loop-part.invariant.1 here.0 here.1 in
    rw (p.1, p.2) (λ other. let bad = c.in_err-read.ensures.fault other in (bad.0, not_all _ _ _ _ parts bad.1))

pub loop-part-preserved : goal.loop-part-preserved
loop-part-preserved c =
    let cut = split_parts 47 c.loop-part.rest.now c.split_once.result c.split_once.ensures.cases (lit< tt) in
    let here = rw c.in-Some.is at cut in
    let parts = cut_part c.args.path.now c.loop-part.rest.now _ _ _ c.loop-part.invariant.1 here.0 here.1 in
    (search rules, rw (c.in_ok-push.ensures.items, c.in_ok-read.ensures.segment.0) (parts ∙ sym (append_assoc _ (_ ∷ []) _)), rw c.in_ok-push.ensures.items (All_segments-push _ _ _ c.in_ok-read.ensures.segment.0 c.loop-part.invariant.2 c.in_ok-read.ensures.segment.1))

pub returns-in_err-read-2-clause-fault : goal.returns-in_err-read-2-clause-fault
returns-in_err-read-2-clause-fault c =
    let p = err_from_is_err_and c.from_residual-in_err-read-2.result c.from_residual-in_err-read-2.ensures.1 in
    let cut = split_parts 47 c.loop-part.rest.now c.split_once.result c.split_once.ensures.cases (lit< tt) in
    let here = rw c.in_default.is at cut in
    let parts = cut_last c.args.path.now c.loop-part.rest.now _ c.loop-part.invariant.1 here in
    rw (p.1, p.2) (λ other. let bad = c.in_err-read-2.ensures.fault other in (bad.0, not_all _ _ _ _ parts bad.1))

pub returns-clause-parts : goal.returns-clause-parts
returns-clause-parts c =
    let cut = split_parts 47 c.loop-part.rest.now c.split_once.result c.split_once.ensures.cases (lit< tt) in
    let here = rw c.in_default.is at cut in
    rw (c.in_ok-push-2.ensures.items, c.in_ok-read-2.ensures.segment.0) (sym (cut_last c.args.path.now c.loop-part.rest.now _ c.loop-part.invariant.1 here))

pub returns-clause-segments : goal.returns-clause-segments
returns-clause-segments c = rw c.in_ok-push-2.ensures.items (All_segments-push _ _ _ c.in_ok-read-2.ensures.segment.0 c.loop-part.invariant.2 c.in_ok-read-2.ensures.segment.1)
