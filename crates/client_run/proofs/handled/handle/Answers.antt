use Rattle.std.proofs.Common.{sym, ◌∙◌}
use Rattle.std.proofs.lemmas.Result.{err_from_is_err_and}
use Rattle.sync_engine.proofs.Committed.{emits_stored}
use Rattle.client_run.specs.Turned.{coming}
use Rattle.client_run.proofs.Handling.{emitted, handled_as, is_nothing, is_something, nothing_more, taken_stands, taken_text, turned_moved, wrote_part}
use Rattle.client_run.proofs.handled.handle.Goals as goal

pub print_taken-requires-clause-standing : goal.print_taken-requires-clause-standing
print_taken-requires-clause-standing g c =
    let standing = c.requires.standing in
    taken_stands (c.in_ok-taken.ensures.turn standing.0 standing.1.0 standing.1.1)

pub print_taken-requires-clause-told : goal.print_taken-requires-clause-told
print_taken-requires-clause-told g c =
    let standing = c.requires.standing in
    let it = c.in_ok-taken.ensures.turn standing.0 standing.1.0 standing.1.1 in
    (it.turn, it.tells)

pub returns-in_err-taken-clause-files : goal.returns-in_err-taken-clause-files
returns-in_err-taken-clause-files g c = λ told s past stands. turned_moved (coming c.args.client.now.root s past c.args.reading c.args.number) (c.take.ensures.files told s past stands)

pub returns-in_err-text-clause-files : goal.returns-in_err-text-clause-files
returns-in_err-text-clause-files g c = λ told s past stands. turned_moved (coming c.args.client.now.root s past c.args.reading c.args.number) (c.take.ensures.files told s past stands)

pub returns-in_err-emit-clause-files : goal.returns-in_err-emit-clause-files
returns-in_err-emit-clause-files g c = λ told s past stands.
    let it = c.in_ok-taken.ensures.turn s past stands in
    emitted c.args.client.now.root c.args.number c.take.ensures.root it (taken_text _ c.args.client.now.root c.args.number it.turn c.take.ensures.root (c.as_bytes.ensures.value ∙ c.as_str-2.ensures.value) (c.in_ok-text.ensures it.turn it.tells))
    c.take.ensures.out.out (c.take.ensures.files told s past stands) c.in_ok-taken.ensures.live.store (c.take.ensures.stored told) (c.emit.ensures.files told)

pub returns-clause-files : goal.returns-clause-files
returns-clause-files g c = λ told s past stands.
    let it = c.in_ok-taken.ensures.turn s past stands in
    emitted c.args.client.now.root c.args.number c.take.ensures.root it (taken_text _ c.args.client.now.root c.args.number it.turn c.take.ensures.root (c.as_bytes.ensures.value ∙ c.as_str-2.ensures.value) (c.in_ok-text.ensures it.turn it.tells))
    c.take.ensures.out.out (c.take.ensures.files told s past stands) c.in_ok-taken.ensures.live.store (c.take.ensures.stored told) (c.emit.ensures.files told)

pub returns-in_err-emit-clause-stored : goal.returns-in_err-emit-clause-stored
returns-in_err-emit-clause-stored g c = λ told. emits_stored (c.take.ensures.stored told) (c.emit.ensures.files told)

pub returns-clause-stored : goal.returns-clause-stored
returns-clause-stored g c = λ told. emits_stored (c.take.ensures.stored told) (c.emit.ensures.files told)

pub returns-clause-done : goal.returns-clause-done
returns-clause-done g c = λ s past stands.
    let it = c.in_ok-taken.ensures.turn s past stands in
    handled_as c.args.client.now.root c.args.number g.H.Host.tells_out c.take.ensures.root it (taken_text _ c.args.client.now.root c.args.number it.turn c.take.ensures.root (c.as_bytes.ensures.value ∙ c.as_str-2.ensures.value) (c.in_ok-text.ensures it.turn it.tells))
    c.take.ensures.out.out (λ told. c.in_ok-emit.ensures.done told)

pub returns-in_err-emit-clause-stopped : goal.returns-in_err-emit-clause-stopped
returns-in_err-emit-clause-stopped g c =
    let p = err_from_is_err_and c.from_residual-in_err-emit.result c.from_residual-in_err-emit.ensures.1 in
    rw (p.1, p.2) (λ told s past stands.
    let it = c.in_ok-taken.ensures.turn s past stands in
    wrote_part c.args.client.now.root c.args.number c.take.ensures.root it (taken_text _ c.args.client.now.root c.args.number it.turn c.take.ensures.root (c.as_bytes.ensures.value ∙ c.as_str-2.ensures.value) (c.in_ok-text.ensures it.turn it.tells))
    (λ none. is_something c.as_str.result.now c.is_empty.result c.is_empty.ensures c.if-is_empty.false (c.as_str.ensures.value ∙ sym (c.as_bytes.ensures.value ∙ c.as_str-2.ensures.value) ∙ none)) c.take.ensures.out.out (c.emit.ensures.out told))

pub returns-clause-standing : goal.returns-clause-standing
returns-clause-standing g c =
    let standing = c.requires.standing in
    taken_stands (c.in_ok-taken.ensures.turn standing.0 standing.1.0 standing.1.1)

pub returns-then-is_empty-clause-standing : goal.returns-then-is_empty-clause-standing
returns-then-is_empty-clause-standing g c =
    let standing = c.requires.standing in
    taken_stands (c.in_ok-taken.ensures.turn standing.0 standing.1.0 standing.1.1)

pub returns-then-is_empty-clause-files : goal.returns-then-is_empty-clause-files
returns-then-is_empty-clause-files g c = λ told s past stands. turned_moved (coming c.args.client.now.root s past c.args.reading c.args.number) (c.take.ensures.files told s past stands)

pub returns-then-is_empty-clause-done : goal.returns-then-is_empty-clause-done
returns-then-is_empty-clause-done g c = λ s past stands.
    let it = c.in_ok-taken.ensures.turn s past stands in
    handled_as c.args.client.now.root c.args.number g.H.Host.tells_out c.take.ensures.root it (taken_text _ c.args.client.now.root c.args.number it.turn c.take.ensures.root c.as_str.ensures.value (c.in_ok-text.ensures it.turn it.tells))
    c.take.ensures.out.out (λ told. nothing_more (is_nothing c.as_str.result.now c.is_empty.result c.is_empty.ensures c.if-is_empty.true))
