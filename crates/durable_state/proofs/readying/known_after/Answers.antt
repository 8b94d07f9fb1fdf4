use Rattle.std.proofs.Common.{◌∙◌, sym, ap}
use Rattle.remote_documents.specs.Table.{entries_in}
use Rattle.durable_state.specs.Cached.{cached}
use Rattle.durable_state.proofs.Newest.{known_then, put_or}
use Rattle.durable_state.proofs.readying.known_after.Goals as goal

pub returns-in-Some : goal.returns-in-Some
returns-in-Some c = λ seal.
    let was = cached (entries_in c.args.entries.now) c.args.key.now in
    ap (λ o. put_or o was) c.in-Some.ensures ∙ sym (known_then (entries_in c.args.entries.now) seal c.args.news.now c.args.key.now)

pub returns-in-None : goal.returns-in-None
returns-in-None c = λ seal.
    let was = cached (entries_in c.args.entries.now) c.args.key.now in
    c.known.ensures ∙ ap (λ o. put_or o was) c.in-None.ensures ∙ sym (known_then (entries_in c.args.entries.now) seal c.args.news.now c.args.key.now)
