use Rattle.std.proofs.Common.{◌∙◌, sym, ap, subst}
use Rattle.std.proofs.lemmas.Option.{same_Some}
use Rattle.disk_journal.specs.Place.{Place}
use Rattle.durable_state.specs.Ready.{state_by}
use Rattle.durable_state.specs.Tables.{state_in}
use Rattle.local_store.specs.State.{State, committed}
use Rattle.local_store.specs.Store.{Store, IsOver}
use Rattle.local_store.proofs.Committed.{stands, nothing_moves, append_moves, appends_payload, leads_more, over_finds, over_more}
use Rattle.local_store.proofs.local_store.LocalStore.make.Goals as goal

pub returns-in_err-ready-clause-files : goal.returns-in_err-ready-clause-files
returns-in_err-ready-clause-files g c = λ told. stands c.args.self.now.place c.requires.whole (λ at same. nothing_moves _ (c.requires.stored told at same))

pub append-requires : goal.append-requires
append-requires g c = λ told.
    let is = c.requires.stored told c.in-Some.journal (sym (ap (λ (s : Store). s.place) c.self.view_is) ∙ sym c.in-Some.ensures.value) in
    (is.payloads, is.open_with)

pub returns-in_err-append-clause-files : goal.returns-in_err-append-clause-files
returns-in_err-append-clause-files g c = λ told.
    let is = c.requires.stored told c.in-Some.journal (sym (ap (λ (s : Store). s.place) c.self.view_is) ∙ sym c.in-Some.ensures.value) in
    append_moves _ _ is.leads (leads_more _ c.args.commit is.leads c.requires.has_spelling c.requires.fits) (appends_payload c.requires.framed (c.append.ensures.files told is.payloads is.open_with))

pub returns-clause-made : goal.returns-clause-made
returns-clause-made g c =
    let moved = c.apply.ensures ∙ ap (λ (s : State). state_by s c.in_ok-ready.ready) c.ready.ensures.same ∙ c.in_ok-ready.ensures.moves ∙ ap (λ (s : Store). committed s.state c.args.commit) c.self.view_is in
    (moved, c.number.ensures.number)

pub returns-clause-stored : goal.returns-clause-stored
returns-clause-stored g c = λ told x there.
    let is = c.requires.stored told c.in-Some.journal (sym (ap (λ (s : Store). s.place) c.self.view_is) ∙ sym c.in-Some.ensures.value) in
    let appended = appends_payload c.requires.framed (c.in_ok-append.ensures.files told is.payloads is.open_with) in
    let moved = c.apply.ensures ∙ ap (λ (s : State). state_by s c.in_ok-ready.ready) c.ready.ensures.same ∙ c.in_ok-ready.ensures.moves ∙ ap (λ (s : Store). committed s.state c.args.commit) c.self.view_is in
    subst (λ (p : Place). IsOver (state_in c.apply.new.self) (g.H.Host.view c.append.new.host) p) (same_Some _ _ there)
    (over_more c.args.commit is c.requires.has_spelling c.requires.fits c.in_ok-append.ensures.grows.3 appended.done (sym moved))

pub returns-clause-kept : goal.returns-clause-kept
returns-clause-kept g c = λ told.
    let is = c.requires.stored told c.in-Some.journal (sym (ap (λ (s : Store). s.place) c.self.view_is) ∙ sym c.in-Some.ensures.value) in
    let appended = appends_payload c.requires.framed (c.in_ok-append.ensures.files told is.payloads is.open_with) in
    let moved = c.apply.ensures ∙ ap (λ (s : State). state_by s c.in_ok-ready.ready) c.ready.ensures.same ∙ c.in_ok-ready.ensures.moves ∙ ap (λ (s : Store). committed s.state c.args.commit) c.self.view_is in
    over_finds {place = c.in_ok-append.field-0} (over_more c.args.commit is c.requires.has_spelling c.requires.fits c.in_ok-append.ensures.grows.3 appended.done (sym moved))

pub returns-clause-files : goal.returns-clause-files
returns-clause-files g c = λ told.
    let is = c.requires.stored told c.in-Some.journal (sym (ap (λ (s : Store). s.place) c.self.view_is) ∙ sym c.in-Some.ensures.value) in
    append_moves _ _ is.leads (leads_more _ c.args.commit is.leads c.requires.has_spelling c.requires.fits) (appends_payload c.requires.framed (c.append.ensures.files told is.payloads is.open_with))
