use Rattle.std.proofs.Common.{◌≡◌, ◌∙◌, ◌↔◌, ◌||◌, false, IsTrue, Option, Some, None, option_map, refl, sym, ap, subst}
use Rattle.std.specs.Borrow.{Bor}
use Rattle.std.specs.List.{Contains}
use Rattle.std.specs.Option.{unwrap_or}
use Rattle.value_model.specs.declared.document.Entry.{Entry}
use Rattle.value_model.specs.declared.document.Seal.{Seal}
use Rattle.value_model.specs.declared.timestamp.Timestamp.{Timestamp}
use Rattle.mutation_queue.specs.Queue.{named_keys}
use Rattle.durable_state.specs.Documents.{is_uncovered, sealed_entry_of}
use Rattle.durable_state.specs.Tables.{Tables, state_in}
use Rattle.durable_state.proofs.Lent.{named_is, touched_is, touches}
use Rattle.durable_state.proofs.lending.DurableStateDocuments.touched.Goals as goal

by_seal : (last : Option Timestamp) (sealed : Option (Bor Entry × Bor Seal))
    → option_map (λ (p : Bor Entry × Bor Seal). is_uncovered last p.1.now) sealed ≡ option_map (λ (p : Entry × Seal). is_uncovered last p.1) (option_map (λ (p : Bor Entry × Bor Seal). (p.0.now, p.1.now)) sealed)
by_seal last None = refl
by_seal last (Some p) = refl

pub returns-then-names : goal.returns-then-names
returns-then-names c =
    let s = state_in c.args.self.now in
    let names = subst (λ (t : Tables). IsTrue c.names.result ↔ Contains (named_keys t.pending.batches) c.args.key.now) c.self.view_is c.names.ensures in
    let named = named_is s c.args.key.now c.names.result names ∙ c.if-names.true in
    touched_is s c.args.key.now c.names.result
    (touches s c.args.key.now ∙ ap (λ b. b || unwrap_or (option_map (λ p. is_uncovered s.last_read p.1) (sealed_entry_of s c.args.key.now)) false) named ∙ sym c.if-names.true)

pub returns-else-names : goal.returns-else-names
returns-else-names c =
    let s = state_in c.args.self.now in
    let names = subst (λ (t : Tables). IsTrue c.names.result ↔ Contains (named_keys t.pending.batches) c.args.key.now) c.self.view_is c.names.ensures in
    let named = named_is s c.args.key.now c.names.result names ∙ c.if-names.false in
    let uncovered = c.is_uncovered.ensures ∙ ap (λ o. unwrap_or o false) (by_seal c.last_read.result c.entry.result
    ∙ ap (λ last. option_map (λ (p : Entry × Seal). is_uncovered last p.1) (option_map (λ (p : Bor Entry × Bor Seal). (p.0.now, p.1.now)) c.entry.result)) c.last_read.ensures
    ∙ ap (option_map (λ (p : Entry × Seal). is_uncovered s.last_read p.1)) c.entry.ensures) in
    touched_is s c.args.key.now c.is_uncovered.result
    (touches s c.args.key.now ∙ ap (λ b. b || unwrap_or (option_map (λ p. is_uncovered s.last_read p.1) (sealed_entry_of s c.args.key.now)) false) named ∙ sym uncovered)
