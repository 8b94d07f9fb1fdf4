use Rattle.std.proofs.Common.{◌≡◌, ◌∙◌, ◌↔◌, rules, sym, ap, subst}
use Rattle.std.specs.List.{AllPairs, Contains, filter}
use Rattle.std.specs.Option.{IsSome}
use Rattle.std.proofs.lemmas.Fn.{filter_same}
use Rattle.std.proofs.lemmas.List.Kept.{AllPairs-filter}
use Rattle.document_keys.specs.Order.{PathBefore}
use Rattle.value_model.specs.Documents.{IsIn}
use Rattle.durable_state.specs.Documents.{sealed_entry_of}
use Rattle.durable_state.specs.Tables.{Tables, state_in}
use Rattle.durable_state.proofs.Lent.{is_plain, plain_members}
use Rattle.durable_state.proofs.durable_state.DurableState.plain_keys.Goals as goal

pub returns-clause-ascending : goal.returns-clause-ascending
returns-clause-ascending c =
    let kept : c.retain.new.self.items ≡ filter (is_plain (state_in c.args.self.now)) c.in_ok-keys.keys.items =
    filter_same _ (is_plain (state_in c.args.self.now)) _ (λ x b f' called. search rules) c.in_ok-keys.keys.items c.retain.new.self.items c.retain.ensures.filtered in
    subst (AllPairs PathBefore) (sym kept) (AllPairs-filter PathBefore (is_plain (state_in c.args.self.now)) c.in_ok-keys.keys.items c.in_ok-keys.ensures.ascending)

pub returns-clause-members : goal.returns-clause-members
returns-clause-members c =
    let kept : c.retain.new.self.items ≡ filter (is_plain (state_in c.args.self.now)) c.in_ok-keys.keys.items =
    filter_same _ (is_plain (state_in c.args.self.now)) _ (λ x b f' called. search rules) c.in_ok-keys.keys.items c.retain.new.self.items c.retain.ensures.filtered in
    plain_members (state_in c.args.self.now) (IsIn c.args.collection.now) c.in_ok-keys.keys.items c.retain.new.self.items kept
    (λ k.
    let same = sym (c.self.invariant.map k) ∙ ap (λ (t : Tables). sealed_entry_of (state_in t) k) c.self.view_is in
    subst (λ o. Contains c.in_ok-keys.keys.items k ↔ (IsIn c.args.collection.now k × IsSome o)) same (c.in_ok-keys.ensures.members k))
