use Rattle.std.proofs.Common.{◌≡◌, List, ℕ, IsTrue, rules, sym, subst}
use Rattle.std.specs.List.{AllPairs, filter}
use Rattle.std.specs.Option.{is_some}
use Rattle.std.proofs.lemmas.Fn.{filter_same}
use Rattle.std.proofs.lemmas.List.Kept.{AllPairs-filter}
use Rattle.document_keys.specs.Order.{PathBefore}
use Rattle.value_model.specs.Documents.{IsIn}
use Rattle.key_table.proofs.Listing.{passing_members}
use Rattle.key_table.specs.Table.{has_key}
use Rattle.remote_documents.specs.Table.{entry_of}
use Rattle.remote_documents.proofs.Tables.{has_from_entry}
use Rattle.remote_documents.proofs.table.RemoteDocuments.keys_in.Goals as goal

pub returns-clause-ascending : goal.returns-clause-ascending
returns-clause-ascending c =
    let test = λ (q : List (List ℕ)). is_some (entry_of c.args.self.now q) in
    let kept : c.retain.new.self.items ≡ filter test c.in_ok-keys.keys.items = filter_same _ test _ (λ x b f' called. search rules) c.in_ok-keys.keys.items c.retain.new.self.items c.retain.ensures.filtered in
    subst (AllPairs PathBefore) (sym kept) (AllPairs-filter PathBefore test c.in_ok-keys.keys.items c.in_ok-keys.ensures.ascending)

pub returns-clause-members : goal.returns-clause-members
returns-clause-members c =
    let test = λ (q : List (List ℕ)). is_some (entry_of c.args.self.now q) in
    let kept : c.retain.new.self.items ≡ filter test c.in_ok-keys.keys.items = filter_same _ test _ (λ x b f' called. search rules) c.in_ok-keys.keys.items c.retain.new.self.items c.retain.ensures.filtered in
    passing_members test c.self.inside.slots (IsIn c.args.collection.now) c.in_ok-keys.keys.items c.retain.new.self.items kept c.in_ok-keys.ensures.members
    (λ q some. subst (λ t. IsTrue (has_key t q)) (sym c.self.view_is) (has_from_entry c.args.self.now q some))
