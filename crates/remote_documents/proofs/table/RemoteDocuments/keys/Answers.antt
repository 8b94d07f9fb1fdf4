use Rattle.std.proofs.Common.{◌∙◌, ◌↔◌, ◌+◌, List, ℕ, IsTrue, [], take, refl, sym, subst}
use Rattle.std.specs.List.{Contains}
use Rattle.std.proofs.lemmas.List.{take_all}
use Rattle.document_keys.specs.KeySet.{Inserts}
use Rattle.key_table.specs.Table.{has_key}
use Rattle.remote_documents.proofs.Listing.{AreHeld, all_held, gathered, left_out, none_yet}
use Rattle.remote_documents.proofs.table.RemoteDocuments.keys.Goals as goal
use Rattle.remote_documents.proofs.table.RemoteDocuments.keys.Goals.{then-has_entry+in_ok-copy+in_ok-insert, else-has_entry}

pub loop-key-init : goal.loop-key-init
loop-key-init c = none_yet c.args.self.now [] c.new-keys.result c.new-keys.ensures refl

pub loop-key-preserved : goal.loop-key-preserved
loop-key-preserved c =
    let table = c.args.self.now in
    let all = c.as_slice-key-items.result.now in
    let key = c.key-item.result in
    elim c.if-has_entry.branch [
      | then-has_entry+in_ok-copy+in_ok-insert w ↦ subst (AreHeld table (take (c.loop-key.key-index + 1) all)) (sym w.keys-is)
          (gathered table all c.loop-key.keys c.loop-key.key-index key c.loop-key-test.true c.key-item.is c.loop-key.invariant w.insert.new.self
          (subst (λ k. Inserts k c.loop-key.keys w.insert.new.self) w.in_ok-copy.ensures w.in_ok-insert.ensures.done) (sym c.has_entry.ensures ∙ w.if-has_entry.true))
      | else-has_entry w ↦ subst (AreHeld table (take (c.loop-key.key-index + 1) all)) (sym w.keys-is)
          (left_out table all c.loop-key.keys c.loop-key.key-index key c.loop-key-test.true c.key-item.is c.loop-key.invariant (λ some. let has = c.has_entry.ensures ∙ some in let no_entry = w.if-has_entry.false in cc))
    ]

pub returns : goal.returns
returns c =
    let whole = take_all c.loop-key.key-index c.as_slice-key-items.result.now c.loop-key-test.false ∙ c.as_slice-key-items.ensures in
    let places = λ (q : List (List ℕ)). subst (λ t. Contains c.in_ok-places.places q ↔ IsTrue (has_key t q)) c.self.view_is (c.in_ok-places.ensures q) in
    all_held c.args.self.now c.in_ok-places.places c.loop-key.keys places (subst (λ l. AreHeld c.args.self.now l c.loop-key.keys) whole c.loop-key.invariant)
