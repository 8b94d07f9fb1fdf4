-- The documents of a snapshot: what is printed of what the store lends is printed of the rows.
use Rattle.std.proofs.Common.{◌≡◌, ◌∙◌, ℕ, suc, ◌+◌, List, [], ◌∷◌, ◌++◌, drop, codes, Option, refl, sym, ap, add-one}
use Rattle.std.proofs.Math.Seq.{drop-cons}
use Rattle.std.proofs.lemmas.Option.{slice_get_within, get_or_from_slice_get}
use Rattle.serde_json.specs.Data as json
use Rattle.document_keys.specs.Names.{Root, name_text}
use Rattle.value_model.specs.Data as kind
use Rattle.value_model.specs.Data.{Data, Items, Members, Entries, members_of}
use Rattle.value_model.specs.declared.documents.DocRef.{DocRef}
use Rattle.value_model.specs.declared.timestamp.Timestamp.{Timestamp}
use Rattle.json_model.specs.Forms.{printed_each}
use Rattle.json_model.specs.Printed.{printed_value, printed_items, printed_members, values_tree, fields_tree, with_time, document_tree as body_tree, printed_document, state_text}
use Rattle.json_model.specs.Trees.{one}
use Rattle.json_text.specs.Puts.{tokens_of, tokens_of_items}
use Rattle.views.specs.Printed.{printed_value as shown_value, printed_items as shown_items, printed_members as shown_members, printed_fields as shown_fields, printed, stored_of}
use Rattle.views.specs.Row.{Row, row}
use Rattle.views.specs.Snapshot.{Lent, LendsAt}
use Rattle.line_printer.specs.Lines.{row_tree}

-- a time that isn't known yet is printed as null is
mutual
  same_value : (d : Data) → printed_value (shown_value d) ≡ printed_value d
  same_value kind.null = refl
  same_value (kind.boolean b) = refl
  same_value (kind.integer z) = refl
  same_value (kind.time t) = refl
  same_value (kind.pending t) = refl
  same_value (kind.text s) = refl
  same_value (kind.bytes s) = refl
  same_value (kind.reference r) = refl
  same_value (kind.array ds) = ap (λ js. one (codes "arrayValue") (values_tree js)) (same_items ds)
  same_value (kind.map ms) = ap (λ js. one (codes "mapValue") (fields_tree js)) (same_members ms)

  same_items : (ds : Items) → printed_items (shown_items ds) ≡ printed_items ds
  same_items kind.no_items = refl
  same_items (kind.item d ds) = λ i. json.item (same_value d i) (same_items ds i)

  same_members : (ms : Members) → printed_members (shown_members ms) ≡ printed_members ms
  same_members kind.no_members = refl
  same_members (kind.member name d ms) = λ i. json.member name (same_value d i) (same_members ms i)

same_fields : (fields : Entries) → printed_members (members_of (shown_fields fields)) ≡ printed_members (members_of fields)
same_fields [] = refl
same_fields (field ∷ fields) = λ i. json.member field.0 (same_value field.1 i) (same_fields fields i)

same_body : (name : List ℕ) (fields : Entries) (at : Option Timestamp) (how : List ℕ) → body_tree name (shown_fields fields) at how ≡ body_tree name fields at how
same_body name [] at how = refl
same_body name (field ∷ fields) at how =
    ap (λ ms. json.object (json.member (codes "fields") (json.object ms) (json.member (codes "name") (json.string name) (json.member (codes "state") (json.string how) (with_time at))))) (same_fields (field ∷ fields))

-- a lent document's tree is that of its row
row_printed : (root : Root) (document : DocRef) → printed_document root document.key.now document.fields.now document.update_time document.state ≡ row_tree root (row document.key.now (printed (stored_of document)))
row_printed root document = sym (same_body (name_text root document.key.now) document.fields.now document.update_time (state_text document.state))

-- the tokens of the rows from an index on: of the lent document, and of those behind it
pub rows_left : (root : Root) (lent : Lent) (i : ℕ) (document : DocRef) → LendsAt lent i document
    → tokens_of_items (printed_each (row_tree root) (drop i lent.raised.rows))
    ≡ tokens_of (printed_document root document.key.now document.fields.now document.update_time document.state) ++ tokens_of_items (printed_each (row_tree root) (drop (i + 1) lent.raised.rows))
rows_left root lent i document lends =
    let r = row document.key.now (printed (stored_of document)) in
    let rows = lent.raised.rows in
    let cut = drop-cons rows i r (slice_get_within rows i r lends.shown) ∙ ap (λ (x : Row). x ∷ drop (suc i) rows) (get_or_from_slice_get rows i r r lends.shown) ∙ ap (λ n. r ∷ drop n rows) (sym (add-one i)) in
    ap (λ rs. tokens_of_items (printed_each (row_tree root) rs)) cut
    ∙ ap (λ d. tokens_of d ++ tokens_of_items (printed_each (row_tree root) (drop (i + 1) rows))) (sym (row_printed root document))
