-- what a state lends of its tables
use Rattle.std.proofs.Common.{◌≡◌, ◌∙◌, ◌↔◌, ◌⊎◌, ◌||◌, inl, inr, ℕ, ◌&&◌, T, Bool, true, false, not, cond, is_some, IsTrue, List, [], ◌∷◌, map, Option, Some, None, Ordering, Less, Equal, Greater, refl, sym, ap, subst}
use Rattle.std.specs.FinMap as finite
use Rattle.std.specs.FinMap.Entries.{below_all}
use Rattle.std.specs.List.{Contains, filter}
use Rattle.std.specs.Option.{IsSome, option_map, unwrap_or}
use Rattle.std.specs.Ordering.{is_lt, is_eq}
use Rattle.document_keys.specs.KeySet.{is_key}
use Rattle.value_model.specs.declared.document.DocState.TheVariants as stands
use Rattle.value_model.specs.declared.document.Document.{Document}
use Rattle.value_model.specs.declared.document.Entry.{Entry}
use Rattle.value_model.specs.declared.document.Seal.{Seal}
use Rattle.key_table.proofs.Listing.{passing}
use Rattle.mutation_queue.specs.Queue.{named_keys}
use Rattle.mutation_queue.proofs.Tables.{one_key}
use Rattle.overlays.specs.LocalDocument.{base_of}
use Rattle.overlays.specs.Table.{Table, overlay_of, shown}
use Rattle.remote_documents.proofs.Maps.{order, turned}
use Rattle.durable_state.specs.Documents.{document_of, documents_of, entry_of, is_among, is_named, is_uncovered, sealed_entry_of, standing_by, standing_of, stored, touched_keys_of}
use Rattle.durable_state.specs.Lending.{known_by, standing}
use Rattle.durable_state.specs.State.{State}
use Rattle.durable_state.specs.Tables.{AreLaid}
use Rattle.durable_state.proofs.Laid.{among-append, among_in, in_among, not_so}
use Rattle.durable_state.proofs.Local.{documents_local, unnamed_document}

-- a test that holds exactly where it is among them
test_is : (b : Bool) (keys : List (List (List ℕ))) (q : List (List ℕ)) → IsTrue b ↔ Contains keys q → is_among keys q ≡ b
test_is true keys q test = in_among q keys (test.0 refl)
test_is false keys q test = not_so (is_among keys q) (λ among. let never = test.1 (among_in q keys among) in cc)

pub named_is : (s : State) (q : List (List ℕ)) (b : Bool) → IsTrue b ↔ Contains (named_keys s.batches) q → is_named s q ≡ b
named_is s q b test = test_is b (named_keys s.batches) q test

-- ---- how a key stands

pub pending_stands : (s : State) (q : List (List ℕ)) → is_named s q ≡ true → stands.Pending ≡ standing_of s q
pending_stands s q named = sym (ap (λ b. cond b stands.Pending (standing_by (sealed_entry_of s q))) named)

pub plain_stands : (s : State) (q : List (List ℕ)) → is_named s q ≡ false → standing_by (sealed_entry_of s q) ≡ standing_of s q
plain_stands s q named = sym (ap (λ b. cond b stands.Pending (standing_by (sealed_entry_of s q))) named)

-- ---- the local document

some_is : {X : Type 0} (x y : X) → Some x ≡ Some y → x ≡ y
some_is x y same = cc

-- what an overlay has is lent as pending
pub laid_lends : (s : State) (table : Table) (q : List (List ℕ)) (found : Option Document) → AreLaid s table → overlay_of table q ≡ Some found
    → option_map (standing stands.Pending) found ≡ finite.get (documents_of s) q
laid_lends s table q found laid is = by (is_named s q) refl
  where
    by : (b : Bool) → is_named s q ≡ b → option_map (standing stands.Pending) found ≡ finite.get (documents_of s) q
    by true e =
        let same = some_is found (document_of s q) (sym is ∙ laid q ∙ ap (λ c. cond c (Some (document_of s q)) None) e) in
        ap (option_map (standing stands.Pending)) same ∙ ap (λ st. option_map (standing st) (document_of s q)) (pending_stands s q e) ∙ sym (documents_local s q)
    by false e = absurd (let never = sym is ∙ laid q ∙ ap (λ c. cond c (Some (document_of s q)) None) e in cc)

-- a key without an overlay is lent as its entry has it
pub bare_lends : (s : State) (table : Table) (q : List (List ℕ)) → AreLaid s table → overlay_of table q ≡ None
    → known_by (sealed_entry_of s q) ≡ finite.get (documents_of s) q
bare_lends s table q laid is = by (is_named s q) refl
  where
    by : (b : Bool) → is_named s q ≡ b → known_by (sealed_entry_of s q) ≡ finite.get (documents_of s) q
    by true e = absurd (let never = sym is ∙ laid q ∙ ap (λ c. cond c (Some (document_of s q)) None) e in cc)
    by false e =
        ap (λ st. option_map (standing st) (base_of (entry_of s q))) (plain_stands s q e) ∙ ap (option_map (stored s q)) (sym (unnamed_document s q e)) ∙ sym (documents_local s q)

-- there is a document exactly where an overlay has one, or no pending write names the key and its entry has one
pub has_document : (s : State) (table : Table) (q : List (List ℕ)) → AreLaid s table
    → IsSome (finite.get (documents_of s) q) ↔ (IsSome (shown table q None) ⊎ ((is_named s q ≡ false) × IsSome (base_of (entry_of s q))))
has_document s table q laid = by (is_named s q) refl
  where
    some_of : (d : Option Document) → IsSome (option_map (stored s q) d) ↔ IsSome d
    some_of None = (λ some. some, λ some. some)
    some_of (Some d) = (λ some. refl, λ some. refl)

    lent : (d : Option Document) → document_of s q ≡ d → IsSome (finite.get (documents_of s) q) ↔ IsSome d
    lent d is = (λ some. (some_of d).0 (subst IsSome (documents_local s q ∙ ap (option_map (stored s q)) is) some), λ some. subst IsSome (sym (documents_local s q ∙ ap (option_map (stored s q)) is)) ((some_of d).1 some))

    bare : (b : Bool) → is_named s q ≡ b → shown table q None ≡ cond b (document_of s q) None
    bare b e = ap (λ o. unwrap_or o None) (laid q ∙ ap (λ c. cond c (Some (document_of s q)) None) e) ∙ at b
      where
        at : (c : Bool) → unwrap_or (cond c (Some (document_of s q)) None) None ≡ cond c (document_of s q) None
        at true = refl
        at false = refl

    by : (b : Bool) → is_named s q ≡ b → IsSome (finite.get (documents_of s) q) ↔ (IsSome (shown table q None) ⊎ ((is_named s q ≡ false) × IsSome (base_of (entry_of s q))))
    by true e = (
      λ some. inl (subst IsSome (sym (bare true e)) ((lent (document_of s q) refl).0 some)),
      λ has. elim has [
        | inl some ↦ (lent (document_of s q) refl).1 (subst IsSome (bare true e) some)
        | inr plain ↦ absurd (let never = sym e ∙ plain.0 in cc)
      ],
    )
    by false e = (
      λ some. inr (e, (lent (base_of (entry_of s q)) (unnamed_document s q e)).0 some),
      λ has. elim has [
        | inl some ↦ absurd (let never = subst IsSome (bare false e) some in cc)
        | inr plain ↦ (lent (base_of (entry_of s q)) (unnamed_document s q e)).1 plain.1
      ],
    )

-- ---- the keys that no pending write names

-- no pending write names the key, and its entry is that of a document
abbrev pub is_plain : State → List (List ℕ) → Bool
is_plain s q = not (is_named s q) && is_some (base_of (entry_of s q))

pub plain_is : (s : State) (q : List (List ℕ)) (found : Bool) → is_named s q ≡ false → found ≡ is_some (base_of (entry_of s q)) → found ≡ is_plain s q
plain_is s q found named is = is ∙ sym (ap (λ b. not b && is_some (base_of (entry_of s q))) named)

pub not_plain : (s : State) (q : List (List ℕ)) → is_named s q ≡ true → false ≡ is_plain s q
not_plain s q named = sym (ap (λ b. not b && is_some (base_of (entry_of s q))) named)

plain_so : (s : State) (q : List (List ℕ)) → is_plain s q ≡ true → (is_named s q ≡ false) × IsSome (base_of (entry_of s q))
plain_so s q so = by (is_named s q) refl (base_of (entry_of s q)) refl so
  where
    by : (b : Bool) → is_named s q ≡ b → (d : Option Document) → base_of (entry_of s q) ≡ d → (not b && is_some d) ≡ true → (is_named s q ≡ false) × IsSome (base_of (entry_of s q))
    by true e d is never = cc
    by false e None is never = cc
    by false e (Some d) is so = (e, subst IsSome (sym is) refl)

so_plain : (s : State) (q : List (List ℕ)) → is_named s q ≡ false → IsSome (base_of (entry_of s q)) → is_plain s q ≡ true
so_plain s q named some = ap (λ b. not b && is_some (base_of (entry_of s q))) named ∙ some

has_entry : (found : Option (Entry × Seal)) → IsSome (base_of (option_map (λ p. p.0) found)) → IsSome found
has_entry None some = some
has_entry (Some p) some = refl

-- of the keys that have an entry, those that are plain
pub plain_members : (s : State) (InIt : List (List ℕ) → Type 0) (old new : List (List (List ℕ))) → new ≡ filter (is_plain s) old
    → ((k : List (List ℕ)) → Contains old k ↔ (InIt k × IsSome (sealed_entry_of s k)))
    → (k : List (List ℕ)) → Contains new k ↔ (InIt k × (is_named s k ≡ false) × IsSome (base_of (entry_of s k)))
plain_members s InIt old new kept members k = (
  λ has.
      let both = (passing (is_plain s) old k).0 (subst (λ l. Contains l k) kept has) in
      let plain = plain_so s k both.1 in
      (((members k).0 both.0).0, plain.0, plain.1),
  λ all. subst (λ l. Contains l k) (sym kept) ((passing (is_plain s) old k).1 ((members k).1 (all.0, has_entry (sealed_entry_of s k) all.2), so_plain s k all.1 all.2)),
)

-- ---- the keys that unfinished writes touch

both : (a b : Bool) → T (a && b) → (a ≡ true) × T b
both true b so = (refl, so)
both false b so = absurd so

less : (o : Ordering) → is_lt o ≡ true → o ≡ Less
less Less e = refl
less Equal e = cc
less Greater e = cc

-- a key before all others isn't found among them
absent : (k q : List (List ℕ)) (es : List (List (List ℕ) × (Entry × Seal))) → is_key k q ≡ true → T (below_all order k es) → finite.find order q es ≡ None
absent k q [] same below = refl
absent k q (e ∷ es) same below =
    let split = both (is_lt (order k e.0)) (below_all order k es) below in
    let before : order q e.0 ≡ Less = subst (λ x. order x e.0 ≡ Less) (one_key k q same) (less (order k e.0) split.0) in
    ap (λ o. cond (is_eq o) (Some e.1) (finite.find order q es)) before ∙ absent k q es same split.1

-- whether a key's entry passes a test
abbrev passes : (Entry × Seal → Bool) → Option (Entry × Seal) → Bool
passes test found = unwrap_or (option_map test found) false

among_where : (test : Entry × Seal → Bool) (q : List (List ℕ)) (es : List (List (List ℕ) × (Entry × Seal))) → T (finite.is_sorted order es)
    → is_among (map (λ e. e.0) (filter (λ e. test e.1) es)) q ≡ passes test (finite.find order q es)
among_where test q [] sorted = refl
among_where test q ((k, sealed) ∷ es) sorted =
    let split = both (below_all order k es) (finite.is_sorted order es) sorted in
    by (test sealed) (is_key k q) refl refl split.0 (among_where test q es split.1)
  where
    found : (b : Bool) → is_key k q ≡ b → finite.find order q ((k, sealed) ∷ es) ≡ cond b (Some sealed) (finite.find order q es)
    found b same = ap (λ c. cond c (Some sealed) (finite.find order q es)) (turned k q ∙ same)

    by : (a b : Bool) → test sealed ≡ a → is_key k q ≡ b → below_all order k es ≡ true → is_among (map (λ e. e.0) (filter (λ e. test e.1) es)) q ≡ passes test (finite.find order q es)
        → is_among (map (λ e. e.0) (cond a ((k, sealed) ∷ filter (λ e. test e.1) es) (filter (λ e. test e.1) es))) q ≡ passes test (finite.find order q ((k, sealed) ∷ es))
    by true true test_is same below below_is = ap (λ c. c || is_among (map (λ e. e.0) (filter (λ e. test e.1) es)) q) same ∙ sym (ap (passes test) (found true same) ∙ test_is)
    by true false test_is other below below_is = ap (λ c. c || is_among (map (λ e. e.0) (filter (λ e. test e.1) es)) q) other ∙ below_is ∙ sym (ap (passes test) (found false other))
    by false true test_is same below below_is =
        below_is ∙ ap (passes test) (absent k q es same (subst T (sym below) tt)) ∙ sym (ap (passes test) (found true same) ∙ test_is)
    by false false test_is other below below_is = below_is ∙ sym (ap (passes test) (found false other))

-- a key is touched exactly where a pending write names it, or its entry isn't covered yet
pub touches : (s : State) (q : List (List ℕ)) → is_among (touched_keys_of s) q ≡ (is_named s q || unwrap_or (option_map (λ p. is_uncovered s.last_read p.1) (sealed_entry_of s q)) false)
touches s q =
    among-append (named_keys s.batches) (map (λ e. e.0) (filter (λ e. is_uncovered s.last_read e.1.1) (finite.entries s.entries))) q
    ∙ ap (λ b. is_named s q || b) (among_where (λ p. is_uncovered s.last_read p.1) q (finite.entries s.entries) (finite.entries_sorted s.entries)
    ∙ sym (ap (passes (λ p. is_uncovered s.last_read p.1)) (finite.get-entries s.entries q)))

pub touched_is : (s : State) (q : List (List ℕ)) (b : Bool) → is_among (touched_keys_of s) q ≡ b → IsTrue b ↔ Contains (touched_keys_of s) q
touched_is s q b is = (λ so. among_in q (touched_keys_of s) (is ∙ so), λ has. sym is ∙ in_among q (touched_keys_of s) has)
