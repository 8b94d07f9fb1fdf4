-- keys as texts: the text of segments is cut into them, keys are the same where their texts are, and what is read of a name
use Rattle.std.proofs.Common.{◌≡◌, ◌≢◌, ◌∙◌, ◌↔◌, ℕ, ◌<◌, ◌%◌, Bool, true, false, nat_eq, List, [], ◌∷◌, ◌++◌, length, codes, append_assoc, refl, sym, ap, subst, arith}
use Rattle.std.specs.Bool.{◌==◌}
use Rattle.std.specs.Cmp.Lexicographic.{pointwise, pointwise_decides, bytes_decides}
use Rattle.std.specs.List.{All}
use Rattle.std.proofs.lemmas.Bool.{ne_eqb}
use Rattle.std.proofs.lemmas.List.{length-append}
use Rattle.std.proofs.lemmas.List.Elements.{All-push, All-weaker}
use Rattle.std.proofs.lemmas.List.Splits.{join_with_byte-slice_split, length-slice_split, slice_split_none}
use Rattle.document_keys.specs.Names.{IsCollection, IsKey, IsPart, IsSegment, Root, documents_text, name_text, parts_of, relative_path, root_text, segments_in}
use Rattle.document_keys.specs.Faults.{HasKeyFault}
use Rattle.document_keys.specs.declared.faults.NameFault.{NameFault}
use Rattle.document_keys.specs.declared.faults.NameFault.TheVariants.{BadSegment, OddLength}
use Rattle.document_keys.proofs.Lawful.{path_same}
use Rattle.document_keys.proofs.Parts.{documents_front, names_its_parts, parts-cut, path_text-cut}
use Rattle.document_keys.proofs.PathTexts.{joined_path}

-- segments are the parts of their text
pub parts_joined : (segments : List (List ℕ)) → 0 < length segments → All IsSegment segments → parts_of (relative_path segments) ≡ segments
parts_joined [] some all = absurd (omega arith)
parts_joined (first ∷ others) some all =
    let text = relative_path (first ∷ others) in
    path_same (parts_of text) (first ∷ others) (parts-cut text) (All-weaker IsSegment IsPart (λ s one. one.part) (first ∷ others) all) (path_text-cut text ∙ ap (λ t. 47 ∷ t) (sym (joined_path first others)))

-- one segment more
joined_more : (segments : List (List ℕ)) (segment : List ℕ) → 0 < length segments → relative_path segments ++ 47 ∷ segment ≡ relative_path (segments ++ segment ∷ [])
joined_more [] segment some = absurd (omega arith)
joined_more (first ∷ []) segment some = refl
joined_more (first ∷ other ∷ others) segment some = append_assoc first (47 ∷ relative_path (other ∷ others)) (47 ∷ segment) ∙ ap (λ t. first ++ 47 ∷ t) (joined_more (other ∷ others) segment (omega arith))

parts_more : (segments : List (List ℕ)) (text segment : List ℕ) → text ≡ relative_path segments → 0 < length segments → All IsSegment segments → IsSegment segment → parts_of (text ++ 47 ∷ segment) ≡ segments ++ segment ∷ []
parts_more segments text segment is some all one =
    ap parts_of (ap (λ t. t ++ 47 ∷ segment) is ∙ joined_more segments segment some)
    ∙ parts_joined (segments ++ segment ∷ []) (omega (arith, length-append segments (segment ∷ []))) (All-push IsSegment segments segment all one)

-- the key of an id in a collection
pub key_inside : (collection : List (List ℕ)) (id path slashed whole : List ℕ) → IsCollection collection → IsSegment id → path ≡ relative_path collection → slashed ≡ path ++ 47 ∷ [] → whole ≡ slashed ++ id → (parts_of whole ≡ collection ++ id ∷ []) × IsKey (parts_of whole)
key_inside collection id path slashed whole of one is slash more =
    let odd = of.odd in
    let parts = ap parts_of (more ∙ ap (λ t. t ++ id) slash ∙ append_assoc path (47 ∷ []) id) ∙ parts_more collection path id is (omega arith) of.segments one in (
      parts,
      subst IsKey (sym parts) (record {
        some = omega (arith, length-append collection (id ∷ []));
        even = omega (arith, length-append collection (id ∷ []));
        segments = All-push IsSegment collection id of.segments one;
      }),
    )

-- the segments of a builder
whole_part : (segment : List ℕ) → IsSegment segment → segments_in segment ≡ segment ∷ []
whole_part [] one = let some = one.long.some in absurd (omega arith)
whole_part (byte ∷ segment) one = slice_split_none (λ b. b == 47) (byte ∷ segment) (λ k d inside. ne_eqb _ 47 (one.part k d inside))

pub built_first : (path pushed segment : List ℕ) → length path ≡ 0 → pushed ≡ path ++ segment → IsSegment segment → segments_in pushed ≡ segments_in path ++ segment ∷ []
built_first [] pushed segment none is one = ap segments_in is ∙ whole_part segment one
built_first (byte ∷ path) pushed segment none is one = absurd (omega arith)

pub built_more : (path slashed pushed segment : List ℕ) → length path ≢ 0 → slashed ≡ path ++ 47 ∷ [] → pushed ≡ slashed ++ segment → All IsSegment (segments_in path) → IsSegment segment → segments_in pushed ≡ segments_in path ++ segment ∷ []
built_more [] slashed pushed segment some slash is all one = absurd (some refl)
built_more (byte ∷ path) slashed pushed segment some slash is all one =
    ap segments_in (is ∙ ap (λ t. t ++ segment) slash ∙ append_assoc (byte ∷ path) (47 ∷ []) segment)
    ∙ parts_more (parts_of (byte ∷ path)) (byte ∷ path) segment (sym (join_with_byte-slice_split 47 (byte ∷ path))) (omega (arith, length-slice_split (λ b. b == 47) (byte ∷ path))) all one

pub built_parts : (path : List ℕ) → length path ≢ 0 → segments_in path ≡ parts_of path
built_parts [] some = absurd (some refl)
built_parts (byte ∷ path) some = refl

pub built_none : (path : List ℕ) → length path ≡ 0 → segments_in path ≡ []
built_none [] none = refl
built_none (byte ∷ path) none = absurd (omega arith)

-- a text of segments of even number is that of a key
pub key_of : (path : List ℕ) → length (parts_of path) % 2 ≡ 0 → All IsSegment (parts_of path) → IsKey (parts_of path)
key_of path even all = record { some = omega (arith, length-slice_split (λ byte. byte == 47) path); even = even; segments = all }

-- the name of a path's parts
pub name_of : (root : Root) (path : List ℕ) → documents_text root ++ 47 ∷ path ≡ name_text root (parts_of path)
name_of root path = ap (λ t. documents_text root ++ t) (sym (path_text-cut path))

pub printed : (root : Root) (path front begun name : List ℕ) → front ≡ root_text root → begun ≡ front ++ codes "/documents/" → name ≡ begun ++ path → name ≡ name_text root (parts_of path)
printed root path front begun name is more whole =
    whole ∙ ap (λ t. t ++ path) (more ∙ ap (λ f. f ++ codes "/documents/") is) ∙ append_assoc (root_text root) (codes "/documents/") path ∙ sym (documents_front root path) ∙ name_of root path

-- texts are the same where their parts are
same_texts : (p q : List ℕ) → parts_of p ≡ parts_of q → p ≡ q
same_texts p q same = sym (join_with_byte-slice_split 47 p) ∙ ap relative_path same ∙ join_with_byte-slice_split 47 q

pub same_tests : (p q : List ℕ) → pointwise nat_eq p q ≡ pointwise (pointwise nat_eq) (parts_of p) (parts_of q)
same_tests p q = by (pointwise nat_eq p q) (pointwise (pointwise nat_eq) (parts_of p) (parts_of q)) refl refl
  where
    decides : (pointwise (pointwise nat_eq) (parts_of p) (parts_of q) ≡ true) ↔ (parts_of p ≡ parts_of q)
    decides = pointwise_decides bytes_decides (parts_of p) (parts_of q)

    by : (a b : Bool) → pointwise nat_eq p q ≡ a → pointwise (pointwise nat_eq) (parts_of p) (parts_of q) ≡ b → a ≡ b
    by true true one two = refl
    by false false one two = refl
    by true false one two = sym (decides.1 (ap parts_of ((bytes_decides p q).0 one))) ∙ two
    by false true one two = sym one ∙ (bytes_decides p q).1 (same_texts p q (decides.0 two))

-- the faults of what follows the root's `documents`
pub bad_part : (root : Root) (text rest : List ℕ) (fault : NameFault) → text ≡ documents_text root ++ 47 ∷ rest → (fault ≡ BadSegment) × ¬ (All IsSegment (parts_of rest)) → HasKeyFault root text fault
bad_part root text rest fault is bad = subst (HasKeyFault root text) (sym bad.0) (parts_of rest, names_its_parts root text rest is, bad.1)

pub odd_parts : (root : Root) (text rest : List ℕ) → text ≡ documents_text root ++ 47 ∷ rest → All IsSegment (parts_of rest) → length (parts_of rest) % 2 ≡ 1 → HasKeyFault root text OddLength
odd_parts root text rest is all odd = (parts_of rest, names_its_parts root text rest is, all, odd)
