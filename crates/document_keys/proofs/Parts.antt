-- texts without `/`, and texts that are cut at each `/`
use Rattle.std.proofs.Common.{◌+◌, ◌≤◌, ◌%◌, ◌⊎◌, IfOk, IfErr, Result, take, append-nil, ◌≡◌, ◌≢◌, ◌∙◌, ℕ, ◌<◌, ◌↔◌, Bool, true, false, not, IsTrue, MatchOption, Option, Some, None, Bor, List, [], ◌∷◌, ◌++◌, length, get_or, codes, refl, sym, ap, subst, append_assoc, inl, inr, arith}
use Rattle.std.specs.Bool.{◌==◌}
use Rattle.std.specs.List.{All, slice_split, onto_first}
use Rattle.std.proofs.lemmas.Bool.Decides.{eqb_tells}
use Rattle.std.proofs.lemmas.List.{get_or_default, append_cancel_left, take_more, take_all}
use Rattle.std.proofs.lemmas.List.Elements.{All-contains, All-more, All-cons, All-head, All-nil, All-push, All-tail, All-same, Contains-append_right}
use Rattle.std.proofs.lemmas.List.Splits.{length-slice_split, slice_split-cons_no, slice_split-cons_yes, slice_split_at, slice_split_none}
use Rattle.document_keys.specs.Names.{IsPart, IsSegment, IsKey, Root, root_text, documents_text, path_text, name_text}
use Rattle.document_keys.specs.Faults.{IsNameOfParts, HasKeyFault}
use Rattle.document_keys.specs.declared.faults.NameFault.{NameFault}
use Rattle.document_keys.specs.declared.faults.NameFault.TheVariants.{WrongRoot, BadSegment, OddLength, NoMemory}
use Rattle.std.specs.Option.{ok_or}

-- a search for `/` that found none
pub is_part-from_search : (text : List ℕ) (found : Bool) → (found ≡ true → (k : ℕ) × (k < length text) × (get_or text k 0 ≡ 47)) → ((k : ℕ) → k < length text → get_or text k 0 ≡ 47 → found ≡ true) → IsTrue (not found) ↔ IsPart text
is_part-from_search text true here every = (λ no. cc, λ part. let w = here refl in absurd (part w.0 0 w.1 w.2))
is_part-from_search text false here every = (λ yes k d below is. cc (every k below (get_or_default text k 0 d below ∙ is)), λ part. refl)

-- what begins a name of a document, as the code looks for it: the root, and then `/documents/`
pub documents_front : (root : Root) (rest : List ℕ) → documents_text root ++ 47 ∷ rest ≡ root_text root ++ (codes "/documents/" ++ rest)
unfolding documents_text
documents_front root rest = append_assoc (root_text root) (codes "/documents") (47 ∷ rest)

pub no_root : (root : Root) (front text : List ℕ) → front ≡ root_text root → ((rest : List ℕ) → text ≢ front ++ rest) → (rest : List ℕ) → text ≢ documents_text root ++ 47 ∷ rest
no_root root front text same none rest is = none (codes "/documents/" ++ rest) (is ∙ documents_front root rest ∙ ap (λ f. f ++ (codes "/documents/" ++ rest)) (sym same))

pub after_root : (root : Root) (front text path : List ℕ) (found : Option (Bor (List ℕ))) → front ≡ root_text root → text ≡ front ++ path → MatchOption found ((rest : List ℕ) → path ≢ codes "/documents/" ++ rest) (λ rest. path ≡ codes "/documents/" ++ rest.now) → MatchOption found ((rest : List ℕ) → text ≢ documents_text root ++ 47 ∷ rest) (λ rest. text ≡ documents_text root ++ 47 ∷ rest.now)
after_root root front text path None same is none = λ rest e. none rest (append_cancel_left front _ _ (sym is ∙ e ∙ documents_front root rest ∙ ap (λ f. f ++ (codes "/documents/" ++ rest)) (sym same)))
after_root root front text path (Some rest) same is found = is ∙ (λ i. same i ++ found i) ∙ sym (documents_front root rest.now)

-- a text without `/`, in the words of a cut
passes_none : (part : List ℕ) → ((k : ℕ) → k < length part → get_or part k 0 ≢ 47) → All (λ byte. (byte == 47) ≡ false) part
passes_none part free k d below = elim (eqb_tells (get_or part k d) 47) [ inl slash ↦ absurd (free k below (get_or_default part k 0 d below ∙ slash.1)) | inr other ↦ other.0 ]

-- a part that is cut off, and the last one
pub cut_part : (path rest part others : List ℕ) (done : List (List ℕ)) → slice_split (λ byte. byte == 47) path ≡ done ++ slice_split (λ byte. byte == 47) rest → rest ≡ part ++ (47 ∷ others) → ((k : ℕ) → k < length part → get_or part k 0 ≢ 47) → slice_split (λ byte. byte == 47) path ≡ done ++ part ∷ slice_split (λ byte. byte == 47) others
cut_part path rest part others done so_far is free = so_far ∙ ap (λ r. done ++ slice_split (λ byte. byte == 47) r) is ∙ ap (λ ps. done ++ ps) (slice_split_at (λ byte. byte == 47) part 47 others (passes_none part free) refl)

pub cut_last : (path rest : List ℕ) (done : List (List ℕ)) → slice_split (λ byte. byte == 47) path ≡ done ++ slice_split (λ byte. byte == 47) rest → ((k : ℕ) → k < length rest → get_or rest k 0 ≢ 47) → slice_split (λ byte. byte == 47) path ≡ done ++ rest ∷ []
cut_last path rest done so_far free = so_far ∙ ap (λ ps. done ++ ps) (slice_split_none (λ byte. byte == 47) rest (passes_none rest free))

-- one part that isn't a segment
pub not_all : (parts done more : List (List ℕ)) (part : List ℕ) → parts ≡ done ++ part ∷ more → ¬ (IsSegment part) → ¬ (All IsSegment parts)
not_all parts done more part is bad all = bad (All-contains IsSegment (done ++ part ∷ more) part (All-same IsSegment _ _ (sym is) all) (Contains-append_right done (part ∷ more) part (0, omega arith, refl)))

-- one segment more
pub All_segments-push : (done : List (List ℕ)) (segment text : List ℕ) → segment ≡ text → All IsSegment done → IsSegment text → All IsSegment (done ++ segment ∷ [])
All_segments-push done segment text is all one = All-push IsSegment done segment all (subst IsSegment (sym is) one)

-- the parts of a text, cut at each `/`, give the text
path_text-onto_first : (x : ℕ) (xs : List ℕ) (parts : List (List ℕ)) → path_text parts ≡ 47 ∷ xs → path_text (onto_first x parts) ≡ 47 ∷ x ∷ xs
path_text-onto_first x xs [] is = cc
path_text-onto_first x xs (part ∷ parts) is = ap (λ t. 47 ∷ x ∷ t) (let e : part ++ path_text parts ≡ xs = cc in e)

pub path_text-cut : (text : List ℕ) → path_text (slice_split (λ byte. byte == 47) text) ≡ 47 ∷ text
path_text-cut [] = refl
path_text-cut (x ∷ xs) =
    elim (eqb_tells x 47) [
      | inl slash ↦ ap path_text (slice_split-cons_yes (λ byte. byte == 47) x xs slash.0) ∙ (λ i. 47 ∷ path_text-cut xs i) ∙ (λ i. 47 ∷ sym slash.1 i ∷ xs)
      | inr other ↦ ap path_text (slice_split-cons_no (λ byte. byte == 47) x xs other.0) ∙ path_text-onto_first x xs _ (path_text-cut xs)
    ]

parts-onto_first : (x : ℕ) (parts : List (List ℕ)) → x ≢ 47 → All IsPart parts → All IsPart (onto_first x parts)
parts-onto_first x [] other all = All-cons IsPart (x ∷ []) [] (All-cons (λ byte. byte ≢ 47) x [] other (All-nil _)) all
parts-onto_first x (part ∷ parts) other all = All-cons IsPart (x ∷ part) parts (All-cons (λ byte. byte ≢ 47) x part other (All-head IsPart part parts all)) (All-tail IsPart part parts all)

pub parts-cut : (text : List ℕ) → All IsPart (slice_split (λ byte. byte == 47) text)
parts-cut [] = All-cons IsPart [] [] (All-nil _) (All-nil _)
parts-cut (x ∷ xs) =
    elim (eqb_tells x 47) [
      | inl slash ↦ All-same IsPart _ _ (slice_split-cons_yes (λ byte. byte == 47) x xs slash.0) (All-cons IsPart [] _ (All-nil _) (parts-cut xs))
      | inr other ↦ All-same IsPart _ _ (slice_split-cons_no (λ byte. byte == 47) x xs other.0) (parts-onto_first x _ other.1 (parts-cut xs))
    ]

-- so a text that begins with `{root}/documents/` names its parts
pub names_its_parts : (root : Root) (text rest : List ℕ) → text ≡ documents_text root ++ 47 ∷ rest → IsNameOfParts root text (slice_split (λ byte. byte == 47) rest)
names_its_parts root text rest is = record {
  some = omega (arith, length-slice_split (λ byte. byte == 47) rest);
  cut = parts-cut rest;
  text_is = is ∙ ap (λ t. documents_text root ++ t) (sym (path_text-cut rest));
}

-- a walk over segments
pub segments_more : (segments : List (List ℕ)) (i : ℕ) (x : List ℕ) → i < length segments → x ≡ get_or segments i x → All IsSegment (take i segments) → IsSegment x → All IsSegment (take (i + 1) segments)
segments_more segments i x below item so_far one = All-more IsSegment segments i x below so_far (subst IsSegment item one)

pub segments_whole : (segments : List (List ℕ)) (i : ℕ) → length segments ≤ i → All IsSegment (take i segments) → All IsSegment segments
segments_whole segments i done all = All-same IsSegment segments (take i segments) (sym (take_all i segments done)) all

-- writing a name, segment by segment
pub name_begins : (root : Root) (segments : List (List ℕ)) (front name : List ℕ) → front ≡ root_text root → name ≡ front ++ codes "/documents" → name ≡ name_text root (take 0 segments)
unfolding documents_text
name_begins root [] front name is added = added ∙ ap (λ f. f ++ codes "/documents") is ∙ sym (append-nil _)
name_begins root (x ∷ xs) front name is added = added ∙ ap (λ f. f ++ codes "/documents") is ∙ sym (append-nil _)

pub path_text-push : (path : List (List ℕ)) (x : List ℕ) → path_text (path ++ x ∷ []) ≡ path_text path ++ 47 ∷ x
path_text-push [] x = ap (λ t. 47 ∷ t) (append-nil x)
path_text-push (p ∷ path) x = ap (λ t. 47 ∷ (p ++ t)) (path_text-push path x) ∙ ap (λ t. 47 ∷ t) (sym (append_assoc p (path_text path) (47 ∷ x)))

pub name_more : (root : Root) (segments : List (List ℕ)) (i : ℕ) (x name slashed longer : List ℕ) → i < length segments → x ≡ get_or segments i x → name ≡ name_text root (take i segments) → slashed ≡ name ++ 47 ∷ [] → longer ≡ slashed ++ x → longer ≡ name_text root (take (i + 1) segments)
name_more root segments i x name slashed longer below item so_far slash more =
    more ∙ ap (λ t. t ++ x) slash ∙ append_assoc name (47 ∷ []) x ∙ ap (λ t. t ++ 47 ∷ x) so_far
    ∙ append_assoc (documents_text root) (path_text (take i segments)) (47 ∷ x)
    ∙ ap (λ t. documents_text root ++ t) (sym (path_text-push (take i segments) x) ∙ ap path_text (ap (λ y. take i segments ++ y ∷ []) item ∙ sym (take_more segments i x below)))

-- the faults of the parts, and of their number
pub fault_of_parts : (root : Root) (text rest : List ℕ) (fault : NameFault) → text ≡ documents_text root ++ 47 ∷ rest → (fault ≢ NoMemory → (fault ≡ BadSegment) × ¬ (All IsSegment (slice_split (λ byte. byte == 47) rest))) → HasKeyFault root text fault
fault_of_parts root text rest WrongRoot is why = let bad = why (λ e. cc) in cc
fault_of_parts root text rest BadSegment is why = (slice_split (λ byte. byte == 47) rest, names_its_parts root text rest is, (why (λ e. cc)).1)
fault_of_parts root text rest OddLength is why = let bad = why (λ e. cc) in cc
fault_of_parts root text rest NoMemory is why = tt

pub read_end : (root : Root) (text rest : List ℕ) (segments : List (List ℕ)) (found : Option (List (List ℕ))) (answer : Result (List (List ℕ)) NameFault) → answer ≡ ok_or found OddLength → segments ≡ slice_split (λ byte. byte == 47) rest → All IsSegment segments → text ≡ documents_text root ++ 47 ∷ rest → MatchOption found ((length segments ≡ 0) ⊎ (length segments % 2 ≡ 1)) (λ key. (key ≡ segments) × IsKey segments) → IfOk answer (λ key. IsKey key × (text ≡ name_text root key)) × IfErr answer (λ fault. HasKeyFault root text fault)
read_end root text rest segments None answer is parts all begins odd =
    let named = names_its_parts root text rest begins in
    let number : length segments ≡ length (slice_split (λ byte. byte == 47) rest) = ap length parts in
    rw is (tt, (segments, subst (IsNameOfParts root text) (sym parts) named, all, elim odd [ inl none ↦ absurd (omega (arith, named.some, number, none)) | inr one ↦ one ]))
read_end root text rest segments (Some key) answer is parts all begins same =
    rw is ((subst IsKey (sym same.0) same.1, begins ∙ ap (λ t. documents_text root ++ t) (sym (path_text-cut rest) ∙ ap path_text (sym parts ∙ sym same.0))), tt)
