-- the text of a database's name, cut into its parts
use Rattle.std.proofs.Common.{◌≡◌, ◌≢◌, ◌∙◌, ℕ, ◌<◌, List, [], ◌∷◌, ◌++◌, length, get_or, codes, refl, sym, ap, subst, arith}
use Rattle.std.proofs.lemmas.List.{append_cancel_left}
use Rattle.std.proofs.lemmas.List.Elements.{All-contains, All-from_get_or, All-head, All-same, All-tail, Contains-append_right}
use Rattle.document_keys.specs.Names.{IsPart, IsSegment, Root, root_text}
use Rattle.document_keys.specs.Faults.{HasRootFault, IsRootOfParts}
use Rattle.document_keys.specs.declared.faults.NameFault.{NameFault}
use Rattle.document_keys.specs.declared.faults.NameFault.TheVariants.{WrongRoot, BadSegment, OddLength, NoMemory}

-- a text is cut at its first `/` in one way
split_same : (a b x y : List ℕ) → IsPart a → IsPart b → a ++ 47 ∷ x ≡ b ++ 47 ∷ y → (a ≡ b) × (x ≡ y)
split_same [] [] x y one two e = (refl, cc)
split_same [] (h ∷ b) x y one two e = absurd (All-head (λ byte. byte ≢ 47) h b two cc)
split_same (h ∷ a) [] x y one two e = absurd (All-head (λ byte. byte ≢ 47) h a one cc)
split_same (h ∷ a) (g ∷ b) x y one two e =
    let tails = split_same a b x y (All-tail (λ byte. byte ≢ 47) h a one) (All-tail (λ byte. byte ≢ 47) g b two) cc in
    let heads : h ≡ g = cc in
    (λ i. heads i ∷ tails.0 i, tails.1)

root_parts : (root : Root) → root_text root ≡ codes "projects/" ++ (root.project ++ 47 ∷ (codes "databases/" ++ root.name))
unfolding root_text
root_parts root = refl

after_projects : (text rest : List ℕ) (root : Root) → text ≡ codes "projects/" ++ rest → text ≡ root_text root → rest ≡ root.project ++ 47 ∷ (codes "databases/" ++ root.name)
after_projects text rest root begins is = append_cancel_left (codes "projects/") rest _ (sym begins ∙ is ∙ root_parts root)

pub no_projects : (text : List ℕ) → ((rest : List ℕ) → text ≢ codes "projects/" ++ rest) → (root : Root) → ¬ (IsRootOfParts text root)
no_projects text none root is = none _ (is.text_is ∙ root_parts root)

pub no_project : (text rest : List ℕ) → text ≡ codes "projects/" ++ rest → ((k : ℕ) → k < length rest → get_or rest k 0 ≢ 47) → (root : Root) → ¬ (IsRootOfParts text root)
no_project text rest begins none root is =
    let free = All-from_get_or (λ byte. byte ≢ 47) rest 0 none in
    All-contains (λ byte. byte ≢ 47) _ 47 (All-same (λ byte. byte ≢ 47) _ _ (sym (after_projects text rest root begins is.text_is)) free) (Contains-append_right root.project (47 ∷ (codes "databases/" ++ root.name)) 47 (0, omega arith, refl)) refl

-- the project's part is the one that is cut off
cut_project : (text rest project others : List ℕ) (root : Root) → text ≡ codes "projects/" ++ rest → rest ≡ project ++ 47 ∷ others → ((k : ℕ) → k < length project → get_or project k 0 ≢ 47) → IsRootOfParts text root → codes "databases/" ++ root.name ≡ others
cut_project text rest project others root begins cut none is =
    (split_same root.project project (codes "databases/" ++ root.name) others is.project (All-from_get_or (λ byte. byte ≢ 47) project 0 none) (sym (after_projects text rest root begins is.text_is) ∙ cut)).1

pub no_databases : (text rest project others : List ℕ) → text ≡ codes "projects/" ++ rest → rest ≡ project ++ 47 ∷ others → ((k : ℕ) → k < length project → get_or project k 0 ≢ 47) → ((name : List ℕ) → others ≢ codes "databases/" ++ name) → (root : Root) → ¬ (IsRootOfParts text root)
no_databases text rest project others begins cut none other root is = other root.name (sym (cut_project text rest project others root begins cut none is))

pub no_name : (text rest project others name : List ℕ) → text ≡ codes "projects/" ++ rest → rest ≡ project ++ 47 ∷ others → ((k : ℕ) → k < length project → get_or project k 0 ≢ 47) → others ≡ codes "databases/" ++ name → ¬ (IsPart name) → (root : Root) → ¬ (IsRootOfParts text root)
no_name text rest project others name begins cut none is_name bad root is =
    bad (subst IsPart (append_cancel_left (codes "databases/") root.name name (cut_project text rest project others root begins cut none is ∙ is_name)) is.name)

pub root_from : (text rest project others name : List ℕ) → text ≡ codes "projects/" ++ rest → rest ≡ project ++ 47 ∷ others → ((k : ℕ) → k < length project → get_or project k 0 ≢ 47) → others ≡ codes "databases/" ++ name → IsPart name → IsRootOfParts text (record { project = project; name = name })
root_from text rest project others name begins cut none is_name part = record {
  project = All-from_get_or (λ byte. byte ≢ 47) project 0 none;
  name = part;
  text_is = begins ∙ ap (λ t. codes "projects/" ++ t) (cut ∙ ap (λ t. project ++ 47 ∷ t) is_name) ∙ sym (root_parts (record { project = project; name = name }));
}

pub fault_of_name : (text project name : List ℕ) (fault : NameFault) → IsRootOfParts text (record { project = project; name = name }) → (fault ≢ NoMemory → (fault ≡ BadSegment) × ¬ (IsSegment name)) → HasRootFault text fault
fault_of_name text project name WrongRoot is why = let bad = why (λ e. cc) in cc
fault_of_name text project name BadSegment is why = (record { project = project; name = name }, is, λ root. (why (λ e. cc)).1 root.name)
fault_of_name text project name OddLength is why = let bad = why (λ e. cc) in cc
fault_of_name text project name NoMemory is why = tt
