-- How the name of a document begins, cut into its parts.
use Rattle.std.proofs.Common.{◌≡◌, ◌≢◌, ◌∙◌, ℕ, ◌<◌, List, [], ◌∷◌, ◌++◌, length, Bor, get_or, codes, Option, Some, None, MatchOption, refl, sym, ap, arith, append_assoc}
use Rattle.std.proofs.lemmas.List.{append_cancel_left}
use Rattle.std.proofs.lemmas.List.Elements.{All-contains, All-head, All-same, All-tail, All-from_get_or, Contains-append_right}
use Rattle.document_keys.specs.Names.{IsPart, Root, root_text, documents_text}
use Rattle.json_model.specs.References.{IsUnder}

-- a text is cut at its first `/` in one way
pub split_same : (a b x y : List ℕ) → IsPart a → IsPart b → a ++ 47 ∷ x ≡ b ++ 47 ∷ y → (a ≡ b) × (x ≡ y)
split_same [] [] x y one two e = (refl, cc)
split_same [] (h ∷ b) x y one two e = absurd (All-head (λ byte. byte ≢ 47) h b two cc)
split_same (h ∷ a) [] x y one two e = absurd (All-head (λ byte. byte ≢ 47) h a one cc)
split_same (h ∷ a) (g ∷ b) x y one two e =
    let tails = split_same a b x y (All-tail (λ byte. byte ≢ 47) h a one) (All-tail (λ byte. byte ≢ 47) g b two) cc in
    let heads : h ≡ g = cc in
    (λ i. heads i ∷ tails.0 i, tails.1)

-- the beginning of a name, part by part
pub parts : (root : Root) (rest : List ℕ) → documents_text root ++ 47 ∷ rest ≡ codes "projects/" ++ (root.project ++ 47 ∷ (codes "databases/" ++ (root.name ++ 47 ∷ (codes "documents/" ++ rest))))
unfolding documents_text root_text
parts root rest = simp append_assoc

pub under_parts : (text : List ℕ) (root : Root) → IsUnder root text → (rest : List ℕ) × (text ≡ codes "projects/" ++ (root.project ++ 47 ∷ (codes "databases/" ++ (root.name ++ 47 ∷ (codes "documents/" ++ rest)))))
under_parts text root under = (under.0, under.1 ∙ parts root under.0)

-- the parts that are cut off are those of the root
pub first_cut : (text project others : List ℕ) (root : Root) → IsPart project → text ≡ codes "projects/" ++ (project ++ 47 ∷ others) → IsPart root.project → IsUnder root text
    → (project ≡ root.project) × ((rest : List ℕ) × (others ≡ codes "databases/" ++ (root.name ++ 47 ∷ (codes "documents/" ++ rest))))
first_cut text project others root part is own under =
    let p = under_parts text root under in
    let same = split_same project root.project others _ part own (append_cancel_left (codes "projects/") _ _ (sym is ∙ p.1)) in
    (same.0, (p.0, same.1))

pub second_cut : (text project others name more : List ℕ) (root : Root) → IsPart project → text ≡ codes "projects/" ++ (project ++ 47 ∷ others) → IsPart name → others ≡ codes "databases/" ++ (name ++ 47 ∷ more) → IsPart root.project → IsPart root.name → IsUnder root text
    → (project ≡ root.project) × (name ≡ root.name) × ((rest : List ℕ) × (more ≡ codes "documents/" ++ rest))
second_cut text project others name more root part is part_2 is_2 own own_2 under =
    let first = first_cut text project others root part is own under in
    let same = split_same name root.name more _ part_2 own_2 (append_cancel_left (codes "databases/") _ _ (sym is_2 ∙ first.1.1)) in
    (first.0, same.0, (first.1.0, same.1))

pub root_under : (text project others name more rest : List ℕ) → text ≡ codes "projects/" ++ (project ++ 47 ∷ others) → others ≡ codes "databases/" ++ (name ++ 47 ∷ more) → more ≡ codes "documents/" ++ rest → IsUnder (record { project = project; name = name }) text
root_under text project others name more rest is is_2 is_3 =
    (rest, is ∙ ap (λ t. codes "projects/" ++ (project ++ 47 ∷ t)) (is_2 ∙ ap (λ t. codes "databases/" ++ (name ++ 47 ∷ t)) is_3) ∙ sym (parts (record { project = project; name = name }) rest))

-- a cut at the first `/`, as the split tells it
pub cut_found : (text front rest : List ℕ) (found : Option (Bor (List ℕ) × Bor (List ℕ))) → text ≡ front ++ rest
    → MatchOption found ((k : ℕ) → k < length rest → get_or rest k 0 ≢ 47) (λ p. (rest ≡ p.0.now ++ 47 ∷ p.1.now) × ((k : ℕ) → k < length p.0.now → get_or p.0.now k 0 ≢ 47))
    → MatchOption found ((part others : List ℕ) → IsPart part → text ≢ front ++ (part ++ 47 ∷ others)) (λ p. IsPart p.0.now × (text ≡ front ++ (p.0.now ++ 47 ∷ p.1.now)))
cut_found text front rest None begins none = λ part others is_part is.
    let same = append_cancel_left front rest _ (sym begins ∙ is) in
    let free = All-from_get_or (λ byte. byte ≢ 47) rest 0 none in
    All-contains (λ byte. byte ≢ 47) _ 47 (All-same (λ byte. byte ≢ 47) _ _ (sym same) free) (Contains-append_right part (47 ∷ others) 47 (0, omega arith, refl)) refl
cut_found text front rest (Some p) begins some = (All-from_get_or (λ byte. byte ≢ 47) p.0.now 0 some.1, begins ∙ ap (λ t. front ++ t) some.0)

-- no root, where a part can't be cut off
pub none_first : (text : List ℕ) → ((part others : List ℕ) → IsPart part → text ≢ codes "projects/" ++ (part ++ 47 ∷ others)) → (root : Root) → IsPart root.project → IsPart root.name → ¬ (IsUnder root text)
none_first text none root own own_2 under = let p = under_parts text root under in none root.project _ own p.1

pub none_second : (text project others : List ℕ) → IsPart project → text ≡ codes "projects/" ++ (project ++ 47 ∷ others) → ((part more : List ℕ) → IsPart part → others ≢ codes "databases/" ++ (part ++ 47 ∷ more)) → (root : Root) → IsPart root.project → IsPart root.name → ¬ (IsUnder root text)
none_second text project others part is none root own own_2 under = let p = first_cut text project others root part is own under in none root.name _ own_2 p.1.1

pub none_third : (text project others name more : List ℕ) → IsPart project → text ≡ codes "projects/" ++ (project ++ 47 ∷ others) → IsPart name → others ≡ codes "databases/" ++ (name ++ 47 ∷ more) → ((rest : List ℕ) → more ≢ codes "documents/" ++ rest) → (root : Root) → IsPart root.project → IsPart root.name → ¬ (IsUnder root text)
none_third text project others name more part is part_2 is_2 none root own own_2 under = let p = second_cut text project others name more root part is part_2 is_2 own own_2 under in none p.2.0 p.2.1

-- two roots under which a text begins are equal in their parts
pub one_root : (text : List ℕ) (a b : Root) → IsPart a.project → IsPart a.name → IsPart b.project → IsPart b.name → IsUnder a text → IsUnder b text → (a.project ≡ b.project) × (a.name ≡ b.name)
one_root text a b a_project a_name b_project b_name under_a under_b =
    let p = under_parts text a under_a in
    let same = second_cut text a.project _ a.name _ b a_project p.1 a_name refl b_project b_name under_b in
    (same.0, same.1)
