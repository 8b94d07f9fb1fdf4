-- Of required members that are missing the first is told.
use Rattle.std.proofs.Common.{◌≡◌, ◌⊎◌, ℕ, ◌≤◌, List, [], ◌∷◌, length, map, get_or, Bor, true, Some, inl, inr, arith, Less, Equal, refl, sym, ap, ◌∙◌}
use Rattle.std.specs.Bool.{if◌then◌else◌}
use Rattle.std.specs.Ordering.{nat_cmp, match_ordering}
use Rattle.std.specs.Cmp.Lexicographic.{slice_cmp}
use Rattle.serde_json.specs.Data.{Data as Json}
use Rattle.json_model.specs.Members.{is_null, missed}
use Rattle.json_model.specs.declared.fault.JsonFault.{JsonFault}
use Rattle.json_model.specs.declared.place.Object.{Object}
use Rattle.json_model.specs.declared.place.Object.TheVariants as object
use Rattle.json_model.specs.Faults.{missing, missing_fault}
use Rattle.json_model.specs.Ranks.{better, first_of_least}

kept : (kind : Object) (one two : List ℕ) → better (Some (missing_fault kind one)) (Some (missing_fault kind two)) ≡ Some (missing_fault kind one)
kept object.Field one two = refl
kept object.Selector one two = refl
kept _ one two = refl

pub missing_first : (kind : Object) (one : List ℕ) (others : List (List ℕ)) → first_of_least (missing kind (one ∷ others)) ≡ Some (missing_fault kind one)
missing_first kind one [] = refl
missing_first kind one (two ∷ others) = ap (λ f. better (Some (missing_fault kind one)) f) (missing_first kind two others) ∙ kept kind one two

-- a member that comes behind the first, and one that is null in its place
pub missed_before : (kind : Object) (name one : List ℕ) (d : Json) (others : List (List ℕ)) → slice_cmp nat_cmp one name ≡ Less → first_of_least (missing kind (missed name d (one ∷ others))) ≡ Some (missing_fault kind one)
missed_before kind name one d others less = ap (λ o. first_of_least (missing kind (match_ordering o (one ∷ missed name d others) (if is_null d then one ∷ [] else []) []))) less ∙ missing_first kind one (missed name d others)

pub missed_here : (kind : Object) (name one : List ℕ) (d : Json) (others : List (List ℕ)) → slice_cmp nat_cmp one name ≡ Equal → is_null d ≡ true → first_of_least (missing kind (missed name d (one ∷ others))) ≡ Some (missing_fault kind one)
missed_here kind name one d others same none = (λ i. first_of_least (missing kind (match_ordering (same i) (one ∷ missed name d others) (if none i then one ∷ [] else []) [])))

-- the first of some names that are borrowed
pub told_first : (kind : Object) (names : List (Bor (List ℕ))) (e : Bor (List ℕ)) (fault : JsonFault) → 1 ≤ length names → fault ≡ missing_fault kind (get_or names 0 e).now → Some fault ≡ first_of_least (missing kind (map (λ name. name.now) names))
told_first kind [] e fault some is = absurd (omega arith)
told_first kind (n ∷ ns) e fault some is = ap (λ f. Some f) is ∙ sym (missing_first kind n.now (map (λ name. name.now) ns))

pub told_missed : (kind : Object) (names : List (Bor (List ℕ))) (e : Bor (List ℕ)) (fault : JsonFault) (name : List ℕ) (d : Json) → 1 ≤ length names → fault ≡ missing_fault kind (get_or names 0 e).now
    → (slice_cmp nat_cmp (get_or names 0 e).now name ≡ Less) ⊎ ((slice_cmp nat_cmp (get_or names 0 e).now name ≡ Equal) × (is_null d ≡ true)) → Some fault ≡ first_of_least (missing kind (missed name d (map (λ name. name.now) names)))
told_missed kind [] e fault name d some is how = absurd (omega arith)
told_missed kind (n ∷ ns) e fault name d some is (inl less) = ap (λ f. Some f) is ∙ sym (missed_before kind name n.now d (map (λ name. name.now) ns) less)
told_missed kind (n ∷ ns) e fault name d some is (inr same) = ap (λ f. Some f) is ∙ sym (missed_here kind name n.now d (map (λ name. name.now) ns) same.0 same.1)
