-- a mask leaves one result, whatever the order of its paths
use Rattle.std.proofs.Common.{◌≡◌, ◌≢◌, ◌∙◌, ◌↔◌, ◌⊎◌, inl, inr, ℕ, zero, suc, ◌<◌, ◌≤◌, true, false, cond, Bool, Option, Some, None, List, [], ◌∷◌, length, get_or, option_and_then, refl, sym, ap, subst, arith}
use Rattle.std.specs.Prelude.{IsSome}
use Rattle.std.specs.Cmp.Lexicographic.{slice_cmp}
use Rattle.std.specs.List.{Contains}
use Rattle.std.specs.Ordering.{nat_cmp, is_eq}
use Rattle.value_model.specs.Changes.{members_in}
use Rattle.value_model.specs.Data.{Data, map, Entries, entries_of, members_of, map_of, depth, entries_depth}
use Rattle.value_model.specs.Fields.{AreFields, field}
use Rattle.value_model.specs.Laws.{IsMap}
use Rattle.value_model.specs.Paths.{value_at, value_in}
use Rattle.value_model.proofs.Mapped.{map_laws}
use Rattle.value_model.proofs.Parts.{entries_members, members_entries}
use Rattle.value_model.proofs.Removing.{at_first}
use Rattle.mutations.specs.Laws.{IsOrderly, AreOrderly, HasOrder, MasksHold}
use Rattle.mutations.specs.Masks.{Extends, LeadsTo, IsMasked, IsFilledBelow, Masked}
use Rattle.mutations.proofs.Taking.{name_cases}

-- ---- values that are alike at each path

-- the same stands there, or maps do
abbrev pub Alike : Option Data → Option Data → Type 0
Alike a b = (a ≡ b) ⊎ (IsMap a × IsMap b)

orderly_at : (es : Entries) (n : List ℕ) (x : Data) → AreOrderly (members_of es) → field es n ≡ Some x → IsOrderly x
orderly_at [] n x all there = let none : None ≡ Some x = there in absurd cc
orderly_at (e ∷ es) n x all there = by (is_eq (slice_cmp nat_cmp n e.0)) there (orderly_at es n x all.1)
  where
    by : (b : Bool) → cond b (Some e.1) (field es n) ≡ Some x → (field es n ≡ Some x → IsOrderly x) → IsOrderly x
    by true is rest = let same : e.1 ≡ x = cc in subst IsOrderly same all.0
    by false is rest = rest is

depth_at : (es : Entries) (n : List ℕ) (x : Data) → field es n ≡ Some x → depth x ≤ entries_depth es
depth_at [] n x there = let none : None ≡ Some x = there in absurd cc
depth_at (e ∷ es) n x there = by (is_eq (slice_cmp nat_cmp n e.0)) there (depth_at es n x)
  where
    by : (b : Bool) → cond b (Some e.1) (field es n) ≡ Some x → (field es n ≡ Some x → depth x ≤ entries_depth es) → depth x ≤ entries_depth (e ∷ es)
    by true is rest = let same : e.1 ≡ x = cc in subst (λ d. depth d ≤ entries_depth (e ∷ es)) same (omega arith)
    by false is rest = let h = rest is in omega arith

orderly_fields : (es : Entries) → IsOrderly (map_of es) → AreFields es
orderly_fields es is = subst AreFields (entries_members es) is.0

at_name : (es : Entries) (n : List ℕ) (q : List (List ℕ)) (x : Data) → field es n ≡ Some x → value_at es (n ∷ q) ≡ value_in x q
at_name es n q x is = at_first es n q ∙ ap (option_and_then (λ d. value_in d q)) is

alone : (o : Option Data) → option_and_then (λ d. value_in d []) o ≡ o
alone None = refl
alone (Some d) = refl

here : (es : Entries) (n : List ℕ) → value_at es (n ∷ []) ≡ field es n
here es n = at_first es n [] ∙ alone (field es n)

module _ (k : ℕ) (inner : (d e : Data) → depth d ≤ k → IsOrderly d → IsOrderly e → ((q : List (List ℕ)) → Alike (value_in d q) (value_in e q)) → d ≡ e) (ds es : Entries) (small : entries_depth ds ≤ k) (wholly : IsOrderly (map_of ds)) (also : IsOrderly (map_of es)) (alike : (q : List (List ℕ)) → Alike (value_at ds q) (value_at es q)) where
  maps_alike : (n : List ℕ) (xs ys : Entries) → field ds n ≡ Some (map_of xs) → field es n ≡ Some (map_of ys) → field ds n ≡ field es n
  maps_alike n xs ys this that =
      let deep = depth_at ds n (map_of xs) this in
      let same : map_of xs ≡ map_of ys = inner (map_of xs) (map_of ys) (omega arith) (orderly_at ds n (map_of xs) wholly.1 this) (orderly_at es n (map_of ys) also.1 that)
      (λ q. subst (λ o. Alike o (value_in (map_of ys) q)) (at_name ds n q (map_of xs) this) (subst (λ o. Alike (value_at ds (n ∷ q)) o) (at_name es n q (map_of ys) that) (alike (n ∷ q)))) in
      this ∙ ap Some same ∙ sym that

  field_alike : (n : List ℕ) → Alike (value_at ds (n ∷ [])) (value_at es (n ∷ [])) → field ds n ≡ field es n
  field_alike n (inl same) = sym (here ds n) ∙ same ∙ here es n
  field_alike n (inr maps) = maps_alike n maps.0.0 maps.1.0 (sym (here ds n) ∙ maps.0.1) (sym (here es n) ∙ maps.1.1)

  fields_alike : ds ≡ es
  fields_alike = map_laws.alike ds es (orderly_fields ds wholly) (orderly_fields es also) (λ n. field_alike n (alike (n ∷ [])))

some_same : (d e : Data) → Some d ≡ Some e → d ≡ e
some_same d e is = cc

same_data : (k : ℕ) (d e : Data) → depth d ≤ k → IsOrderly d → IsOrderly e → ((q : List (List ℕ)) → Alike (value_in d q) (value_in e q)) → d ≡ e
same_data zero d e small wholly also alike = by (alike [])
  where
    by : Alike (Some d) (Some e) → d ≡ e
    by (inl same) = some_same d e same
    by (inr maps) =
        let this : d ≡ map_of maps.0.0 = some_same d (map_of maps.0.0) maps.0.1 in
        let deep : depth (map_of maps.0.0) ≤ 0 = subst (λ x. depth x ≤ 0) this small in
        absurd (omega arith)
same_data (suc k) d e small wholly also alike = by (alike []) (same_data k)
  where
    by : Alike (Some d) (Some e) → ((d e : Data) → depth d ≤ k → IsOrderly d → IsOrderly e → ((q : List (List ℕ)) → Alike (value_in d q) (value_in e q)) → d ≡ e) → d ≡ e
    by (inl same) inner = some_same d e same
    by (inr maps) inner =
        let this : d ≡ map_of maps.0.0 = some_same d (map_of maps.0.0) maps.0.1 in
        let that : e ≡ map_of maps.1.0 = some_same e (map_of maps.1.0) maps.1.1 in
        let deep : depth (map_of maps.0.0) ≤ suc k = subst (λ x. depth x ≤ suc k) this small in
        this ∙ ap map_of (fields_alike k inner maps.0.0 maps.1.0 (omega arith) (subst IsOrderly this wholly) (subst IsOrderly that also)
        (λ q. subst (λ x. Alike (value_in x q) (value_at maps.1.0 q)) this (subst (λ x. Alike (value_in d q) (value_in x q)) that (alike q)))) ∙ sym that

-- ---- which clause a path falls under

extends_cases : (path front : List (List ℕ)) → Extends path front ⊎ ¬ (Extends path front)
extends_cases path [] = inl (path, refl)
extends_cases [] (m ∷ front) = inr (λ is. let no = is.1 in cc)
extends_cases (n ∷ path) (m ∷ front) = by (name_cases m n) (extends_cases path front)
  where
    by : (n ≡ m) ⊎ (n ≢ m) → Extends path front ⊎ ¬ (Extends path front) → Extends (n ∷ path) (m ∷ front) ⊎ ¬ (Extends (n ∷ path) (m ∷ front))
    by (inl same) (inl is) = inl (is.0, λ i. same i ∷ is.1 i)
    by (inl same) (inr not) = inr (λ is. let split = is.1 in not (is.0, cc))
    by (inr apart) rest = inr (λ is. let split = is.1 in apart cc)

leads_cases : (path further : List (List ℕ)) → LeadsTo path further ⊎ ¬ (LeadsTo path further)
leads_cases [] [] = inr (λ is. let no = is.2 in cc)
leads_cases [] (m ∷ further) = inl (m, further, refl)
leads_cases (n ∷ path) [] = inr (λ is. let no = is.2 in cc)
leads_cases (n ∷ path) (m ∷ further) = by (name_cases n m) (leads_cases path further)
  where
    by : (m ≡ n) ⊎ (m ≢ n) → LeadsTo path further ⊎ ¬ (LeadsTo path further) → LeadsTo (n ∷ path) (m ∷ further) ⊎ ¬ (LeadsTo (n ∷ path) (m ∷ further))
    by (inl same) (inl is) = inl (is.0, is.1, λ i. same i ∷ is.2 i)
    by (inl same) (inr not) = inr (λ is. let split = is.2 in not (is.0, is.1, cc))
    by (inr apart) rest = inr (λ is. let split = is.2 in apart cc)

-- some path of a mask has a property, or none has
module _ (P : List (List ℕ) → Type 0) (each : (path : List (List ℕ)) → P path ⊎ ¬ (P path)) where
  later : (first : List (List ℕ)) (mask : List (List (List ℕ))) (path : List (List ℕ)) → Contains mask path → Contains (first ∷ mask) path
  later first mask path there = let below = there.1 in (suc there.0, omega arith, there.2)

  not_first : (first : List (List ℕ)) (mask : List (List (List ℕ))) (path : List (List ℕ)) → Contains (first ∷ mask) path → ¬ (P first) → P path → Contains mask path
  not_first first mask path there not has = at there.0 there.1 there.2
    where
      at : (k : ℕ) → k < length (first ∷ mask) → get_or (first ∷ mask) k path ≡ path → Contains mask path
      at zero below is = absurd (not (subst P (sym is) has))
      at (suc k) below is = (k, omega arith, is)

  some_cases : (mask : List (List (List ℕ))) → ((path : List (List ℕ)) × Contains mask path × P path) ⊎ ¬ ((path : List (List ℕ)) × Contains mask path × P path)
  some_cases [] = inr (λ is. let below = is.1.1 in omega arith)
  some_cases (first ∷ mask) = by (each first) (some_cases mask)
    where
      by : P first ⊎ ¬ (P first) → ((path : List (List ℕ)) × Contains mask path × P path) ⊎ ¬ ((path : List (List ℕ)) × Contains mask path × P path) → ((path : List (List ℕ)) × Contains (first ∷ mask) path × P path) ⊎ ¬ ((path : List (List ℕ)) × Contains (first ∷ mask) path × P path)
      by (inl is) rest = inl (first, (0, omega arith, refl), is)
      by (inr not) (inl is) = inl (is.0, later first mask is.0 is.1, is.2)
      by (inr not) (inr none) = inr (λ is. none (is.0, not_first first mask is.0 is.1 not is.2, is.2))

map_cases : (o : Option Data) → IsMap o ⊎ ¬ (IsMap o)
map_cases None = inr (λ is. let no = is.1 in cc)
map_cases (Some (map ms)) = inl (entries_of ms, ap (λ l. Some (map l)) (sym (members_entries ms)))
map_cases (Some d) = inr (λ is. let no = is.1 in cc)

fills : (input : Entries) (path masked : List (List ℕ)) → (LeadsTo path masked × IsSome (value_at input masked)) ⊎ ¬ (LeadsTo path masked × IsSome (value_at input masked))
fills input path masked = by (leads_cases path masked) (value_at input masked) refl
  where
    by : LeadsTo path masked ⊎ ¬ (LeadsTo path masked) → (o : Option Data) → value_at input masked ≡ o → (LeadsTo path masked × IsSome (value_at input masked)) ⊎ ¬ (LeadsTo path masked × IsSome (value_at input masked))
    by (inl leads) (Some d) is = inl (leads, subst IsSome (sym is) refl)
    by (inl leads) None is = inr (λ both. let no : IsSome {T = Data} None = subst IsSome is both.1 in cc)
    by (inr not) o is = inr (λ both. not both.0)

-- fields in order that are alike at each path are the same
pub same_fields : (new other : Entries) → ((q : List (List ℕ)) → Alike (value_at new q) (value_at other q)) → HasOrder new → HasOrder other → new ≡ other
same_fields new other alike wholly also =
    let whole : (es : Entries) → HasOrder es → IsOrderly (map_of es) = λ es is. (subst AreFields (sym (entries_members es)) is.0, is.1) in
    let same : map_of new ≡ map_of other = same_data (depth (map_of new)) (map_of new) (map_of other) (omega arith) (whole new wholly) (whole other also) alike in
    sym (entries_members new) ∙ ap (λ d. members_in d) same ∙ entries_members other

module _ (old input new other : Entries) (mask : List (List (List ℕ))) (this : Masked old input mask new) (that : Masked old input mask other) where
  pub agree : (q : List (List ℕ)) → Alike (value_at new q) (value_at other q)
  agree q = by (some_cases (Extends q) (extends_cases q) mask) (some_cases (λ m. LeadsTo q m × IsSome (value_at input m)) (fills input q) mask) (map_cases (value_at old q))
    where
      by : IsMasked mask q ⊎ ¬ (IsMasked mask q) → ((m : List (List ℕ)) × Contains mask m × (LeadsTo q m × IsSome (value_at input m))) ⊎ ¬ ((m : List (List ℕ)) × Contains mask m × (LeadsTo q m × IsSome (value_at input m))) → IsMap (value_at old q) ⊎ ¬ (IsMap (value_at old q)) → Alike (value_at new q) (value_at other q)
      by (inl masked) filled was = inl (this.masked q masked ∙ sym (that.masked q masked))
      by (inr not) (inl filled) was =
          let is : IsFilledBelow input mask q = (filled.0, filled.1, filled.2.0, filled.2.1) in
          inr (this.made q not is, that.made q not is)
      by (inr not) (inr unfilled) (inl was) = inr (this.maps q not was, that.maps q not was)
      by (inr not) (inr unfilled) (inr was) =
          let none : ¬ (IsFilledBelow input mask q) = λ is. unfilled (is.0, is.1, (is.2, is.3)) in
          inl (this.left q not none was ∙ sym (that.left q not none was))

reordered : (old input new : Entries) (mask other : List (List (List ℕ))) → ((path : List (List ℕ)) → Contains mask path ↔ Contains other path) → Masked old input mask new → Masked old input other new
reordered old input new mask other same is =
    let back : (q : List (List ℕ)) → IsMasked other q → IsMasked mask q = λ q m. (m.0, (same m.0).1 m.1, m.2) in
    let on : (q : List (List ℕ)) → IsMasked mask q → IsMasked other q = λ q m. (m.0, (same m.0).0 m.1, m.2) in
    record {
      masked = λ q m. is.masked q (back q m);
      made = λ q not m. is.made q (λ h. not (on q h)) (m.0, (same m.0).1 m.1, m.2, m.3);
      maps = λ q not was. is.maps q (λ h. not (on q h)) was;
      left = λ q not none was. is.left q (λ h. not (on q h)) (λ m. none (m.0, (same m.0).0 m.1, m.2, m.3)) was;
      elsewhere = λ q not above. is.elsewhere q (λ h. not (on q h)) (λ m. above (m.0, (same m.0).0 m.1, m.2));
    }

pub mask_laws : MasksHold
mask_laws = record { order = reordered; one = one_result_of }
  where
    one_result_of : (old input new other : Entries) (mask : List (List (List ℕ))) → HasOrder new → HasOrder other → Masked old input mask new → Masked old input mask other → new ≡ other
    one_result_of old input new other mask wholly also this that = same_fields new other (agree old input new other mask this that) wholly also
