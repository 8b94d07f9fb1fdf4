-- which targets are wanted
use Rattle.std.proofs.Common.{◌≡◌, ◌↔◌, ◌⊎◌, ⊎_elim, inl, inr, ℕ, ℤ, Bool, true, false, ◌||◌, nat_eq, List, [], ◌∷◌, Option, Some, None, is_some, if◌then◌else◌, refl, sym, ap, subst, ◌∙◌, arith}
use Rattle.std.proofs.lemmas.Bool.{eqb-true, true≢false}
use Rattle.std.proofs.lemmas.Bool.Decides.{Decides-int_eq}
use Rattle.std.proofs.lemmas.List.Elements.{Contains-append_left, Contains-append_right, Contains-append_cases, Contains-push, Contains-push_cases}
use Rattle.std.proofs.lemmas.Option.{none-some}
use Rattle.std.specs.List.{Contains, list_any}
use Rattle.listeners.specs.Table.{IsWanted, Table, target_of}
use Rattle.client_turns.specs.Lines.{Line, add, document, error, listening, rejected, remove, result, send, snapshot, unlistened, wrote}
use Rattle.client_turns.specs.Past.{Past}
use Rattle.client_turns.specs.Watching.{begun, begun_in, if_id, is_any_wanted, is_target, is_wanted, listened, listened_in}

-- ---- lists

-- what stands in front is among, and so is what is among the others
pub first_among : {X : Type 0} (x : X) (xs : List X) → Contains (x ∷ xs) x
first_among x xs = Contains-append_left (x ∷ []) xs x (Contains-push [] x)

pub later_among : {X : Type 0} (x y : X) (xs : List X) → Contains xs y → Contains (x ∷ xs) y
later_among x y xs there = Contains-append_right (x ∷ []) xs y there

pub cons_cases : {X : Type 0} (x y : X) (xs : List X) → Contains (x ∷ xs) y → (x ≡ y) ⊎ Contains xs y
cons_cases x y xs there = ⊎_elim
    (λ here. ⊎_elim (λ none. absurd (omega (arith, none.1))) inl (Contains-push_cases [] x y here))
    inr
    (Contains-append_cases (x ∷ []) xs y there)

pub any_of : {X : Type 0} (p : X → Bool) (xs : List X) → list_any p xs ≡ true → (x : X) × (p x ≡ true)
any_of p [] is = absurd (true≢false (sym is))
any_of {X} p (x ∷ xs) is = go (any_of p xs) (p x) refl is
  where
    go : (list_any p xs ≡ true → (y : X) × (p y ≡ true)) → (b : Bool) → p x ≡ b → (b || list_any p xs) ≡ true → (y : X) × (p y ≡ true)
    go later true here so = (x, here)
    go later false here so = later so

pub any_at : {X : Type 0} (p : X → Bool) (xs : List X) (x : X) → Contains xs x → p x ≡ true → list_any p xs ≡ true
any_at p [] x there holds = absurd (omega (arith, there.1))
any_at p (y ∷ xs) x there holds = ⊎_elim
    (λ same. ap (λ b. b || list_any p xs) (ap p same ∙ holds))
    (λ later. ap (λ b. p y || b) (any_at p xs x later holds) ∙ or_true (p y))
    (cons_cases y x xs there)
  where
    or_true : (b : Bool) → (b || true) ≡ true
    or_true true = refl
    or_true false = refl

pub same_truth : (a b : Bool) → (a ≡ true → b ≡ true) → (b ≡ true → a ≡ true) → a ≡ b
same_truth true true forth back = refl
same_truth true false forth back = sym (forth refl)
same_truth false true forth back = back refl
same_truth false false forth back = refl

-- ---- a listener that has a target began

begun_lines : (id : ℕ) (lines : List Line) (was : Option ℤ) (ids : List ℕ) → ((t : ℤ) → was ≡ Some t → Contains ids id) → (t : ℤ) → listened_in id lines was ≡ Some t → Contains (begun_in lines ids) id
begun_lines id [] was ids has t is = has t is
begun_lines id (wrote b c ∷ lines) was ids has t is = begun_lines id lines was ids has t is
begun_lines id (listening other u n ∷ lines) was ids has t is = begun_lines id lines (if_id other id (Some u) was) (other ∷ ids) (by (nat_eq other id) refl) t is
  where
    by : (b : Bool) → nat_eq other id ≡ b → (v : ℤ) → (if b then Some u else was) ≡ Some v → Contains (other ∷ ids) id
    by true same v so = subst (Contains (other ∷ ids)) (eqb-true other id same) (first_among other ids)
    by false same v so = later_among other id ids (has v so)
begun_lines id (unlistened other n ∷ lines) was ids has t is = begun_lines id lines (if_id other id None was) ids (by (nat_eq other id)) t is
  where
    by : (b : Bool) → (v : ℤ) → (if b then None else was) ≡ Some v → Contains ids id
    by true v so = absurd (none-some v so)
    by false v so = has v so
begun_lines id (document k d h ∷ lines) was ids has t is = begun_lines id lines was ids has t is
begun_lines id (result b c u ∷ lines) was ids has t is = begun_lines id lines was ids has t is
begun_lines id (rejected b c u ∷ lines) was ids has t is = begun_lines id lines was ids has t is
begun_lines id (error other status ∷ lines) was ids has t is = begun_lines id lines (if_id other id None was) ids (by (nat_eq other id)) t is
  where
    by : (b : Bool) → (v : ℤ) → (if b then None else was) ≡ Some v → Contains ids id
    by true v so = absurd (none-some v so)
    by false v so = has v so
begun_lines id (snapshot c r u ∷ lines) was ids has t is = begun_lines id lines was ids has t is
begun_lines id (add u r ∷ lines) was ids has t is = begun_lines id lines was ids has t is
begun_lines id (remove u ∷ lines) was ids has t is = begun_lines id lines was ids has t is
begun_lines id (send r ∷ lines) was ids has t is = begun_lines id lines was ids has t is

pub listened_begun : (id : ℕ) (past : Past) (t : ℤ) → listened id past ≡ Some t → Contains (begun past) id
listened_begun id [] t is = absurd (none-some t is)
listened_begun id (entry ∷ past) t is = begun_lines id entry.turn.lines (listened id past) (begun past) (listened_begun id past) t is

-- ---- wanted targets

-- the target has a listener
abbrev pub HasListener : ℤ → Past → Type 0
HasListener t past = (id : ℕ) × (listened id past ≡ Some t)

target_is : (t : ℤ) (found : Option ℤ) → is_target t found ≡ true → found ≡ Some t
target_is t None is = absurd (true≢false (sym is))
target_is t (Some other) is = ap Some ((Decides-int_eq other t).0 is)

is_target_at : (t : ℤ) (found : Option ℤ) → found ≡ Some t → is_target t found ≡ true
is_target_at t found is = ap (is_target t) is ∙ (Decides-int_eq t t).1 refl

pub wanted_has : (t : ℤ) (past : Past) → is_wanted t past ≡ true → HasListener t past
wanted_has t past is = let it = any_of (λ id. is_target t (listened id past)) (begun past) is in (it.0, target_is t (listened it.0 past) it.1)

pub has_wanted : (t : ℤ) (past : Past) → HasListener t past → is_wanted t past ≡ true
has_wanted t past it = any_at (λ id. is_target t (listened id past)) (begun past) it.0 (listened_begun it.0 past t it.1) (is_target_at t (listened it.0 past) it.1)

-- the same targets are wanted where the same have listeners
pub wanted_same : (t : ℤ) (a b : Past) → (HasListener t a → HasListener t b) → (HasListener t b → HasListener t a) → is_wanted t a ≡ is_wanted t b
wanted_same t a b forth back = same_truth (is_wanted t a) (is_wanted t b) (λ is. has_wanted t b (forth (wanted_has t a is))) (λ is. has_wanted t a (back (wanted_has t b is)))

-- what the table says of it
module _ (table : Table) (past : Past) (same : (id : ℕ) → target_of table id ≡ listened id past) where
  pub wanted_in : (t : ℤ) → IsWanted table t ↔ (is_wanted t past ≡ true)
  wanted_in t = (λ it. has_wanted t past (it.0, sym (same it.0) ∙ it.1), λ is. let it = wanted_has t past is in (it.0, same it.0 ∙ it.1))

  pub unwanted_in : (t : ℤ) → (IsWanted table t → ⊥) → is_wanted t past ≡ false
  unwanted_in t never = by (is_wanted t past) refl
    where
      by : (b : Bool) → is_wanted t past ≡ b → b ≡ false
      by true is = absurd (never ((wanted_in t).1 is))
      by false is = refl

  -- any target is wanted where there is a listener
  pub any_in : (any : Bool) → ((any ≡ true) ↔ ((id : ℕ) × (is_some (target_of table id) ≡ true))) → any ≡ is_any_wanted past
  any_in any tells = same_truth any (is_any_wanted past)
      (λ is. let it = tells.0 is in let some = some_is (listened it.0 past) (sym (ap is_some (same it.0)) ∙ it.1) in any_at (λ id. is_some (listened id past)) (begun past) it.0 (listened_begun it.0 past some.0 some.1) (ap is_some some.1))
      (λ is. let it = any_of (λ id. is_some (listened id past)) (begun past) is in tells.1 (it.0, ap is_some (same it.0) ∙ it.1))
    where
      some_is : (found : Option ℤ) → is_some found ≡ true → (t : ℤ) × (found ≡ Some t)
      some_is None is = absurd (true≢false (sym is))
      some_is (Some t) is = (t, refl)
