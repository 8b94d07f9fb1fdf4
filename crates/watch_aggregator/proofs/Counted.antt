-- whether any of some ids counts
use Rattle.std.proofs.Common.{◌≡◌, ◌∙◌, inl, inr, ℕ, ℤ, Bool, true, false, ◌&&◌, ◌||◌, Ok, Err, List, [], ◌∷◌, get_or, refl, sym, ap, subst, arith}
use Rattle.std.specs.List.{Contains, list_any}
use Rattle.std.specs.Ordering.{int_eq}
use Rattle.std.proofs.lemmas.Bool.{cases_eq, false≢true, and_parts, and_from, or_cases, or_left, or_right}
use Rattle.std.proofs.lemmas.Bool.Decides.{Decides-int_eq}
use Rattle.std.proofs.lemmas.List.{get_or_default}
use Rattle.std.proofs.lemmas.List.Elements.{All-contains}
use Rattle.watch_aggregator.specs.declared.watched.Watched.{Watched}
use Rattle.listen_protocol.specs.Calls.{Calls}
use Rattle.listen_protocol.specs.Transcript.{counts}
use Rattle.watch_aggregator.specs.Buffer.{counts_in}
use Rattle.listen_protocol.specs.Buffer.{any_counts}
use Rattle.watch_aggregator.specs.Steps.{AreAscending, IsPlace}
use Rattle.watch_aggregator.specs.Standing.{IsWatched, AreWatched}
use Rattle.listen_protocol.proofs.Ids.{counts_live}
use Rattle.watch_aggregator.proofs.Ended.{contains_cases, contains_here, contains_there, found_id}
use Rattle.watch_aggregator.proofs.Targets.{not_there, places_apart}

module _ {A : Type 0} (p : A → Bool) where
  pub one_of : (xs : List A) → list_any p xs ≡ true → (x : A) × Contains xs x × (p x ≡ true)
  one_of [] e = cc
  one_of (x ∷ xs) e = elim (or_cases (p x) (list_any p xs) e) [
    | inl here ↦ (x, contains_here x xs, here)
    | inr there ↦ (let found = one_of xs there in (found.0, contains_there x xs found.0 found.1, found.2))
  ]

  pub any_from : (xs : List A) (x : A) → Contains xs x → p x ≡ true → list_any p xs ≡ true
  any_from [] x has passes = absurd (let inside = has.1 in omega arith)
  any_from (y ∷ xs) x has passes = elim (contains_cases y xs x has) [
    | inl same ↦ or_left (p y) (list_any p xs) (ap p same ∙ passes)
    | inr there ↦ or_right (p y) (list_any p xs) (any_from xs x there passes)
  ]

same_bool : (a b : Bool) → (a ≡ true → b ≡ true) → (b ≡ true → a ≡ true) → a ≡ b
same_bool true b to from = sym (to refl)
same_bool false true to from = from refl
same_bool false false to from = refl

pub counted_is : (tokens : List (List ℕ)) (ws : List Watched) (h : Calls) (t : ℤ) → AreWatched tokens ws h → counts_in ws t ≡ counts t h
counted_is tokens ws h t are = same_bool (counts_in ws t) (counts t h) there back
  where
    there : counts_in ws t ≡ true → counts t h ≡ true
    there e =
        let found = one_of (λ (w : Watched). w.counts && int_eq w.id t) ws e in
        let w = found.0 in
        let is : IsWatched tokens w.id h w = All-contains (λ w. IsWatched tokens w.id h w) ws w are.each found.1 in
        let p = and_parts w.counts (int_eq w.id t) found.2 in
        subst (λ x. counts x h ≡ true) ((Decides-int_eq w.id t).0 p.1) (sym is.counting ∙ p.0)

    back : counts t h ≡ true → counts_in ws t ≡ true
    back counted =
        let live = counts_live t h counted in
        elim (found_id ws t) [
          | inl (w, has, same) ↦
              let is : IsWatched tokens t h w = subst (λ x. IsWatched tokens x h w) same (All-contains (λ w. IsWatched tokens w.id h w) ws w are.each has) in
              any_from (λ (v : Watched). v.counts && int_eq v.id t) ws w has (and_from w.counts (int_eq w.id t) (is.counting ∙ counted) ((Decides-int_eq w.id t).1 same))
          | inr none ↦ absurd (let zero_open = are.others t none in let one_open = live.1 in omega arith)
        ]

pub any_counted : (tokens : List (List ℕ)) (ws : List Watched) (h : Calls) (ids : List ℤ) → AreWatched tokens ws h → list_any (counts_in ws) ids ≡ any_counts ids h
any_counted tokens ws h [] are = refl
any_counted tokens ws h (id ∷ ids) are = λ i. counted_is tokens ws h id are i || any_counted tokens ws h ids are i

-- at its place the id is seen to count, or not to
pub counted_at : (ws : List Watched) (id : ℤ) (i : ℕ) (w : Watched) → AreAscending ws → IsPlace ws id (Ok i) → w ≡ get_or ws i w → w.counts ≡ counts_in ws id
counted_at ws id i w ascending place at = same_bool w.counts (counts_in ws id) there back
  where
    there : w.counts ≡ true → counts_in ws id ≡ true
    there e = any_from (λ (v : Watched). v.counts && int_eq v.id id) ws w (i, place.0, sym at) (and_from w.counts (int_eq w.id id) e ((Decides-int_eq w.id id).1 (ap (λ (v : Watched). v.id) at ∙ place.1 w)))

    back : counts_in ws id ≡ true → w.counts ≡ true
    back e =
        let found = one_of (λ (v : Watched). v.counts && int_eq v.id id) ws e in
        let v = found.0 in
        let k = found.1.0 in
        let p = and_parts v.counts (int_eq v.id id) found.2 in
        elim (cases_eq k i) [
          | inl here ↦ ap (λ (u : Watched). u.counts) (at ∙ get_or_default ws i w v place.0 ∙ ap (λ n. get_or ws n v) (sym here) ∙ found.1.2) ∙ p.0
          | inr apart ↦ absurd (places_apart ws i k v id ascending place.0 found.1.1 apart (place.1 v) (ap (λ (u : Watched). u.id) found.1.2 ∙ (Decides-int_eq v.id id).0 p.1))
        ]

pub counted_nowhere : (ws : List Watched) (id : ℤ) (i : ℕ) → AreAscending ws → IsPlace ws id (Err i) → false ≡ counts_in ws id
counted_nowhere ws id i ascending place = same_bool false (counts_in ws id) (λ never. absurd (false≢true never)) (λ e.
    let found = one_of (λ (v : Watched). v.counts && int_eq v.id id) ws e in
    let p = and_parts found.0.counts (int_eq found.0.id id) found.2 in
    absurd (not_there ws id i ascending place found.1.0 found.0 found.1.1 (ap (λ (u : Watched). u.id) found.1.2 ∙ (Decides-int_eq found.0.id id).0 p.1)))
