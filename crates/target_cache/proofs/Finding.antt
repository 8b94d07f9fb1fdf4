-- rows by their targets
use Rattle.std.proofs.Common.{◌≡◌, ◌≢◌, ◌∙◌, inl, inr, ℕ, ◌<◌, ℤ, pos, List, [], ◌∷◌, length, get_or, map as each, Option, Some, None, option_map, unwrap_or, FitsSigned, w32, refl, sym, ap, subst, arith}
use Rattle.std.specs.List.{All, AllPairs, slice_get}
use Rattle.std.proofs.lemmas.Bool.{cases_lt}
use Rattle.std.proofs.lemmas.Int.{to_z-of_z}
use mir.Val.{of_z, to_z}
use Rattle.std.proofs.lemmas.List.{get_or-map, length-map}
use Rattle.std.proofs.Math.ListN.{set}
use Rattle.std.proofs.Math.Seq.{map-set_same}
use Rattle.std.proofs.lemmas.Option.{slice_get-map, slice_get-get_or, slice_get_within, get_or_from_slice_get}
use Rattle.queries.specs.declared.target.Target.{Target}
use Rattle.target_cache.specs.declared.row.Held.{Held}
use Rattle.target_cache.specs.declared.row.Row.{Row}
use Rattle.target_cache.specs.Cache.{IsRow, TellsId, id_at}
use Rattle.target_cache.specs.Kept.{Differ, Holds, IsSound}
use Rattle.target_cache.specs.Order.{IsPlaceOf, IsUpTo, no_target, target_of, targets_in}

no_row : Row
no_row = record { target = no_target; held = None }

-- the target of a row that is there
of_row : (rows : List Row) (place : ℕ) (row : Row) → slice_get rows place ≡ Some row → target_of rows place ≡ row.target
of_row rows place row there = ap (λ (o : Option Row). unwrap_or (option_map (λ (r : Row). r.target) o) no_target) there

-- a row of a place that is there
row_at : (rows : List Row) (place : ℕ) → place < length rows → (row : Row) × (slice_get rows place ≡ Some row)
row_at rows place inside = (get_or rows place no_row, slice_get-get_or rows place no_row inside)

-- rows of one target stand at one place
not_before : (rows : List Row) (p q : ℕ) (r s : Row) → AllPairs Differ rows → slice_get rows p ≡ Some r → slice_get rows q ≡ Some s → r.target ≡ s.target → p < q → ⊥
not_before rows p q r s distinct here there same before =
    let first = get_or_from_slice_get rows p r no_row here in
    let second = get_or_from_slice_get rows q s no_row there in
    distinct p q no_row before (slice_get_within rows q s there) (ap (λ (x : Row). x.target) first ∙ same ∙ sym (ap (λ (x : Row). x.target) second))

one_place : (rows : List Row) (p q : ℕ) (r s : Row) → AllPairs Differ rows → slice_get rows p ≡ Some r → slice_get rows q ≡ Some s → r.target ≡ s.target → p ≡ q
one_place rows p q r s distinct here there same = elim (cases_lt p q) [
  | inl before ↦ absurd (not_before rows p q r s distinct here there same before)
  | inr not_before_q ↦ elim (cases_lt q p) [
    | inl after ↦ absurd (not_before rows q p s r distinct there here (sym same) after)
    | inr not_after ↦ omega arith
  ]
]

module _ (rows : List Row) (order : List ℕ) (target : Target) (sound : IsSound rows order) where
  pub tells_some : (place : ℕ) → IsPlaceOf rows target place → TellsId rows target (Some (pos (id_at place)))
  tells_some place is = λ id. (
    λ has.
        let at = row_at rows place is.0 in
        let same : has.row.target ≡ at.0.target = has.same ∙ sym is.1 ∙ of_row rows place at.0 at.1 in
        let places = one_place rows has.of_id.place place has.row at.0 sound.distinct has.of_id.there at.1 same in
        has.of_id.is ∙ ap (λ p. pos (id_at p)) places,
    λ same.
        let at = row_at rows place is.0 in
        record { row = at.0; of_id = record { place = place; is = same; there = at.1 }; same = sym (of_row rows place at.0 at.1) ∙ is.1 },
  )

  pub tells_none : All (λ t. t ≢ target) (targets_in rows order) → TellsId rows target None
  tells_none all id has =
      let place = has.of_id.place in
      let there = sound.ordered.every place (slice_get_within rows place has.row has.of_id.there) in
      let inside = there.1 in
      let long = length-map order (target_of rows) in
      let never = all there.0 no_target (omega arith) in
      never (get_or-map (target_of rows) order there.0 place no_target inside ∙ ap (target_of rows) there.2 ∙ of_row rows place has.row has.of_id.there ∙ has.same)

-- the target of a place, by the targets of the rows
by_targets : (rows : List Row) (place : ℕ) → target_of rows place ≡ unwrap_or (slice_get (each (λ (r : Row). r.target) rows) place) no_target
by_targets rows place = ap (λ (o : Option Target). unwrap_or o no_target) (sym (slice_get-map (λ (r : Row). r.target) rows place))

pub targets_stay : (rows new : List Row) (place : ℕ) → each (λ (r : Row). r.target) new ≡ each (λ (r : Row). r.target) rows → target_of new place ≡ target_of rows place
targets_stay rows new place same = by_targets new place ∙ ap (λ (ts : List Target). unwrap_or (slice_get ts place) no_target) same ∙ sym (by_targets rows place)

all_targets_stay : (rows new : List Row) (order : List ℕ) → each (λ (r : Row). r.target) new ≡ each (λ (r : Row). r.target) rows → targets_in new order ≡ targets_in rows order
all_targets_stay rows new [] same = refl
all_targets_stay rows new (p ∷ order) same = λ i. targets_stay rows new p same i ∷ all_targets_stay rows new order same i

-- where no target changes, the order is that of the new rows too
pub sound_still : (rows new : List Row) (order : List ℕ) → each (λ (r : Row). r.target) new ≡ each (λ (r : Row). r.target) rows → IsSound rows order → IsSound new order
sound_still rows new order same sound =
    let first = length-map rows (λ (r : Row). r.target) in
    let second = length-map new (λ (r : Row). r.target) in
    let long : length new ≡ length rows = sym second ∙ ap length same ∙ first in
    record {
      ordered = record {
        every = λ place inside. sound.ordered.every place (omega arith);
        within = λ k d inside. let was = sound.ordered.within k d inside in omega arith;
        ascending = subst (AllPairs IsUpTo) (sym (all_targets_stay rows new order same)) sound.ordered.ascending;
      };
      distinct = λ i j d before inside.
          let at = λ (rs : List Row) (k : ℕ) (in_rows : k < length rs). get_or-map (λ (r : Row). r.target) rs k d d.target in_rows in
          let here : (get_or new i d).target ≡ (get_or rows i d).target = sym (at new i (omega arith)) ∙ ap (λ (ts : List Target). get_or ts i d.target) same ∙ at rows i (omega arith) in
          let there : (get_or new j d).target ≡ (get_or rows j d).target = sym (at new j (omega arith)) ∙ ap (λ (ts : List Target). get_or ts j d.target) same ∙ at rows j (omega arith) in
          λ equal. sound.distinct i j d before (omega arith) (sym here ∙ equal ∙ there);
      few = let few = sound.few in omega arith;
    }

-- an id is that of one place
pub one_id : (p q : ℕ) → pos (id_at p) ≡ pos (id_at q) → p ≡ q
one_id p q same = let e : id_at p ≡ id_at q = cc in omega arith

module _ (rows new : List Row) (id : ℤ) (place : ℕ) (held : Option Held) (is : id ≡ pos (id_at place)) (put : (d : Row) → new ≡ set rows place (record { target = (get_or rows place d).target; held = held })) where
  pub targets_kept : each (λ (r : Row). r.target) new ≡ each (λ (r : Row). r.target) rows
  targets_kept = ap (λ (rs : List Row). each (λ (r : Row). r.target) rs) (put no_row) ∙ map-set_same (λ (r : Row). r.target) rows place (record { target = (get_or rows place no_row).target; held = held }) no_row refl

  pub holds : (row : Row) → IsRow rows id row → Holds id held rows new
  holds row of_id =
      let same : of_id.place ≡ place = one_id of_id.place place (sym of_id.is ∙ is) in
      let there : slice_get rows place ≡ Some row = ap (slice_get rows) (sym same) ∙ of_id.there in
      record { place = place; row = row; is = is; there = there; set = put row ∙ ap (λ (r : Row). set rows place (record { target = r.target; held = held })) (get_or_from_slice_get rows place row row there) }

  pub row_there : place < length rows → ((row : Row) → IsRow rows id row → ⊥) → ⊥
  row_there inside never = let at = row_at rows place inside in never at.0 (record { place = place; is = is; there = at.1 })

-- an id that was passed on is that id
pub passed : (id : ℤ) → FitsSigned w32 id → (n : ℕ) → to_z w32 (of_z w32 id) ≡ pos n → id ≡ pos n
passed id fits n is = sym (to_z-of_z w32 id fits) ∙ is
