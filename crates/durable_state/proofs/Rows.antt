-- rows that hold something else
use Rattle.std.proofs.Common.{◌≡◌, ◌∙◌, ℕ, zero, suc, ◌+◌, ◌*◌, ◌<◌, ◌≤◌, ◌^◌, nat_eq, ℤ, pos, inl, inr, Bool, true, false, not, IsTrue, ◌↔◌, is_some, cond, List, [], ◌∷◌, ◌++◌, length, slice_set, Option, Some, None, w32, to_z, of_z, refl, sym, ap, arith}
use Rattle.std.specs.List.{slice_get}
use Rattle.std.proofs.lemmas.Bool.Decides.{eqb_tells}
use Rattle.std.proofs.lemmas.Grind.{fold-append}
use Rattle.std.proofs.lemmas.Int.{to_z_pos}
use Rattle.std.proofs.lemmas.Option.{same_Some, slice_get_within}
use Rattle.value_model.specs.declared.timestamp.Timestamp.{Timestamp}
use Rattle.outcome_codec.specs.declared.parts.PointRow.{PointRow}
use Rattle.target_cache.specs.Cache.{TellsId, id_at}
use Rattle.target_cache.specs.Kept.{Holds}
use Rattle.target_cache.specs.declared.row.Held.{Held}
use Rattle.target_cache.specs.declared.row.Row.{Row}
use Rattle.queries.specs.declared.target.Target.{Target}
use Rattle.durable_state.specs.State.{IsAllocation}
use Rattle.durable_state.specs.Rows.{HasRow, blanked, held_at, holding, holding_from, told}

other : (a b : ℕ) → (a ≡ b → ⊥) → nat_eq a b ≡ false
other a b differ = elim (eqb_tells a b) [ inl it ↦ absurd (differ it.1) | inr not ↦ not.0 ]

same : (a b : ℕ) → a ≡ b → nat_eq a b ≡ true
same a b is = elim (eqb_tells a b) [ inl it ↦ it.0 | inr not ↦ absurd (not.1 is) ]

-- an id before the first is that of no row
before : (rows : List Row) (first id : ℕ) (held : Option Held) → id < first → holding_from first id held rows ≡ rows
before [] first id held less = refl
before (row ∷ rows) first id held less =
    ap (λ b. cond b (record { target = row.target; held = held }) row ∷ holding_from (first + 2) id held rows) (other first id (λ is. omega (arith, is, less)))
    ∙ ap (λ l. row ∷ l) (before rows (first + 2) id held (omega (arith, less)))

at_place : (rows : List Row) (first place id : ℕ) (row : Row) (held : Option Held) → id ≡ first + 2 * place → slice_get rows place ≡ Some row
    → holding_from first id held rows ≡ slice_set rows place (record { target = row.target; held = held })
at_place [] first place id row held is there = cc
at_place (r ∷ rows) first zero id row held is there =
    ap (λ b. cond b (record { target = r.target; held = held }) r ∷ holding_from (first + 2) id held rows) (same first id (omega (arith, is)))
    ∙ ap (λ l. record { target = r.target; held = held } ∷ l) (before rows (first + 2) id held (omega (arith, is)))
    ∙ ap (λ (x : Row). record { target = x.target; held = held } ∷ rows) (same_Some r row there)
at_place (r ∷ rows) first (suc place) id row held is there =
    ap (λ b. cond b (record { target = r.target; held = held }) r ∷ holding_from (first + 2) id held rows) (other first id (λ e. omega (arith, is, e)))
    ∙ ap (λ l. r ∷ l) (at_place rows (first + 2) place id row held (omega (arith, is)) there)

same_pos : (a b : ℕ) → pos a ≡ pos b → a ≡ b
same_pos a b is = cc

-- the row of the id holds this
pub holds_is : (id : ℕ) (held : Option Held) (old new : List Row) → Holds (pos id) held old new → new ≡ holding id held old
holds_is id held old new is = is.set ∙ sym (at_place old 2 is.place id is.row held (let e = same_pos id (id_at is.place) is.is in omega (arith, e)) is.there)

-- ---- rows stay where they are

still_there : (rows : List Row) (first id place : ℕ) (held : Option Held) (row : Row) → slice_get rows place ≡ Some row → (after : Row) × (slice_get (holding_from first id held rows) place ≡ Some after)
still_there [] first id place held row there = cc
still_there (r ∷ rows) first id zero held row there = (_, refl)
still_there (r ∷ rows) first id (suc place) held row there = still_there rows (first + 2) id place held row there

pub has_still : (rows : List Row) (id other : ℕ) (held : Option Held) → HasRow rows other → HasRow (holding id held rows) other
has_still rows id other held (row, is) = let there = still_there rows 2 id is.place held row is.there in (there.0, record { place = is.place; is = is.is; there = there.1 })

-- the id of a row is below that of the next row
pub below_next : (rows : List Row) (id : ℕ) → id_at (length rows) ≤ 2147483648 → HasRow rows id → id < 2 ^ 31
below_next rows id few (row, is) = let e = same_pos id (id_at is.place) is.is in let within = slice_get_within rows is.place row is.there in omega (arith, e, within, few)

pub below_last : (rows : List Row) (id : ℕ) → id_at (length rows) ≤ 2147483648 → HasRow rows id → id ≤ 2147483646
below_last rows id few (row, is) = let e = same_pos id (id_at is.place) is.is in let within = slice_get_within rows is.place row is.there in omega (arith, e, within, few)

-- an id is the same number as a signed one
pub signed_back : (z : ℤ) (id : ℕ) → z ≡ pos id → id < 2 ^ 31 → to_z w32 (of_z w32 z) ≡ pos id
signed_back z id is less = ap (λ y. to_z w32 (of_z w32 y)) is ∙ to_z_pos w32 id less

pub told_more : (at : Timestamp) (rows : List Row) (rs : List PointRow) (r : PointRow) → told at (rs ++ r ∷ []) rows ≡ holding r.id (Some (held_at at r)) (told at rs rows)
told_more at rows rs r = fold-append (λ now x. holding x.id (Some (held_at at x)) now) rows rs (r ∷ [])

pub blanked_more : (rows : List Row) (ids : List ℕ) (id : ℕ) → blanked (ids ++ id ∷ []) rows ≡ holding id None (blanked ids rows)
blanked_more rows ids id = fold-append (λ now x. holding x None now) rows ids (id ∷ [])

pub some_of : (xs : List ℕ) → nat_eq (length xs) 0 ≡ false → 0 < length xs
some_of [] none = cc
some_of (x ∷ xs) some = omega arith

not_false : (b : Bool) → false ≡ not b → IsTrue b
not_false true is = refl
not_false false is = cc

-- a target that has no id is a new one, and the other way round
pub allocates : (rows : List Row) (id : ℕ) (target : Target) (found : Option ℤ) (none : Bool) → id ≡ id_at (length rows) → id ≤ 2147483646 → TellsId rows target found → is_some found ≡ not none → IsTrue none ↔ IsAllocation rows id target
allocates rows id target None none next left tells is = (
  λ yes. record { next = next; left = left; new = λ z row at same. tells z (record { row = row; of_id = at; same = same }) },
  λ new. not_false none is,
)
allocates rows id target (Some z) none next left tells is = (
  λ yes. cc,
  λ new. let there = (tells z).1 refl in absurd (new.new z there.row there.of_id there.same),
)
