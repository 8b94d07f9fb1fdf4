-- the rows of a point
use Rattle.std.proofs.Common.{◌≡◌, ◌≢◌, ◌∙◌, ◌↔◌, ℕ, zero, suc, ◌+◌, ◌*◌, ◌<◌, ◌<ℤ◌, ℤ, pos, T, Bool, true, false, ltb, ◌&&◌, ◌||◌, cond, List, [], ◌∷◌, length, Option, Some, None, refl, sym, ap, subst, arith}
use Rattle.std.specs.Prelude.{unsigned_abs}
use Rattle.std.specs.Ordering.{int_eq}
use Rattle.std.specs.List.{AllPairs, Contains, cons_option, filter_map, slice_get}
use Rattle.std.proofs.lemmas.Bool.{ltb-true}
use Rattle.std.proofs.lemmas.Bool.Decides.{Decides-int_eq}
use Rattle.std.proofs.lemmas.List.Kept.{AllPairs-cons}
use Rattle.std.proofs.lemmas.Option.{same_Some}
use Rattle.value_model.specs.declared.document.Entry.{Entry}
use Rattle.value_model.specs.declared.timestamp.Timestamp.{Timestamp}
use Rattle.watch_aggregator.specs.declared.point.WatchTarget.{WatchTarget}
use Rattle.watch_aggregator.specs.Points.{target_at, token_option}
use Rattle.listen_protocol.specs.Calls.{Key, Calls}
use Rattle.listen_protocol.specs.Transcript.{counts, token_in}
use Rattle.outcome_codec.specs.declared.parts.PointRow.{PointRow}
use Rattle.target_cache.specs.Cache.{IsRow, id_at}
use Rattle.target_cache.specs.declared.row.Row.{Row}
use Rattle.durable_state.specs.Rows.{HasRow}
use Rattle.durable_state.specs.State.{IsNotBelow, IsPointOf, State}
use Rattle.durable_state.proofs.Laid.{not_so, or_true}
use Rattle.watch_points.specs.PointCommit.{ArePartsOf, IsPointRow}
use Rattle.watch_points.specs.Steps.{has_row_from, row_by, row_from, row_with}
use Rattle.watch_points.proofs.Gets.{target_is}
use Rattle.watch_points.proofs.Lists.{all_from, first_below, mapped_from, mapped_to, rest_ascends}

-- ---- the ids of rows

row_at : (first place : ℕ) (rows : List Row) (row : Row) (t : ℤ) → slice_get rows place ≡ Some row → t ≡ pos (2 * place + first) → has_row_from first rows t ≡ true
row_at first place [] row t there is = cc
row_at first zero (r ∷ rows) row t there is =
    let here : 2 * 0 + first ≡ first = omega arith in
    ap (λ b. b || has_row_from (first + 2) rows t) ((Decides-int_eq t (pos first)).1 (is ∙ ap pos here))
row_at first (suc place) (r ∷ rows) row t there is =
    let more : 2 * suc place + first ≡ 2 * place + (first + 2) = omega arith in
    ap (λ b. int_eq t (pos first) || b) (row_at (first + 2) place rows row t there (is ∙ ap pos more)) ∙ or_true (int_eq t (pos first))

found_row : (first : ℕ) (rows : List Row) (t : ℤ) → has_row_from first rows t ≡ true → (place : ℕ) × (row : Row) × (slice_get rows place ≡ Some row) × (t ≡ pos (2 * place + first))
found_row first [] t has = cc
found_row first (r ∷ rows) t has = by (int_eq t (pos first)) refl has (found_row (first + 2) rows t)
  where
    by : (b : Bool) → int_eq t (pos first) ≡ b → (b || has_row_from (first + 2) rows t) ≡ true
        → (has_row_from (first + 2) rows t ≡ true → (place : ℕ) × (row : Row) × (slice_get rows place ≡ Some row) × (t ≡ pos (2 * place + (first + 2))))
        → (place : ℕ) × (row : Row) × (slice_get (r ∷ rows) place ≡ Some row) × (t ≡ pos (2 * place + first))
    by true same or rest =
        let here : first ≡ 2 * 0 + first = omega arith in
        (0, r, refl, (Decides-int_eq t (pos first)).0 same ∙ ap pos here)
    by false other or rest =
        let behind = rest or in
        let more : 2 * behind.0 + (first + 2) ≡ 2 * suc behind.0 + first = omega arith in
        (suc behind.0, behind.1, behind.2, behind.3 ∙ ap pos more)

pub told_row : (rows : List Row) (t : ℤ) (row : Row) → IsRow rows t row → true ≡ has_row_from 2 rows t
told_row rows t row is = sym (row_at 2 is.place rows row t is.there is.is)

pub told_none : (rows : List Row) (t : ℤ) → ((row : Row) → IsRow rows t row → ⊥) → false ≡ has_row_from 2 rows t
told_none rows t none = sym (not_so (has_row_from 2 rows t) (λ has. let found = found_row 2 rows t has in none found.1 (record { place = found.0; is = found.3; there = found.2 })))

-- ---- the row of one target

pub record RowParts (rows : List Row) (target : WatchTarget) (row : PointRow) : Type 0 where
  pub current : target.current ≡ true
  pub has : has_row_from 2 rows target.id ≡ true
  pub token : target.token ≡ Some row.token
  pub some : row.token ≢ []
  pub id : row.id ≡ unsigned_abs target.id
  pub keys : row.keys ≡ target.told

not_empty : (byte : ℕ) (bytes : List ℕ) → byte ∷ bytes ≢ []
not_empty byte bytes e = cc

row_parts : (rows : List Row) (target : WatchTarget) (row : PointRow) → row_from rows target ≡ Some row → RowParts rows target row
row_parts rows target row is = by target.current refl (has_row_from 2 rows target.id) refl target.token refl is
  where
    by : (c : Bool) → target.current ≡ c → (b : Bool) → has_row_from 2 rows target.id ≡ b → (o : Option (List ℕ)) → target.token ≡ o
        → cond (c && b) (row_by target.id o target.told) None ≡ Some row → RowParts rows target row
    by false current b has o token found = cc
    by true current false has o token found = cc
    by true current true has None token found = cc
    by true current true has (Some []) token found = cc
    by true current true has (Some (byte ∷ bytes)) token found =
        let same = same_Some (record { id = unsigned_abs target.id; token = byte ∷ bytes; keys = target.told }) row found in
        record {
          current = current;
          has = has;
          token = token ∙ ap (λ (r : PointRow). Some r.token) same;
          some = subst (λ bs. bs ≢ []) (ap (λ (r : PointRow). r.token) same) (not_empty byte bytes);
          id = ap (λ (r : PointRow). r.id) (sym same);
          keys = ap (λ (r : PointRow). r.keys) (sym same);
        }

with_token : (t : ℤ) (token : List ℕ) (told : List Key) → token ≢ [] → row_with t token told ≡ Some (record { id = unsigned_abs t; token = token; keys = told })
with_token t [] told some = absurd (some refl)
with_token t (byte ∷ bytes) told some = refl

parts_row : (rows : List Row) (target : WatchTarget) (row : PointRow) → RowParts rows target row → row_from rows target ≡ Some row
parts_row rows target row parts =
    (λ i. cond (parts.current i && parts.has i) (row_by target.id (parts.token i) target.told) None)
    ∙ with_token target.id row.token target.told parts.some
    ∙ (λ i. Some (record { id = sym parts.id i; token = row.token; keys = sym parts.keys i }))

-- the id of a row that is there
parts_id : (rows : List Row) (target : WatchTarget) (row : PointRow) → RowParts rows target row → (pos row.id ≡ target.id) × HasRow rows row.id
parts_id rows target row parts =
    let found = found_row 2 rows target.id parts.has in
    let number : row.id ≡ id_at found.0 = parts.id ∙ ap unsigned_abs found.3 in
    (ap pos number ∙ sym found.3, (found.1, record { place = found.0; is = ap pos number; there = found.2 }))

-- ---- all rows

token_of : (token bytes : List ℕ) → token_option token ≡ Some bytes → bytes ≡ token
token_of [] bytes is = cc
token_of (byte ∷ token) bytes is = sym (same_Some (byte ∷ token) bytes is)

of_token : (token bytes : List ℕ) → bytes ≡ token → bytes ≢ [] → token_option token ≡ Some bytes
of_token [] bytes is some = absurd (some is)
of_token (byte ∷ token) bytes is some = ap Some (sym is)

pub rows_are : (s : State) (h : Calls) (waiting : List (Key × Entry)) (targets : List WatchTarget) → ArePartsOf h waiting targets → (row : PointRow)
    → Contains (filter_map (row_from s.rows) targets) row ↔ IsPointRow s h row
rows_are s h waiting targets are row = (there, back)
  where
    there : Contains (filter_map (row_from s.rows) targets) row → IsPointRow s h row
    there has =
        let from = mapped_from (row_from s.rows) targets row has in
        let target = from.0 in
        let parts = row_parts s.rows target row from.2 in
        let known = parts_id s.rows target row parts in
        let at = (target_is h waiting targets are target).0 from.1 in
        let same : target ≡ target_at h (pos row.id) = at.1 ∙ ap (target_at h) (sym known.0) in
        let here = subst (λ t. RowParts s.rows t row) same parts in
        record {
          known = known.1;
          counting = subst (λ t. counts t h ≡ true) (sym known.0) at.0;
          current = here.current;
          token = token_of (token_in (pos row.id) h) row.token here.token;
          some = here.some;
          told = here.keys;
        }

    back : IsPointRow s h row → Contains (filter_map (row_from s.rows) targets) row
    back is =
        let held = is.known.1 in
        mapped_to (row_from s.rows) targets (target_at h (pos row.id)) row
        ((target_is h waiting targets are (target_at h (pos row.id))).1 (is.counting, refl))
        (parts_row s.rows (target_at h (pos row.id)) row (record {
          current = is.current;
          has = sym (told_row s.rows (pos row.id) is.known.0 held);
          token = of_token (token_in (pos row.id) h) row.token is.token is.some;
          some = is.some;
          id = refl;
          keys = is.told;
        }))

-- ids of rows ascend where those of the targets do
pub ids_ascend : (rows : List Row) (targets : List WatchTarget) → AllPairs (λ (a b : WatchTarget). a.id <ℤ b.id) targets → AllPairs (λ (a b : PointRow). a.id < b.id) (filter_map (row_from rows) targets)
ids_ascend rows [] ascend = λ i j d before inside. absurd (omega arith)
ids_ascend rows (target ∷ targets) ascend = by (row_from rows target) refl (ids_ascend rows targets (rest_ascends (λ (a b : WatchTarget). a.id <ℤ b.id) target targets ascend))
  where
    holds : (b : Bool) → T b → b ≡ true
    holds true so = refl
    holds false so = absurd so

    below : (a b : ℕ) (t u : ℤ) → pos a ≡ t → pos b ≡ u → t <ℤ u → a < b
    below a b t u is also before =
        let both : pos a <ℤ pos b = subst (λ x. x <ℤ pos b) (sym is) (subst (λ y. t <ℤ y) (sym also) before) in
        ltb-true a b (holds (ltb a b) both.lt)

    first : (row other : PointRow) → row_from rows target ≡ Some row → Contains (filter_map (row_from rows) targets) other → row.id < other.id
    first row other is has =
        let from = mapped_from (row_from rows) targets other has in
        below row.id other.id target.id from.0.id (parts_id rows target row (row_parts rows target row is)).0 (parts_id rows from.0 other (row_parts rows from.0 other from.2)).0
        (first_below (λ (a b : WatchTarget). a.id <ℤ b.id) target targets ascend from.0 from.1)

    by : (o : Option PointRow) → row_from rows target ≡ o → AllPairs (λ (a b : PointRow). a.id < b.id) (filter_map (row_from rows) targets) → AllPairs (λ (a b : PointRow). a.id < b.id) (cons_option o (filter_map (row_from rows) targets))
    by None is rest = rest
    by (Some row) is rest =
        AllPairs-cons (λ (a b : PointRow). a.id < b.id) row (filter_map (row_from rows) targets)
        (all_from (λ (other : PointRow). row.id < other.id) (filter_map (row_from rows) targets) (λ other has. first row other is has)) rest

-- ---- the commit suits the state

filled : (bytes : List ℕ) → bytes ≢ [] → 0 < length bytes
filled [] some = absurd (some refl)
filled (byte ∷ bytes) some = omega arith

pub rows_suit : (last : Option Timestamp) (at : Timestamp) (rows : List Row) (targets : List WatchTarget) → IsNotBelow last at → IsPointOf last at rows (filter_map (row_from rows) targets)
rows_suit last at rows targets time = record {
  time = time;
  known = all_from (λ (row : PointRow). HasRow rows row.id) (filter_map (row_from rows) targets) (λ row has. let from = mapped_from (row_from rows) targets row has in (parts_id rows from.0 row (row_parts rows from.0 row from.2)).1);
  tokens = all_from (λ (row : PointRow). 0 < length row.token) (filter_map (row_from rows) targets) (λ row has. let from = mapped_from (row_from rows) targets row has in filled row.token (row_parts rows from.0 row from.2).some);
}
