-- What each commit makes of the rows of targets, as the theorem of agreement has them.
use Rattle.std.proofs.Common.{◌≡◌, ◌∙◌, ◌↔◌, ◌⊎◌, inl, inr, ℕ, zero, suc, ◌+◌, ◌*◌, ◌%◌, ◌<◌, nat_eq, ℤ, pos, Bool, true, false, ◌||◌, cond, List, [], ◌∷◌, ◌++◌, length, Option, Some, None, refl, sym, ap, subst, arith}
use Rattle.std.specs.List.{AllPairs, Contains, list_any, slice_get}
use Rattle.std.specs.Option.{option_and_then, option_map}
use Rattle.std.specs.Ordering.{int_eq}
use Rattle.std.proofs.lemmas.Bool.{eq-eqb, false_from_ne_true}
use Rattle.std.proofs.lemmas.Bool.Decides.{Decides-int_eq, eqb_tells}
use Rattle.std.proofs.lemmas.Option.{same_Some, slice_get_within}
use Rattle.acknowledgements.proofs.Times.{contains_cases, contains_here, contains_none, contains_there}
use Rattle.agreement.specs.Backend.{Id, Tuple}
use Rattle.durable_state.specs.Rows.{blanked, held_at, holding, holding_from, told}
use Rattle.durable_state.specs.State.{State, committed, rows_after}
use Rattle.outcome_codec.specs.declared.parts.PointRow.{PointRow}
use Rattle.queries.specs.declared.target.Target.{Target}
use Rattle.record_codec.specs.declared.commit.Commit.{Commit}
use Rattle.record_codec.specs.declared.commit.Commit.TheVariants.{Enqueue, Acknowledge, Reject, Allocate, Point, Reset, Drop}
use Rattle.target_cache.specs.Cache.{IsRow, blank, id_at}
use Rattle.target_cache.specs.declared.row.Held.{Held}
use Rattle.target_cache.specs.declared.row.Row.{Row}
use Rattle.value_model.specs.declared.timestamp.Timestamp.{Timestamp}
use Rattle.watch_points.proofs.Lists.{first_below, rest_ascends}
use Rattle.client_agreement.specs.Durable.{is_listener, row_from, row_of, tuple_at, tuple_in, tuple_with}

-- ---- tests of ids

same_id : (a b : ℤ) → a ≡ b → int_eq a b ≡ true
same_id a b is = (Decides-int_eq a b).1 is

other_id : (a b : ℤ) → (a ≡ b → ⊥) → int_eq a b ≡ false
other_id a b differ = false_from_ne_true (int_eq a b) (λ is. differ ((Decides-int_eq a b).0 is))

same_pos : (a b : ℕ) → pos a ≡ pos b → a ≡ b
same_pos a b is = cc

-- ---- the row of an id

row_at : (first place : ℕ) (rows : List Row) (row : Row) (id : ℤ) → slice_get rows place ≡ Some row → id ≡ pos (2 * place + first) → row_from first rows id ≡ Some row
row_at first place [] row id there is = cc
row_at first zero (r ∷ rows) row id there is =
    let here : 2 * 0 + first ≡ first = omega arith in
    ap (λ b. cond b (Some r) (row_from (first + 2) rows id)) (same_id id (pos first) (is ∙ ap pos here)) ∙ there
row_at first (suc place) (r ∷ rows) row id there is =
    let more : 2 * suc place + first ≡ 2 * place + (first + 2) = omega arith in
    ap (λ b. cond b (Some r) (row_from (first + 2) rows id)) (other_id id (pos first) (λ same. let e = same_pos (2 * suc place + first) first (sym is ∙ same) in omega (arith, e)))
    ∙ row_at (first + 2) place rows row id there (is ∙ ap pos more)

found_row : (first : ℕ) (rows : List Row) (id : ℤ) (row : Row) → row_from first rows id ≡ Some row → (place : ℕ) × (slice_get rows place ≡ Some row) × (id ≡ pos (2 * place + first))
found_row first [] id row is = cc
found_row first (r ∷ rows) id row is = by (int_eq id (pos first)) refl is (found_row (first + 2) rows id row)
  where
    by : (b : Bool) → int_eq id (pos first) ≡ b → cond b (Some r) (row_from (first + 2) rows id) ≡ Some row
        → (row_from (first + 2) rows id ≡ Some row → (place : ℕ) × (slice_get rows place ≡ Some row) × (id ≡ pos (2 * place + (first + 2))))
        → (place : ℕ) × (slice_get (r ∷ rows) place ≡ Some row) × (id ≡ pos (2 * place + first))
    by true same found rest =
        let here : first ≡ 2 * 0 + first = omega arith in
        (0, found, (Decides-int_eq id (pos first)).0 same ∙ ap pos here)
    by false other found rest =
        let behind = rest found in
        let more : 2 * behind.0 + (first + 2) ≡ 2 * suc behind.0 + first = omega arith in
        (suc behind.0, behind.1, behind.2 ∙ ap pos more)

-- the row that is found is the id's
pub row_is : (rows : List Row) (id : Id) (row : Row) → IsRow rows id row ↔ (row_of rows id ≡ Some row)
row_is rows id row = (
  λ is. row_at 2 is.place rows row id is.there is.is,
  λ is. let found = found_row 2 rows id row is in record { place = found.0; is = found.2; there = found.1 },
)

even : (place : ℕ) → is_listener (pos (2 * place + 2)) ≡ true
even place = eq-eqb ((2 * place + 2) % 2) 0 (omega arith)

-- rows have the ids of listeners' targets
pub row_even : (rows : List Row) (id : Id) (row : Row) → row_of rows id ≡ Some row → is_listener id ≡ true
row_even rows id row is = let found = found_row 2 rows id row is in subst (λ (z : ℤ). is_listener z ≡ true) (sym found.2) (even found.0)

-- ---- a row that holds something else

same_test : (a n : ℕ) (id : ℤ) → id ≡ pos a → nat_eq a n ≡ int_eq (pos n) id
same_test a n id is = elim (eqb_tells a n) [
  | inl it ↦ it.0 ∙ sym (same_id (pos n) id (ap pos (sym it.1) ∙ sym is))
  | inr not ↦ not.0 ∙ sym (other_id (pos n) id (λ same. not.1 (same_pos a n (sym is ∙ sym same))))
]

-- the row with this, or as it was
abbrev pub row_with : Bool → Option Held → Row → Row
row_with b held row = cond b (record row { held = held }) row

held_from : (rows : List Row) (first n : ℕ) (held : Option Held) (id : ℤ) → row_from first (holding_from first n held rows) id ≡ option_map (row_with (int_eq (pos n) id) held) (row_from first rows id)
held_from [] first n held id = refl
held_from (r ∷ rows) first n held id = by (int_eq id (pos first)) refl (held_from rows (first + 2) n held id)
  where
    by : (b : Bool) → int_eq id (pos first) ≡ b → row_from (first + 2) (holding_from (first + 2) n held rows) id ≡ option_map (row_with (int_eq (pos n) id) held) (row_from (first + 2) rows id)
        → cond b (Some (row_with (nat_eq first n) held r)) (row_from (first + 2) (holding_from (first + 2) n held rows) id) ≡ option_map (row_with (int_eq (pos n) id) held) (cond b (Some r) (row_from (first + 2) rows id))
    by true same rest = ap (λ c. Some (row_with c held r)) (same_test first n id ((Decides-int_eq id (pos first)).0 same))
    by false other rest = rest

pub held_row : (n : ℕ) (held : Option Held) (rows : List Row) (id : Id) → row_of (holding n held rows) id ≡ option_map (row_with (int_eq (pos n) id) held) (row_of rows id)
held_row n held rows id = held_from rows 2 n held id

-- ---- rows that are made blank

blank_by : (b : Bool) (found : Option Row) → option_and_then tuple_in (option_map (row_with b None) found) ≡ cond b None (option_and_then tuple_in found)
blank_by true None = refl
blank_by true (Some row) = refl
blank_by false None = refl
blank_by false (Some row) = refl

blank_either : (b c : Bool) (found : Option Tuple) → cond c None (cond b None found) ≡ cond (b || c) None found
blank_either true true found = refl
blank_either true false found = refl
blank_either false c found = refl

-- the rows of these ids hold nothing, and all others hold what they held
pub blanked_tuple : (ids : List ℕ) (rows : List Row) (id : Id) → tuple_at (blanked ids rows) id ≡ cond (list_any (λ n. int_eq (pos n) id) ids) None (tuple_at rows id)
blanked_tuple [] rows id = refl
blanked_tuple (n ∷ ids) rows id =
    let others : Bool = list_any (λ m. int_eq (pos m) id) ids in
    blanked_tuple ids (holding n None rows) id
    ∙ ap (λ (found : Option Row). cond others None (option_and_then tuple_in found)) (held_row n None rows id)
    ∙ ap (cond others None) (blank_by (int_eq (pos n) id) (row_of rows id))
    ∙ blank_either (int_eq (pos n) id) others (tuple_at rows id)

-- ---- rows of a point

-- an id that the point doesn't name keeps its row
pub untold_row : (at : Timestamp) (points : List PointRow) (rows : List Row) (id : Id) → ((p : PointRow) → Contains points p → pos p.id ≡ id → ⊥) → row_of (told at points rows) id ≡ row_of rows id
untold_row at [] rows id none = refl
untold_row at (p ∷ points) rows id none =
    untold_row at points (holding p.id (Some (held_at at p)) rows) id (λ q has is. none q (contains_there p points q has) is)
    ∙ held_row p.id (Some (held_at at p)) rows id
    ∙ ap (λ b. option_map (row_with b (Some (held_at at p))) (row_of rows id)) (other_id (pos p.id) id (none p (contains_here p points)))
    ∙ as_it_was (row_of rows id)
  where
    as_it_was : (found : Option Row) → option_map (row_with false (Some (held_at at p))) found ≡ found
    as_it_was None = refl
    as_it_was (Some row) = refl

-- ids of a point's rows ascend
abbrev pub IdsAscend : List PointRow → Type 0
IdsAscend points = AllPairs (λ (a b : PointRow). a.id < b.id) points

-- the row of an id that the point names holds what the point tells of it
pub told_row : (at : Timestamp) (points : List PointRow) (rows : List Row) (id : Id) → IdsAscend points → (p : PointRow) → Contains points p → pos p.id ≡ id → (row : Row) → row_of rows id ≡ Some row
    → row_of (told at points rows) id ≡ Some (record row { held = Some (held_at at p) })
told_row at [] rows id ascend p has is row found = absurd (contains_none p has)
told_row at (q ∷ points) rows id ascend p has is row found =
    by (contains_cases q points p has) (told_row at points (holding q.id (Some (held_at at q)) rows) id (rest_ascends (λ (a b : PointRow). a.id < b.id) q points ascend) p)
  where
    after : List Row
    after = holding q.id (Some (held_at at q)) rows

    row_after : (b : Bool) → int_eq (pos q.id) id ≡ b → row_of after id ≡ Some (row_with b (Some (held_at at q)) row)
    row_after b test = held_row q.id (Some (held_at at q)) rows id ∙ (λ i. option_map (row_with (test i) (Some (held_at at q))) (found i))

    below : (other : PointRow) → Contains points other → q.id < other.id
    below other later = first_below (λ (a b : PointRow). a.id < b.id) q points ascend other later

    by : (q ≡ p) ⊎ Contains points p → (Contains points p → pos p.id ≡ id → (other : Row) → row_of after id ≡ Some other → row_of (told at points after) id ≡ Some (record other { held = Some (held_at at p) }))
        → row_of (told at points after) id ≡ Some (record row { held = Some (held_at at p) })
    by (inl one) rest =
        let named : pos q.id ≡ id = ap (λ (x : PointRow). pos x.id) one ∙ is in
        untold_row at points after id (λ other later same. let less = below other later in let e = same_pos q.id other.id (named ∙ sym same) in omega (arith, less, e))
        ∙ row_after true (same_id (pos q.id) id named)
        ∙ ap (λ (x : PointRow). Some (record row { held = Some (held_at at x) })) one
    by (inr later) rest =
        rest later is row
        (row_after false (other_id (pos q.id) id (λ same. let less = below p later in let e = same_pos q.id p.id (same ∙ sym is) in omega (arith, less, e))))

pub told_tuple : (at : Timestamp) (points : List PointRow) (rows : List Row) (id : Id) → IdsAscend points → (p : PointRow) → Contains points p → pos p.id ≡ id → (row : Row) → row_of rows id ≡ Some row
    → tuple_at (told at points rows) id ≡ Some (tuple_with row.target (held_at at p))
told_tuple at points rows id ascend p has is row found = ap (option_and_then tuple_in) (told_row at points rows id ascend p has is row found)

pub untold_tuple : (at : Timestamp) (points : List PointRow) (rows : List Row) (id : Id) → ((p : PointRow) → Contains points p → pos p.id ≡ id → ⊥) → tuple_at (told at points rows) id ≡ tuple_at rows id
untold_tuple at points rows id none = ap (option_and_then tuple_in) (untold_row at points rows id none)

-- ---- one row more

allocated_from : (rows : List Row) (first : ℕ) (target : Target) (id : ℤ) → row_from first (rows ++ blank target ∷ []) id ≡ cond (int_eq id (pos (2 * length rows + first))) (Some (blank target)) (row_from first rows id)
allocated_from [] first target id = let here : first ≡ 2 * 0 + first = omega arith in ap (λ n. cond (int_eq id (pos n)) (Some (blank target)) None) here
allocated_from (r ∷ rows) first target id = by (int_eq id (pos first)) refl (allocated_from rows (first + 2) target id)
  where
    more : 2 * length rows + (first + 2) ≡ 2 * suc (length rows) + first
    more = omega arith

    by : (b : Bool) → int_eq id (pos first) ≡ b → row_from (first + 2) (rows ++ blank target ∷ []) id ≡ cond (int_eq id (pos (2 * length rows + (first + 2)))) (Some (blank target)) (row_from (first + 2) rows id)
        → cond b (Some r) (row_from (first + 2) (rows ++ blank target ∷ []) id) ≡ cond (int_eq id (pos (2 * suc (length rows) + first))) (Some (blank target)) (cond b (Some r) (row_from (first + 2) rows id))
    by true same rest =
        sym (ap (λ b. cond b (Some (blank target)) (Some r)) (other_id id (pos (2 * suc (length rows) + first)) (λ is.
        let e = same_pos first (2 * suc (length rows) + first) (sym ((Decides-int_eq id (pos first)).0 same) ∙ is) in omega (arith, e))))
    by false other rest = rest ∙ ap (λ n. cond (int_eq id (pos n)) (Some (blank target)) (row_from (first + 2) rows id)) more

-- the next id has the new row, and all others have the rows that they had
pub allocated_row : (rows : List Row) (target : Target) (id : Id) → row_of (rows ++ blank target ∷ []) id ≡ cond (int_eq id (pos (id_at (length rows)))) (Some (blank target)) (row_of rows id)
allocated_row rows target id = allocated_from rows 2 target id

-- ---- rows keep their targets

-- the target of the id, if it has a row
abbrev pub target_at : List Row → Id → Option Target
target_at rows id = option_map (λ (row : Row). row.target) (row_of rows id)

holding_target : (n : ℕ) (held : Option Held) (rows : List Row) (id : Id) → target_at (holding n held rows) id ≡ target_at rows id
holding_target n held rows id = ap (option_map (λ (row : Row). row.target)) (held_row n held rows id) ∙ by (int_eq (pos n) id) (row_of rows id)
  where
    by : (b : Bool) (found : Option Row) → option_map (λ (row : Row). row.target) (option_map (row_with b held) found) ≡ option_map (λ (row : Row). row.target) found
    by b None = refl
    by true (Some row) = refl
    by false (Some row) = refl

blanked_target : (ids : List ℕ) (rows : List Row) (id : Id) → target_at (blanked ids rows) id ≡ target_at rows id
blanked_target [] rows id = refl
blanked_target (n ∷ ids) rows id = blanked_target ids (holding n None rows) id ∙ holding_target n None rows id

told_target : (at : Timestamp) (points : List PointRow) (rows : List Row) (id : Id) → target_at (told at points rows) id ≡ target_at rows id
told_target at [] rows id = refl
told_target at (p ∷ points) rows id = told_target at points (holding p.id (Some (held_at at p)) rows) id ∙ holding_target p.id (Some (held_at at p)) rows id

-- two ways to find a row of one target
same_target : (found later : Option Row) (row : Row) → option_map (λ (r : Row). r.target) later ≡ option_map (λ (r : Row). r.target) found → found ≡ Some row → (after : Row) × (later ≡ Some after) × (after.target ≡ row.target)
same_target found None row same is = let wrong : None ≡ Some row.target = same ∙ ap (option_map (λ (r : Row). r.target)) is in cc
same_target found (Some after) row same is = (after, refl, same_Some after.target row.target (same ∙ ap (option_map (λ (r : Row). r.target)) is))

-- the id of a row isn't the next one
not_next : (rows : List Row) (id : Id) (row : Row) → row_of rows id ≡ Some row → int_eq id (pos (id_at (length rows))) ≡ false
not_next rows id row is = other_id id (pos (id_at (length rows))) (λ same.
    let found = found_row 2 rows id row is in
    let within = slice_get_within rows found.0 row found.1 in
    let e = same_pos (2 * found.0 + 2) (id_at (length rows)) (sym found.2 ∙ same) in
    omega (arith, within, e))

-- the row of an id behind a commit, from that before it
later_row : (rows : List Row) (commit : Commit) (id : Id) (row : Row) → row_of rows id ≡ Some row → (later : Row) × (row_of (rows_after rows commit) id ≡ Some later) × (later.target ≡ row.target)
later_row rows (Enqueue batch) id row is = (row, is, refl)
later_row rows (Acknowledge batch at results) id row is = (row, is, refl)
later_row rows (Reject batch) id row is = (row, is, refl)
later_row rows (Allocate n target) id row is = (row, allocated_row rows target id ∙ ap (λ b. cond b (Some (blank target)) (row_of rows id)) (not_next rows id row is) ∙ is, refl)
later_row rows (Point at entries points) id row is = same_target (row_of rows id) (row_of (told at points rows) id) row (told_target at points rows id) is
later_row rows (Reset ids) id row is = same_target (row_of rows id) (row_of (blanked ids rows) id) row (blanked_target ids rows id) is
later_row rows (Drop keys ids) id row is = same_target (row_of rows id) (row_of (blanked ids rows) id) row (blanked_target ids rows id) is

-- an id that has a row has one of the same target behind each commit
pub row_stays : (s : State) (commit : Commit) (id : Id) (row : Row) → IsRow s.rows id row → (later : Row) × IsRow (committed s commit).rows id later × (later.target ≡ row.target)
row_stays s commit id row is =
    let later = later_row s.rows commit id row ((row_is s.rows id row).0 is) in
    (later.0, (row_is (rows_after s.rows commit) id later.0).1 later.1, later.2)

-- the row of the id is the one that the commit allocates
pub record IsAllocated (s : State) (commit : Commit) (id : Id) (later : Row) : Type 0 where
  pub number : ℕ
  pub target : Target
  pub allocates : commit ≡ Allocate number target
  pub next : id ≡ pos (id_at (length s.rows))
  pub is_blank : later ≡ blank target

earlier_row : (s : State) (commit : Commit) (id : Id) (later : Row) → row_of (rows_after s.rows commit) id ≡ Some later → ((row : Row) × (row_of s.rows id ≡ Some row) × (later.target ≡ row.target)) ⊎ IsAllocated s commit id later
earlier_row s (Enqueue batch) id later is = inl (later, is, refl)
earlier_row s (Acknowledge batch at results) id later is = inl (later, is, refl)
earlier_row s (Reject batch) id later is = inl (later, is, refl)
earlier_row s (Allocate n target) id later is = by (int_eq id (pos (id_at (length s.rows)))) refl (sym (allocated_row s.rows target id) ∙ is)
  where
    by : (b : Bool) → int_eq id (pos (id_at (length s.rows))) ≡ b → cond b (Some (blank target)) (row_of s.rows id) ≡ Some later
        → ((row : Row) × (row_of s.rows id ≡ Some row) × (later.target ≡ row.target)) ⊎ IsAllocated s (Allocate n target) id later
    by true same found = inr (record { number = n; target = target; allocates = refl; next = (Decides-int_eq id (pos (id_at (length s.rows)))).0 same; is_blank = sym (same_Some (blank target) later found) })
    by false other found = inl (later, found, refl)
earlier_row s (Point at entries points) id later is = let it = same_target (row_of (told at points s.rows) id) (row_of s.rows id) later (sym (told_target at points s.rows id)) is in inl (it.0, it.1, sym it.2)
earlier_row s (Reset ids) id later is = let it = same_target (row_of (blanked ids s.rows) id) (row_of s.rows id) later (sym (blanked_target ids s.rows id)) is in inl (it.0, it.1, sym it.2)
earlier_row s (Drop keys ids) id later is = let it = same_target (row_of (blanked ids s.rows) id) (row_of s.rows id) later (sym (blanked_target ids s.rows id)) is in inl (it.0, it.1, sym it.2)

-- an id that has a row behind a commit had one of the same target, or the commit allocates it
pub row_back : (s : State) (commit : Commit) (id : Id) (later : Row) → IsRow (committed s commit).rows id later → ((row : Row) × IsRow s.rows id row × (later.target ≡ row.target)) ⊎ IsAllocated s commit id later
row_back s commit id later is = elim (earlier_row s commit id later ((row_is (rows_after s.rows commit) id later).0 is)) [
  | inl it ↦ inl (it.0, (row_is s.rows id it.0).1 it.1, it.2)
  | inr made ↦ inr made
]
