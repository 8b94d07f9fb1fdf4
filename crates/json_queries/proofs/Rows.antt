-- Members of which some are left out.
use Rattle.std.proofs.Common.{◌≡◌, ℕ, List, [], ◌∷◌, false, Less, Equal, Greater, codes, Option, Some, None, IfSome, cond, option_map, refl, ap, ◌∙◌, inr}
use Rattle.std.specs.Ordering.{nat_cmp, match_ordering}
use Rattle.std.specs.Cmp.Lexicographic.{slice_cmp}
use Rattle.std.specs.Prelude.{option_and_then}
use Rattle.std.specs.declared.cmp.Ordering.{Ordering}
use Rattle.serde_json.specs.Data.{Data as Json, string, Members}
use Rattle.serde_json.specs.Find.{get_member}
use Rattle.json_model.specs.declared.place.Place.{Place}
use Rattle.json_model.specs.declared.place.Object.{Object}
use Rattle.json_model.specs.Fits.{Fits, FitsName, MembersFit}
use Rattle.json_model.specs.Forms.{before, present, unless_empty, printed_each}
use Rattle.json_model.specs.Members.{is_null, unless_null, given}
use Rattle.json_model.specs.Origin.{Origin}
use Rattle.json_model.specs.Places.{member_place}
use Rattle.json_model.specs.Printed.{printed_value}
use Rattle.json_model.specs.Trees.{one}
use Rattle.json_model.proofs.Sound.{not_out}
use Rattle.queries.specs.declared.order.Cursor.{Cursor}
use Rattle.queries.specs.declared.target.CollectionTarget.{CollectionTarget}
use Rattle.json_queries.specs.Printed.{printed_order, unless_false, printed_cursor, printed_filter, id_of, only, printed_limit}

abbrev pub Row : Type 0
Row = List ℕ × Option Json

-- a member that may be left out is of the form
abbrev pub FitsFound : Origin → ℕ → Place → Option Json → Type 0
FitsFound o limit p None = Unit {0}
FitsFound o limit p (Some d) = (is_null d ≡ false) × Fits o limit p d

-- and so is each
abbrev pub FitRows : Origin → ℕ → Object → List Row → Type 0
FitRows o limit kind [] = Unit {0}
FitRows o limit kind (row ∷ rows) = FitsName kind row.0 × FitsFound o limit (member_place kind row.0) row.1 × FitRows o limit kind rows

row_fits : (o : Origin) (limit : ℕ) (kind : Object) (name : List ℕ) (found : Option Json) (ms : Members) → FitsName kind name → FitsFound o limit (member_place kind name) found → MembersFit o limit kind [] ms → MembersFit o limit kind [] (before name found ms)
unfolding Fits
row_fits o limit kind name None ms named fits rest = rest
row_fits o limit kind name (Some d) ms named fits rest = (refl, inr (not_out (member_place kind name) d fits.0, (named, fits.1)), rest)

pub rows_fit : (o : Origin) (limit : ℕ) (kind : Object) (rows : List Row) → FitRows o limit kind rows → MembersFit o limit kind [] (present rows)
unfolding Fits
rows_fit o limit kind [] fits = refl
rows_fit o limit kind (row ∷ rows) fits = row_fits o limit kind row.0 row.1 (present rows) fits.0 fits.1 (rows_fit o limit kind rows fits.2)

-- what is given under a name
abbrev pub or_else : Option Json → Option Json → Option Json
or_else None other = other
or_else (Some d) other = Some d

abbrev pub given_in : List ℕ → List Row → Option Json
given_in name [] = None
given_in name (row ∷ rows) = match_ordering (slice_cmp nat_cmp name row.0) (given_in name rows) (or_else row.1 (given_in name rows)) (given_in name rows)

-- no member is null
abbrev pub AreGiven : List Row → Type 0
AreGiven [] = Unit {0}
AreGiven (row ∷ rows) = IfSome row.1 (λ d. is_null d ≡ false) × AreGiven rows

same_rest : (o : Ordering) (rest : Option Json) → rest ≡ match_ordering o rest rest rest
same_rest Less rest = refl
same_rest Equal rest = refl
same_rest Greater rest = refl

this_or_rest : (o : Ordering) (d : Json) (found rest : Option Json) → is_null d ≡ false → option_and_then unless_null found ≡ rest → option_and_then unless_null (match_ordering o found (Some d) found) ≡ match_ordering o rest (Some d) rest
this_or_rest Less d found rest some is = is
this_or_rest Equal d found rest some is = ap (λ b. cond b None (Some d)) some
this_or_rest Greater d found rest some is = is

row_given : (name : List ℕ) (other : List ℕ) (found : Option Json) (ms : Members) (rest : Option Json) → IfSome found (λ d. is_null d ≡ false) → given name ms ≡ rest → given name (before other found ms) ≡ match_ordering (slice_cmp nat_cmp name other) rest (or_else found rest) rest
row_given name other None ms rest some is = is ∙ same_rest (slice_cmp nat_cmp name other) rest
row_given name other (Some d) ms rest some is = this_or_rest (slice_cmp nat_cmp name other) d (get_member name ms) rest some is

pub given_present : (name : List ℕ) (rows : List Row) → AreGiven rows → given name (present rows) ≡ given_in name rows
given_present name [] some = refl
given_present name (row ∷ rows) some = row_given name row.0 row.1 (present rows) (given_in name rows) some.0 (given_present name rows some.1)

pub or_none : (found : Option Json) → or_else found None ≡ found
or_none None = refl
or_none (Some d) = refl

-- ---- what a cursor holds, and what `structuredQuery` does

abbrev pub CursorRows : Cursor → List Row
CursorRows cursor = (codes "before", unless_false cursor.before) ∷ (codes "values", unless_empty (printed_each printed_value cursor.values)) ∷ []

-- an item of `from`
abbrev pub selector : List ℕ → Json
selector id = one (codes "collectionId") (string id)

abbrev pub QueryRows : CollectionTarget → List Row
QueryRows target =
    (codes "endAt", option_map printed_cursor target.end_at) ∷
    (codes "from", Some (only (selector (id_of target.collection)))) ∷
    (codes "limit", option_map printed_limit target.limit) ∷
    (codes "orderBy", unless_empty (printed_each printed_order target.orders)) ∷
    (codes "startAt", option_map printed_cursor target.start_at) ∷
    (codes "where", option_map printed_filter target.filter) ∷
    []
