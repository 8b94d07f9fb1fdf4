-- What values and fields are made of is of its form, and so are they; they spell what it does.
use Rattle.std.proofs.Common.{◌≡◌, ℕ, ◌-◌, ◌<◌, ◌≤◌, List, [], false, codes, is_some, Option, Some, None, refl, sym, ap, subst, inl, inr, arith}
use Rattle.document_keys.specs.Names.{Root}
use Rattle.document_keys.specs.Paths.{IsFieldName}
use Rattle.serde_json.specs.Data as json
use Rattle.serde_json.specs.Find.{as_object, get_member}
use Rattle.value_model.specs.Data.{Data, Entries, array_of, map_of, entries_depth}
use Rattle.json_model.specs.declared.place.Place.{Place}
use Rattle.json_model.specs.declared.place.Place.TheVariants as place
use Rattle.json_model.specs.declared.place.Object.TheVariants as object
use Rattle.json_model.specs.declared.place.Leaf.{Leaf}
use Rattle.json_model.specs.declared.place.Leaf.TheVariants as leaf
use Rattle.json_model.specs.declared.place.Series.{Series}
use Rattle.json_model.specs.declared.place.Series.TheVariants as series
use Rattle.json_model.specs.Fits.{Fits, ItemsFit, MembersFit}
use Rattle.json_model.specs.Grammar.{SpellsScalar, SpellsValue, SpellsKind, as_scalar, as_array as by_array, as_map as by_map, SpellsList, SpellsFields}
use Rattle.json_model.specs.Leaves.{FitsLeaf}
use Rattle.json_model.specs.Members.{is_null, is_left_out, given, lacks_only}
use Rattle.json_model.specs.Origin.{Origin}
use Rattle.json_model.specs.Places.{is_unknown, member_place, value_member}
use Rattle.json_model.proofs.Among.{OfEach, each_at, found_among}
use Rattle.json_model.proofs.Built.{a_value, full_array, full_map}
use Rattle.json_model.proofs.Deep.{fields_deep}
use Rattle.json_model.proofs.Fitting.{object_fits, flat_object_fits, fits_clean}
use Rattle.json_model.proofs.Lone.{is_given}
use Rattle.json_model.proofs.Sound.{not_out, given_some}
use Rattle.plain_json.specs.Trees.{HasOnly}

-- ---- scalars

leaf_of : (root : Root) (kind : Leaf) (d : json.Data) (v : Data) → SpellsScalar kind d v → FitsLeaf root kind d
leaf_of root leaf.Null d v s = s.0
leaf_of root leaf.Boolean d v s = (s.0, s.1.0)
leaf_of root leaf.Integer d v s = (s.0, s.1.0)
leaf_of root leaf.Time d v (at, ((content, (is, of)), e)) = (content, (is, (at, of)))
leaf_of root leaf.Text d v s = (s.0, s.1.0)
leaf_of root leaf.Bytes d v (those, ((content, (is, of)), e)) = (content, (is, (those, of)))
leaf_of root leaf.Reference d v (name, ((content, (is, of)), e)) = (content, (is, (name, of)))
leaf_of root _ d v s = absurd s

flat_fits : (o : Origin) (limit : ℕ) (kind : Leaf) (d : json.Data) → FitsLeaf o.root kind d → Fits o limit (place.Leaf kind) d
unfolding Fits
flat_fits o limit kind json.null fits = fits
flat_fits o limit kind (json.boolean b) fits = fits
flat_fits o limit kind (json.number n) fits = fits
flat_fits o limit kind (json.string text) fits = fits
flat_fits o limit kind (json.array ds) fits = fits
flat_fits o limit kind (json.object ms) fits = fits

pub scalar_fits : (o : Origin) (limit : ℕ) (kind : Leaf) (d : json.Data) (v : Data) → SpellsScalar kind d v → Fits o limit (place.Leaf kind) d
scalar_fits o limit kind d v spelled = flat_fits o limit kind d (leaf_of o.root kind d v spelled)

-- ---- a value of one member

kind_known : (p : Place) (d : json.Data) (v : Data) → SpellsKind p d v → is_unknown p ≡ false
kind_known _ d v (as_scalar s) = refl
kind_known _ d v (by_array ms ds is list means) = refl
kind_known _ d v (by_map ms es is fields means) = refl

pub value_fits : (o : Origin) (limit : ℕ) (name : List ℕ) (inner d : json.Data) (v : Data) → d ≡ json.object (json.member name inner json.no_members) → is_left_out (value_member name) inner ≡ false
    → SpellsKind (value_member name) inner v → Fits o limit (value_member name) inner → Fits o limit (place.Object object.Value) d
unfolding Fits
value_fits o limit name inner d v is there spelled fits =
    let known : is_unknown (member_place object.Value name) ≡ false = kind_known (value_member name) inner v spelled in
    let chosen = is_given name inner known there in
    subst (Fits o limit (place.Object object.Value)) (sym is) (flat_object_fits o limit object.Value (json.member name inner json.no_members) (rw (chosen, known) refl) refl refl (refl, inr (there, (tt, fits)), refl))

pub value_spelled : (name : List ℕ) (inner d : json.Data) (v : Data) → d ≡ json.object (json.member name inner json.no_members) → is_left_out (value_member name) inner ≡ false → SpellsKind (value_member name) inner v → SpellsValue d v
value_spelled name inner d v is there spelled =
    let known : is_unknown (member_place object.Value name) ≡ false = kind_known (value_member name) inner v spelled in
    let chosen = is_given name inner known there in
    a_value d inner (json.member name inner json.no_members) name v (ap as_object is) (rw chosen refl) spelled

-- a value isn't null
pub value_there : (d : json.Data) (v : Data) → SpellsValue d v → is_null d ≡ false
value_there d v (SpellsValue.of_kind ms name inner is only spelled) = ap is_null is

-- ---- arrays

pub array_fits : (o : Origin) (limit : ℕ) (list d : json.Data) → HasOnly (codes "values") list d → 0 < limit → Fits o (limit - 1) (place.Series series.Values) list → Fits o limit (place.Object object.Array) d
unfolding Fits
array_fits o limit list d only room fits =
    subst (Fits o limit (place.Object object.Array)) (sym only.is)
    (object_fits o limit object.Array (json.member (codes "values") list json.no_members) 1 refl refl refl (omega arith) (refl, inr (not_out (place.Series series.Values) list only.there, (tt, fits)), refl))

given_only : (name : List ℕ) (inner : json.Data) → get_member name (json.member name inner json.no_members) ≡ Some inner → is_null inner ≡ false → Some inner ≡ given name (json.member name inner json.no_members)
given_only name inner found there = rw (found, there) refl

pub array_kind : (list d : json.Data) (vs : List Data) (v : Data) → HasOnly (codes "values") list d → SpellsList (Some list) vs → v ≡ array_of vs → SpellsKind (place.Object object.Array) d v
array_kind list d vs v only spelled means =
    full_array d list (json.member (codes "values") list json.no_members) vs v (ap as_object only.is) (given_only (codes "values") list refl only.there) spelled means

pub list_fits : (o : Origin) (limit : ℕ) (kind : Series) (d : json.Data) (ds : json.Items) → lacks_only kind ds ≡ false → d ≡ json.array ds → ItemsFit o limit kind ds → Fits o limit (place.Series kind) d
unfolding Fits
list_fits o limit kind d ds enough is fit = subst (Fits o limit (place.Series kind)) (sym is) (enough, fit)

-- ---- fields

pub fields_within : (o : Origin) (limit : ℕ) (d : json.Data) (es : Entries) → Fits o limit (place.Object object.Fields) d → SpellsFields d es → entries_depth es ≤ limit
fields_within o limit d es fits spelled = fields_deep o limit [] d es (fits_clean o limit (place.Object object.Fields) [] d fits) spelled

pub no_member_fits : (o : Origin) (limit : ℕ) → MembersFit o limit object.Fields [] json.no_members
unfolding Fits
no_member_fits o limit = refl

pub fields_fit : (o : Origin) (limit : ℕ) (d : json.Data) (ms : json.Members) → d ≡ json.object ms → MembersFit o limit object.Fields [] ms → Fits o limit (place.Object object.Fields) d
fields_fit o limit d ms is fit = subst (Fits o limit (place.Object object.Fields)) (sym is) (flat_object_fits o limit object.Fields ms refl refl refl fit)

each_named : (o : Origin) (limit : ℕ) (ms : json.Members) → MembersFit o limit object.Fields [] ms → OfEach (λ k d. is_null d ≡ false → IsFieldName k) ms
unfolding Fits
each_named o limit json.no_members fit = tt
each_named o limit (json.member k d ms) (missed, inl out, rest) = (λ some. let kept = not_out (place.Object object.Value) d some in cc, each_named o limit ms rest)
each_named o limit (json.member k d ms) (missed, inr at, rest) = (λ some. at.1.0, each_named o limit ms rest)

-- no field has the name that tells a vector
no_type : (o : Origin) (limit : ℕ) (ms : json.Members) → MembersFit o limit object.Fields [] ms → is_some (given (codes "__type__") ms) ≡ false
no_type o limit ms fit = by (given (codes "__type__") ms) refl
  where
    by : (found : Option json.Data) → given (codes "__type__") ms ≡ found → is_some found ≡ false
    by None is = refl
    by (Some d) is =
        let there = given_some (get_member (codes "__type__") ms) d is in
        absurd ((each_at _ ms (codes "__type__") d (each_named o limit ms fit) (found_among ms (codes "__type__") d there.0) there.1).free (codes "type", refl))

inner_fits : (o : Origin) (limit : ℕ) (ms : json.Members) → Fits o limit (place.Object object.Fields) (json.object ms) → MembersFit o limit object.Fields [] ms
unfolding Fits
inner_fits o limit ms fits =
    let none : 0 ≡ fits.levels = sym fits.takes in
    let all : limit - fits.levels ≡ limit = omega arith in
    subst (λ n. MembersFit o n object.Fields [] ms) all fits.inside

pub map_fits : (o : Origin) (limit : ℕ) (inner d : json.Data) (es : Entries) → HasOnly (codes "fields") inner d → SpellsFields inner es → 0 < limit → Fits o (limit - 1) (place.Object object.Fields) inner → Fits o limit (place.Object object.Map) d
unfolding Fits
map_fits o limit inner d es only spelled room fits =
    let typeless = no_type o (limit - 1) spelled.members (inner_fits o (limit - 1) spelled.members (subst (Fits o (limit - 1) (place.Object object.Fields)) spelled.is fits)) in
    subst (Fits o limit (place.Object object.Map)) (sym only.is)
    (object_fits o limit object.Map (json.member (codes "fields") inner json.no_members) 1 refl (rw (only.there, spelled.is) typeless) refl (omega arith) (refl, inr (not_out (place.Object object.Fields) inner only.there, (tt, fits)), refl))

pub map_kind : (inner d : json.Data) (es : Entries) (v : Data) → HasOnly (codes "fields") inner d → SpellsFields inner es → v ≡ map_of es → SpellsKind (place.Object object.Map) d v
map_kind inner d es v only spelled means =
    full_map d inner (json.member (codes "fields") inner json.no_members) es v (ap as_object only.is) (given_only (codes "fields") inner refl only.there) spelled means
