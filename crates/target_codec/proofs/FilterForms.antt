-- The forms of filters, queries and targets.
use Rattle.std.proofs.Common.{◌≡◌, ◌≢◌, ◌∙◌, ℕ, zero, suc, ◌+◌, ◌<◌, ◌≤◌, List, [], ◌∷◌, ◌++◌, length, Option, refl, sym, ap, subst, append_assoc, arith}
use Rattle.std.specs.List.{AllByRecursion, flat_map}
use Rattle.std.proofs.lemmas.List.Elements.{All-from_recursion, recursion_from_All}
use Rattle.value_model.specs.Data.{Data}
use Rattle.queries.specs.declared.filter.Junction.{Junction}
use Rattle.queries.specs.declared.filter.Operator.{Operator}
use Rattle.queries.specs.declared.filter.UnaryOp.{UnaryOp}
use Rattle.queries.specs.declared.order.Cursor.{Cursor}
use Rattle.queries.specs.declared.order.Order.{Order}
use Rattle.queries.specs.declared.target.CollectionTarget.{CollectionTarget}
use Rattle.queries.specs.declared.target.Target.{Target}
use Rattle.queries.specs.declared.target.Target.TheVariants.{Document, Collection}
use Rattle.queries.specs.Filters.{FilterData, composite, field, unary, FilterItems, no_filters, filter_item, filters_of, list_of, composite_of, nesting, nesting_in}
use Rattle.queries.proofs.Nodes.{list_filters}
use Rattle.record_parts.specs.Reading.{Begins, BeginsNone}
use Rattle.record_parts.specs.Spelling.{number, many, AreSpelled}
use Rattle.record_parts.proofs.Wide.{IsUnique}
use Rattle.record_parts.proofs.Forms.{narrower_none, narrower_other}
use Rattle.record_parts.proofs.Basics.{document_key}
use Rattle.record_parts.proofs.Options.{optional}
use Rattle.record_parts.proofs.Values.{value_within}
use Rattle.record_parts.proofs.Combine.{Form, Made, IsKind, HasKind, has_kind, IsTagged, both, list, unique_kinds, tag_first}
use Rattle.target_codec.specs.Spelling.{filter, filters, query, target, junction, HaveSpelledParts, IsSpelledFilter, HasSpelledQuery, IsSpelledQuery, IsOfCheckedQuery, IsSpelledTarget}
use Rattle.target_codec.proofs.Parts.{query_path, collection, operator_form, junction_form, test_form, order_form, cursor_form, limit_form}

abbrev pub filter_tag : FilterData → ℕ
filter_tag (composite op fs) = 1
filter_tag (field p op operand) = 2
filter_tag (unary p op) = 3

pub filter_tagged : IsTagged filter filter_tag
unfolding filter
filter_tagged (composite op fs) = refl
filter_tagged (field p op operand) = refl
filter_tagged (unary p op) = refl

nests : (f : FilterData) → 0 < nesting f
nests (composite op fs) = omega arith
nests (field p op operand) = omega arith
nests (unary p op) = omega arith

pub nests_none : (bytes : List ℕ) → BeginsNone filter (IsSpelledFilter 0) bytes
nests_none bytes f more b = omega (arith, nests f, b.fits.nested)

-- ---- comparisons and tests

abbrev pub ComparisonParts : Type 0
ComparisonParts = List (List ℕ) × (Operator × Data)

abbrev pub from_operator : Form (Operator × Data)
from_operator = both operator_form (value_within 20)

abbrev pub comparison_parts : Form ComparisonParts
comparison_parts = both query_path from_operator

abbrev pub comparison_of_parts : ComparisonParts → FilterData
comparison_of_parts p = field p.0 p.1.0 p.1.1

comparison_made : (most : ℕ) (f : FilterData) → filter_tag f ≡ 2 → IsSpelledFilter most f → Made comparison_of_parts comparison_parts f
comparison_made most (field p op operand) e fits = record { content = (p, (op, operand)); is = refl; fits = (fits.parts.path, (tt, fits.parts.operand)) }
comparison_made most f e fits = absurd (omega (arith, e))

pub comparison_kind : (most : ℕ) → IsKind filter (IsSpelledFilter (suc most)) (2 ∷ []) comparison_of_parts comparison_parts
unfolding filter
comparison_kind most = record {
  on = λ x. refl;
  fits = λ x fits. record { parts = record { path = fits.0; operand = fits.1.1 }; nested = omega arith };
  back = λ f rest bytes e fits. comparison_made (suc most) f (tag_first filter_tagged f rest bytes 2 e) fits;
}

abbrev pub unary_parts : Form (UnaryOp × List (List ℕ))
unary_parts = both test_form query_path

abbrev pub unary_of_parts : UnaryOp × List (List ℕ) → FilterData
unary_of_parts p = unary p.1 p.0

unary_made : (most : ℕ) (f : FilterData) → filter_tag f ≡ 3 → IsSpelledFilter most f → Made unary_of_parts unary_parts f
unary_made most (unary p op) e fits = record { content = (op, p); is = refl; fits = (tt, fits.parts) }
unary_made most f e fits = absurd (omega (arith, e))

pub unary_kind : (most : ℕ) → IsKind filter (IsSpelledFilter (suc most)) (3 ∷ []) unary_of_parts unary_parts
unfolding filter
unary_kind most = record {
  on = λ x. refl;
  fits = λ x fits. record { parts = fits.1; nested = omega arith };
  back = λ f rest bytes e fits. unary_made (suc most) f (tag_first filter_tagged f rest bytes 3 e) fits;
}

-- ---- joined filters

-- filters that nest at most so deep, given that no spelling of one is a front of another's
abbrev pub members : (most : ℕ) → IsUnique filter (IsSpelledFilter most) → Form FilterData
members most u = record { spell = filter; Fits = IsSpelledFilter most; unique = u }

filters_list : (fs : FilterItems) → filters_of (list_of fs) ≡ fs
filters_list no_filters = refl
filters_list (filter_item f fs) = ap (filter_item f) (filters_list fs)

filters_flat : (fs : FilterItems) → filters fs ≡ flat_map filter (list_of fs)
unfolding filters
filters_flat no_filters = refl
filters_flat (filter_item f fs) = ap (λ (r : List ℕ). filter f ++ r) (filters_flat fs)

members_fit : (most : ℕ) (fs : List FilterData) → AllByRecursion (IsSpelledFilter most) fs → HaveSpelledParts (filters_of fs) × (nesting_in (filters_of fs) ≤ most)
members_fit most [] all = (tt, omega arith)
members_fit most (f ∷ fs) all = let rest = members_fit most fs all.1 in ((all.0.parts, rest.0), omega (arith, all.0.nested, rest.1))

fit_members : (most : ℕ) (fs : FilterItems) → HaveSpelledParts fs → nesting_in fs ≤ most → AllByRecursion (IsSpelledFilter most) (list_of fs)
fit_members most no_filters parts nested = tt
fit_members most (filter_item f fs) parts nested = (record { parts = parts.0; nested = omega (arith, nested) }, fit_members most fs parts.1 (omega (arith, nested)))

abbrev pub CompositeParts : Type 0
CompositeParts = Junction × List FilterData

abbrev pub composite_parts : (most : ℕ) → IsUnique filter (IsSpelledFilter most) → Form CompositeParts
composite_parts most u = both junction_form (list (members most u))

abbrev pub composite_of_parts : CompositeParts → FilterData
composite_of_parts p = composite_of p.0 p.1

pub composite_filter : (op : Junction) (fs : List FilterData) → filter (composite_of op fs) ≡ 1 ∷ (junction op ++ many filter fs)
unfolding filter
composite_filter op fs = ap (λ (r : List ℕ). 1 ∷ (junction op ++ r)) (ap (λ (xs : List FilterData). number (length xs) ++ filters (filters_of fs)) (list_filters fs)
    ∙ ap (λ (r : List ℕ). number (length fs) ++ r) (filters_flat (filters_of fs) ∙ ap (flat_map filter) (list_filters fs)))

composite_back : (most : ℕ) (op : Junction) (fs : FilterItems) → IsSpelledFilter (suc most) (composite op fs) → AreSpelled (IsSpelledFilter most) (list_of fs)
composite_back most op fs fits = record { count = fits.parts.0; each = All-from_recursion (IsSpelledFilter most) (list_of fs) (fit_members most fs fits.parts.1 (omega (arith, fits.nested))) }

composite_made : (most : ℕ) (u : IsUnique filter (IsSpelledFilter most)) (f : FilterData) → filter_tag f ≡ 1 → IsSpelledFilter (suc most) f → Made composite_of_parts (composite_parts most u) f
composite_made most u (composite op fs) e fits = record { content = (op, list_of fs); is = ap (composite op) (sym (filters_list fs)); fits = (tt, composite_back most op fs fits) }
composite_made most u f e fits = absurd (omega (arith, e))

composite_fits : (most : ℕ) (op : Junction) (fs : List FilterData) → AreSpelled (IsSpelledFilter most) fs → IsSpelledFilter (suc most) (composite_of op fs)
composite_fits most op fs fits =
    let f = members_fit most fs (recursion_from_All (IsSpelledFilter most) fs fits.each) in
    record { parts = (rw (list_filters fs) fits.count, f.0); nested = omega (arith, f.1) }

pub composite_kind : (most : ℕ) (u : IsUnique filter (IsSpelledFilter most)) → IsKind filter (IsSpelledFilter (suc most)) (1 ∷ []) composite_of_parts (composite_parts most u)
composite_kind most u = record {
  on = λ x. composite_filter x.0 x.1;
  fits = λ x fits. composite_fits most x.0 x.1 fits.1;
  back = λ f rest bytes e fits. composite_made most u f (tag_first filter_tagged f rest bytes 1 e) fits;
}

-- ---- the same, where they nest one deeper

plus_one : (n : ℕ) → suc n ≡ n + 1
plus_one n = omega arith

pub comparison_more : (most : ℕ) → IsKind filter (IsSpelledFilter (most + 1)) (2 ∷ []) comparison_of_parts comparison_parts
comparison_more most = subst (λ (n : ℕ). IsKind filter (IsSpelledFilter n) (2 ∷ []) comparison_of_parts comparison_parts) (plus_one most) (comparison_kind most)

pub unary_more : (most : ℕ) → IsKind filter (IsSpelledFilter (most + 1)) (3 ∷ []) unary_of_parts unary_parts
unary_more most = subst (λ (n : ℕ). IsKind filter (IsSpelledFilter n) (3 ∷ []) unary_of_parts unary_parts) (plus_one most) (unary_kind most)

pub composite_more : (most : ℕ) (u : IsUnique filter (IsSpelledFilter most)) → IsKind filter (IsSpelledFilter (most + 1)) (1 ∷ []) composite_of_parts (composite_parts most u)
composite_more most u = subst (λ (n : ℕ). IsKind filter (IsSpelledFilter n) (1 ∷ []) composite_of_parts (composite_parts most u)) (plus_one most) (composite_kind most u)

-- two bytes, and then what stands behind them
pub put_behind : (front old one two body whole : List ℕ) → one ≡ old ++ front → two ≡ one ++ body → whole ≡ front ++ body → two ≡ old ++ whole
put_behind front old one two body whole first second is =
    second ∙ ap (λ (r : List ℕ). r ++ body) first ∙ append_assoc old front body ∙ ap (λ (r : List ℕ). old ++ r) (sym is)

-- ---- any filter

filter_kinds : (most : ℕ) (u : IsUnique filter (IsSpelledFilter most)) (f : FilterData) → IsSpelledFilter (suc most) f → HasKind filter (IsSpelledFilter (suc most)) f
filter_kinds most u (composite op fs) fits = has_kind (composite_kind most u) (composite op fs) (composite_made most u (composite op fs) refl fits)
filter_kinds most u (field p op operand) fits = has_kind (comparison_kind most) (field p op operand) (comparison_made (suc most) (field p op operand) refl fits)
filter_kinds most u (unary p op) fits = has_kind (unary_kind most) (unary p op) (unary_made (suc most) (unary p op) refl fits)

pub unique_filter : (most : ℕ) → IsUnique filter (IsSpelledFilter most)
unique_filter zero a b s t fits_a fits_b e = absurd (omega (arith, nests a, fits_a.nested))
unique_filter (suc most) a b s t fits_a fits_b e = unique_kinds filter (IsSpelledFilter (suc most)) (filter_kinds most (unique_filter most)) a b s t fits_a fits_b e

abbrev pub filter_within : ℕ → Form FilterData
filter_within most = members most (unique_filter most)

pub filter_other : (most byte : ℕ) → byte ≢ 1 → byte ≢ 2 → byte ≢ 3 → (f : FilterData) → IsSpelledFilter most f → filter_tag f ≢ byte
filter_other most byte a b d (composite op fs) fits e = a (sym e)
filter_other most byte a b d (field p op operand) fits e = b (sym e)
filter_other most byte a b d (unary p op) fits e = d (sym e)

-- ---- queries of a collection

abbrev pub from_end : Form (Option Cursor × Option ℕ)
from_end = both (optional cursor_form) (optional limit_form)

abbrev pub from_start : Form (Option Cursor × (Option Cursor × Option ℕ))
from_start = both (optional cursor_form) from_end

abbrev pub from_orders : Form (List Order × (Option Cursor × (Option Cursor × Option ℕ)))
from_orders = both (list order_form) from_start

abbrev pub from_filter : Form (Option FilterData × (List Order × (Option Cursor × (Option Cursor × Option ℕ))))
from_filter = both (optional (filter_within 20)) from_orders

abbrev pub QueryParts : Type 0
QueryParts = List (List ℕ) × (Option FilterData × (List Order × (Option Cursor × (Option Cursor × Option ℕ))))

abbrev pub query_parts : Form QueryParts
query_parts = both collection from_filter

abbrev pub query_of_parts : QueryParts → CollectionTarget
query_of_parts p = record { collection = p.0; filter = p.1.0; orders = p.1.1.0; start_at = p.1.1.1.0; end_at = p.1.1.1.1.0; limit = p.1.1.1.1.1 }

query_made : (t : CollectionTarget) → HasSpelledQuery t → Made query_of_parts query_parts t
query_made t fits = record {
  content = (t.collection, (t.filter, (t.orders, (t.start_at, (t.end_at, t.limit)))));
  is = refl;
  fits = (fits.collection, (fits.filter, (fits.orders, (fits.start_at, (fits.end_at, fits.limit)))));
}

pub query_kind : IsKind query HasSpelledQuery [] query_of_parts query_parts
unfolding query
query_kind = record {
  on = λ x. refl;
  fits = λ x fits. record { collection = fits.0; filter = fits.1.0; orders = fits.1.1.0; start_at = fits.1.1.1.0; end_at = fits.1.1.1.1.0; limit = fits.1.1.1.1.1 };
  back = λ t rest bytes e fits. query_made t fits;
}

pub unique_parts : IsUnique query HasSpelledQuery
unique_parts = unique_kinds query HasSpelledQuery (λ t fits. has_kind query_kind t (query_made t fits))

parts_in : (t : CollectionTarget) → IsSpelledQuery t → HasSpelledQuery t
parts_in t fits = fits.parts

pub query_none : (bytes : List ℕ) → BeginsNone query HasSpelledQuery bytes → BeginsNone query IsSpelledQuery bytes
query_none bytes none = narrower_none query HasSpelledQuery IsSpelledQuery parts_in bytes none

pub query_other : (bytes : List ℕ) (t : CollectionTarget) (rest : List ℕ) → Begins query HasSpelledQuery bytes t rest → ¬ (IsOfCheckedQuery t) → BeginsNone query IsSpelledQuery bytes
query_other bytes t rest first not = narrower_other query HasSpelledQuery IsSpelledQuery parts_in unique_parts bytes t rest first (λ fits. not fits.checked)

pub query_read : (bytes : List ℕ) (t : CollectionTarget) (rest : List ℕ) → Begins query HasSpelledQuery bytes t rest → IsOfCheckedQuery t → Begins query IsSpelledQuery bytes t rest
query_read bytes t rest first checked = record { parts = first.parts; fits = record { parts = first.fits; checked = checked } }

pub unique_query : IsUnique query IsSpelledQuery
unique_query a b s t fits_a fits_b e = unique_parts a b s t fits_a.parts fits_b.parts e

abbrev pub query_form : Form CollectionTarget
query_form = record { spell = query; Fits = IsSpelledQuery; unique = unique_query }

-- ---- targets

abbrev pub target_tag : Target → ℕ
target_tag (Document k) = 1
target_tag (Collection t) = 2

pub target_tagged : IsTagged target target_tag
unfolding target
target_tagged (Document k) = refl
target_tagged (Collection t) = refl

document_made : (t : Target) → target_tag t ≡ 1 → IsSpelledTarget t → Made Document document_key t
document_made (Document k) e fits = record { content = k; is = refl; fits = fits }
document_made t e fits = absurd (omega (arith, e))

collection_made : (t : Target) → target_tag t ≡ 2 → IsSpelledTarget t → Made Collection query_form t
collection_made (Collection t) e fits = record { content = t; is = refl; fits = fits }
collection_made t e fits = absurd (omega (arith, e))

pub document_kind : IsKind target IsSpelledTarget (1 ∷ []) Document document_key
unfolding target
document_kind = record { on = λ x. refl; fits = λ x fits. fits; back = λ t rest bytes e fits. document_made t (tag_first target_tagged t rest bytes 1 e) fits }

pub collection_kind : IsKind target IsSpelledTarget (2 ∷ []) Collection query_form
unfolding target
collection_kind = record { on = λ x. refl; fits = λ x fits. fits; back = λ t rest bytes e fits. collection_made t (tag_first target_tagged t rest bytes 2 e) fits }

pub target_kinds : (t : Target) → IsSpelledTarget t → HasKind target IsSpelledTarget t
target_kinds (Document k) fits = has_kind document_kind (Document k) (document_made (Document k) refl fits)
target_kinds (Collection t) fits = has_kind collection_kind (Collection t) (collection_made (Collection t) refl fits)

abbrev pub target_form : Form Target
target_form = record { spell = target; Fits = IsSpelledTarget; unique = unique_kinds target IsSpelledTarget target_kinds }

pub target_other : (byte : ℕ) → byte ≢ 1 → byte ≢ 2 → (t : Target) → IsSpelledTarget t → target_tag t ≢ byte
target_other byte a b (Document k) fits e = a (sym e)
target_other byte a b (Collection t) fits e = b (sym e)
