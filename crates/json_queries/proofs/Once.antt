-- A tree spells one query at most.
use Rattle.std.proofs.Common.{◌≡◌, ℕ, List, [], ◌∷◌, true, false, codes, Option, Some, None, refl, sym, ap, subst, inl, inr, ◌∙◌}
use Rattle.std.specs.Bool.{if◌then◌else◌}
use Rattle.std.specs.Str.{bytes_eq}
use Rattle.std.proofs.lemmas.Slice.Eq.{bytes_eq-Decides}
use Rattle.document_keys.specs.Names.{Root}
use Rattle.document_keys.proofs.Spelled.{spells_one}
use Rattle.serde_json.specs.Data.{Data as Json, string, array, object as an_object, Members, Items, item, no_items}
use Rattle.serde_json.specs.Find.{as_object}
use Rattle.value_model.specs.Data.{Data}
use Rattle.json_model.specs.declared.place.Object.TheVariants as object
use Rattle.json_model.specs.Forms.{IsGiven}
use Rattle.json_model.specs.Grammar.{SpellsId, SpellsName, SpellsParent, SpellsQueryPathTree, SpellsValue}
use Rattle.json_model.specs.Leaves.{SpellsQueryPath}
use Rattle.json_model.specs.Members.{given, chosen}
use Rattle.json_model.proofs.Fine.{longer}
use Rattle.json_model.proofs.Forms.{IsOnce, given_once, object_once, choice_once, spells_each_once}
use Rattle.json_model.proofs.Once.{whole_once, list_once, value_once}
use Rattle.json_model.proofs.OneName.{spells_name_one}
use Rattle.queries.specs.declared.filter.Junction.{Junction}
use Rattle.queries.specs.declared.filter.Junction.TheVariants.{And, Or}
use Rattle.queries.specs.declared.filter.Operator.{Operator}
use Rattle.queries.specs.declared.filter.Operator.TheVariants.{Equal, LessThan, LessThanOrEqual, GreaterThan, GreaterThanOrEqual, NotEqual, IsIn, IsNotIn, ArrayContains, ArrayContainsAny}
use Rattle.queries.specs.declared.filter.UnaryOp.{UnaryOp}
use Rattle.queries.specs.declared.filter.UnaryOp.TheVariants.{IsNull, IsNotNull}
use Rattle.queries.specs.declared.raw.RawQuery.TheVariants as raw
use Rattle.queries.specs.Filters.{FilterData, composite, field, unary, FilterItems, filter_item}
use Rattle.json_queries.specs.Constants.{junction_text, operator_text, test_text}
use Rattle.json_queries.specs.Grammar.{SpellsField, SpellsSelector, SpellsDirection, SpellsOrderIn, SpellsOrder, SpellsFlag, SpellsCursorIn, SpellsCursor, SpellsFieldFilter, SpellsUnaryFilter, SpellsFilter, of_kind, SpellsFilterUnder, as_composite, as_field, as_unary, SpellsFilters, no_list, a_list, SpellsFilterItems, no_item, an_item, SpellsWhere, SpellsLimit, SpellsStructured, SpellsCollectionIn, SpellsOnlyName, SpellsDocuments, SpellsQueryUnder, SpellsQuery}

-- ---- texts

apart : (a b : List ℕ) → bytes_eq a b ≡ false → a ≡ b → ⊥
apart a b unlike is = let yes_is : bytes_eq a b ≡ true = (bytes_eq-Decides a b).1 is in cc

same_text : (d : Json) (a b : List ℕ) → d ≡ string a → d ≡ string b → a ≡ b
same_text d a b one two = let e = sym one ∙ two in cc

same_object : (d : Json) (ms ns : Members) → d ≡ an_object ms → d ≡ an_object ns → ms ≡ ns
same_object d ms ns one two = let e = sym one ∙ two in cc

same_array : (d : Json) (xs ys : Items) → d ≡ array xs → d ≡ array ys → xs ≡ ys
same_array d xs ys one two = let e = sym one ∙ two in cc

path_once : (d : Json) → IsOnce (SpellsQueryPathTree d)
path_once d a b (text, (is, first)) (other, (at, second)) = spells_one text a b first.spelled (subst (λ t. SpellsQueryPath t b) (same_text d other text at is) second).spelled

field_once : (d : Json) → IsOnce (SpellsField d)
field_once d a b first second = object_once d (λ ms path. IsGiven (given (codes "fieldPath") ms) (λ text. SpellsQueryPathTree text path)) (λ ms. given_once (given (codes "fieldPath") ms) SpellsQueryPathTree path_once) a b first second

abbrev junction_of : List ℕ → Junction
junction_of text = if bytes_eq text (codes "AND") then And else Or

junction_back : (op : Junction) → junction_of (junction_text op) ≡ op
junction_back And = refl
junction_back Or = refl

abbrev test_of : List ℕ → UnaryOp
test_of text = if bytes_eq text (codes "IS_NULL") then IsNull else IsNotNull

test_back : (op : UnaryOp) → test_of (test_text op) ≡ op
test_back IsNull = refl
test_back IsNotNull = refl

abbrev operator_of : List ℕ → Operator
operator_of text =
    if bytes_eq text (codes "EQUAL") then Equal
    else if bytes_eq text (codes "LESS_THAN") then LessThan
    else if bytes_eq text (codes "LESS_THAN_OR_EQUAL") then LessThanOrEqual
    else if bytes_eq text (codes "GREATER_THAN") then GreaterThan
    else if bytes_eq text (codes "GREATER_THAN_OR_EQUAL") then GreaterThanOrEqual
    else if bytes_eq text (codes "NOT_EQUAL") then NotEqual
    else if bytes_eq text (codes "IN") then IsIn
    else if bytes_eq text (codes "NOT_IN") then IsNotIn
    else if bytes_eq text (codes "ARRAY_CONTAINS") then ArrayContains
    else ArrayContainsAny

operator_back : (op : Operator) → operator_of (operator_text op) ≡ op
operator_back Equal = refl
operator_back LessThan = refl
operator_back LessThanOrEqual = refl
operator_back GreaterThan = refl
operator_back GreaterThanOrEqual = refl
operator_back NotEqual = refl
operator_back IsIn = refl
operator_back IsNotIn = refl
operator_back ArrayContains = refl
operator_back ArrayContainsAny = refl

-- what is spelled by a text that tells it
told_once : {X : Type 0} (text_of : X → List ℕ) (told : List ℕ → X) → ((x : X) → told (text_of x) ≡ x) → (d : Json) → IsOnce (λ x. d ≡ string (text_of x))
told_once {X} text_of told back d a b first second = sym (back a) ∙ ap told (same_text d (text_of a) (text_of b) first second) ∙ back b

-- ---- collections, orders and cursors

id_once : (d : Json) → IsOnce (SpellsId d)
id_once d a b first second = same_text d a b first.1 second.1

selector_once : (d : Json) → IsOnce (SpellsSelector d)
selector_once d a b first second = object_once d (λ ms id. IsGiven (given (codes "collectionId") ms) (λ text. SpellsId text id)) (λ ms. given_once (given (codes "collectionId") ms) SpellsId id_once) a b first second

direction_once : (found : Option Json) → IsOnce (SpellsDirection found)
direction_once None a b first second = first ∙ sym second
direction_once (Some d) true true first second = refl
direction_once (Some d) false false first second = refl
direction_once (Some d) true false first (inl second) = absurd (apart (codes "DESCENDING") (codes "ASCENDING") refl (same_text d _ _ first second))
direction_once (Some d) true false first (inr second) = absurd (apart (codes "DESCENDING") (codes "DIRECTION_UNSPECIFIED") refl (same_text d _ _ first second))
direction_once (Some d) false true (inl first) second = absurd (apart (codes "ASCENDING") (codes "DESCENDING") refl (same_text d _ _ first second))
direction_once (Some d) false true (inr first) second = absurd (apart (codes "DIRECTION_UNSPECIFIED") (codes "DESCENDING") refl (same_text d _ _ first second))

order_once : (d : Json) → IsOnce (SpellsOrder d)
order_once d a b first second = object_once d (λ ms order. SpellsOrderIn ms order) inside a b first second
  where
    inside : (ms : Members) → IsOnce (SpellsOrderIn ms)
    inside ms x y one two =
        let paths = given_once (given (codes "field") ms) SpellsField field_once x.path y.path one.path two.path in
        let directions = direction_once (given (codes "direction") ms) x.descending y.descending one.direction two.direction in
        λ i. record { path = paths i; descending = directions i }

flag_once : (found : Option Json) → IsOnce (SpellsFlag found)
flag_once None a b first second = first ∙ sym second
flag_once (Some d) a b first second = let e = sym first ∙ second in let is : a ≡ b = cc in is

cursor_in_once : (ms : Members) → IsOnce (SpellsCursorIn ms)
cursor_in_once ms x y one two =
    let lists = list_once (given (codes "values") ms) x.values y.values one.values two.values in
    let flags = flag_once (given (codes "before") ms) x.before y.before one.before two.before in
    λ i. record { values = lists i; before = flags i }

cursor_once : (found : Option Json) → IsOnce (SpellsCursor found)
cursor_once None a b first second = first ∙ sym second
cursor_once (Some d) None b first second = absurd first
cursor_once (Some d) (Some a) None first second = absurd second
cursor_once (Some d) (Some a) (Some b) first second = ap (λ c. Some c) (object_once d (λ ms cursor. SpellsCursorIn ms cursor) cursor_in_once a b first second)

-- ---- filters

abbrev head_name : List (List ℕ × Json) → List ℕ
head_name [] = []
head_name (e ∷ es) = e.0

abbrev head_tree : Json → List (List ℕ × Json) → Json
head_tree d [] = d
head_tree d (e ∷ es) = e.1

-- what stands under the only kind of a filter
under_in : (d : Json) (ms : Members) (name : List ℕ) (inner : Json) (f : FilterData) → d ≡ an_object ms → chosen object.Filter ms ≡ (name, inner) ∷ [] → SpellsFilter d f → SpellsFilterUnder name inner f
under_in d ms name inner f is kinds (of_kind ns other e at those spelled) =
    let same : (other, e) ∷ [] ≡ (name, inner) ∷ [] = sym those ∙ ap (chosen object.Filter) (same_object d ns ms at is) ∙ kinds in
    let names : other ≡ name = ap head_name same in
    let trees : e ≡ inner = ap (head_tree e) same in
    subst (λ n. SpellsFilterUnder n inner f) names (subst (λ t. SpellsFilterUnder other t f) trees spelled)

field_filter_once : (ms : Members) (p q : List (List ℕ)) (a b : Operator) (v w : Data) → SpellsFieldFilter ms p a v → SpellsFieldFilter ms q b w → field p a v ≡ field q b w
field_filter_once ms p q a b v w one two =
    let paths = given_once (given (codes "field") ms) SpellsField field_once p q one.names two.names in
    let ops = given_once (given (codes "op") ms) (λ d op. d ≡ string (operator_text op)) (told_once operator_text operator_of operator_back) a b one.compares two.compares in
    let values = given_once (given (codes "value") ms) SpellsValue value_once v w one.holds two.holds in
    λ i. field (paths i) (ops i) (values i)

unary_filter_once : (ms : Members) (p q : List (List ℕ)) (a b : UnaryOp) → SpellsUnaryFilter ms p a → SpellsUnaryFilter ms q b → unary p a ≡ unary q b
unary_filter_once ms p q a b one two =
    let paths = given_once (given (codes "field") ms) SpellsField field_once p q one.names two.names in
    let ops = given_once (given (codes "op") ms) (λ d op. d ≡ string (test_text op)) (told_once test_text test_of test_back) a b one.tests two.tests in
    λ i. unary (paths i) (ops i)

mutual
  filter_once : (d : Json) (f g : FilterData) → SpellsFilter d f → SpellsFilter d g → f ≡ g
  filter_once d f g (of_kind ms name inner at kinds spelled) second = under_once name inner f g spelled (under_in d ms name inner g at kinds second)

  under_once : (name : List ℕ) (d : Json) (f g : FilterData) → SpellsFilterUnder name d f → SpellsFilterUnder name d g → f ≡ g
  under_once name d _ _ (as_composite {fs = fs} ms op named at op_is list) (as_composite {fs = gs} ns op_too named_too at_too op_is_too list_too) =
      let members = same_object d ns ms at_too at in
      let ops = given_once (given (codes "op") ms) (λ t o. t ≡ string (junction_text o)) (told_once junction_text junction_of junction_back) op op_too op_is (subst (λ m. IsGiven (given (codes "op") m) (λ t. t ≡ string (junction_text op_too))) members op_is_too) in
      let lists = filters_once (given (codes "filters") ms) fs gs list (subst (λ m. SpellsFilters (given (codes "filters") m) gs) members list_too) in
      λ i. composite (ops i) (lists i)
  under_once name d _ _ (as_field ms p a v named at spelled) (as_field ns q b w named_too at_too spelled_too) = field_filter_once ms p q a b v w spelled (subst (λ m. SpellsFieldFilter m q b w) (same_object d ns ms at_too at) spelled_too)
  under_once name d _ _ (as_unary ms p a named at spelled) (as_unary ns q b named_too at_too spelled_too) = unary_filter_once ms p q a b spelled (subst (λ m. SpellsUnaryFilter m q b) (same_object d ns ms at_too at) spelled_too)
  under_once name d _ _ (as_composite ms op named at op_is list) (as_field ns q b w named_too at_too spelled_too) = absurd (apart (codes "compositeFilter") (codes "fieldFilter") refl (sym named ∙ named_too))
  under_once name d _ _ (as_composite ms op named at op_is list) (as_unary ns q b named_too at_too spelled_too) = absurd (apart (codes "compositeFilter") (codes "unaryFilter") refl (sym named ∙ named_too))
  under_once name d _ _ (as_field ms p a v named at spelled) (as_composite ns op named_too at_too op_is list) = absurd (apart (codes "fieldFilter") (codes "compositeFilter") refl (sym named ∙ named_too))
  under_once name d _ _ (as_field ms p a v named at spelled) (as_unary ns q b named_too at_too spelled_too) = absurd (apart (codes "fieldFilter") (codes "unaryFilter") refl (sym named ∙ named_too))
  under_once name d _ _ (as_unary ms p a named at spelled) (as_composite ns op named_too at_too op_is list) = absurd (apart (codes "unaryFilter") (codes "compositeFilter") refl (sym named ∙ named_too))
  under_once name d _ _ (as_unary ms p a named at spelled) (as_field ns q b w named_too at_too spelled_too) = absurd (apart (codes "unaryFilter") (codes "fieldFilter") refl (sym named ∙ named_too))

  filters_once : (found : Option Json) (fs gs : FilterItems) → SpellsFilters found fs → SpellsFilters found gs → fs ≡ gs
  filters_once found _ _ no_list no_list = refl
  filters_once found fs gs (a_list items d at spelled) (a_list others e at_too spelled_too) = items_once items fs gs spelled (subst (λ l. SpellsFilterItems l gs) (same_array d others items at_too at) spelled_too)

  items_once : (items : Items) (fs gs : FilterItems) → SpellsFilterItems items fs → SpellsFilterItems items gs → fs ≡ gs
  items_once items _ _ no_item no_item = refl
  items_once items _ _ (an_item first rest) (an_item first_too rest_too) =
      let one = filter_once _ _ _ first first_too in
      let more = items_once _ _ _ rest rest_too in
      λ i. filter_item (one i) (more i)

where_once : (found : Option Json) → IsOnce (SpellsWhere found)
where_once None a b first second = first ∙ sym second
where_once (Some d) None b first second = absurd first
where_once (Some d) (Some a) None first second = absurd second
where_once (Some d) (Some a) (Some b) first second = ap (λ f. Some f) (filter_once d a b first second)

-- ---- queries

limit_once : (found : Option Json) → IsOnce (SpellsLimit found)
limit_once None a b first second = first ∙ sym second
limit_once (Some d) None b first second = absurd first
limit_once (Some d) (Some a) None first second = absurd second
limit_once (Some d) (Some a) (Some b) first second = ap (λ z. Some z) (whole_once d a b first.whole second.whole)

parent_once : (root : Root) (d : Json) → IsOnce (SpellsParent root d)
parent_once root d None None first second = refl
parent_once root d (Some a) (Some b) first second = ap (λ k. Some k) (spells_name_one root d a b first second)
parent_once root d None (Some b) first second = absurd (longer root b second.names.some (same_text d _ _ second.is first))
parent_once root d (Some a) None first second = absurd (longer root a first.names.some (same_text d _ _ first.is second))

collection_once : (root : Root) (ms : Members) → IsOnce (SpellsCollectionIn root ms)
collection_once root ms a b first second =
    let parents = given_once (given (codes "parent") ms) (SpellsParent root) (parent_once root) a.parent b.parent first.parent second.parent in
    let trees = some_one (given (codes "structuredQuery") ms) first.structured.tree second.structured.tree first.structured.is second.structured.is in
    let there = first.structured.spells in
    let also = second.structured.spells in
    let members = some_one (as_object second.structured.tree) there.members also.members (subst (λ t. as_object t ≡ Some there.members) trees there.is) also.is in
    let one = subst (λ m. SpellsStructured m a) members there.spells in
    let two = also.spells in
    let inside = also.members in
    let froms = spells_each_once (given (codes "from") inside) SpellsSelector selector_once a.from b.from one.from two.from in
    let filters = where_once (given (codes "where") inside) a.filter b.filter one.filter two.filter in
    let orders = spells_each_once (given (codes "orderBy") inside) SpellsOrder order_once a.orders b.orders one.orders two.orders in
    let starts = cursor_once (given (codes "startAt") inside) a.start_at b.start_at one.start_at two.start_at in
    let ends = cursor_once (given (codes "endAt") inside) a.end_at b.end_at one.end_at two.end_at in
    let limits = limit_once (given (codes "limit") inside) a.limit b.limit one.limit two.limit in
    λ i. record { parent = parents i; from = froms i; filter = filters i; orders = orders i; start_at = starts i; end_at = ends i; limit = limits i }
  where
    some_one : {X : Type 0} (found : Option X) (x y : X) → found ≡ Some x → found ≡ Some y → x ≡ y
    some_one found x y one two = let e = sym one ∙ two in cc

only_name_once : (root : Root) (d : Json) → IsOnce (SpellsOnlyName root d)
only_name_once root d a b (name, (is, first)) (other, (at, second)) =
    let items = same_array d (item other no_items) (item name no_items) at is in
    let names : other ≡ name = cc in
    spells_name_one root name a b first (subst (λ t. SpellsName root t b) names second)

documents_once : (root : Root) (d : Json) → IsOnce (SpellsDocuments root d)
documents_once root d a b first second = object_once d (λ ms key. IsGiven (given (codes "documents") ms) (λ names. SpellsOnlyName root names key)) (λ ms. given_once (given (codes "documents") ms) (SpellsOnlyName root) (only_name_once root)) a b first second

query_under_once : (root : Root) (name : List ℕ) (d : Json) → IsOnce (SpellsQueryUnder root name d)
query_under_once root name d (raw.Document a) (raw.Document b) first second = ap raw.Document (documents_once root d a b first.1 second.1)
query_under_once root name d (raw.Collection a) (raw.Collection b) first second = ap raw.Collection (object_once d (λ ms query. SpellsCollectionIn root ms query) (collection_once root) a b first.1 second.1)
query_under_once root name d (raw.Document a) (raw.Collection b) first second = absurd (apart (codes "documents") (codes "query") refl (sym first.0 ∙ second.0))
query_under_once root name d (raw.Collection a) (raw.Document b) first second = absurd (apart (codes "query") (codes "documents") refl (sym first.0 ∙ second.0))

pub query_once : (root : Root) (d : Json) → IsOnce (SpellsQuery root d)
query_once root d a b first second = choice_once object.Target d (λ ms name inner query. SpellsQueryUnder root name inner query) (λ ms name inner. query_under_once root name inner) a b first second
