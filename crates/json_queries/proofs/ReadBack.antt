-- What is printed of targets is of the form, and spells them.
use Rattle.std.proofs.Common.{◌≡◌, ℕ, pos, ◌+◌, ◌%◌, ◌<◌, ◌^◌, List, [], ◌∷◌, ◌++◌, length, Bool, true, false, codes, Option, Some, None, IfSome, option_map, refl, sym, ap, subst, ◌∙◌, inl, inr, arith}
use Rattle.std.specs.List.{All}
use Rattle.std.proofs.lemmas.List.{append-nil}
use Rattle.std.proofs.lemmas.List.Elements.{All-nil, All-cons, All-head, All-tail}
use Rattle.document_keys.specs.Names.{Root, IsKey, IsSegment, IsCollection, documents_text, name_text}
use Rattle.serde_json.specs.Data.{Data as Json, string, object as an_object, Items, no_items, item, Members, no_members, member}
use Rattle.value_model.specs.Data.{Data}
use Rattle.value_model.specs.Storable.{IsStorableKey}
use Rattle.json_model.specs.declared.place.Place.{Place}
use Rattle.json_model.specs.declared.place.Place.TheVariants as place
use Rattle.json_model.specs.declared.place.Object.TheVariants as object
use Rattle.json_model.specs.declared.place.Series.{Series}
use Rattle.json_model.specs.declared.place.Series.TheVariants as series
use Rattle.json_model.specs.declared.place.Leaf.TheVariants as leaf
use Rattle.json_model.specs.Constants.{is_direction}
use Rattle.json_model.specs.Faults.{max_nesting}
use Rattle.json_model.specs.Fits.{Fits, ItemsFit}
use Rattle.json_model.specs.Forms.{Each, no_more, one_more, SpellsEach, present, unless_empty, printed_each}
use Rattle.json_model.specs.Grammar.{SpellsParent, SpellsItems, no_item as no_value, an_item as a_value, SpellsList, no_list, a_list}
use Rattle.json_model.specs.Leaves.{IsParentText}
use Rattle.json_model.specs.Members.{is_null}
use Rattle.json_model.specs.Numbers.{SpellsShort, as_number}
use Rattle.json_model.specs.Origin.{Origin}
use Rattle.json_model.specs.Places.{item_place, target_rows, query_rows, structured_query_rows, selector_rows, order_rows, cursor_rows}
use Rattle.json_model.specs.Printed.{printed_value}
use Rattle.json_model.proofs.Fitting.{fits_clean}
use Rattle.queries.specs.declared.order.Cursor.{Cursor}
use Rattle.queries.specs.declared.order.Order.{Order}
use Rattle.queries.specs.declared.target.CollectionTarget.{CollectionTarget}
use Rattle.queries.specs.declared.target.Target.{Target}
use Rattle.queries.specs.declared.target.Target.TheVariants.{Document, Collection}
use Rattle.queries.specs.Filters.{FilterData, composite, field, unary}
use Rattle.json_queries.specs.Constants.{direction_text}
use Rattle.json_queries.specs.Grammar.{SpellsSelector, SpellsOrder, SpellsDirection, SpellsFlag, SpellsCursor, SpellsWhere, SpellsLimit, SpellsStructured, SpellsQuery}
use Rattle.json_queries.specs.Laws.{PrintedTargetsReadBack, document_at, collection_read, target_read}
use Rattle.json_queries.specs.Printed.{printed_field, printed_order, unless_false, printed_cursor, printed_filter, parent_of, id_of, only, printed_limit, printed_structured, target_tree}
use Rattle.json_queries.specs.Storable.{IsStorableOperand, IsStorableFilter, IsStorableCursor, IsStorableQuery, IsStorableTarget}
use Rattle.json_model.specs.Storable.{IsStorableQueryPath}
use Rattle.json_queries.proofs.Rows.{FitsFound, rows_fit, AreGiven, given_present, or_none, CursorRows, selector, QueryRows}
use Rattle.json_queries.proofs.ReadFilters.{field_fits, field_spelled, operand_fits, operand_spelled, filter_fits, filter_spelled}

-- ---- lists

each_fits : {X : Type 0} (o : Origin) (limit : ℕ) (p : Place) (print : X → Json) (Fact : X → Type 0) → ((x : X) → Fact x → Fits o limit p (print x)) → (kind : Series) → item_place kind ≡ p → (xs : List X) → All Fact xs → ItemsFit o limit kind (printed_each print xs)
unfolding Fits
each_fits o limit p print Fact fits kind at [] all = tt
each_fits o limit p print Fact fits kind at (x ∷ xs) all = (subst (λ q. Fits o limit q (print x)) (sym at) (fits x (All-head Fact x xs all)), each_fits o limit p print Fact fits kind at xs (All-tail Fact x xs all))

each_spelled : {X : Type 0} (print : X → Json) (Spells : Json → X → Type 0) (Fact : X → Type 0) → ((x : X) → Fact x → Spells (print x) x) → (xs : List X) → All Fact xs → Each Spells (printed_each print xs) xs
each_spelled print Spells Fact spells [] all = no_more
each_spelled print Spells Fact spells (x ∷ xs) all = one_more (spells x (All-head Fact x xs all)) (each_spelled print Spells Fact spells xs (All-tail Fact x xs all))

list_spelled : {X : Type 0} (print : X → Json) (Spells : Json → X → Type 0) (Fact : X → Type 0) → ((x : X) → Fact x → Spells (print x) x) → (xs : List X) → All Fact xs → SpellsEach Spells (unless_empty (printed_each print xs)) xs
list_spelled print Spells Fact spells [] all = refl
list_spelled print Spells Fact spells (x ∷ xs) all = (printed_each print (x ∷ xs), refl, each_spelled print Spells Fact spells (x ∷ xs) all)

list_given : (ds : Items) → IfSome (unless_empty ds) (λ d. is_null d ≡ false)
list_given no_items = tt
list_given (item d ds) = refl

option_given : {X : Type 0} (print : X → Json) → ((x : X) → is_null (print x) ≡ false) → (found : Option X) → IfSome (option_map print found) (λ d. is_null d ≡ false)
option_given print some None = tt
option_given print some (Some x) = some x

-- ---- orders

abbrev HasQueryPath : Order → Type 0
HasQueryPath order = IsStorableQueryPath order.path

direction_known : (descending : Bool) → is_direction (direction_text descending) ≡ true
unfolding is_direction
direction_known true = refl
direction_known false = refl

direction_spelled : (descending : Bool) → SpellsDirection (Some (string (direction_text descending))) descending
direction_spelled true = refl
direction_spelled false = inl refl

order_fits : (o : Origin) (order : Order) → HasQueryPath order → Fits o max_nesting (place.Object object.Order) (printed_order order)
unfolding Fits order_rows
order_fits o order stored = record {
  chooses = refl;
  no_vector = refl;
  levels = 0;
  takes = refl;
  room = omega arith;
  inside = (refl, inr (refl, (tt, (direction_text order.descending, (refl, direction_known order.descending)))), (refl, inr (refl, (tt, field_fits o max_nesting order.path stored)), refl));
}

order_spelled : (order : Order) → HasQueryPath order → SpellsOrder (printed_order order) order
order_spelled order stored = record {
  members = member (codes "direction") (string (direction_text order.descending)) (member (codes "field") (printed_field order.path) no_members);
  is = refl;
  spells = record { path = record { tree = printed_field order.path; is = refl; spells = field_spelled order.path stored }; direction = direction_spelled order.descending };
}

orders_fit : (o : Origin) (orders : List Order) → All HasQueryPath orders → FitsFound o max_nesting (place.Series series.Orders) (unless_empty (printed_each printed_order orders))
unfolding Fits
orders_fit o [] all = tt
orders_fit o (order ∷ orders) all = (refl, (refl, each_fits o max_nesting (place.Object object.Order) printed_order HasQueryPath (order_fits o) series.Orders refl (order ∷ orders) all))

-- ---- cursors

values_fit : (o : Origin) (vs : List Data) → All IsStorableOperand vs → FitsFound o max_nesting (place.Series series.Values) (unless_empty (printed_each printed_value vs))
unfolding Fits
values_fit o [] all = tt
values_fit o (v ∷ vs) all = (refl, (refl, each_fits o max_nesting (place.Object object.Value) printed_value IsStorableOperand (operand_fits o) series.Values refl (v ∷ vs) all))

all_spelled : (vs : List Data) → All IsStorableOperand vs → SpellsItems (printed_each printed_value vs) vs
all_spelled [] all = no_value
all_spelled (v ∷ vs) all = a_value (operand_spelled v (All-head IsStorableOperand v vs all)) (all_spelled vs (All-tail IsStorableOperand v vs all))

values_spelled : (vs : List Data) → All IsStorableOperand vs → SpellsList (unless_empty (printed_each printed_value vs)) vs
values_spelled [] all = no_list
values_spelled (v ∷ vs) all = a_list (printed_each printed_value (v ∷ vs)) _ refl (all_spelled (v ∷ vs) all)

flag_fits : (o : Origin) (is : Bool) → FitsFound o max_nesting (place.Leaf leaf.Boolean) (unless_false is)
unfolding Fits
flag_fits o false = tt
flag_fits o true = (refl, (true, refl))

flag_given : (is : Bool) → IfSome (unless_false is) (λ d. is_null d ≡ false)
flag_given false = tt
flag_given true = refl

flag_spelled : (is : Bool) → SpellsFlag (unless_false is) is
flag_spelled false = refl
flag_spelled true = refl

cursor_fits : (o : Origin) (cursor : Cursor) → IsStorableCursor cursor → Fits o max_nesting (place.Object object.Cursor) (printed_cursor cursor)
unfolding Fits cursor_rows
cursor_fits o cursor stored = record {
  chooses = refl;
  no_vector = refl;
  levels = 0;
  takes = refl;
  room = omega arith;
  inside = rows_fit o max_nesting object.Cursor (CursorRows cursor) (tt, flag_fits o cursor.before, (tt, values_fit o cursor.values stored.each, tt));
}

cursor_found_fits : (o : Origin) (cursor : Option Cursor) → IfSome cursor IsStorableCursor → FitsFound o max_nesting (place.Object object.Cursor) (option_map printed_cursor cursor)
cursor_found_fits o None stored = tt
cursor_found_fits o (Some cursor) stored = (refl, cursor_fits o cursor stored)

cursor_spelled : (cursor : Option Cursor) → IfSome cursor IsStorableCursor → SpellsCursor (option_map printed_cursor cursor) cursor
cursor_spelled None stored = refl
cursor_spelled (Some cursor) stored =
    let some : AreGiven (CursorRows cursor) = (flag_given cursor.before, (list_given (printed_each printed_value cursor.values), tt)) in
    record {
      members = present (CursorRows cursor);
      is = refl;
      spells = record {
        values = subst (λ found. SpellsList found cursor.values) (sym (given_present (codes "values") (CursorRows cursor) some ∙ or_none (unless_empty (printed_each printed_value cursor.values)))) (values_spelled cursor.values stored.each);
        before = subst (λ found. SpellsFlag found cursor.before) (sym (given_present (codes "before") (CursorRows cursor) some ∙ or_none (unless_false cursor.before))) (flag_spelled cursor.before);
      };
    }

-- ---- filters and limits

filter_given : (f : FilterData) → is_null (printed_filter f) ≡ false
filter_given (composite op fs) = refl
filter_given (field path op v) = refl
filter_given (unary path op) = refl

where_fits : (o : Origin) (filter : Option FilterData) → IfSome filter IsStorableFilter → FitsFound o max_nesting (place.Object object.Filter) (option_map printed_filter filter)
where_fits o None stored = tt
where_fits o (Some f) stored = (filter_given f, filter_fits o max_nesting f stored.parts stored.deep)

where_spelled : (filter : Option FilterData) → IfSome filter IsStorableFilter → SpellsWhere (option_map printed_filter filter) filter
where_spelled None stored = refl
where_spelled (Some f) stored = filter_spelled f stored.parts

short : (n : ℕ) → n < 2 ^ 31 → SpellsShort (printed_limit n) (pos n)
short n small = record { whole = as_number (omega (arith, small)) (inl (n, refl, refl)); fits = omega (arith, small) }

limit_fits : (o : Origin) (limit : Option ℕ) → IfSome limit (λ n. n < 2 ^ 31) → FitsFound o max_nesting (place.Leaf leaf.Limit) (option_map printed_limit limit)
unfolding Fits
limit_fits o None small = tt
limit_fits o (Some n) small = (refl, (pos n, short n small))

limit_spelled : (limit : Option ℕ) → IfSome limit (λ n. n < 2 ^ 31) → SpellsLimit (option_map printed_limit limit) (option_map pos limit)
limit_spelled None small = refl
limit_spelled (Some n) small = short n small

-- ---- the path of a collection

-- cut before its last segment
cut : (path : List (List ℕ)) → 0 < length path → parent_of path ++ id_of path ∷ [] ≡ path
cut [] some = absurd (omega (arith, some))
cut (id ∷ []) some = refl
cut (segment ∷ next ∷ path) some = ap (λ l. segment ∷ l) (cut (next ∷ path) (omega arith))

length_parent : (path : List (List ℕ)) → 0 < length path → length (parent_of path) + 1 ≡ length path
length_parent [] some = absurd (omega (arith, some))
length_parent (id ∷ []) some = refl
length_parent (segment ∷ next ∷ path) some = let rest = length_parent (next ∷ path) (omega arith) in omega (arith, rest)

parent_segments : (path : List (List ℕ)) → All IsSegment path → All IsSegment (parent_of path)
parent_segments [] all = All-nil IsSegment
parent_segments (id ∷ []) all = All-nil IsSegment
parent_segments (segment ∷ next ∷ path) all = All-cons IsSegment segment (parent_of (next ∷ path)) (All-head IsSegment segment (next ∷ path) all) (parent_segments (next ∷ path) (All-tail IsSegment segment (next ∷ path) all))

id_segment : (path : List (List ℕ)) → 0 < length path → All IsSegment path → IsSegment (id_of path)
id_segment [] some all = absurd (omega (arith, some))
id_segment (id ∷ []) some all = All-head IsSegment id [] all
id_segment (segment ∷ next ∷ path) some all = id_segment (next ∷ path) (omega arith) (All-tail IsSegment segment (next ∷ path) all)

not_empty : (path : List (List ℕ)) → IsCollection path → 0 < length path
not_empty path is = let odd = is.odd in omega (arith, odd)

parent_key : (path : List (List ℕ)) → IsCollection path → (segment : List ℕ) (more : List (List ℕ)) → parent_of path ≡ segment ∷ more → IsKey (segment ∷ more)
parent_key path is segment more parent = subst IsKey parent (record { some = some_segments; even = even_segments; segments = parent_segments path is.segments })
  where
    some_segments : 0 < length (parent_of path)
    some_segments = let long = ap length parent in omega (arith, long)

    even_segments : length (parent_of path) % 2 ≡ 0
    even_segments = let long = length_parent path (not_empty path is) in let odd = is.odd in omega (arith, long, odd)

-- what stands under `parent`
parent_read : (root : Root) (path front : List (List ℕ)) → IsCollection path → parent_of path ≡ front → IsParentText root (name_text root front)
parent_read root path [] is parent = inl (append-nil (documents_text root))
parent_read root path (segment ∷ more) is parent = inr (segment ∷ more, (parent_key path is segment more parent, refl))

parent_spelled : (root : Root) (path front : List (List ℕ)) → IsCollection path → parent_of path ≡ front → SpellsParent root (string (name_text root front)) (document_at front)
parent_spelled root path [] is parent = ap string (append-nil (documents_text root))
parent_spelled root path (segment ∷ more) is parent = record { names = parent_key path is segment more parent; is = refl }

-- what stands under `from`
selector_fits : (o : Origin) (id : List ℕ) → IsSegment id → Fits o max_nesting (place.Object object.Selector) (selector id)
unfolding Fits selector_rows
selector_fits o id segment = record { chooses = refl; no_vector = refl; levels = 0; takes = refl; room = omega arith; inside = (refl, inr (refl, (tt, (id, (refl, segment)))), refl) }

from_fits : (o : Origin) (id : List ℕ) → IsSegment id → FitsFound o max_nesting (place.Series series.Selectors) (Some (only (selector id)))
unfolding Fits
from_fits o id segment = (refl, (refl, (selector_fits o id segment, tt)))

selector_spelled : (id : List ℕ) → IsSegment id → SpellsSelector (selector id) id
selector_spelled id segment = record { members = member (codes "collectionId") (string id) no_members; is = refl; spells = record { tree = string id; is = refl; spells = (segment, refl) } }

from_spelled : (id : List ℕ) → IsSegment id → SpellsEach SpellsSelector (Some (only (selector id))) (id ∷ [])
from_spelled id segment = (item (selector id) no_items, refl, one_more (selector_spelled id segment) no_more)

-- ---- what `structuredQuery` holds

the_id : (target : CollectionTarget) → IsStorableQuery target → IsSegment (id_of target.collection)
the_id target stored = id_segment target.collection (not_empty target.collection stored.collection.sound) stored.collection.sound.segments

structured_fits : (o : Origin) (target : CollectionTarget) → IsStorableQuery target → Fits o max_nesting (place.Object object.StructuredQuery) (printed_structured target)
unfolding Fits structured_query_rows
structured_fits o target stored = record {
  chooses = refl;
  no_vector = refl;
  levels = 0;
  takes = refl;
  room = omega arith;
  inside = rows_fit o max_nesting object.StructuredQuery (QueryRows target) (
    tt,
    cursor_found_fits o target.end_at stored.end_at,
    (
      tt,
      from_fits o (id_of target.collection) (the_id target stored),
      (
        tt,
        limit_fits o target.limit stored.limit,
        (
          tt,
          orders_fit o target.orders stored.orders.each,
          (
            tt,
            cursor_found_fits o target.start_at stored.start_at,
            (
              tt,
              where_fits o target.filter stored.filter,
              tt,
            ),
          ),
        ),
      ),
    ),
  );
}

all_given : (target : CollectionTarget) → AreGiven (QueryRows target)
all_given target = (
  option_given printed_cursor (λ cursor. refl) target.end_at,
  (
    refl,
    (
      option_given printed_limit (λ limit. refl) target.limit,
      (
        list_given (printed_each printed_order target.orders),
        (
          option_given printed_cursor (λ cursor. refl) target.start_at,
          (
            option_given printed_filter filter_given target.filter,
            tt,
          ),
        ),
      ),
    ),
  ),
)

structured_spelled : (target : CollectionTarget) → IsStorableQuery target → SpellsStructured (present (QueryRows target)) (collection_read target)
structured_spelled target stored =
    let id = id_of target.collection in
    let rows = QueryRows target in
    let some = all_given target in
    record {
      from = subst (λ found. SpellsEach SpellsSelector found (id ∷ [])) (sym (given_present (codes "from") rows some)) (from_spelled id (the_id target stored));
      filter = subst (λ found. SpellsWhere found target.filter) (sym (given_present (codes "where") rows some ∙ or_none (option_map printed_filter target.filter))) (where_spelled target.filter stored.filter);
      orders = subst (λ found. SpellsEach SpellsOrder found target.orders) (sym (given_present (codes "orderBy") rows some ∙ or_none (unless_empty (printed_each printed_order target.orders)))) (list_spelled printed_order SpellsOrder HasQueryPath order_spelled target.orders stored.orders.each);
      start_at = subst (λ found. SpellsCursor found target.start_at) (sym (given_present (codes "startAt") rows some ∙ or_none (option_map printed_cursor target.start_at))) (cursor_spelled target.start_at stored.start_at);
      end_at = subst (λ found. SpellsCursor found target.end_at) (sym (given_present (codes "endAt") rows some ∙ or_none (option_map printed_cursor target.end_at))) (cursor_spelled target.end_at stored.end_at);
      limit = subst (λ found. SpellsLimit found (option_map pos target.limit)) (sym (given_present (codes "limit") rows some ∙ or_none (option_map printed_limit target.limit))) (limit_spelled target.limit stored.limit);
    }

-- ---- targets

query_fits : (o : Origin) (target : CollectionTarget) → IsStorableQuery target → Fits o max_nesting (place.Object object.Target) (target_tree o.root (Collection target))
unfolding Fits target_rows query_rows
query_fits o target stored = record {
  chooses = refl;
  no_vector = refl;
  levels = 0;
  takes = refl;
  room = omega arith;
  inside = (
    refl,
    inr (
      refl,
      (
        tt,
        record {
          chooses = refl;
          no_vector = refl;
          levels = 0;
          takes = refl;
          room = omega arith;
          inside = (
            refl,
            inr (refl, (tt, (name_text o.root (parent_of target.collection), (refl, parent_read o.root target.collection (parent_of target.collection) stored.collection.sound refl)))),
            (refl, inr (refl, (tt, structured_fits o target stored)), refl),
          );
        },
      ),
    ),
    refl,
  );
}

query_spelled : (root : Root) (target : CollectionTarget) → IsStorableQuery target → SpellsQuery root (target_tree root (Collection target)) (target_read (Collection target))
unfolding target_rows
query_spelled root target stored =
    let parent = string (name_text root (parent_of target.collection)) in
    let ms : Members = member (codes "parent") parent (member (codes "structuredQuery") (printed_structured target) no_members) in
    record {
      members = member (codes "query") (an_object ms) no_members;
      is = refl;
      name = codes "query";
      inner = an_object ms;
      only = refl;
      spells = (
        refl,
        record {
          members = ms;
          is = refl;
          spells = record {
            parent = record { tree = parent; is = refl; spells = parent_spelled root target.collection (parent_of target.collection) stored.collection.sound refl };
            structured = record { tree = printed_structured target; is = refl; spells = record { members = present (QueryRows target); is = refl; spells = structured_spelled target stored } };
          };
        },
      );
    }

document_fits : (o : Origin) (key : List (List ℕ)) → IsStorableKey key → Fits o max_nesting (place.Object object.Target) (target_tree o.root (Document key))
unfolding Fits target_rows
document_fits o key stored = record {
  chooses = refl;
  no_vector = refl;
  levels = 0;
  takes = refl;
  room = omega arith;
  inside = (
    refl,
    inr (
      refl,
      (
        tt,
        record {
          chooses = refl;
          no_vector = refl;
          levels = 0;
          takes = refl;
          room = omega arith;
          inside = (refl, inr (refl, (tt, (refl, ((name_text o.root key, (refl, (key, (stored.sound, refl)))), tt)))), refl);
        },
      ),
    ),
    refl,
  );
}

document_spelled : (root : Root) (key : List (List ℕ)) → IsStorableKey key → SpellsQuery root (target_tree root (Document key)) (target_read (Document key))
unfolding target_rows
document_spelled root key stored =
    let name = string (name_text root key) in
    let ms : Members = member (codes "documents") (only name) no_members in
    record {
      members = member (codes "documents") (an_object ms) no_members;
      is = refl;
      name = codes "documents";
      inner = an_object ms;
      only = refl;
      spells = (refl, record { members = ms; is = refl; spells = record { tree = only name; is = refl; spells = (name, (refl, record { names = stored.sound; is = refl })) } });
    }

target_fits : (o : Origin) (target : Target) → IsStorableTarget target → Fits o max_nesting (place.Object object.Target) (target_tree o.root target)
target_fits o (Document key) stored = document_fits o key stored
target_fits o (Collection target) stored = query_fits o target stored

target_spelled : (root : Root) (target : Target) → IsStorableTarget target → SpellsQuery root (target_tree root target) (target_read target)
target_spelled root (Document key) stored = document_spelled root key stored
target_spelled root (Collection target) stored = query_spelled root target stored

pub printed_targets_read_back : PrintedTargetsReadBack
printed_targets_read_back o target stored = (fits_clean o max_nesting (place.Object object.Target) (codes "target") (target_tree o.root target) (target_fits o target stored), target_spelled o.root target stored)
