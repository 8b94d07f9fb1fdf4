-- what a query that can be stored is once it is checked has a spelling
use Rattle.std.proofs.Common.{◌≡◌, ◌⊎◌, inl, inr, ℕ, zero, suc, ◌<◌, ◌^◌, ℤ, pos, FitsSigned, w32, Bool, true, false, nat_eq, codes, List, [], ◌∷◌, ◌++◌, length, map, get_or, Option, Some, None, IfSome, refl, sym, subst, lit<, arith}
use Rattle.std.specs.Bool.{Decides}
use Rattle.std.specs.Cmp.Lexicographic.{pointwise, pointwise_decides, bytes_decides}
use Rattle.std.specs.Int.Signed.{lt_z_yes}
use Rattle.std.specs.List.{All, Contains}
use Rattle.std.specs.Str.{IsUtf8}
use Rattle.std.proofs.lemmas.Int.{ints}
use Rattle.std.proofs.lemmas.List.{length-append}
use Rattle.std.proofs.lemmas.List.Elements.{All-nil, All-cons, All-head, All-append, All-map, All-weaker, All-contains, All-contains_itself}
use Rattle.document_keys.specs.Names.{IsSegment, HasNameLength, parent_path}
use Rattle.value_model.specs.Data.{Data}
use Rattle.value_model.specs.Storable.{IsCountable, IsStorableKey, IsStorableSegment}
use Rattle.json_model.specs.Storable.{IsStorableQueryPath}
use Rattle.json_queries.specs.Storable.{IsStorableOperand, HasCountedParts, HaveCountedParts, IsStorableRawFilter, IsStorableCursor, AreStorableOrders, IsStorableRawQuery}
use Rattle.queries.specs.declared.order.Cursor.{Cursor}
use Rattle.queries.specs.declared.order.Order.{Order}
use Rattle.queries.specs.declared.raw.QueryRule.TheVariants as rule
use Rattle.queries.specs.declared.raw.RawQuery.{RawQuery}
use Rattle.queries.specs.declared.raw.RawQuery.TheVariants as raw
use Rattle.queries.specs.declared.target.Target.{Target}
use Rattle.queries.specs.declared.target.Target.TheVariants.{Document, Collection}
use Rattle.queries.specs.Filters.{FilterData, composite, field, unary, FilterItems, no_filters, filter_item, nodes, nodes_in}
use Rattle.queries.specs.Holding.{name_path}
use Rattle.queries.specs.Orders.{AreWhole, IsImplied, is_inequality, path_of, paths_of, all_nodes, last_direction, order_by}
use Rattle.queries.specs.Queried.{IsSameLimit, IsQueryOf}
use Rattle.queries.specs.Rules.{BadLimit}
use Rattle.record_parts.specs.Spelling.{AreSpelled, IsSpelledKey, IsSpelledValue}
use Rattle.target_codec.specs.Spelling.{HasSpelledParts, HaveSpelledParts, IsSpelledCollection, IsSpelledCursor, IsSpelledFilter, IsSpelledLimit, IsSpelledOrder, IsSpelledQueryPath, IsSpelledTarget}
use Rattle.line_reader.specs.Spelled.{HasCountedOrders}

pub key_spelled : (key : List (List ℕ)) → IsStorableKey key → IsSpelledKey key
key_spelled key is = record { names = is.sound; texts = is.utf8; many = is.count }

-- ---- collections

one_of : {X : Type 0} (Fact : X → Type 0) (x : X) → Fact x → All Fact (x ∷ [])
one_of Fact x holds = All-cons Fact x [] holds (All-nil Fact)

collection_spelled : (parent : Option (List (List ℕ))) (id : List ℕ) → IfSome parent IsStorableKey → IsStorableSegment id → IsSpelledCollection (parent_path parent ++ id ∷ [])
collection_spelled None id held own = record {
  names = record { odd = refl; segments = one_of IsSegment id own.sound };
  texts = one_of IsUtf8 id own.utf8;
  many = lit< tt;
}
collection_spelled (Some key) id held own =
    let size = length-append key (id ∷ []) in
    let even = held.sound.even in
    let few = held.count in
    record {
      names = record { odd = omega arith; segments = All-append IsSegment key (id ∷ []) held.sound.segments (one_of IsSegment id own.sound) };
      texts = All-append IsUtf8 key (id ∷ []) held.utf8 (one_of IsUtf8 id own.utf8);
      many = omega arith;
    }

-- ---- filters and cursors

query_path : (path : List (List ℕ)) → IsStorableQueryPath path → IsSpelledQueryPath path
query_path path is = record { most = is.few; names = is.names; texts = is.utf8 }

operand_spelled : (value : Data) → IsStorableOperand value → IsSpelledValue 20 value
operand_spelled value is = record { storable = is.storable; nested = is.deep }

mutual
  parts_spelled : (f : FilterData) → HasCountedParts f → HasSpelledParts f
  parts_spelled (composite op fs) is = (is.0, items_spelled fs is.1)
  parts_spelled (field path op operand) is = record { path = query_path path is.names; operand = operand_spelled operand is.value }
  parts_spelled (unary path op) is = query_path path is

  items_spelled : (fs : FilterItems) → HaveCountedParts fs → HaveSpelledParts fs
  items_spelled no_filters is = tt
  items_spelled (filter_item f fs) is = (parts_spelled f is.0, items_spelled fs is.1)

filter_spelled : (filter : Option FilterData) → IfSome filter IsStorableRawFilter → IfSome filter (IsSpelledFilter 20)
filter_spelled None is = tt
filter_spelled (Some f) is = record { parts = parts_spelled f is.parts; nested = is.deep }

cursor_spelled : (cursor : Option Cursor) → IfSome cursor IsStorableCursor → IfSome cursor IsSpelledCursor
cursor_spelled None is = tt
cursor_spelled (Some c) is = record { values = record { count = is.count; each = All-weaker IsStorableOperand (IsSpelledValue 20) operand_spelled c.values is.each } }

-- ---- limits

limit_spelled : (given : Option ℤ) (limit : Option ℕ) → IsSameLimit given limit → IfSome given (FitsSigned w32) → (BadLimit given → ⊥) → IfSome limit IsSpelledLimit
limit_spelled None limit same fits good = subst (λ l. IfSome l IsSpelledLimit) (sym same) tt
limit_spelled (Some z) None same fits good = absurd same
limit_spelled (Some z) (Some n) same fits good =
    let inside = subst (FitsSigned w32) same fits in
    let more = subst (λ (x : ℤ). BadLimit (Some x) → ⊥) same good in
    (some n more, few n inside)
  where
    some : (n : ℕ) → (BadLimit (Some (pos n)) → ⊥) → 0 < n
    some zero none = absurd (none (lt_z_yes tt))
    some (suc n) none = omega arith

    few : (n : ℕ) → FitsSigned w32 (pos n) → n < 2 ^ 31
    few n is = omega (arith, ints, is)

-- ---- orders

-- a filter that compares its field does so at a path that can be stored
abbrev HasStoredPath : FilterData → Type 0
HasStoredPath f = is_inequality f ≡ true → IsStorableQueryPath (path_of f)

mutual
  paths_stored : (f : FilterData) → HasCountedParts f → All HasStoredPath (nodes f)
  paths_stored (composite op fs) is = All-cons HasStoredPath (composite op fs) (nodes_in fs) (λ compares. cc) (paths_in fs is.1)
  paths_stored (field path op operand) is = one_of HasStoredPath (field path op operand) (λ compares. is.names)
  paths_stored (unary path op) is = one_of HasStoredPath (unary path op) (λ compares. is)

  paths_in : (fs : FilterItems) → HaveCountedParts fs → All HasStoredPath (nodes_in fs)
  paths_in no_filters is = All-nil HasStoredPath
  paths_in (filter_item f fs) is = All-append HasStoredPath (nodes f) (nodes_in fs) (paths_stored f is.0) (paths_in fs is.1)

-- a path that a filter implies is one of its own
implied_stored : (explicit : List Order) (filter : Option FilterData) (path : List (List ℕ)) → IfSome filter IsStorableRawFilter → IsImplied explicit (all_nodes filter) path → IsStorableQueryPath path
implied_stored explicit None path is one = absurd (let below = one.there.1 in omega arith)
implied_stored explicit (Some f) path is one =
    subst IsStorableQueryPath one.field (All-contains HasStoredPath (nodes f) one.filter (paths_stored f is.parts) one.there one.compares)

-- the path of the document's own name
name_utf8 : IsUtf8 (codes "__name__")
unfolding lib.Utf8.encode
name_utf8 = (codes "__name__", (refl, refl))

name_spelled : IsSpelledQueryPath name_path
name_spelled = record {
  most = lit< tt;
  names = record {
    some = lit< tt;
    long = one_of HasNameLength (codes "__name__") (record { some = lit< tt; most = lit< tt });
    free = λ reserved. reserved.not_key refl;
  };
  texts = one_of IsUtf8 (codes "__name__") name_utf8;
}

-- a path is among others, or it isn't
is_among : (paths : List (List (List ℕ))) (path : List (List ℕ)) → Contains paths path ⊎ (Contains paths path → ⊥)
is_among [] path = inr (λ there. let none = there.1 in omega arith)
is_among (first ∷ paths) path =
    elim (same first path) [
      | inl e ↦ inl (0, omega arith, e)
      | inr other ↦ elim (is_among paths path) [
        | inl there ↦ inl (let inside = there.1 in (suc there.0, omega arith, there.2))
        | inr none ↦ inr (λ some. behind some.0 some.1 some.2 other none)
      ]
    ]
  where
    same : (a b : List (List ℕ)) → (a ≡ b) ⊎ (a ≡ b → ⊥)
    same a b = decided (pointwise (pointwise nat_eq) a b) (pointwise_decides bytes_decides a b)
      where
        decided : (test : Bool) → Decides test (a ≡ b) → (a ≡ b) ⊎ (a ≡ b → ⊥)
        decided true d = inl (d.0 refl)
        decided false d = inr (λ e. let f = d.1 e in cc)

    behind : (k : ℕ) → k < length (first ∷ paths) → get_or (first ∷ paths) k path ≡ path → (first ≡ path → ⊥) → (Contains paths path → ⊥) → ⊥
    behind zero inside is other none = other is
    behind (suc k) inside is other none = none (k, omega arith, is)

module _ (explicit : List Order) (filter : Option FilterData) (orders : List Order) (whole : AreWhole explicit filter orders) where
  abbrev by : List (List ℕ) → Order
  by = order_by (last_direction explicit)

  added_spelled : IfSome filter IsStorableRawFilter → All IsSpelledOrder (map by whole.added)
  added_spelled is =
      let stored = All-weaker (Contains whole.added) IsStorableQueryPath (λ path there. implied_stored explicit filter path is ((whole.members path).0 there)) whole.added (All-contains_itself whole.added) in
      All-map IsSpelledOrder by whole.added (All-weaker IsStorableQueryPath (λ path. IsSpelledOrder (by path)) (λ path held. record { path = query_path path held }) whole.added stored)

  last_spelled : All IsSpelledOrder whole.last
  last_spelled = elim (is_among (paths_of explicit) name_path) [
    | inl there ↦ subst (All IsSpelledOrder) (sym (whole.named there)) (All-nil IsSpelledOrder)
    | inr other ↦ subst (All IsSpelledOrder) (sym (whole.unnamed other)) (one_of IsSpelledOrder (by name_path) (record { path = name_spelled }))
  ]

  orders_spelled : AreStorableOrders explicit → IfSome filter IsStorableRawFilter → IsCountable orders → AreSpelled IsSpelledOrder orders
  orders_spelled are is counted = record {
    count = counted;
    each = subst (All IsSpelledOrder) (sym whole.are)
        (All-append IsSpelledOrder explicit (map by whole.added ++ whole.last)
        (All-weaker (λ (o : Order). IsStorableQueryPath o.path) IsSpelledOrder (λ o held. record { path = query_path o.path held }) explicit are.each)
        (All-append IsSpelledOrder (map by whole.added) whole.last (added_spelled is) last_spelled));
  }

-- ---- targets

pub target_spelled : (query : RawQuery) (target : Target) → IsStorableRawQuery query → IsQueryOf query target → HasCountedOrders target → IsSpelledTarget target
target_spelled (raw.Document key) target is of counted = subst IsSpelledTarget (sym of) (key_spelled key is)
target_spelled (raw.Collection given) (Document key) is of counted = absurd of
target_spelled (raw.Collection given) (Collection target) is of counted = record {
  parts = record {
    collection = subst IsSpelledCollection (sym of.collection) (collection_spelled given.parent of.id is.parent (All-head IsStorableSegment of.id [] (subst (All IsStorableSegment) of.from is.from)));
    filter = subst (λ f. IfSome f (IsSpelledFilter 20)) (sym of.filter) (filter_spelled given.filter is.filter);
    orders = orders_spelled given.orders given.filter target.orders of.orders is.orders is.filter counted;
    start_at = subst (λ c. IfSome c IsSpelledCursor) (sym of.start_at) (cursor_spelled given.start_at is.start_at);
    end_at = subst (λ c. IfSome c IsSpelledCursor) (sym of.end_at) (cursor_spelled given.end_at is.end_at);
    limit = limit_spelled given.limit target.limit of.limit is.limit (of.sound rule.Limit);
  };
  checked = (given, of);
}
