-- A target that is read again is that of a checked query exactly where the query that it is then has no more orders.
use Rattle.std.proofs.Common.{◌≡◌, ◌∙◌, ◌↔◌, IsTrue, Bool, inl, inr, ℕ, ◌-◌, ℤ, List, [], ◌∷◌, ◌++◌, length, map, take, get_or, Option, Some, None, sym, ap, subst, refl, arith}
use Rattle.std.specs.List.{Contains}
use Rattle.std.proofs.lemmas.List.{append-nil, length-append}
use Rattle.std.proofs.lemmas.List.Elements.{Contains-append_left, Contains-append_right}
use Rattle.std.proofs.lemmas.Option.{none-some}
use Rattle.document_keys.specs.Names.{IsCollection}
use Rattle.document_keys.proofs.Collections.{last_split}
use Rattle.queries.specs.declared.order.Cursor.{Cursor}
use Rattle.queries.specs.declared.order.Order.{Order}
use Rattle.queries.specs.declared.raw.QueryRule.{QueryRule}
use Rattle.queries.specs.declared.raw.QueryRule.TheVariants as rule
use Rattle.queries.specs.declared.raw.RawCollection.{RawCollection}
use Rattle.queries.specs.declared.target.CollectionTarget.{CollectionTarget}
use Rattle.queries.specs.Filters.{FilterData}
use Rattle.queries.specs.Orders.{AreWhole, IsImplied, all_nodes, last_direction, order_by, paths_of}
use Rattle.queries.specs.declared.raw.QueryFault.{QueryFault}
use Rattle.queries.specs.declared.raw.QueryFault.TheVariants.{BadQuery}
use Rattle.queries.specs.declared.raw.RawQuery.TheVariants.{Collection as Given}
use Rattle.queries.specs.declared.target.Target.{Target}
use Rattle.queries.specs.declared.target.Target.TheVariants.{Document, Collection}
use Rattle.queries.specs.Queried.{IsSameLimit, IsTargetOf, IsQueryOf, HasQueryFault}
use Rattle.queries.specs.Rules.{BadCursor, BadLimit, Breaks, HasBadNegations}
use Rattle.queries.proofs.Lawful.{whole_law}
use Rattle.queries.proofs.Whole.{name_is_among}
use Rattle.target_codec.specs.Checked.{IsReadAgain, HasOrders}
use Rattle.target_codec.specs.Spelling.{IsOfCheckedQuery}

no_member : (path : List (List ℕ)) → Contains [] path → ⊥
no_member path there = let none = there.1 in omega arith

paths_append : (os ps : List Order) → paths_of (os ++ ps) ≡ paths_of os ++ paths_of ps
paths_append [] ps = refl
paths_append (o ∷ os) ps = ap (λ l. o.path ∷ l) (paths_append os ps)

paths_ordered : (descending : _) (paths : List (List (List ℕ))) → paths_of (map (order_by descending) paths) ≡ paths
paths_ordered descending [] = refl
paths_ordered descending (path ∷ paths) = ap (λ l. path ∷ l) (paths_ordered descending paths)

-- the whole list of orders is whole by itself
module _ (explicit : List Order) (filter : Option FilterData) (os : List Order) (whole : AreWhole explicit filter os) where
  abbrev added : List Order
  added = map (order_by (last_direction explicit)) whole.added

  paths : paths_of os ≡ paths_of explicit ++ (whole.added ++ paths_of whole.last)
  paths = ap paths_of whole.are ∙ paths_append explicit (added ++ whole.last) ∙ ap (λ l. paths_of explicit ++ l) (paths_append added whole.last ∙ ap (λ l. l ++ paths_of whole.last) (paths_ordered (last_direction explicit) whole.added))

  behind : (path : List (List ℕ)) → Contains (paths_of explicit) path → Contains (paths_of os) path
  behind path there = subst (λ ps. Contains ps path) (sym paths) (Contains-append_left (paths_of explicit) (whole.added ++ paths_of whole.last) path there)

  among : (path : List (List ℕ)) → Contains whole.added path → Contains (paths_of os) path
  among path there = subst (λ ps. Contains ps path) (sym paths) (Contains-append_right (paths_of explicit) (whole.added ++ paths_of whole.last) path (Contains-append_left whole.added (paths_of whole.last) path there))

  no_more : (path : List (List ℕ)) → IsImplied os (all_nodes filter) path → ⊥
  no_more path implied = implied.unnamed (among path ((whole.members path).1 (record {
    filter = implied.filter;
    there = implied.there;
    compares = implied.compares;
    field = implied.field;
    other = implied.other;
    unnamed = λ there. implied.unnamed (behind path there);
  })))

  pub still_whole : AreWhole os filter os
  still_whole = record {
    added = [];
    ascending = λ i j d before inside. absurd (omega (arith, inside));
    members = λ path. (λ there. absurd (no_member path there), λ implied. absurd (no_more path implied));
    last = [];
    named = λ there. refl;
    unnamed = λ other. absurd (other (name_is_among explicit filter os whole));
    are = sym (append-nil os);
  }

-- ---- a query that breaks no rule, by what the rules look at

bad_cursor : (os ps : List Order) (c d : Option Cursor) → os ≡ ps → c ≡ d → BadCursor os c → BadCursor ps d
bad_cursor os ps c d same_orders same_cursor bad = subst (λ x. BadCursor ps x) same_cursor (subst (λ x. BadCursor x c) same_orders bad)

-- the same whole orders, filter, cursors and limit break the same rules
same_breaks : (raw other : RawCollection) (orders : List Order) → length raw.from ≡ 1 → length other.from ≡ 1 → other.filter ≡ raw.filter → AreWhole raw.orders raw.filter orders → AreWhole other.orders raw.filter orders
    → other.start_at ≡ raw.start_at → other.end_at ≡ raw.end_at → other.limit ≡ raw.limit → (broken : QueryRule) → Breaks broken other → Breaks broken raw
same_breaks raw other orders one_raw one_other filter whole_raw whole_other start stop limit rule.OneCollection breaks = absurd (breaks one_other)
same_breaks raw other orders one_raw one_other filter whole_raw whole_other start stop limit rule.Negations breaks = subst HasBadNegations filter breaks
same_breaks raw other orders one_raw one_other filter whole_raw whole_other start stop limit rule.Lists breaks = rw (sym filter) breaks
same_breaks raw other orders one_raw one_other filter whole_raw whole_other start stop limit rule.Cursors breaks =
    let same = whole_law other.orders raw.filter breaks.orders orders (subst (λ f. AreWhole other.orders f breaks.orders) filter breaks.whole) whole_other in
    record {
      orders = orders;
      whole = whole_raw;
      bad = elim breaks.bad [ inl bad ↦ inl (bad_cursor breaks.orders orders other.start_at raw.start_at same start bad) | inr bad ↦ inr (bad_cursor breaks.orders orders other.end_at raw.end_at same stop bad) ];
    }
same_breaks raw other orders one_raw one_other filter whole_raw whole_other start stop limit rule.Limit breaks = subst BadLimit limit breaks
same_breaks raw other orders one_raw one_other filter whole_raw whole_other start stop limit rule.ArrayFilters breaks = rw (sym filter) breaks

one_limit : (a b : Option ℤ) (n : Option ℕ) → IsSameLimit a n → IsSameLimit b n → a ≡ b
one_limit None None n first second = refl
one_limit None (Some b) n first second = absurd (none_some b n first second)
  where
    none_some : (b : ℤ) (n : Option ℕ) → n ≡ None → IsSameLimit (Some b) n → ⊥
    none_some b None e same = same
    none_some b (Some m) e same = none-some m (sym e)
one_limit (Some a) None n first second = absurd (some_none a n first second)
  where
    some_none : (a : ℤ) (n : Option ℕ) → IsSameLimit (Some a) n → n ≡ None → ⊥
    some_none a None same e = same
    some_none a (Some m) same e = none-some m (sym e)
one_limit (Some a) (Some b) None first second = absurd first
one_limit (Some a) (Some b) (Some m) first second = ap Some (first ∙ sym second)

-- ---- what the query is that is read again

module _ (t : CollectionTarget) (raw : RawCollection) (again : IsReadAgain t raw) where
  -- a checked query has whole orders, so the same ones are whole again
  module _ (own : IsOfCheckedQuery t) where
    whole_again : AreWhole raw.orders raw.filter t.orders
    whole_again = rw (again.orders, again.filter) (still_whole own.0.orders t.filter t.orders (subst (λ f. AreWhole own.0.orders f t.orders) (sym own.1.filter) own.1.orders))

    pub breaks_none : (broken : QueryRule) → Breaks broken raw → ⊥
    breaks_none broken breaks = own.1.sound broken (same_breaks own.0 raw t.orders (ap length own.1.from) again.from (again.filter ∙ own.1.filter) own.1.orders
        (subst (λ f. AreWhole raw.orders f t.orders) (again.filter ∙ own.1.filter) whole_again) (again.start_at ∙ own.1.start_at) (again.end_at ∙ own.1.end_at) (one_limit raw.limit own.0.limit t.limit again.limit own.1.limit) broken breaks)

    pub same_orders : (q : CollectionTarget) → IsTargetOf raw q → length q.orders ≡ length t.orders
    same_orders q is = ap length (whole_law raw.orders raw.filter q.orders t.orders is.orders whole_again)

  shorter : (os more : List Order) → length (os ++ more) ≡ length os → more ≡ []
  shorter os [] same = refl
  shorter os (o ∷ more) same = absurd (omega (arith, same, length-append os (o ∷ more)))

  kept : (q : CollectionTarget) → IsTargetOf raw q → length q.orders ≡ length t.orders → q.orders ≡ raw.orders
  kept q is same =
      let more = map (order_by (last_direction raw.orders)) is.orders.added ++ is.orders.last in
      let none : more ≡ [] = shorter raw.orders more (sym (ap length is.orders.are) ∙ same ∙ sym (ap length again.orders)) in
      is.orders.are ∙ ap (λ l. raw.orders ++ l) none ∙ append-nil raw.orders

  -- the query with the document above its collection
  pub own_query : (q : CollectionTarget) → IsTargetOf raw q → IsCollection t.collection → length q.orders ≡ length t.orders → IsOfCheckedQuery t
  own_query q is sound same = (
    given,
    record {
      sound = λ broken breaks. is.sound broken (same_breaks raw given t.orders again.from refl (sym again.filter) whole (subst (λ f. AreWhole t.orders f t.orders) (sym again.filter) ordered) (sym again.start_at) (sym again.end_at) refl broken breaks);
      id = id;
      from = refl;
      collection = last_split t.collection (length t.collection) refl (omega (arith, sound.odd));
      filter = refl;
      orders = ordered;
      start_at = refl;
      end_at = refl;
      limit = again.limit;
    },
  )
    where
      front : List (List ℕ)
      front = take (length t.collection - 1) t.collection

      id : List ℕ
      id = get_or t.collection (length t.collection - 1) []

      given : RawCollection
      given = record { parent = Some front; from = id ∷ []; filter = t.filter; orders = t.orders; start_at = t.start_at; end_at = t.end_at; limit = raw.limit }

      whole : AreWhole raw.orders raw.filter t.orders
      whole = subst (λ os. AreWhole raw.orders raw.filter os) (kept q is same ∙ again.orders) is.orders

      ordered : AreWhole t.orders t.filter t.orders
      ordered = subst (λ f. AreWhole t.orders f t.orders) again.filter (subst (λ os. AreWhole os raw.filter t.orders) again.orders whole)

-- what the check of the query that is read again tells
pub told : (t : CollectionTarget) (raw : RawCollection) → IsReadAgain t raw → IsCollection t.collection → (query : Target) (count : ℕ) (answer : Bool) → IsQueryOf (Given raw) query → count ≡ length t.orders → IsTrue answer ↔ HasOrders query count → IsTrue answer ↔ IsOfCheckedQuery t
told t raw again sound (Document key) count answer is same iff = absurd is
told t raw again sound (Collection q) count answer is same iff = (λ yes. own_query t raw again q is sound (iff.0 yes ∙ same), λ own. iff.1 (same_orders t raw again own q is ∙ sym same))

pub refused : (t : CollectionTarget) (raw : RawCollection) → IsReadAgain t raw → (fault : QueryFault) (broken : QueryRule) → HasQueryFault (Given raw) fault → fault ≡ BadQuery broken → IsOfCheckedQuery t → ⊥
refused t raw again fault broken has is own = breaks_none t raw again own broken (subst (HasQueryFault (Given raw)) is has).breaks
