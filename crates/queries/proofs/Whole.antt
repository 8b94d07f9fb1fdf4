-- the whole list of orders is determined
use Rattle.std.proofs.Common.{◌≡◌, ◌∙◌, ◌⊎◌, inl, inr, ℕ, zero, suc, Bool, true, false, nat_eq, ◌<◌, List, [], ◌∷◌, ◌++◌, length, get_or, map, Option, Some, None, refl, sym, subst, lit<, arith, ap}
use Rattle.std.specs.Cmp.Lexicographic.{pointwise_decides, bytes_decides, pointwise}
use Rattle.std.specs.Bool.{Decides}
use Rattle.std.proofs.lemmas.Bool.{cases_lt}
use Rattle.std.proofs.lemmas.List.Elements.{Contains-append_left, Contains-append_right}
use Rattle.queries.specs.declared.order.Cursor.{Cursor}
use Rattle.std.specs.List.{Contains}
use Rattle.document_keys.proofs.Order.{paths_compute}
use Rattle.document_keys.proofs.Sets.{alike}
use Rattle.queries.specs.declared.order.Order.{Order}
use Rattle.queries.specs.Filters.{FilterData}
use Rattle.queries.specs.Holding.{name_path}
use Rattle.queries.specs.declared.raw.QueryRule.{QueryRule}
use Rattle.queries.specs.declared.raw.QueryRule.TheVariants as rule
use Rattle.queries.specs.declared.raw.RawCollection.{RawCollection}
use Rattle.queries.specs.declared.rules.Mark.TheVariants as mark
use Rattle.queries.specs.Rules.{BadCursor, BadLimit, HasBadCursor, HasBadNegations, Breaks, IsSound, marked_count, number_of}
use Rattle.queries.specs.Rows.{FitsOrders}
use Rattle.queries.specs.Orders.{AreWhole, last_direction, order_by, paths_of}

-- a path is among others, or it isn't
is_among : (xs : List (List (List ℕ))) (x : List (List ℕ)) → Contains xs x ⊎ (Contains xs x → ⊥)
is_among [] x = inr (λ there. let none = there.1 in omega arith)
is_among (y ∷ xs) x =
    elim (same y x) [
      | inl e ↦ inl (0, omega arith, e)
      | inr other ↦ elim (is_among xs x) [
        | inl there ↦ inl (let inside = there.1 in (suc there.0, omega arith, there.2))
        | inr none ↦ inr (λ some. place some.0 some.1 some.2 other none)
      ]
    ]
  where
    same : (a b : List (List ℕ)) → (a ≡ b) ⊎ (a ≡ b → ⊥)
    same a b = decided (pointwise (pointwise nat_eq) a b) (pointwise_decides bytes_decides a b)
      where
        decided : (t : Bool) → Decides t (a ≡ b) → (a ≡ b) ⊎ (a ≡ b → ⊥)
        decided true d = inl (d.0 refl)
        decided false d = inr (λ e. let f = d.1 e in cc)

    place : (k : ℕ) → k < length (y ∷ xs) → get_or (y ∷ xs) k x ≡ x → (y ≡ x → ⊥) → (Contains xs x → ⊥) → ⊥
    place zero inside is other none = other is
    place (suc k) inside is other none = none (k, omega arith, is)

last_once : (explicit : List Order) (filter : Option FilterData) (os ps : List Order) (a : AreWhole explicit filter os) (b : AreWhole explicit filter ps) → a.last ≡ b.last
last_once explicit filter os ps a b =
    elim (is_among (paths_of explicit) name_path) [ inl there ↦ a.named there ∙ sym (b.named there) | inr other ↦ a.unnamed other ∙ sym (b.unnamed other) ]

pub whole_once : (explicit : List Order) (filter : Option FilterData) (os ps : List Order) → AreWhole explicit filter os → AreWhole explicit filter ps → os ≡ ps
whole_once explicit filter os ps a b =
    let added : a.added ≡ b.added = alike paths_compute a.added b.added a.ascending b.ascending (λ path. (λ there. (b.members path).1 ((a.members path).0 there), λ there. (a.members path).1 ((b.members path).0 there))) in
    a.are ∙ (λ i. explicit ++ (map (order_by (last_direction explicit)) (added i) ++ last_once explicit filter os ps a b i)) ∙ sym b.are

-- cursors that fit the whole list of orders
pub cursors_sound : (raw : RawCollection) (orders : List Order) → AreWhole raw.orders raw.filter orders → (BadCursor orders raw.start_at → ⊥) → (BadCursor orders raw.end_at → ⊥) → HasBadCursor raw → ⊥
cursors_sound raw orders whole start stop has =
    let same = whole_once raw.orders raw.filter has.orders orders has.whole whole in
    elim has.bad [ inl bad ↦ start (subst (λ os. BadCursor os raw.start_at) same bad) | inr bad ↦ stop (subst (λ os. BadCursor os raw.end_at) same bad) ]

-- the rules before the fifth and the sixth, and all of them
pub before_limit : (raw : RawCollection) → (length raw.from ≡ 1) → (HasBadNegations raw.filter → ⊥) → (marked_count mark.BadList raw.filter ≡ 0) → (HasBadCursor raw → ⊥) → (other : QueryRule) → number_of other < 5 → Breaks other raw → ⊥
before_limit raw one negations lists cursors rule.OneCollection less broken = broken one
before_limit raw one negations lists cursors rule.Negations less broken = negations broken
before_limit raw one negations lists cursors rule.Lists less broken = omega arith
before_limit raw one negations lists cursors rule.Cursors less broken = cursors broken
before_limit raw one negations lists cursors rule.Limit less broken = omega arith
before_limit raw one negations lists cursors rule.ArrayFilters less broken = omega arith

pub before_arrays : (raw : RawCollection) → ((other : QueryRule) → number_of other < 5 → Breaks other raw → ⊥) → (BadLimit raw.limit → ⊥) → (other : QueryRule) → number_of other < 6 → Breaks other raw → ⊥
before_arrays raw before limit rule.OneCollection less broken = before rule.OneCollection (lit< tt) broken
before_arrays raw before limit rule.Negations less broken = before rule.Negations (lit< tt) broken
before_arrays raw before limit rule.Lists less broken = before rule.Lists (lit< tt) broken
before_arrays raw before limit rule.Cursors less broken = before rule.Cursors (lit< tt) broken
before_arrays raw before limit rule.Limit less broken = limit broken
before_arrays raw before limit rule.ArrayFilters less broken = omega arith

pub sound_from : (raw : RawCollection) → ((other : QueryRule) → number_of other < 6 → Breaks other raw → ⊥) → (marked_count mark.RepeatedArrayFilter raw.filter ≡ 0) → IsSound raw
sound_from raw before arrays rule.OneCollection broken = before rule.OneCollection (lit< tt) broken
sound_from raw before arrays rule.Negations broken = before rule.Negations (lit< tt) broken
sound_from raw before arrays rule.Lists broken = before rule.Lists (lit< tt) broken
sound_from raw before arrays rule.Cursors broken = before rule.Cursors (lit< tt) broken
sound_from raw before arrays rule.Limit broken = before rule.Limit (lit< tt) broken
sound_from raw before arrays rule.ArrayFilters broken = omega arith

-- a cursor that isn't bad fits the orders
pub fits_from : (orders : List Order) (cursor : Option Cursor) → (BadCursor orders cursor → ⊥) → FitsOrders orders cursor
fits_from orders None good = tt
fits_from orders (Some c) good =
    elim (cases_lt (length orders) (length c.values)) [ inl more ↦ absurd (good (inr more)) | inr few ↦ omega arith ]

-- the name is among the whole list of orders
paths_append : (os ps : List Order) → paths_of (os ++ ps) ≡ paths_of os ++ paths_of ps
paths_append [] ps = refl
paths_append (o ∷ os) ps = ap (λ l. o.path ∷ l) (paths_append os ps)

pub name_is_among : (explicit : List Order) (filter : Option FilterData) (os : List Order) → AreWhole explicit filter os → Contains (paths_of os) name_path
name_is_among explicit filter os whole =
    let added = map (order_by (last_direction explicit)) whole.added in
    let are : paths_of os ≡ paths_of explicit ++ paths_of (added ++ whole.last) = ap paths_of whole.are ∙ paths_append explicit (added ++ whole.last) in
    subst (λ ps. Contains ps name_path) (sym are)
    (elim (is_among (paths_of explicit) name_path) [
      | inl there ↦ Contains-append_left (paths_of explicit) (paths_of (added ++ whole.last)) name_path there
      | inr other ↦
          let last : paths_of (added ++ whole.last) ≡ paths_of added ++ name_path ∷ [] = paths_append added whole.last ∙ ap (λ l. paths_of added ++ paths_of l) (whole.unnamed other) in
          Contains-append_right (paths_of explicit) (paths_of (added ++ whole.last)) name_path
          (subst (λ ps. Contains ps name_path) (sym last) (Contains-append_right (paths_of added) (name_path ∷ []) name_path (0, omega arith, refl)))
    ])
