-- the fields that filters imply
use Rattle.std.proofs.Common.{◌≡◌, ◌∙◌, ◌⊎◌, inl, inr, ℕ, zero, suc, ◌+◌, ◌<◌, Bool, true, false, List, [], ◌∷◌, ◌++◌, length, map, get_or, Option, Some, None, option_to_list, refl, sym, ap, subst, arith}
use Rattle.std.specs.List.{All, AllPairs, Contains, slice_get}
use Rattle.std.proofs.lemmas.List.Elements.{All-head, All-tail, Contains-append_cases, Contains-append_left, Contains-append_right}
use Rattle.document_keys.specs.KeySet.{Inserts}
use Rattle.document_keys.specs.Order.{PathBefore}
use Rattle.queries.specs.declared.filter.Junction.{Junction}
use Rattle.queries.specs.declared.order.Order.{Order}
use Rattle.queries.specs.Filters.{FilterData, composite, field, unary, composite_of, nodes, nodes_in, filters_of}
use Rattle.queries.specs.Holding.{name_path}
use Rattle.queries.specs.Orders.{is_inequality, path_of, paths_of, all_nodes, last_direction, order_by, IsImplied, IsNameOrder, Gathers, Implies, AreWhole}

pub last_at : (os : List Order) (i : ℕ) (o : Order) → length os ≡ i + 1 → slice_get os i ≡ Some o → last_direction os ≡ o.descending
last_at [] i o size is = absurd (omega arith)
last_at (p ∷ []) zero o size is = let e : p ≡ o = cc in ap (λ (x : Order). x.descending) e
last_at (p ∷ []) (suc i) o size is = absurd (omega arith)
last_at (p ∷ q ∷ os) zero o size is = absurd (omega arith)
last_at (p ∷ q ∷ os) (suc i) o size is = last_at (q ∷ os) i o (omega arith) is

module _ (explicit : List Order) where
  widened : (fs gs : List FilterData) (path : List (List ℕ)) → ((f : FilterData) → Contains fs f → Contains gs f) → IsImplied explicit fs path → IsImplied explicit gs path
  widened fs gs path within one = record { filter = one.filter; there = within one.filter one.there; compares = one.compares; field = one.field; other = one.other; unnamed = one.unnamed }

  split : (fs gs : List FilterData) (path : List (List ℕ)) → IsImplied explicit (fs ++ gs) path → IsImplied explicit fs path ⊎ IsImplied explicit gs path
  split fs gs path one =
      elim (Contains-append_cases fs gs one.filter one.there) [
        | inl first ↦ inl (record { filter = one.filter; there = first; compares = one.compares; field = one.field; other = one.other; unnamed = one.unnamed })
        | inr second ↦ inr (record { filter = one.filter; there = second; compares = one.compares; field = one.field; other = one.other; unnamed = one.unnamed })
      ]

  pub gathers_none : (xs : List (List (List ℕ))) → Gathers explicit [] xs xs
  gathers_none xs path = (λ there. inl there, λ some. elim some [ inl there ↦ there | inr one ↦ absurd (let below = one.there.1 in omega arith) ])

  pub gathers_then : (fs gs : List FilterData) (xs ys zs : List (List (List ℕ))) → Gathers explicit fs xs ys → Gathers explicit gs ys zs → Gathers explicit (fs ++ gs) xs zs
  gathers_then fs gs xs ys zs first second path = (
    λ there. elim ((second path).0 there) [
      | inl before ↦ elim ((first path).0 before) [ inl old ↦ inl old | inr one ↦ inr (widened fs (fs ++ gs) path (λ f. Contains-append_left fs gs f) one) ]
      | inr one ↦ inr (widened gs (fs ++ gs) path (λ f. Contains-append_right fs gs f) one)
    ],
    λ some. elim some [
      | inl old ↦ (second path).1 (inl ((first path).1 (inl old)))
      | inr one ↦ elim (split fs gs path one) [ inl here ↦ (second path).1 (inl ((first path).1 (inr here))) | inr there ↦ (second path).1 (inr there) ]
    ],
  )

  only : (f g : FilterData) → Contains (f ∷ []) g → g ≡ f
  only f g there = alone there.0 there.1 there.2
    where
      alone : (k : ℕ) → k < length (f ∷ []) → get_or (f ∷ []) k g ≡ g → g ≡ f
      alone zero below is = sym is
      alone (suc k) below is = absurd (omega arith)

  -- a filter that isn't composite implies its own field, or nothing
  pub gathers_leaf : (f : FilterData) (path : List (List ℕ)) (xs ys : List (List (List ℕ))) → is_inequality f ≡ true → path_of f ≡ path → Implies explicit path xs ys → Gathers explicit (f ∷ []) xs ys
  gathers_leaf f path xs ys compares of implied p = (
    λ there. elim ((implied p).0 there) [ inl old ↦ inl old | inr new ↦ inr (record { filter = f; there = (0, omega arith, refl); compares = compares; field = of ∙ sym new.0; other = new.1; unnamed = new.2 }) ],
    λ some. elim some [
      | inl old ↦ (implied p).1 (inl old)
      | inr one ↦ (implied p).1 (inr (sym one.field ∙ ap path_of (only f one.filter one.there) ∙ of, one.other, one.unnamed))
    ],
  )

  pub gathers_nothing : (f : FilterData) (xs : List (List (List ℕ))) → is_inequality f ≡ false → Gathers explicit (f ∷ []) xs xs
  gathers_nothing f xs plain path =
      (λ there. inl there, λ some. elim some [ inl there ↦ there | inr one ↦ absurd (let e = ap is_inequality (sym (only f one.filter one.there)) ∙ one.compares in cc (e, plain)) ])

  pub gathers_composite : (op : Junction) (fs : List FilterData) (xs ys : List (List (List ℕ))) → Gathers explicit (nodes_in (filters_of fs)) xs ys → Gathers explicit (nodes (composite_of op fs)) xs ys
  gathers_composite op fs xs ys inside = gathers_then (composite_of op fs ∷ []) (nodes_in (filters_of fs)) xs xs ys (gathers_nothing (composite_of op fs) xs refl) inside

  pub implies_from : (path : List (List ℕ)) (xs ys : List (List (List ℕ))) → (path ≡ name_path → ⊥) → (Contains (paths_of explicit) path → ⊥) → Inserts path xs ys → Implies explicit path xs ys
  implies_from path xs ys other unnamed inserts p = (
    λ there. elim ((inserts p).0 there) [ inl new ↦ inr (new, (λ e. other (sym new ∙ e)), (λ named. unnamed (subst (Contains (paths_of explicit)) new named))) | inr old ↦ inl old ],
    λ some. elim some [ inl old ↦ (inserts p).1 (inr old) | inr new ↦ (inserts p).1 (inl new.0) ],
  )

-- a filter that compares its field has none inside
pub leaf_nodes : (f : FilterData) → is_inequality f ≡ true → nodes f ≡ f ∷ []
leaf_nodes (composite op fs) compares = cc
leaf_nodes (field path op operand) compares = refl
leaf_nodes (unary path op) compares = refl

-- the orders that are by a path
pub path_in : (os : List Order) (i : ℕ) (d : Order) (path : List (List ℕ)) → i < length os → (get_or os i d).path ≡ path → Contains (paths_of os) path
path_in [] i d path below is = absurd (omega arith)
path_in (o ∷ os) zero d path below is = (0, omega arith, is)
path_in (o ∷ os) (suc i) d path below is = let rest = path_in os i d path (omega arith) is in (suc rest.0, omega (arith, rest.1), rest.2)

pub none_by : (os : List Order) (path : List (List ℕ)) → All (λ o. o.path ≡ path → ⊥) os → Contains (paths_of os) path → ⊥
none_by os path all there = apart os there.0 all there.1 there.2
  where
    apart : (os : List Order) (k : ℕ) → All (λ o. o.path ≡ path → ⊥) os → k < length (paths_of os) → get_or (paths_of os) k path ≡ path → ⊥
    apart [] k all below is = absurd (omega arith)
    apart (o ∷ os) zero all below is = All-head (λ o. o.path ≡ path → ⊥) o os all is
    apart (o ∷ os) (suc k) all below is = apart os k (All-tail (λ o. o.path ≡ path → ⊥) o os all) (omega arith) is

-- the whole orders, from the implied fields and the order by the name
pub whole_from : (explicit : List Order) (filter : Option FilterData) (orders : List Order) (added : List (List (List ℕ))) (descending : Bool) (last : Option Order) → Gathers explicit (all_nodes filter) [] added → AllPairs PathBefore added → IsNameOrder explicit descending last → descending ≡ last_direction explicit → orders ≡ explicit ++ (map (order_by descending) added ++ option_to_list last) → AreWhole explicit filter orders
whole_from explicit filter orders added descending None gathers ascending named direction are = record {
  added = added;
  ascending = ascending;
  members = λ path. (λ there. elim ((gathers path).0 there) [ inl before ↦ absurd (let below = before.1 in omega arith) | inr one ↦ one ], λ one. (gathers path).1 (inr one));
  last = [];
  named = λ there. refl;
  unnamed = λ other. absurd (other named);
  are = are ∙ ap (λ d. explicit ++ (map (order_by d) added ++ [])) direction;
}
whole_from explicit filter orders added descending (Some o) gathers ascending unnamed direction are = record {
  added = added;
  ascending = ascending;
  members = λ path. (λ there. elim ((gathers path).0 there) [ inl before ↦ absurd (let below = before.1 in omega arith) | inr one ↦ one ], λ one. (gathers path).1 (inr one));
  last = o ∷ [];
  named = λ there. absurd (unnamed.0 there);
  unnamed = λ other. ap (λ p. p ∷ []) (unnamed.1 ∙ ap (λ d. order_by d name_path) direction);
  are = are ∙ ap (λ d. explicit ++ (map (order_by d) added ++ o ∷ [])) direction;
}
