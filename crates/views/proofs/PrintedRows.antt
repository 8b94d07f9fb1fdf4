-- rows that have what is printed of the documents of keys
use Rattle.std.proofs.Common.{◌≡◌, ◌∙◌, ◌+◌, ◌<◌, ◌↔◌, ℕ, Bool, IsTrue, List, [], ◌∷◌, ◌++◌, length, get_or, take, Some, None, option_map, refl, sym, ap, subst, arith}
use Rattle.std.specs.FinMap as map
use Rattle.std.proofs.lemmas.List.{get_or-map, take_more, map-append}
use Rattle.std.proofs.lemmas.List.Elements.{All-push}
use Rattle.value_model.specs.Documents.{DocumentMap, Stored}
use Rattle.views.specs.Printed.{printed}
use Rattle.views.specs.Row.{Row, IsPrinted, Prints, PrintsAt}

module _ (documents : DocumentMap) where
  -- what the store lends of a row's key tells whether the row is printed so
  pub printed_some : (r : Row) (stored : Stored) (told : Bool) → Some stored ≡ map.get documents r.key → IsTrue told ↔ (r.document ≡ printed stored) → IsTrue told ↔ IsPrinted documents r
  printed_some r stored told there is =
      let found : Some (printed stored) ≡ option_map printed (map.get documents r.key) = ap (option_map printed) there in
      (λ yes. sym found ∙ ap Some (sym (is.0 yes)), λ same. let one : Some (printed stored) ≡ Some r.document = found ∙ same in is.1 cc)

  pub printed_none : (r : Row) → None ≡ map.get documents r.key → IsPrinted documents r → ⊥
  printed_none r there same = let none : None ≡ Some r.document = ap (option_map printed) there ∙ same in cc

  pub none_print : (keys : List (List (List ℕ))) (rows : List Row) → keys ≡ [] → rows ≡ [] → Prints documents keys rows
  none_print keys rows e f = subst (λ ks. Prints documents ks rows) (sym e) (subst (Prints documents []) (sym f) (record { keys = refl; each_printed = λ k d inside. absurd (omega arith) }))

  module _ (keys : List (List (List ℕ))) (i : ℕ) (key : List (List ℕ)) (inside : i < length keys) (at : key ≡ get_or keys i key) where
    -- a row more at the end
    pub prints_push : (rows : List Row) (r : Row) → Prints documents (take i keys) rows → PrintsAt documents key r → Prints documents (take (i + 1) keys) (rows ++ r ∷ [])
    prints_push rows r so_far is = record {
      keys = map-append (λ (x : Row). x.key) rows (r ∷ []) ∙ (λ k. so_far.keys k ++ (is.0 ∙ at) k ∷ []) ∙ sym (take_more keys i key inside);
      each_printed = All-push (IsPrinted documents) rows r so_far.each_printed is.1;
    }

    -- a row more of some rows
    pub prints_next : (rows : List Row) (r : Row) → i < length rows → r ≡ get_or rows i r → Prints documents (take i keys) (take i rows) → PrintsAt documents key r → Prints documents (take (i + 1) keys) (take (i + 1) rows)
    prints_next rows r within there so_far is =
        subst (Prints documents (take (i + 1) keys)) (ap (λ x. take i rows ++ x ∷ []) there ∙ sym (take_more rows i r within)) (prints_push (take i rows) r so_far is)

    -- the rows print the keys only if each does
    pub prints_there : (rows : List Row) (r : Row) → i < length rows → r ≡ get_or rows i r → Prints documents keys rows → PrintsAt documents key r
    prints_there rows r within there prints = (
      ap (λ (x : Row). x.key) there ∙ sym (get_or-map (λ (x : Row). x.key) rows i r key within) ∙ ap (λ ks. get_or ks i key) prints.keys ∙ sym at,
      subst (IsPrinted documents) (sym there) (prints.each_printed i r within),
    )
