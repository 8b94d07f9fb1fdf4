-- Lists, printed item by item.
use Rattle.std.proofs.Common.{◌≡◌, ℕ, ◌+◌, ◌<◌, List, [], ◌∷◌, ◌++◌, length, take, get_or, refl, sym, ap, ◌∙◌}
use Rattle.std.proofs.lemmas.List.{take_more}
use Rattle.serde_json.specs.Data.{Data as Json, Items, no_items, item}
use Rattle.serde_json.specs.View.{view, items_view}
use Rattle.serde_json.specs.declared.value.Value.{Value}
use Rattle.json_model.specs.Forms.{printed_each}

abbrev last : Items → Json → Items
last no_items d = item d no_items
last (item e ds) d = item e (last ds d)

view_last : (trees : List Value) (tree : Value) → items_view (trees ++ tree ∷ []) ≡ last (items_view trees) (view tree)
view_last [] tree = refl
view_last (t ∷ trees) tree = ap (λ ds. item (view t) ds) (view_last trees tree)

printed_last : {X : Type 0} (print : X → Json) (xs : List X) (x : X) → printed_each print (xs ++ x ∷ []) ≡ last (printed_each print xs) (print x)
printed_last print [] x = refl
printed_last print (y ∷ xs) x = ap (λ ds. item (print y) ds) (printed_last print xs x)

-- one more is printed
pub printed_more : {X : Type 0} (print : X → Json) (old new : List Value) (tree : Value) (xs : List X) (i : ℕ) (x : X) → i < length xs → x ≡ get_or xs i x → new ≡ old ++ tree ∷ [] → view tree ≡ print x
    → items_view old ≡ printed_each print (take i xs) → items_view new ≡ printed_each print (take (i + 1) xs)
printed_more {X} print old new tree xs i x below is pushed one so_far =
    ap items_view pushed ∙ view_last old tree ∙ (λ j. last (so_far j) (one j)) ∙ sym (printed_last print (take i xs) x)
    ∙ ap (printed_each print) (sym (take_more xs i x below ∙ ap (λ (y : X). take i xs ++ y ∷ []) (sym is)))
