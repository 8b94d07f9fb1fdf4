-- Lists and objects by their forms: built item by item, spelled once, printed and read back.
use Rattle.std.proofs.Common.{◌≡◌, ℕ, ◌+◌, ◌<◌, ◌≤◌, List, [], ◌∷◌, ◌++◌, length, take, get_or, Option, Some, None, refl, sym, ap, subst, ◌∙◌}
use Rattle.std.specs.List.{All}
use Rattle.std.proofs.lemmas.List.Elements.{All-nil, All-cons, All-append}
use Rattle.serde_json.specs.Data.{Data as Json, Items, Members}
use Rattle.serde_json.specs.Find.{as_object, as_array}
use Rattle.serde_json.specs.View.{view, items_view}
use Rattle.serde_json.specs.declared.value.Value.{Value}
use Rattle.json_model.specs.declared.place.Object.{Object}
use Rattle.json_model.specs.Forms.{IsGiven, InObject, ByChoice, Each, no_more, one_more, SpellsEach}
use Rattle.json_model.specs.Members.{chosen}
use Rattle.json_model.proofs.Built.{items_at, whole_list}

-- ---- lists that are built

each_push : {X : Type 0} (Spells : Json → X → Type 0) (items : List Value) (one : Value) (xs : List X) (x : X) → Each Spells (items_view items) xs → Spells (view one) x → Each Spells (items_view (items ++ one ∷ [])) (xs ++ x ∷ [])
each_push Spells [] one _ x no_more is = one_more is no_more
each_push Spells (i ∷ items) one _ x (one_more {xs = ys} first rest) is = one_more first (each_push Spells items one ys x rest is)

-- the items spell these, of each of which the fact holds
pub record Spelled {X : Type 0} (Spells : Json → X → Type 0) (Fits : X → Type 0) (items : List Value) (xs : List X) : Type 0 where
  pub each : Each Spells (items_view items) xs
  pub fit : All Fits xs

pub none_spelled : {X : Type 0} (Spells : Json → X → Type 0) (Fits : X → Type 0) (xs : List X) → xs ≡ [] → Spelled Spells Fits [] xs
none_spelled {X} Spells Fits xs none = subst (Spelled Spells Fits []) (sym none) (record { each = no_more; fit = All-nil Fits })

pub more_spelled : {X : Type 0} (Spells : Json → X → Type 0) (Fits : X → Type 0) (items : List Value) (i : ℕ) (one : Value) (old new : List X) (x : X) → i < length items → one ≡ get_or items i one → Spelled Spells Fits (take i items) old → Spells (view one) x → Fits x → new ≡ old ++ x ∷ []
    → Spelled Spells Fits (take (i + 1) items) new
more_spelled {X} Spells Fits items i one old new x below is so_far spells fits pushed =
    subst (λ (l : List X). Spelled Spells Fits (take (i + 1) items) l) (sym pushed) (subst (λ (l : List Value). Spelled Spells Fits l (old ++ x ∷ [])) (sym (items_at items i one below is)) (record {
      each = each_push Spells (take i items) one old x so_far.each spells;
      fit = All-append Fits old (x ∷ []) so_far.fit (All-cons Fits x [] fits (All-nil Fits));
    }))

pub all_spelled : {X : Type 0} (Spells : Json → X → Type 0) (Fits : X → Type 0) (d : Json) (all items : List Value) (i : ℕ) (xs : List X) → as_array d ≡ Some (items_view all) → items ≡ all → length items ≤ i → i ≤ length items → Spelled Spells Fits (take i items) xs → SpellsEach Spells (Some d) xs
all_spelled {X} Spells Fits d all items i xs is same below above so_far = (items_view all, is, subst (λ (l : List Value). Each Spells (items_view l) xs) (whole_list items i below above ∙ same) so_far.each)

-- ---- what is spelled once

-- the fact is true of one at most
abbrev pub IsOnce : {X : Type 0} → (X → Type 0) → Type 0
IsOnce {X} Fact = (a b : X) → Fact a → Fact b → a ≡ b

some_one : {X : Type 0} (found : Option X) (a b : X) → found ≡ Some a → found ≡ Some b → a ≡ b
some_one found a b first second = let e = sym first ∙ second in cc

pub given_once : {X : Type 0} (found : Option Json) (Spells : Json → X → Type 0) → ((d : Json) → IsOnce (Spells d)) → IsOnce (λ x. IsGiven found (λ d. Spells d x))
given_once found Spells once a b first second = once second.tree a b (subst (λ d. Spells d a) (some_one found first.tree second.tree first.is second.is) first.spells) second.spells

pub object_once : {X : Type 0} (d : Json) (Spells : Members → X → Type 0) → ((ms : Members) → IsOnce (Spells ms)) → IsOnce (λ x. InObject d (λ ms. Spells ms x))
object_once d Spells once a b first second = once second.members a b (subst (λ ms. Spells ms a) (some_one (as_object d) first.members second.members first.is second.is) first.spells) second.spells

abbrev head_name : List (List ℕ × Json) → List ℕ
head_name [] = []
head_name (e ∷ es) = e.0

abbrev head_tree : Json → List (List ℕ × Json) → Json
head_tree d [] = d
head_tree d (e ∷ es) = e.1

pub choice_once : {X : Type 0} (kind : Object) (d : Json) (Spells : Members → List ℕ → Json → X → Type 0) → ((ms : Members) (name : List ℕ) (inner : Json) → IsOnce (Spells ms name inner)) → IsOnce (λ x. ByChoice kind d (λ ms name inner. Spells ms name inner x))
choice_once {X} kind d Spells once a b first second =
    let members = some_one (as_object d) first.members second.members first.is second.is in
    let only : (first.name, first.inner) ∷ [] ≡ (second.name, second.inner) ∷ [] = sym first.only ∙ ap (chosen kind) members ∙ second.only in
    let names : first.name ≡ second.name = ap head_name only in
    let trees : first.inner ≡ second.inner = ap (head_tree first.inner) only in
    once second.members second.name second.inner a b
    (subst (λ ms. Spells ms second.name second.inner a) members (subst (λ n. Spells first.members n second.inner a) names (subst (λ t. Spells first.members first.name t a) trees first.spells))) second.spells

each_once : {X : Type 0} (Spells : Json → X → Type 0) → ((d : Json) → IsOnce (Spells d)) → (ds : Items) → IsOnce (Each Spells ds)
each_once Spells once _ _ _ no_more no_more = refl
each_once Spells once _ _ _ (one_more {d = d} {ds = ds} {x = x} {xs = xs} first rest) (one_more {x = y} {xs = ys} second others) =
    let one = once d x y first second in
    let more = each_once Spells once ds xs ys rest others in
    λ i. one i ∷ more i

pub spells_each_once : {X : Type 0} (found : Option Json) (Spells : Json → X → Type 0) → ((d : Json) → IsOnce (Spells d)) → IsOnce (SpellsEach Spells found)
spells_each_once None Spells once a b first second = first ∙ sym second
spells_each_once (Some d) Spells once a b (ds, is, first) (es, at, second) = each_once Spells once es a b (subst (λ l. Each Spells l a) (some_one (as_array d) ds es is at) first) second
