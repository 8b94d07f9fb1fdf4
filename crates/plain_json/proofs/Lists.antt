-- Lists that are built item by item, and the arrays that hold them.
use Rattle.std.proofs.Common.{◌≡◌, ℕ, suc, ◌+◌, ◌-◌, ◌*◌, ◌<◌, ◌≤◌, ◌^◌, Vec, Global, option_map, List, [], ◌∷◌, ◌++◌, length, take, get_or, Some, codes, false, refl, sym, ap, subst, ◌∙◌, arith}
use Rattle.std.proofs.lemmas.List.{take_more}
use Rattle.std.proofs.lemmas.List.Elements.{All-nil, All-cons, All-append}
use Rattle.std.specs.List.{All}
use Rattle.std.proofs.Math.Seq.{take-length}
use Rattle.json.specs.Json as text
use Rattle.json.specs.Tree.{json_tokens, items_tokens}
use Rattle.json.specs.Value.{value_view, items_view}
use Rattle.json.specs.declared.value.Value.{Value}
use Rattle.json.proofs.Trees.{item_smaller}
use Rattle.serde_json.specs.Data as json
use Rattle.serde_json.specs.Read.{of_json, of_items}
use Rattle.value_model.specs.Data.{Data, items_of, array_of}
use Rattle.value_model.specs.Storable.{IsStorable, AreStorableItems}
use Rattle.json_model.specs.declared.place.Object.TheVariants as object
use Rattle.json_model.specs.declared.place.Place.TheVariants as place
use Rattle.json_model.specs.declared.place.Series.{Series}
use Rattle.json_model.specs.declared.place.Series.TheVariants as series
use Rattle.json_model.specs.Fits.{Fits, ItemsFit}
use Rattle.json_model.specs.Forms.{Each, no_more, one_more, SpellsEach}
use Rattle.json_model.specs.Grammar.{SpellsValue, SpellsKind, SpellsList, a_list, SpellsItems, no_item, an_item}
use Rattle.json_model.specs.Members.{lacks_only}
use Rattle.json_model.specs.Origin.{Origin}
use Rattle.json_model.specs.Places.{item_place}
use Rattle.json_model.proofs.ReadAscending.{chained, mapped}
use Rattle.json_model.proofs.Stored.{items_push, array_stored}
use Rattle.plain_json.specs.Trees.{HoldsOnly, StandsFor, IsBuiltOf}
use Rattle.plain_json.proofs.Formed.{list_fits, array_fits, array_kind}
use Rattle.plain_json.proofs.Members.{only}

-- the items with one behind them
abbrev pushed : json.Items → json.Data → json.Items
pushed json.no_items d = json.item d json.no_items
pushed (json.item e ds) d = json.item e (pushed ds d)

pub seen_push : {A : Type 0} (trees : List (Value A)) (one : Value A) (ds : json.Items) (d : json.Data) → of_items (items_view trees) ≡ Some ds → of_json (value_view one) ≡ Some d → of_items (items_view (trees ++ one ∷ [])) ≡ Some (pushed ds d)
seen_push [] one ds d all is = let e : json.no_items ≡ ds = cc in rw is (ap (λ l. Some (pushed l d)) e)
seen_push (t ∷ trees) one ds d all is =
    let first = chained (λ x. option_map (json.item x) (of_items (items_view trees))) (of_json (value_view t)) ds all in
    let rest = mapped (json.item first.0) (of_items (items_view trees)) ds first.2 in
    rw (first.1, seen_push trees one rest.0 d rest.1 is) (ap (λ l. Some (pushed l d)) rest.2)

fit_push : (o : Origin) (limit : ℕ) (kind : Series) (ds : json.Items) (d : json.Data) → ItemsFit o limit kind ds → Fits o limit (item_place kind) d → ItemsFit o limit kind (pushed ds d)
unfolding Fits
fit_push o limit kind json.no_items d all fits = (fits, tt)
fit_push o limit kind (json.item e ds) d all fits = (all.0, fit_push o limit kind ds d all.1 fits)

pub values_push : (ds : json.Items) (vs : List Data) (d : json.Data) (v : Data) → SpellsItems ds vs → SpellsValue d v → SpellsItems (pushed ds d) (vs ++ v ∷ [])
values_push _ _ d v no_item is = an_item is no_item
values_push _ _ d v (an_item {items = ds} {vs = vs} first rest) is = an_item first (values_push ds vs d v rest is)

pub each_push : {X : Type 0} (Spells : json.Data → X → Type 0) (ds : json.Items) (xs : List X) (d : json.Data) (x : X) → Each Spells ds xs → Spells d x → Each Spells (pushed ds d) (xs ++ x ∷ [])
each_push Spells _ _ d x no_more is = one_more is no_more
each_push Spells _ _ d x (one_more {ds = ds} {xs = xs} first rest) is = one_more first (each_push Spells ds xs d x rest is)

-- what is read of a list so far
pub record SoFar {X : Type 0} {A : Type 0} (o : Origin) (limit : ℕ) (kind : Series) (Listed : json.Items → List X → Type 0) (Stored : List X → Type 0) (trees : List (Value A)) (xs : List X) : Type 0 where
  pub seen : json.Items
  pub is : of_items (items_view trees) ≡ Some seen
  pub fit : ItemsFit o limit kind seen
  pub listed : Listed seen xs
  pub stored : Stored xs

pub next : {X A : Type 0} (o : Origin) (limit : ℕ) (kind : Series) (Listed : json.Items → List X → Type 0) (Stored : List X → Type 0) (Spells : json.Data → X → Type 0) (Kept : X → Type 0)
    → ((ds : json.Items) (xs : List X) (d : json.Data) (x : X) → Listed ds xs → Spells d x → Listed (pushed ds d) (xs ++ x ∷ []))
    → ((xs : List X) (x : X) → Stored xs → Kept x → Stored (xs ++ x ∷ []))
    → (trees : List (Value A)) (i : ℕ) (one : Value A) (old new : List X) (x : X) → i < length trees → one ≡ get_or trees i one → SoFar o limit kind Listed Stored (take i trees) old
    → StandsFor (value_view one) (IsBuiltOf o limit (item_place kind) Spells Kept x) → new ≡ old ++ x ∷ [] → SoFar o limit kind Listed Stored (take (i + 1) trees) new
next {X} {A} o limit kind Listed Stored Spells Kept list store trees i one old new x below is so_far stands pushed_is =
    let whole : SoFar o limit kind Listed Stored (take i trees ++ one ∷ []) (old ++ x ∷ []) = record {
      seen = pushed so_far.seen stands.seen;
      is = seen_push (take i trees) one so_far.seen stands.seen so_far.is stands.is;
      fit = fit_push o limit kind so_far.seen stands.seen so_far.fit stands.holds.fits;
      listed = list so_far.seen old stands.seen x so_far.listed stands.holds.spelled;
      stored = store old x so_far.stored stands.holds.stored;
    } in
    let taken : take (i + 1) trees ≡ take i trees ++ one ∷ [] = take_more trees i one below ∙ ap (λ t. take i trees ++ t ∷ []) (sym is) in
    subst (λ (ts : List (Value A)). SoFar o limit kind Listed Stored ts new) (sym taken) (subst (SoFar o limit kind Listed Stored (take i trees ++ one ∷ [])) (sym pushed_is) whole)

pub whole : {A : Type 0} (trees : List A) (i : ℕ) → length trees ≤ i → i ≤ length trees → take i trees ≡ trees
whole trees i below above = let e : i ≡ length trees = omega arith in ap (λ n. take n trees) e ∙ take-length trees

pub listed : {X A : Type 0} (o : Origin) (limit : ℕ) (kind : Series) (Listed : json.Items → List X → Type 0) (Stored : List X → Type 0) (Spells : json.Data → List X → Type 0)
    → ((ds : json.Items) → lacks_only kind ds ≡ false) → ((ds : json.Items) (xs : List X) → Listed ds xs → Spells (json.array ds) xs)
    → (tree : text.Json) (trees : List (Value A)) (xs : List X) → tree ≡ text.array (items_view trees) → SoFar o limit kind Listed Stored trees xs → StandsFor tree (IsBuiltOf o limit (place.Series kind) Spells Stored xs)
listed o limit kind Listed Stored Spells enough spell tree trees xs is all = record {
  seen = json.array all.seen;
  is = rw (is, all.is) refl;
  holds = record { fits = list_fits o limit kind (json.array all.seen) all.seen (enough all.seen) refl all.fit; spelled = spell all.seen xs all.listed; stored = all.stored };
}

-- ---- lists of which each item has its form wherever it stands

-- what is read of such a list so far
pub record EachSoFar {X : Type 0} {A : Type 0} (Spells : json.Data → X → Type 0) (Kept : X → Type 0) (trees : List (Value A)) (xs : List X) : Type 0 where
  pub seen : json.Items
  pub is : of_items (items_view trees) ≡ Some seen
  pub each : Each Spells seen xs
  pub stored : All Kept xs

pub none_each : {X A : Type 0} (Spells : json.Data → X → Type 0) (Kept : X → Type 0) (xs : List X) → xs ≡ [] → EachSoFar {A = A} Spells Kept [] xs
none_each {X} {A} Spells Kept xs none = subst (EachSoFar {A = A} Spells Kept []) (sym none) (record { seen = json.no_items; is = refl; each = no_more; stored = All-nil Kept })

pub more_each : {X A : Type 0} (Spells : json.Data → X → Type 0) (Kept : X → Type 0) (trees : List (Value A)) (i : ℕ) (one : Value A) (old new : List X) (x : X) → i < length trees → one ≡ get_or trees i one
    → EachSoFar Spells Kept (take i trees) old → StandsFor (value_view one) (λ d. Spells d x) → Kept x → new ≡ old ++ x ∷ [] → EachSoFar Spells Kept (take (i + 1) trees) new
more_each {X} {A} Spells Kept trees i one old new x below is so_far stands kept pushed_is =
    let whole : EachSoFar Spells Kept (take i trees ++ one ∷ []) (old ++ x ∷ []) = record {
      seen = pushed so_far.seen stands.seen;
      is = seen_push (take i trees) one so_far.seen stands.seen so_far.is stands.is;
      each = each_push Spells so_far.seen old stands.seen x so_far.each stands.holds;
      stored = All-append Kept old (x ∷ []) so_far.stored (All-cons Kept x [] kept (All-nil Kept));
    } in
    let taken : take (i + 1) trees ≡ take i trees ++ one ∷ [] = take_more trees i one below ∙ ap (λ t. take i trees ++ t ∷ []) (sym is) in
    subst (λ (ts : List (Value A)). EachSoFar Spells Kept ts new) (sym taken) (subst (EachSoFar Spells Kept (take i trees ++ one ∷ [])) (sym pushed_is) whole)

pub all_each : {X A : Type 0} (Spells : json.Data → X → Type 0) (Kept : X → Type 0) (tree : text.Json) (all trees : List (Value A)) (i : ℕ) (xs : List X) → tree ≡ text.array (items_view all) → trees ≡ all → length trees ≤ i → i ≤ length trees
    → EachSoFar Spells Kept (take i trees) xs → StandsFor tree (λ d. SpellsEach Spells (Some d) xs)
all_each {X} {A} Spells Kept tree all trees i xs is same below above so_far =
    let done : EachSoFar Spells Kept all xs = subst (λ (ts : List (Value A)). EachSoFar Spells Kept ts xs) (whole trees i below above ∙ same) so_far in
    record { seen = json.array done.seen; is = rw (is, done.is) refl; holds = (done.seen, refl, done.each) }

-- ---- values

abbrev pub ValuesSoFar : {A : Type 0} → Origin → ℕ → List (Value A) → List Data → Type 0
ValuesSoFar o limit trees vs = SoFar o limit series.Values SpellsItems (λ those. AreStorableItems (items_of those)) trees vs

pub no_values : {A : Type 0} (o : Origin) (limit : ℕ) (vs : List Data) → vs ≡ [] → ValuesSoFar {A = A} o limit [] vs
unfolding Fits
no_values {A} o limit vs none = subst (ValuesSoFar {A = A} o limit []) (sym none) (record { seen = json.no_items; is = refl; fit = tt; listed = no_item; stored = tt })

pub more_values : {A : Type 0} (o : Origin) (limit : ℕ) (trees : List (Value A)) (i : ℕ) (one : Value A) (old new : List Data) (v : Data) → i < length trees → one ≡ get_or trees i one → ValuesSoFar o limit (take i trees) old
    → StandsFor (value_view one) (IsBuiltOf o limit (place.Object object.Value) SpellsValue IsStorable v) → new ≡ old ++ v ∷ [] → ValuesSoFar o limit (take (i + 1) trees) new
more_values o limit = next o limit series.Values SpellsItems (λ those. AreStorableItems (items_of those)) SpellsValue IsStorable values_push items_push

pub all_values : {A : Type 0} (o : Origin) (limit : ℕ) (tree : text.Json) (all trees : List (Value A)) (i : ℕ) (vs : List Data) → tree ≡ text.array (items_view all) → trees ≡ all → length trees ≤ i → i ≤ length trees → ValuesSoFar o limit (take i trees) vs
    → StandsFor tree (IsBuiltOf o limit (place.Series series.Values) (λ d. SpellsList (Some d)) (λ those. AreStorableItems (items_of those)) vs)
all_values {A} o limit tree all trees i vs is same below above so_far =
    listed o limit series.Values SpellsItems (λ those. AreStorableItems (items_of those)) (λ d. SpellsList (Some d)) (λ ds. refl) (λ ds those spelled. a_list ds (json.array ds) refl spelled) tree all vs is
    (subst (λ (ts : List (Value A)). ValuesSoFar o limit ts vs) (whole trees i below above ∙ same) so_far)

-- an item of a list has so many fewer tokens that three steps to it fall
pub within : {A : Type 0} (tree : text.Json) (all trees : List (Value A)) (i : ℕ) (one : Value A) → tree ≡ text.array (items_view all) → trees ≡ all → i < length trees → one ≡ get_or trees i one
    → 4 * length (json_tokens (value_view one)) + 3 < 4 * length (json_tokens tree)
within {A} tree all trees i one is same below one_is =
    let small : length (json_tokens (value_view one)) < length (items_tokens (items_view trees)) = subst (λ (v : Value A). length (json_tokens (value_view v)) < length (items_tokens (items_view trees))) (sym one_is) (item_smaller trees i one below) in
    let size : length (json_tokens tree) ≡ suc (length (items_tokens (items_view trees))) = ap (λ t. length (json_tokens t)) (is ∙ ap (λ vs. text.array (items_view vs)) (sym same)) in
    omega arith

pub array : (o : Origin) (limit : ℕ) (tree list : text.Json) (vs : Vec Data Global) (v : Data) → HoldsOnly tree (codes "values") list → 0 < limit
    → StandsFor list (IsBuiltOf o (limit - 1) (place.Series series.Values) (λ d. SpellsList (Some d)) (λ those. AreStorableItems (items_of those)) vs.items) → v ≡ array_of vs.items → length vs.items < 2 ^ 64
    → StandsFor tree (IsBuiltOf o limit (place.Object object.Array) (SpellsKind (place.Object object.Array)) IsStorable v)
array o limit tree list vs v held room inside is count =
    let all = only tree list (codes "values") inside.seen held inside.is in
    record {
      seen = all.seen;
      is = all.is;
      holds = record {
        fits = array_fits o limit inside.seen all.seen all.holds room inside.holds.fits;
        spelled = array_kind inside.seen all.seen vs.items v all.holds inside.holds.spelled is;
        stored = array_stored vs v is inside.holds.stored count;
      };
    }
