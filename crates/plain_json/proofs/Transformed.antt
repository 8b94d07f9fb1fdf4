-- Transforms, and the lists of them.
use Rattle.std.proofs.Common.{◌≡◌, ◌⊎◌, ℕ, ◌+◌, ◌-◌, ◌<◌, ◌≤◌, ◌^◌, List, [], ◌∷◌, ◌++◌, length, take, get_or, Bool, true, false, Some, Less, codes, refl, sym, ap, subst, inl, inr, ◌∙◌, arith}
use Rattle.std.proofs.lemmas.List.Elements.{All-nil, All-cons, All-append}
use Rattle.std.specs.Cmp.Lexicographic.{slice_cmp}
use Rattle.std.specs.List.{All}
use Rattle.std.specs.Ordering.{nat_cmp}
use Rattle.json.specs.Json as text
use Rattle.json.specs.Value.{value_view, items_view}
use Rattle.json.specs.declared.value.Value.{Value}
use Rattle.serde_json.specs.Data.{Data, Members, object as an_object, no_items, member, no_members}
use Rattle.serde_json.specs.Find.{as_object}
use Rattle.json_model.specs.declared.place.Leaf.TheVariants as leaf
use Rattle.json_model.specs.declared.place.Object.{Object}
use Rattle.json_model.specs.declared.place.Object.TheVariants as object
use Rattle.json_model.specs.declared.place.Place.TheVariants as place
use Rattle.json_model.specs.declared.place.Series.TheVariants as series
use Rattle.json_model.specs.Faults.{max_nesting, Takes, CountsPath, of_path}
use Rattle.json_model.specs.Fits.{Fits, MembersFit}
use Rattle.json_model.specs.Forms.{Each, no_more, SpellsEach}
use Rattle.json_model.specs.Grammar.{SpellsPathTree}
use Rattle.json_model.specs.Members.{is_null, given, chosen, refined, is_of_array}
use Rattle.json_model.specs.Origin.{Origin}
use Rattle.json_model.specs.Places.{member_place, is_choice, is_unknown, required, transform_rows}
use Rattle.json_model.specs.Storable.{IsStorablePath}
use Rattle.json_model.proofs.Fitting.{object_fits, fits_clean}
use Rattle.json_model.proofs.Sound.{not_out}
use Rattle.json_rpc.specs.Grammar.{SpellsChange, SpellsTransform}
use Rattle.json_rpc.specs.Storable.{AreAllStorable, IsStorableTransform}
use Rattle.json_rpc.proofs.Deep.{change_storable}
use Rattle.mutations.specs.declared.transform.Change.{Change}
use Rattle.mutations.specs.declared.transform.Change.TheVariants.{ServerTime, Increment, Maximum, Minimum, Append, RemoveAll}
use Rattle.mutations.specs.declared.transform.Transform.{Transform}
use Rattle.plain_json.specs.Changes.{IsChange, levels_of}
use Rattle.plain_json.specs.Trees.{HoldsBoth, StandsFor, IsBuiltOf}
use Rattle.plain_json.proofs.Members.{both}
use Rattle.plain_json.proofs.Lists.{SoFar, next, whole, listed, each_push}

-- ---- the two members of a transform

-- the name is one of a change
record IsNamed (name : List ℕ) : Type 0 where
  choice : is_choice object.Transform name ≡ true
  known : is_unknown (member_place object.Transform name) ≡ false

named : (name : List ℕ) (d : Data) (change : Change) → SpellsChange name d change → IsNamed name
unfolding transform_rows
named name d ServerTime is = subst IsNamed (sym is) (record { choice = refl; known = refl })
named name d (Increment number) is = subst IsNamed (sym is.0) (record { choice = refl; known = refl })
named name d (Maximum number) is = subst IsNamed (sym is.0) (record { choice = refl; known = refl })
named name d (Minimum number) is = subst IsNamed (sym is.0) (record { choice = refl; known = refl })
named name d (Append values) is = subst IsNamed (sym is.0) (record { choice = refl; known = refl })
named name d (RemoveAll values) is = subst IsNamed (sym is.0) (record { choice = refl; known = refl })

-- the path before the change, and behind it
abbrev before : Data → List ℕ → Data → Members
before p name d = member (codes "fieldPath") p (member name d no_members)

abbrev behind : Data → Data → Members
behind p d = member (codes "appendMissingElements") d (member (codes "fieldPath") p no_members)

-- members of which the one alternative and the path are these
record Shows (o : Origin) (ms : Members) (p : Data) (name : List ℕ) (d : Data) : Type 0 where
  only : chosen object.Transform ms ≡ (name, d) ∷ []
  at : given (codes "fieldPath") ms ≡ Some p
  fit : (limit : ℕ) → Fits o limit (place.Leaf leaf.Path) p → Fits o limit (member_place object.Transform name) d → MembersFit o limit object.Transform (required object.Transform) ms
  array_fit : (limit : ℕ) → Fits o limit (place.Leaf leaf.Path) p → Fits o limit (member_place object.Transform name) d → MembersFit o limit object.ArrayTransform (required object.ArrayTransform) ms

shown_before : (o : Origin) (p : Data) (name : List ℕ) (d : Data) → is_null p ≡ false → is_null d ≡ false → IsNamed name → Shows o (before p name d) p name d
unfolding Fits transform_rows
shown_before o p name d some_path some is =
    let kept = not_out (member_place object.Transform name) d some in
    record {
      only = rw (is.choice, kept) refl;
      at = rw some_path refl;
      fit = (λ limit path change. (rw some_path refl, inr (not_out (place.Leaf leaf.Path) p some_path, (tt, path)), (refl, inr (kept, (tt, change)), refl)));
      array_fit = (λ limit path change. (rw some_path refl, inr (not_out (place.Leaf leaf.Path) p some_path, (tt, path)), (refl, inr (kept, (tt, change)), refl)));
    }

shown_behind : (o : Origin) (p d : Data) → is_null p ≡ false → is_null d ≡ false → Shows o (behind p d) p (codes "appendMissingElements") d
unfolding Fits transform_rows
shown_behind o p d some_path some =
    let kept = not_out (place.Object object.Elements) d some in
    record {
      only = rw some refl;
      at = rw some_path refl;
      fit = (λ limit path change. (refl, inr (kept, (tt, change)), (rw some_path refl, inr (not_out (place.Leaf leaf.Path) p some_path, (tt, path)), refl)));
      array_fit = (λ limit path change. (refl, inr (kept, (tt, change)), (rw some_path refl, inr (not_out (place.Leaf leaf.Path) p some_path, (tt, path)), refl)));
    }

-- ---- a transform

path_fits : (o : Origin) (limit : ℕ) (p : Data) (path : List (List ℕ)) → SpellsPathTree p path → Fits o limit (place.Leaf leaf.Path) p
unfolding Fits
path_fits o limit p path spelled = subst (Fits o limit (place.Leaf leaf.Path)) (sym spelled.1.0) (spelled.0, (refl, (path, spelled.1.1)))

transform_fits : (o : Origin) (ms : Members) (p : Data) (name : List ℕ) (d : Data) (path : List (List ℕ)) → Shows o ms p name d → IsNamed name → SpellsPathTree p path → levels_of name (length path) ≤ max_nesting
    → Fits o (max_nesting - levels_of name (length path)) (member_place object.Transform name) d → Fits o max_nesting (place.Object object.Transform) (an_object ms)
transform_fits o ms p name d path shows is spelled = by (is_of_array name) refl
  where
    by : (array : Bool) → is_of_array name ≡ array → levels_of name (length path) ≤ max_nesting → Fits o (max_nesting - levels_of name (length path)) (member_place object.Transform name) d → Fits o max_nesting (place.Object object.Transform) (an_object ms)
    by true array room fits =
        let same : refined object.Transform ms ≡ object.ArrayTransform = rw (shows.only, array) refl in
        let levels : levels_of name (length path) ≡ length path = rw array refl in
        let counted : CountsPath (given (codes "fieldPath") ms) (length path) = of_path spelled.0 path (rw (shows.at, spelled.1.0) refl) spelled.1.1.spelled in
        object_fits o max_nesting object.Transform ms (length path) (rw (shows.only, is.known) refl) refl (subst (λ (kind : Object). Takes kind ms (length path)) (sym same) counted) (subst (λ n. n ≤ max_nesting) levels room)
        (subst (λ (kind : Object). MembersFit o (max_nesting - length path) kind (required kind) ms) (sym same)
        (shows.array_fit (max_nesting - length path) (path_fits o _ p path spelled) (subst (λ n. Fits o (max_nesting - n) (member_place object.Transform name) d) levels fits)))
    by false array room fits =
        let same : refined object.Transform ms ≡ object.Transform = rw (shows.only, array) refl in
        let levels : levels_of name (length path) ≡ 0 = rw array refl in
        object_fits o max_nesting object.Transform ms 0 (rw (shows.only, is.known) refl) refl (subst (λ (kind : Object). Takes kind ms 0) (sym same) refl) (omega arith)
        (subst (λ (kind : Object). MembersFit o (max_nesting - 0) kind (required kind) ms) (sym same)
        (shows.fit (max_nesting - 0) (path_fits o _ p path spelled) (subst (λ n. Fits o (max_nesting - n) (member_place object.Transform name) d) levels fits)))

abbrev IsTransform : Origin → Transform → Data → Type 0
IsTransform o transform = IsBuiltOf o max_nesting (place.Object object.Transform) SpellsTransform IsStorableTransform transform

built : (o : Origin) (ms : Members) (p : Data) (name : List ℕ) (inner d : Data) (transform : Transform) → d ≡ an_object ms → Shows o ms p name inner → SpellsPathTree p transform.path → IsStorablePath transform.path
    → IsChange o (length transform.path) name transform.change inner → IsTransform o transform d
built o ms p name inner d transform is shows path stored change =
    let fits = transform_fits o ms p name inner transform.path shows (named name inner transform.change change.spelled) path change.room change.fits in
    record {
      fits = subst (Fits o max_nesting (place.Object object.Transform)) (sym is) fits;
      spelled = record { members = ms; is = ap as_object is; name = name; inner = inner; only = shows.only; spells = record { path = record { tree = p; is = shows.at; spells = path }; change = change.spelled } };
      stored = record {
        path = stored;
        change = change_storable o ms name inner p transform.path transform.change (max_nesting, [], omega arith, fits_clean o max_nesting (place.Object object.Transform) [] (an_object ms) fits) (sym shows.at) path shows.only change.spelled change.stored;
      };
    }

-- the path comes first, but for one change
order : (name : List ℕ) (d : Data) (change : Change) → SpellsChange name d change → (slice_cmp nat_cmp (codes "fieldPath") name ≡ Less) ⊎ (name ≡ codes "appendMissingElements")
order name d ServerTime is = inl (rw is refl)
order name d (Increment number) is = inl (rw is.0 refl)
order name d (Maximum number) is = inl (rw is.0 refl)
order name d (Minimum number) is = inl (rw is.0 refl)
order name d (Append values) is = inr is.0
order name d (RemoveAll values) is = inl (rw is.0 refl)

swapped : (tree one other : text.Json) (first second : List ℕ) → HoldsBoth tree first second one other → HoldsBoth tree second first other one
swapped tree one other first second held = record {
  is = elim held.is [
    | inl is ↦ inr is
    | inr is ↦ inl is
  ];
  one_there = held.other_there;
  other_there = held.one_there;
}

transform_before : (o : Origin) (tree path_tree change_tree : text.Json) (name : List ℕ) (transform : Transform) → slice_cmp nat_cmp (codes "fieldPath") name ≡ Less → HoldsBoth tree (codes "fieldPath") name path_tree change_tree
    → StandsFor path_tree (λ d. SpellsPathTree d transform.path) → IsStorablePath transform.path → StandsFor change_tree (IsChange o (length transform.path) name transform.change) → StandsFor tree (IsTransform o transform)
transform_before o tree path_tree change_tree name transform first held path stored change =
    let all = both tree path_tree change_tree (codes "fieldPath") name path.seen change.seen first held path.is change.is in
    let is = named name change.seen transform.change change.holds.spelled in
    record {
      seen = all.seen;
      is = all.is;
      holds = built o (before path.seen name change.seen) path.seen name change.seen all.seen transform all.holds.is (shown_before o path.seen name change.seen all.holds.one all.holds.other is) path.holds stored change.holds;
    }

transform_behind : (o : Origin) (tree path_tree change_tree : text.Json) (transform : Transform) → HoldsBoth tree (codes "fieldPath") (codes "appendMissingElements") path_tree change_tree
    → StandsFor path_tree (λ d. SpellsPathTree d transform.path) → IsStorablePath transform.path → StandsFor change_tree (IsChange o (length transform.path) (codes "appendMissingElements") transform.change) → StandsFor tree (IsTransform o transform)
transform_behind o tree path_tree change_tree transform held path stored change =
    let turned = swapped tree path_tree change_tree (codes "fieldPath") (codes "appendMissingElements") held in
    let all = both tree change_tree path_tree (codes "appendMissingElements") (codes "fieldPath") change.seen path.seen refl turned change.is path.is in
    record {
      seen = all.seen;
      is = all.is;
      holds = built o (behind path.seen change.seen) path.seen (codes "appendMissingElements") change.seen all.seen transform all.holds.is (shown_behind o path.seen change.seen all.holds.other all.holds.one) path.holds stored change.holds;
    }

pub transform : (o : Origin) (tree path_tree change_tree : text.Json) (name : List ℕ) (made : Transform) → HoldsBoth tree (codes "fieldPath") name path_tree change_tree
    → StandsFor path_tree (λ d. SpellsPathTree d made.path) → IsStorablePath made.path → StandsFor change_tree (IsChange o (length made.path) name made.change) → StandsFor tree (IsTransform o made)
transform o tree path_tree change_tree name made held path stored change = elim (order name change.seen made.change change.holds.spelled) [
  | inl first ↦ transform_before o tree path_tree change_tree name made first held path stored change
  | inr is ↦ transform_behind o tree path_tree change_tree made (subst (λ (n : List ℕ). HoldsBoth tree (codes "fieldPath") n path_tree change_tree) is held) path stored
      (subst (λ (n : List ℕ). StandsFor change_tree (IsChange o (length made.path) n made.change)) is change)
]

-- ---- lists of transforms

abbrev pub TransformsSoFar : {A : Type 0} → Origin → List (Value A) → List Transform → Type 0
TransformsSoFar o trees transforms = SoFar o max_nesting series.Transforms (Each SpellsTransform) (All IsStorableTransform) trees transforms

pub no_transforms : {A : Type 0} (o : Origin) (transforms : List Transform) → transforms ≡ [] → TransformsSoFar {A = A} o [] transforms
unfolding Fits
no_transforms {A} o transforms none = subst (TransformsSoFar {A = A} o []) (sym none) (record { seen = no_items; is = refl; fit = tt; listed = no_more; stored = All-nil IsStorableTransform })

pub more_transforms : {A : Type 0} (o : Origin) (trees : List (Value A)) (i : ℕ) (one : Value A) (old new : List Transform) (made : Transform) → i < length trees → one ≡ get_or trees i one → TransformsSoFar o (take i trees) old
    → StandsFor (value_view one) (IsTransform o made) → new ≡ old ++ made ∷ [] → TransformsSoFar o (take (i + 1) trees) new
more_transforms o = next o max_nesting series.Transforms (Each SpellsTransform) (All IsStorableTransform) SpellsTransform IsStorableTransform (each_push SpellsTransform)
    (λ old made all one. All-append IsStorableTransform old (made ∷ []) all (All-cons IsStorableTransform made [] one (All-nil IsStorableTransform)))

pub all_transforms : {A : Type 0} (o : Origin) (tree : text.Json) (all trees : List (Value A)) (i : ℕ) (transforms : List Transform) → tree ≡ text.array (items_view all) → trees ≡ all → length trees ≤ i → i ≤ length trees → TransformsSoFar o (take i trees) transforms
    → length transforms < 2 ^ 64 → StandsFor tree (IsBuiltOf o max_nesting (place.Series series.Transforms) (λ d. SpellsEach SpellsTransform (Some d)) (AreAllStorable IsStorableTransform) transforms)
all_transforms {A} o tree all trees i transforms is same below above so_far count =
    let done = listed o max_nesting series.Transforms (Each SpellsTransform) (All IsStorableTransform) (λ d. SpellsEach SpellsTransform (Some d)) (λ ds. refl) (λ ds those each. (ds, refl, each)) tree all transforms is
    (subst (λ (ts : List (Value A)). TransformsSoFar o ts transforms) (whole trees i below above ∙ same) so_far) in
    record { seen = done.seen; is = done.is; holds = record { fits = done.holds.fits; spelled = done.holds.spelled; stored = record { count = count; each = done.holds.stored } } }
