-- rows that are picked one after the other, and the changes that are told of them
use Rattle.std.proofs.Common.{◌≡◌, ◌∙◌, ◌+◌, ◌<◌, ℕ, List, [], ◌∷◌, ◌++◌, length, get_or, take, append_assoc, append-nil, Bool, true, false, not, IsTrue, ◌↔◌, Some, refl, sym, ap, subst}
use Rattle.std.proofs.lemmas.List.{map-append, take_more}
use Rattle.value_model.specs.Documents.{Stored}
use Rattle.views.specs.declared.change.Change.{Change}
use Rattle.views.specs.declared.change.Kind.{Kind}
use Rattle.views.specs.Changes.{IsModified, Tells, change, told}
use Rattle.views.specs.Picks.{Picks}
use Rattle.views.specs.Picks.Picks.{none, takes, leaves}
use Rattle.views.specs.Row.{Row, HasAtKey}

module _ {X : Type 0} {P : X → Type 0} where
  -- one more, of which it holds, and of which it doesn't
  pub picked_too : (xs ys : List X) (x : X) → Picks P xs ys → P x → Picks P (xs ++ x ∷ []) (ys ++ x ∷ [])
  picked_too _ _ x none is = takes x [] [] is none
  picked_too _ _ x (takes a xs ys has rest) is = takes a (xs ++ x ∷ []) (ys ++ x ∷ []) has (picked_too xs ys x rest is)
  picked_too _ _ x (leaves a xs ys no_a rest) is = leaves a (xs ++ x ∷ []) (ys ++ x ∷ []) no_a (picked_too xs ys x rest is)

  pub left_too : (xs ys : List X) (x : X) → Picks P xs ys → (P x → ⊥) → Picks P (xs ++ x ∷ []) ys
  left_too _ _ x none never = leaves x [] [] never none
  left_too _ _ x (takes a xs ys has rest) never = takes a (xs ++ x ∷ []) ys has (left_too xs ys x rest never)
  left_too _ _ x (leaves a xs ys no_a rest) never = leaves a (xs ++ x ∷ []) ys no_a (left_too xs ys x rest never)

  module _ (xs ys : List X) (i : ℕ) (x : X) (inside : i < length xs) (at : x ≡ get_or xs i x) (so_far : Picks P (take i xs) ys) where
    front_more : take i xs ++ x ∷ [] ≡ take (i + 1) xs
    front_more = ap (λ r. take i xs ++ r ∷ []) at ∙ sym (take_more xs i x inside)

    -- the next one, of which it holds, and of which it doesn't
    pub picks_next : P x → Picks P (take (i + 1) xs) (ys ++ x ∷ [])
    picks_next is = subst (λ rs. Picks P rs (ys ++ x ∷ [])) front_more (picked_too (take i xs) ys x so_far is)

    pub leaves_next : (P x → ⊥) → Picks P (take (i + 1) xs) ys
    leaves_next never = subst (λ rs. Picks P rs ys) front_more (left_too (take i xs) ys x so_far never)

  pub picks_nothing : (xs ys : List X) → xs ≡ [] → ys ≡ [] → Picks P xs ys
  picks_nothing xs ys e f = subst (λ xs. Picks P xs ys) (sym e) (subst (Picks P []) (sym f) none)

module _ (kind : Kind) (P : Row → Type 0) (rows : List Row) (before : List Change) where
  pub tells_nothing : Tells kind P [] before before
  tells_nothing = record { picked = []; are = none; behind = sym (append-nil before) }

  module _ (i : ℕ) (row : Row) (now : List Change) (inside : i < length rows) (at : row ≡ get_or rows i row) (so_far : Tells kind P (take i rows) before now) where
    pub tells_of : (after : List Change) → P row → after ≡ now ++ change kind row ∷ [] → Tells kind P (take (i + 1) rows) before after
    tells_of after is more =
        record {
          picked = so_far.picked ++ row ∷ [];
          are = picks_next rows so_far.picked i row inside at so_far.are is;
          behind = more ∙ ap (λ (cs : List Change). cs ++ change kind row ∷ []) so_far.behind ∙ append_assoc before (told kind so_far.picked) (change kind row ∷ [])
              ∙ ap (λ (cs : List Change). before ++ cs) (sym (map-append (change kind) so_far.picked (row ∷ [])));
        }

    pub tells_not_of : (P row → ⊥) → Tells kind P (take (i + 1) rows) before now
    tells_not_of never =
        record {
          picked = so_far.picked;
          are = leaves_next rows so_far.picked i row inside at so_far.are never;
          behind = so_far.behind;
        }

-- the row is modified exactly where the key's last document isn't printed as it
pub modified_by : (old : List Row) (r : Row) (last : Stored) (same : Bool) → HasAtKey old r.key (Some last) → IsTrue same ↔ (last ≡ r.document) → IsTrue (not same) ↔ IsModified old r
modified_by old r last true has is = (λ e. cc, λ m. absurd (m.other ((has m.document).0 m.there ∙ is.0 refl)))
modified_by old r last false has is = (
  λ e. record { document = last; there = (has last).1 refl; other = λ eq. let no_e = is.1 eq in cc },
  λ m. refl,
)
