-- rows, and the index by their keys
use Rattle.std.proofs.Common.{◌≡◌, ◌∙◌, ◌<◌, ℕ, Bool, true, false, cond, List, [], ◌∷◌, ◌++◌, length, get_or, Option, Some, None, option_map, Bor, Global, is_some, IsTrue, ◌↔◌, refl, sym, ap, subst}
use Rattle.std.specs.List.{All, Contains}
use Rattle.std.specs.Map.{lookup}
use Rattle.std.specs.Option.{option_copied}
use Rattle.std.specs.declared.rc.Rc.{Rc}
use Rattle.std.specs.Rc.{rc_value}
use Rattle.std.proofs.lemmas.List.{get_or-map, length-map}
use Rattle.std.proofs.lemmas.List.Elements.{All-contains, All-push, Contains-append_left, Contains-get_or, Contains-push}
use Rattle.document_keys.specs.KeySet.{is_key}
use Rattle.document_keys.proofs.Exact.{key_is, key_same}
use Rattle.value_model.specs.declared.document.DocState.TheVariants as state
use Rattle.value_model.specs.Documents.{Stored}
use Rattle.views.specs.Index.{Index, IsFoundIn, IsIndexOf}
use Rattle.views.specs.Row.{Row, row, keys_of, HasAtKey}

-- the key of a row is among the keys
pub key_there : (rows : List Row) (r : Row) → Contains rows r → Contains (keys_of rows) r.key
key_there rows r there =
    let inside = there.1 in
    (there.0, subst (λ n. there.0 < n) (sym (length-map rows (λ (x : Row). x.key))) inside, get_or-map (λ (x : Row). x.key) rows there.0 r r.key inside ∙ ap (λ (x : Row). x.key) there.2)

-- what the index has at a key, the rows have there
pub got : (rows : List Row) (index : Index) (key : List (List ℕ)) (found : Option (Rc Stored Global)) → IsIndexOf rows index → lookup (is_key key) index ≡ found → HasAtKey rows key (option_map rc_value found)
got rows index key None is at = λ document there.
    let here : option_map rc_value (lookup (is_key key) index) ≡ Some document = All-contains (IsFoundIn index) rows (row key document) is.each there in
    let none : option_map rc_value (lookup (is_key key) index) ≡ None = ap (option_map rc_value) at in
    cc
got rows index key (Some rc) is at = λ document. (
  λ there.
      let here : option_map rc_value (lookup (is_key key) index) ≡ Some document = All-contains (IsFoundIn index) rows (row key document) is.each there in
      let some : option_map rc_value (lookup (is_key key) index) ≡ Some rc.value = ap (option_map rc_value) at in
      cc,
  λ same. subst (λ d. Contains rows (row key d)) (sym same) (is.found key rc at),
)

pub lent : (result : Option (Bor (Rc Stored Global))) → option_map (λ found. found.now.value) result ≡ option_map rc_value (option_copied result)
lent None = refl
lent (Some b) = refl

module _ (rows : List Row) (old new : Index) (key : List (List ℕ)) (rc : Rc Stored Global) (fresh : Contains (keys_of rows) key → ⊥) (is : IsIndexOf rows old)
    (put : (q : List (List ℕ)) → lookup (is_key q) new ≡ cond (is_key key q) (Some rc) (lookup (is_key q) old)) where
  -- a row more, and its place in the index
  pub pushed : (document : Stored) → rc.value ≡ document → IsIndexOf (rows ++ row key document ∷ []) new
  pushed document same = record { found = λ q other at. found q other at (is_key key q) refl; each = All-push (IsFoundIn new) rows (row key document) before here }
    where
      found : (q : List (List ℕ)) (other : Rc Stored Global) → lookup (is_key q) new ≡ Some other → (b : Bool) → is_key key q ≡ b → Contains (rows ++ row key document ∷ []) (row q other.value)
      found q other at true e =
          let some : Some other ≡ Some rc = sym at ∙ put q ∙ ap (λ b. cond b (Some rc) (lookup (is_key q) old)) e in
          let one : other ≡ rc = cc in
          let value : document ≡ other.value = sym same ∙ sym (ap rc_value one) in
          subst (λ k. Contains (rows ++ row key document ∷ []) (row k other.value)) (key_is key q e)
          (subst (λ d. Contains (rows ++ row key document ∷ []) (row key d)) value (Contains-push rows (row key document)))
      found q other at false e =
          let was : lookup (is_key q) old ≡ Some other = sym (ap (λ b. cond b (Some rc) (lookup (is_key q) old)) e) ∙ sym (put q) ∙ at in
          Contains-append_left rows (row key document ∷ []) (row q other.value) (is.found q other was)

      stays : (r : Row) → Contains rows r → IsFoundIn old r → (b : Bool) → is_key key r.key ≡ b → IsFoundIn new r
      stays r there was true e = absurd (fresh (subst (Contains (keys_of rows)) (sym (key_is key r.key e)) (key_there rows r there)))
      stays r there was false e = ap (option_map rc_value) (put r.key ∙ ap (λ b. cond b (Some rc) (lookup (is_key r.key) old)) e) ∙ was

      before : All (IsFoundIn new) rows
      before k d inside = stays (get_or rows k d) (Contains-get_or rows k d inside) (is.each k d inside) (is_key key (get_or rows k d).key) refl

      here : option_map rc_value (lookup (is_key key) new) ≡ Some document
      here = ap (option_map rc_value) (put key ∙ ap (λ b. cond b (Some rc) (lookup (is_key key) old)) (key_same key key refl)) ∙ ap Some same

-- a key among the keys is that of a row
pub row_there : (rows : List Row) (key : List (List ℕ)) → Contains (keys_of rows) key → (document : Stored) × Contains rows (row key document)
row_there rows key there =
    let inside : there.0 < length rows = subst (λ n. there.0 < n) (length-map rows (λ (x : Row). x.key)) there.1 in
    let at = get_or rows there.0 (row key (record { fields = []; update_time = None; state = state.Synced })) in
    let same : at.key ≡ key = sym (get_or-map (λ (x : Row). x.key) rows there.0 (row key (record { fields = []; update_time = None; state = state.Synced })) key inside) ∙ there.2 in
    (at.document, subst (λ k. Contains rows (row k at.document)) same (Contains-get_or rows there.0 (row key (record { fields = []; update_time = None; state = state.Synced })) inside))

-- the rows have something at a key exactly where it is among the keys
pub has_at : (rows : List Row) (key : List (List ℕ)) (found : Option Stored) → HasAtKey rows key found → IsTrue (is_some found) ↔ Contains (keys_of rows) key
has_at rows key None has = (λ no. cc, λ there. let r = row_there rows key there in absurd (has r.0 r.1))
has_at rows key (Some d) has = (λ yes. key_there rows (row key d) ((has d).1 refl), λ there. refl)

pub still_some : {A B : Type 0} (f : A → B) (o : Option A) → is_some (option_map f o) ≡ is_some o
still_some f None = refl
still_some f (Some x) = refl
