-- The alternatives of an object that are given.
use Rattle.std.proofs.Common.{◌≡◌, ℕ, List, [], ◌∷◌, ◌++◌, length, Bor, String, Bool, true, false, cond, Option, Some, None, is_some, refl, sym, ap, ◌∙◌, append-nil, append_assoc, arith, ◌≤◌}
use Rattle.std.specs.String.{string_bytes}
use Rattle.std.specs.declared.alloc.Global.{Global}
use Rattle.serde_json.specs.Data.{Data as Tree}
use Rattle.serde_json.specs.View.{view, members_view}
use Rattle.serde_json.specs.declared.value.Value.{Value as Json}
use Rattle.json_model.specs.declared.place.Object.{Object}
use Rattle.json_model.specs.Members.{chosen, is_chosen}

-- what has been found
abbrev pub kind_list : Option (Bor (List ℕ) × Bor Json) → List (List ℕ × Tree)
kind_list None = []
kind_list (Some kind) = (kind.0.now, view kind.1.now) ∷ []

-- the kinds of a member
abbrev pub kind_at : Object → List ℕ → Tree → List (List ℕ × Tree)
kind_at o k d = cond (is_chosen o k d) ((k, d) ∷ []) []

split_at : (b : Bool) (e : List ℕ × Tree) (rest : List (List ℕ × Tree)) → cond b (e ∷ rest) rest ≡ cond b (e ∷ []) [] ++ rest
split_at true e rest = refl
split_at false e rest = refl

-- one member more
pub kinds_push : (o : Object) (es : List (String Global × Json)) (e : String Global × Json) → chosen o (members_view (es ++ e ∷ [])) ≡ chosen o (members_view es) ++ kind_at o (string_bytes e.0) (view e.1)
kinds_push o [] e = refl
kinds_push o (x ∷ es) e =
    let k = string_bytes x.0 in
    let b = is_chosen o k (view x.1) in
    split_at b (k, view x.1) _ ∙ ap (λ l. kind_at o k (view x.1) ++ l) (kinds_push o es e)
    ∙ sym (append_assoc (kind_at o k (view x.1)) (chosen o (members_view es)) (kind_at o (string_bytes e.0) (view e.1)))
    ∙ ap (λ l. l ++ kind_at o (string_bytes e.0) (view e.1)) (sym (split_at b (k, view x.1) (chosen o (members_view es))))

-- and none before it, or none in it
pub kinds_more : (o : Object) (es : List (String Global × Json)) (e : String Global × Json) (old new : List (List ℕ × Tree)) → chosen o (members_view es) ≡ old → old ++ kind_at o (string_bytes e.0) (view e.1) ≡ new → chosen o (members_view (es ++ e ∷ [])) ≡ new
kinds_more o es e old new before after = kinds_push o es e ∙ ap (λ l. l ++ kind_at o (string_bytes e.0) (view e.1)) before ∙ after

none_at : (b : Bool) (e : List ℕ × Tree) (old : List (List ℕ × Tree)) → b ≡ false → old ++ cond b (e ∷ []) [] ≡ old
none_at b e old unlike = rw unlike (append-nil old)

pub kinds_same : (o : Object) (es : List (String Global × Json)) (name : String Global) (value : Json) (text : List ℕ) (old : List (List ℕ × Tree)) → chosen o (members_view es) ≡ old → text ≡ string_bytes name → is_chosen o text (view value) ≡ false → chosen o (members_view (es ++ (name, value) ∷ [])) ≡ old
kinds_same o es name value text old before named unlike = kinds_more o es (name, value) old old before (none_at (is_chosen o (string_bytes name) (view value)) _ old (ap (λ t. is_chosen o t (view value)) (sym named) ∙ unlike))

one_at : (b : Bool) (e : List ℕ × Tree) → b ≡ true → cond b (e ∷ []) [] ≡ e ∷ []
one_at b e says = rw says

pub kinds_first : (o : Object) (es : List (String Global × Json)) (name : String Global) (value : Json) (text : List ℕ) → chosen o (members_view es) ≡ [] → text ≡ string_bytes name → is_chosen o text (view value) ≡ true → chosen o (members_view (es ++ (name, value) ∷ [])) ≡ (text, view value) ∷ []
kinds_first o es name value text before named says =
    kinds_more o es (name, value) [] ((text, view value) ∷ []) before (one_at (is_chosen o (string_bytes name) (view value)) (string_bytes name, view value) (ap (λ t. is_chosen o t (view value)) (sym named) ∙ says) ∙ ap (λ t. (t, view value) ∷ []) (sym named))

kinds_append : (o : Object) (es fs : List (String Global × Json)) → length (chosen o (members_view es)) ≤ length (chosen o (members_view (es ++ fs)))
kinds_append o [] fs = omega arith
kinds_append o (x ∷ es) fs = longer (is_chosen o (string_bytes x.0) (view x.1)) (string_bytes x.0, view x.1) _ _ (kinds_append o es fs)
  where
    longer : (b : Bool) (e : List ℕ × Tree) (l m : List (List ℕ × Tree)) → length l ≤ length m → length (cond b (e ∷ l) l) ≤ length (cond b (e ∷ m) m)
    longer true e l m le = omega arith
    longer false e l m le = le

-- a second one
pub kinds_two : (o : Object) (all es rest : List (String Global × Json)) (name : String Global) (value : Json) (text : List ℕ) (first : List ℕ × Tree) → all ≡ es ++ (name, value) ∷ rest → chosen o (members_view es) ≡ first ∷ [] → text ≡ string_bytes name → is_chosen o text (view value) ≡ true
    → length (chosen o (members_view all)) ≡ 1 → ⊥
kinds_two o all es rest name value text first is before named says one =
    let two : length (chosen o (members_view (es ++ (name, value) ∷ []))) ≡ 2 =
    ap length (kinds_more o es (name, value) (first ∷ []) (first ∷ (string_bytes name, view value) ∷ []) before (ap (λ l. first ∷ l) (one_at (is_chosen o (string_bytes name) (view value)) (string_bytes name, view value) (ap (λ t. is_chosen o t (view value)) (sym named) ∙ says)))) in
    let grown = kinds_append o (es ++ (name, value) ∷ []) rest in
    let same : length (chosen o (members_view all)) ≡ length (chosen o (members_view ((es ++ (name, value) ∷ []) ++ rest))) = ap (λ l. length (chosen o (members_view l))) (is ∙ sym (append_assoc es ((name, value) ∷ []) rest)) in
    absurd (omega arith)

pub none_yet : (o : Option (Bor (List ℕ) × Bor Json)) → false ≡ is_some o → kind_list o ≡ []
none_yet None is = refl
none_yet (Some kind) is = cc

pub some_yet : (o : Option (Bor (List ℕ) × Bor Json)) → true ≡ is_some o → (first : List ℕ × Tree) × (kind_list o ≡ first ∷ [])
some_yet None is = cc
some_yet (Some kind) is = ((kind.0.now, view kind.1.now), refl)
