-- The form of what may be there.
use Rattle.std.proofs.Common.{◌≡◌, ℕ, List, [], ◌∷◌, refl, arith, Option, Some, None, IfSome}
use Rattle.record_parts.specs.Spelling.{opt}
use Rattle.record_parts.proofs.Combine.{Form, Made, IsKind, HasKind, has_kind, IsTagged, empty, unique_kinds, tag_first}

abbrev pub option_tag : {X : Type 0} → Option X → ℕ
option_tag None = 0
option_tag (Some x) = 1

pub option_tagged : {X : Type 0} (spell : X → List ℕ) → IsTagged (opt spell) option_tag
option_tagged spell None = refl
option_tagged spell (Some x) = refl

abbrev pub IfFits : {X : Type 0} → Form X → Option X → Type 0
IfFits f o = IfSome o f.Fits

none_made : {X : Type 0} (f : Form X) (o : Option X) → option_tag o ≡ 0 → Made (λ _. None) empty o
none_made f None e = record { content = tt; is = refl; fits = tt }
none_made f (Some x) e = absurd (omega (arith, e))

some_made : {X : Type 0} (f : Form X) (o : Option X) → option_tag o ≡ 1 → IfFits f o → Made Some f o
some_made f None e fits = absurd (omega (arith, e))
some_made f (Some x) e fits = record { content = x; is = refl; fits = fits }

pub none_kind : {X : Type 0} (f : Form X) → IsKind (opt f.spell) (IfFits f) (0 ∷ []) (λ _. None) empty
none_kind f = record { on = λ x. refl; fits = λ x fits. tt; back = λ o rest bytes e fits. none_made f o (tag_first (option_tagged f.spell) o rest bytes 0 e) }

pub some_kind : {X : Type 0} (f : Form X) → IsKind (opt f.spell) (IfFits f) (1 ∷ []) Some f
some_kind f = record { on = λ x. refl; fits = λ x fits. fits; back = λ o rest bytes e fits. some_made f o (tag_first (option_tagged f.spell) o rest bytes 1 e) fits }

pub option_kinds : {X : Type 0} (f : Form X) (o : Option X) → IfFits f o → HasKind (opt f.spell) (IfFits f) o
option_kinds f None fits = has_kind (none_kind f) None (none_made f None refl)
option_kinds f (Some x) fits = has_kind (some_kind f) (Some x) (some_made f (Some x) refl fits)

abbrev pub optional : {X : Type 0} → Form X → Form (Option X)
optional f = record { spell = opt f.spell; Fits = IfFits f; unique = unique_kinds (opt f.spell) (IfFits f) (option_kinds f) }
