-- what stands at the paths of a document
use Rattle.std.proofs.Common.{◌≡◌, ℕ, Bool, true, false, List, ap, refl, Some, nat_eq, if◌then◌else◌}
use Rattle.std.specs.Cmp.Lexicographic.{pointwise, pointwise_decides, bytes_decides}
use Rattle.document_keys.specs.Names.{Root}
use Rattle.value_model.specs.Data.{Entries}
use Rattle.value_model.specs.Paths.{value_at}
use Rattle.queries.specs.Holding.{name_path, reference_to, standing}

-- a test that can't be true is false
pub false_from : (b : Bool) → (b ≡ true → ⊥) → b ≡ false
false_from true never = absurd (never refl)
false_from false never = refl

-- at a path other than `__name__` stands what the fields have there
pub elsewhere : (root : Root) (key : List (List ℕ)) (fields : Entries) (path : List (List ℕ)) → (path ≡ name_path → ⊥) → standing root key fields path ≡ value_at fields path
elsewhere root key fields path other =
    let decides = pointwise_decides bytes_decides path name_path in
    let test = false_from (pointwise (pointwise nat_eq) path name_path) (λ yes. other (decides.0 yes)) in
    ap (λ (b : Bool). if b then Some (reference_to root key) else value_at fields path) test
