-- When a document meets a filter (StructuredQuery.FieldFilter.Operator and StructuredQuery.UnaryFilter.Operator).
use Rattle.std.specs.Prelude.{◌≡◌, ◌≢◌, ◌⊎◌, ℕ, List, [], ◌∷◌, codes, Option, Some, nat_eq, if◌then◌else◌}
use Rattle.std.specs.Cmp.Lexicographic.{pointwise}
use Rattle.std.specs.List.{Contains}
use Rattle.document_keys.specs.Names.{Root}
use Rattle.value_model.specs.Arrays.{items_in}
use Rattle.value_model.specs.Data.{Data, null, reference, Entries}
use Rattle.value_model.specs.Order.{Before, rank}
use Rattle.value_model.specs.Paths.{value_at}
use Rattle.queries.specs.declared.filter.Junction.TheVariants.{And, Or}
use Rattle.queries.specs.declared.filter.Operator.{Operator}
use Rattle.queries.specs.declared.filter.Operator.TheVariants as operator
use Rattle.queries.specs.declared.filter.UnaryOp.{UnaryOp}
use Rattle.queries.specs.declared.filter.UnaryOp.TheVariants as test
use Rattle.queries.specs.Filters.{FilterData, composite, field, unary, FilterItems, no_filters, filter_item}

-- the path that stands for the document's own name
abbrev pub name_path : List (List ℕ)
name_path = codes "__name__" ∷ []

-- the reference to the document of a key under a root
abbrev pub reference_to : Root → List (List ℕ) → Data
reference_to root key = reference (record { project = root.project; database = root.name; key = key })

-- what stands at each path of a document: at `__name__` its reference, at any other what its fields have there
abbrev pub standing : Root → List (List ℕ) → Entries → List (List ℕ) → Option Data
standing root key fields path = if pointwise (pointwise nat_eq) path name_path then Some (reference_to root key) else value_at fields path

-- a value is neither null nor one of these, and null is none of them
pub record IsOutside (v : Data) (values : List Data) : Type 0 where
  pub there : v ≢ null
  pub other : Contains values v → ⊥
  pub no_null : Contains values null → ⊥

-- how a value stands to an operand
abbrev pub Compares : Operator → Data → Data → Type 0
-- they are equal
Compares operator.Equal v operand = v ≡ operand
-- they are of one kind, and ordered so
Compares operator.LessThan v operand = (rank v ≡ rank operand) × Before v operand
Compares operator.LessThanOrEqual v operand = (rank v ≡ rank operand) × (Before v operand ⊎ (v ≡ operand))
Compares operator.GreaterThan v operand = (rank v ≡ rank operand) × Before operand v
Compares operator.GreaterThanOrEqual v operand = (rank v ≡ rank operand) × (Before operand v ⊎ (v ≡ operand))
-- the value is neither null nor the operand
Compares operator.NotEqual v operand = (v ≢ null) × (v ≢ operand)
-- it is one of the operands
Compares operator.IsIn v operand = Contains (items_in operand) v
-- it is outside of the operands
Compares operator.IsNotIn v operand = IsOutside v (items_in operand)
-- it is an array that has the operand, or one of the operands
Compares operator.ArrayContains v operand = Contains (items_in v) operand
Compares operator.ArrayContainsAny v operand = (d : Data) × Contains (items_in v) d × Contains (items_in operand) d

-- a value passes a test
abbrev pub Passes : UnaryOp → Data → Type 0
Passes test.IsNull v = v ≡ null
Passes test.IsNotNull v = v ≢ null

-- A document, by what stands at its paths, meets a filter. A comparison or a test asks that its field is there.
abbrev mutual
  pub Meets : (List (List ℕ) → Option Data) → FilterData → Type 0
  Meets at (composite And fs) = MeetsAll at fs
  Meets at (composite Or fs) = MeetsOne at fs
  Meets at (field path op operand) = (v : Data) × (at path ≡ Some v) × Compares op v operand
  Meets at (unary path op) = (v : Data) × (at path ≡ Some v) × Passes op v

  pub MeetsAll : (List (List ℕ) → Option Data) → FilterItems → Type 0
  MeetsAll at no_filters = Unit {0}
  MeetsAll at (filter_item f fs) = Meets at f × MeetsAll at fs

  pub MeetsOne : (List (List ℕ) → Option Data) → FilterItems → Type 0
  MeetsOne at no_filters = ⊥
  MeetsOne at (filter_item f fs) = Meets at f ⊎ MeetsOne at fs
