-- The writes that trees without faults spell, as google.firestore.v1 writes them in proto3 JSON. The form of these trees is said
-- by their faults. A member whose value is null counts as left out.
use Rattle.std.specs.Prelude.{◌≡◌, ℕ, ℤ, List, [], codes, Option, Some, None}
use Rattle.serde_json.specs.Data.{Data as Json, boolean, Members}
use Rattle.document_keys.specs.Names.{Root}
use Rattle.value_model.specs.Data.{Data, Entries}
use Rattle.json_model.specs.declared.place.Object.TheVariants as object
use Rattle.json_model.specs.Forms.{IsGiven, InObject, ByChoice, SpellsEach}
use Rattle.json_model.specs.Grammar.{SpellsTime, SpellsName, SpellsPathTree, SpellsFields, SpellsList}
use Rattle.json_model.specs.Members.{given}
use Rattle.json_model.specs.Numbers.{SpellsWhole}
use Rattle.mutations.specs.declared.transform.Change.{Change}
use Rattle.mutations.specs.declared.transform.Change.TheVariants.{ServerTime, Increment, Maximum, Minimum, Append, RemoveAll}
use Rattle.mutations.specs.declared.transform.Transform.{Transform}
use Rattle.mutations.specs.declared.write.Precondition.{Precondition}
use Rattle.mutations.specs.declared.write.Precondition.TheVariants.{Free, Exists, UpdateTime}
use Rattle.mutations.specs.declared.write.Write.{Write}
use Rattle.mutations.specs.declared.write.Write.TheVariants.{Update, Delete}

-- the one condition, by its name
abbrev pub SpellsConditionUnder : List ℕ → Json → Precondition → Type 0
SpellsConditionUnder name d Free = ⊥
SpellsConditionUnder name d (Exists is) = (name ≡ codes "exists") × (d ≡ boolean is)
SpellsConditionUnder name d (UpdateTime time) = (name ≡ codes "updateTime") × SpellsTime d time

-- `currentDocument`: `{"exists":..}` or `{"updateTime":".."}`; where it is left out, nothing is asked
abbrev pub SpellsCondition : Option Json → Precondition → Type 0
SpellsCondition None condition = condition ≡ Free
SpellsCondition (Some d) condition = ByChoice object.Condition d (λ ms name inner. SpellsConditionUnder name inner condition)

-- the operand of an arithmetic transform: `{"integerValue":".."}`
abbrev pub SpellsOperand : Json → ℤ → Type 0
SpellsOperand d number = ByChoice object.Operand d (λ ms name inner. (name ≡ codes "integerValue") × SpellsWhole inner number)

-- the elements of a transform of an array: `{"values":[..]}`
abbrev pub SpellsElements : Json → List Data → Type 0
SpellsElements d values = InObject d (λ ms. SpellsList (given (codes "values") ms) values)

-- the one change, by its name
abbrev pub SpellsChange : List ℕ → Json → Change → Type 0
SpellsChange name d ServerTime = name ≡ codes "setToServerValue"
SpellsChange name d (Increment by) = (name ≡ codes "increment") × SpellsOperand d by
SpellsChange name d (Maximum other) = (name ≡ codes "maximum") × SpellsOperand d other
SpellsChange name d (Minimum other) = (name ≡ codes "minimum") × SpellsOperand d other
SpellsChange name d (Append values) = (name ≡ codes "appendMissingElements") × SpellsElements d values
SpellsChange name d (RemoveAll values) = (name ≡ codes "removeAllFromArray") × SpellsElements d values

-- the path of a transform, and its one change
pub record SpellsTransformIn (ms : Members) (name : List ℕ) (inner : Json) (transform : Transform) : Type 0 where
  pub path : IsGiven (given (codes "fieldPath") ms) (λ d. SpellsPathTree d transform.path)
  pub change : SpellsChange name inner transform.change

-- a transform: `{"fieldPath":"..","increment":{..}}`, or with another change
abbrev pub SpellsTransform : Json → Transform → Type 0
SpellsTransform d transform = ByChoice object.Transform d (λ ms name inner. SpellsTransformIn ms name inner transform)

-- what `updateMask` holds: `{"fieldPaths":[..]}`
abbrev pub SpellsMask : Json → List (List (List ℕ)) → Type 0
SpellsMask d mask = InObject d (λ ms. SpellsEach SpellsPathTree (given (codes "fieldPaths") ms) mask)

-- `updateMask`; where it is left out there is no mask
abbrev pub SpellsMaskIn : Option Json → Option (List (List (List ℕ))) → Type 0
SpellsMaskIn None mask = mask ≡ None
SpellsMaskIn (Some d) None = ⊥
SpellsMaskIn (Some d) (Some mask) = SpellsMask d mask

-- `fields`, which may be left out where there are none
abbrev pub SpellsFieldsIn : Option Json → Entries → Type 0
SpellsFieldsIn None fields = fields ≡ []
SpellsFieldsIn (Some d) fields = SpellsFields d fields

-- the members of what `update` holds
pub record SpellsDocumentIn (root : Root) (ms : Members) (key : List (List ℕ)) (fields : Entries) : Type 0 where
  pub names : IsGiven (given (codes "name") ms) (λ d. SpellsName root d key)
  pub holds : SpellsFieldsIn (given (codes "fields") ms) fields

-- what `update` holds: `{"fields":{..},"name":".."}`
abbrev pub SpellsDocument : Root → Json → List (List ℕ) → Entries → Type 0
SpellsDocument root d key fields = InObject d (λ ms. SpellsDocumentIn root ms key fields)

-- an update, and what stands beside it
pub record SpellsUpdate (root : Root) (ms : Members) (d : Json) (key : List (List ℕ)) (fields : Entries) (mask : Option (List (List (List ℕ)))) (transforms : List Transform) (condition : Precondition) : Type 0 where
  pub document : SpellsDocument root d key fields
  pub masks : SpellsMaskIn (given (codes "updateMask") ms) mask
  pub changes : SpellsEach SpellsTransform (given (codes "updateTransforms") ms) transforms
  pub asks : SpellsCondition (given (codes "currentDocument") ms) condition

-- a delete, and what stands beside it
pub record SpellsDelete (root : Root) (ms : Members) (d : Json) (key : List (List ℕ)) (condition : Precondition) : Type 0 where
  pub names : SpellsName root d key
  pub asks : SpellsCondition (given (codes "currentDocument") ms) condition

-- the one write, by its name
abbrev pub SpellsWriteUnder : Root → Members → List ℕ → Json → Write → Type 0
SpellsWriteUnder root ms name d (Update key fields mask transforms condition) = (name ≡ codes "update") × SpellsUpdate root ms d key fields mask transforms condition
SpellsWriteUnder root ms name d (Delete key condition) = (name ≡ codes "delete") × SpellsDelete root ms d key condition

-- a write: `{"update":{..}}` with what stands beside it, or `{"delete":".."}`
abbrev pub SpellsWrite : Root → Json → Write → Type 0
SpellsWrite root d write = ByChoice object.Write d (λ ms name inner. SpellsWriteUnder root ms name inner write)
