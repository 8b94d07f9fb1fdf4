-- The members of a write that is an update.
use Rattle.std.specs.Prelude.{◌≡◌, ℕ, List, codes, Option, Some, None, IfSome, [], ◌∷◌}
use Rattle.serde_json.specs.Data.{Data, Members, object as an_object}
use Rattle.json_model.specs.declared.place.Object.TheVariants as object
use Rattle.json_model.specs.declared.place.Place.TheVariants as place
use Rattle.json_model.specs.declared.place.Series.TheVariants as series
use Rattle.json_model.specs.Faults.{max_nesting}
use Rattle.json_model.specs.Forms.{SpellsEach}
use Rattle.json_model.specs.Members.{chosen, given}
use Rattle.json_model.specs.Origin.{Origin}
use Rattle.json_model.specs.Storable.{IsStorablePath}
use Rattle.plain_json.specs.Beside.{FitBeside}
use Rattle.json_rpc.specs.Grammar.{SpellsMask, SpellsMaskIn, SpellsCondition, SpellsTransform}
use Rattle.json_rpc.specs.Storable.{AreAllStorable, IsStorableCondition, IsStorableTransform}
use Rattle.mutations.specs.declared.transform.Transform.{Transform}
use Rattle.mutations.specs.declared.write.Precondition.TheVariants.{Free}
use Rattle.plain_json.specs.Trees.{IsBuiltOf}
use Rattle.plain_json.specs.Updates.{SpellsUpdated, IsStoredUpdate}
use Rattle.plain_json.specs.declared.documents.Updated.{Updated}
use Rattle.plain_json.specs.declared.parts.Part.{Part}
use Rattle.plain_json.specs.declared.parts.Part.TheVariants as part
use Rattle.plain_json.specs.declared.parts.Parts.{Parts}

-- what stands under the name of a part
abbrev pub IsPart : Origin → List ℕ → Part → Data → Type 0
IsPart o name (part.Update updated) d = (name ≡ codes "update") × IsBuiltOf o max_nesting (place.Object object.Update) (SpellsUpdated o.root) IsStoredUpdate updated d
IsPart o name (part.Mask mask) d = (name ≡ codes "updateMask") × IsBuiltOf o max_nesting (place.Object object.Mask) SpellsMask (AreAllStorable IsStorablePath) mask d
IsPart o name (part.Transforms transforms) d =
    (name ≡ codes "updateTransforms") × IsBuiltOf o max_nesting (place.Series series.Transforms) (λ tree. SpellsEach SpellsTransform (Some tree)) (AreAllStorable IsStorableTransform) transforms d
IsPart o name (part.Condition condition) d =
    (name ≡ codes "currentDocument") × IsBuiltOf o max_nesting (place.Object object.Condition) (λ tree. SpellsCondition (Some tree)) IsStorableCondition condition d

-- transforms that are left out are none
abbrev pub transforms_of : Option (List Transform) → List Transform
transforms_of None = []
transforms_of (Some transforms) = transforms

-- it is put where there was none of its kind, and the others stay
abbrev pub Puts : Part → Parts → Parts → Type 0
Puts (part.Update updated) old new = (old.update ≡ None) × (new ≡ record { update = Some updated; mask = old.mask; transforms = old.transforms; condition = old.condition })
Puts (part.Mask mask) old new = (old.mask ≡ None) × (new ≡ record { update = old.update; mask = Some mask; transforms = old.transforms; condition = old.condition })
Puts (part.Transforms transforms) old new = (old.transforms ≡ None) × (new ≡ record { update = old.update; mask = old.mask; transforms = Some transforms; condition = old.condition })
Puts (part.Condition condition) old new = (old.condition ≡ Free) × (new ≡ record { update = old.update; mask = old.mask; transforms = old.transforms; condition = condition })

-- the update that is chosen, or none
abbrev pub HasUpdate : Origin → Members → Option Updated → Type 0
HasUpdate o ms None = chosen object.Write ms ≡ []
HasUpdate o ms (Some updated) =
    (d : Data) × ((chosen object.Write ms ≡ (codes "update", d) ∷ []) × IsBuiltOf o max_nesting (place.Object object.Update) (SpellsUpdated o.root) IsStoredUpdate updated d)

-- members that are of their form, and spell these parts
pub record AreParts (o : Origin) (parts : Parts) (ms : Members) : Type 0 where
  pub beside : FitBeside o ms
  pub update : HasUpdate o ms parts.update
  pub masks : SpellsMaskIn (given (codes "updateMask") ms) parts.mask
  pub mask_stored : IfSome parts.mask (AreAllStorable IsStorablePath)
  pub changes : SpellsEach SpellsTransform (given (codes "updateTransforms") ms) (transforms_of parts.transforms)
  pub changes_stored : AreAllStorable IsStorableTransform (transforms_of parts.transforms)
  pub asks : SpellsCondition (given (codes "currentDocument") ms) parts.condition
  pub asks_stored : IsStorableCondition parts.condition

-- an object of such members
pub record HasParts (o : Origin) (made : Parts) (d : Data) : Type 0 where
  pub members : Members
  pub is : d ≡ an_object members
  pub parts : AreParts o made members
