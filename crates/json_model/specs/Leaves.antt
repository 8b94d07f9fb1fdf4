-- Trees that aren't looked into: what may stand there, and the fault of one that may not.
use Rattle.std.specs.Prelude.{◌≡◌, ◌≢◌, ◌⊎◌, ℤ, ℕ, ◌<◌, ◌≤◌, List, [], ◌∷◌, length, Bool, true, false, codes, Some, if◌then◌else◌}
use Rattle.std.specs.List.{All, Contains}
use Rattle.document_keys.specs.Names.{Root, IsKey, IsSegment, HasNameLength, IsReserved, documents_text, name_text}
use Rattle.document_keys.specs.Paths.{IsFieldName, IsFieldPath, SpellsPath, HasPathFault}
use Rattle.document_keys.specs.declared.faults.FieldFault.TheVariants as field
use Rattle.serde_json.specs.Data.{Data as Json, null, boolean, string}
use Rattle.value_model.specs.declared.reference.RefName.{RefName}
use Rattle.value_model.specs.declared.timestamp.Timestamp.{Timestamp}
use Rattle.value_model.specs.Time.{time_of}
use Rattle.json_model.specs.declared.place.Leaf.{Leaf}
use Rattle.json_model.specs.declared.place.Leaf.TheVariants as leaf
use Rattle.json_model.specs.declared.place.Constants.{Constants}
use Rattle.json_model.specs.declared.fault.JsonFault.{JsonFault}
use Rattle.json_model.specs.declared.fault.JsonFault.TheVariants as json_fault
use Rattle.json_model.specs.declared.fault.NamingFault.{NamingFault}
use Rattle.json_model.specs.declared.fault.NamingFault.TheVariants.{BadSegment, BadPath, ReservedField}
use Rattle.json_model.specs.Bytes.{SpellsBytes}
use Rattle.json_model.specs.Constants.{is_constant, is_untaken}
use Rattle.json_model.specs.Numbers.{SpellsWhole, SpellsShort, SpellsUpTo, max_count, max_code, max_listener_id}
use Rattle.json_model.specs.References.{SpellsReference, HasDocumentFault, HasReferenceFault, HasFieldFault}

-- no fault where the fact holds, and this one where it doesn't
abbrev pub Unless : Type 0 → JsonFault → List JsonFault → Type 0
Unless Fact fault faults = (Fact × (faults ≡ [])) ⊎ ((Fact → ⊥) × (faults ≡ fault ∷ []))

-- the fault of a name
abbrev pub bad_name : NamingFault → List ℕ → JsonFault
bad_name fault name = json_fault.BadName (record { fault = fault; name = name })

-- the fault of a name is one of these, or want of memory
abbrev pub IsNameFault : (NamingFault → Type 0) → List ℕ → JsonFault → Type 0
IsNameFault Has text fault = (fault ≡ json_fault.NoMemory) ⊎ ((why : NamingFault) × Has why × (fault ≡ bad_name why text))

-- ---- what may stand there

-- what null is written as
abbrev pub IsNullTree : Json → Type 0
IsNullTree d = (d ≡ null) ⊎ (d ≡ string (codes "NULL_VALUE"))

abbrev pub IsText : Json → Type 0
IsText d = (text : List ℕ) × (d ≡ string text)

abbrev pub IsTimeText : List ℕ → Type 0
IsTimeText text = (time : Timestamp) × (time_of text ≡ Some time)

abbrev pub IsBytesText : List ℕ → Type 0
IsBytesText text = (bytes : List ℕ) × SpellsBytes text bytes

-- the text names a document of any database
abbrev pub IsReferenceText : List ℕ → Type 0
IsReferenceText text = (name : RefName) × SpellsReference text name

-- the text names a document under the root
abbrev pub IsDocumentText : Root → List ℕ → Type 0
IsDocumentText root text = (key : List (List ℕ)) × (IsKey key × (text ≡ name_text root key))

-- how many names a path may have
abbrev pub max_names : ℕ
max_names = 21

-- The text is the path of a field in a write: it has at most 21 names, each the name of a field.
pub record SpellsFieldPath (text : List ℕ) (names : List (List ℕ)) : Type 0 where
  pub spelled : SpellsPath text names
  pub fields : All IsFieldName names
  pub few : length names ≤ max_names

abbrev pub IsFieldPathText : List ℕ → Type 0
IsFieldPathText text = (names : List (List ℕ)) × SpellsFieldPath text names

-- the text is the path of a field in a query: at most 21 names, each the name of a field, or `__name__` by itself
pub record SpellsQueryPath (text : List ℕ) (names : List (List ℕ)) : Type 0 where
  pub spelled : SpellsPath text names
  pub path : IsFieldPath names
  pub few : length names ≤ max_names

abbrev pub IsQueryPathText : List ℕ → Type 0
IsQueryPathText text = (names : List (List ℕ)) × SpellsQueryPath text names

-- the text names a document under the root, or the root's `documents`
abbrev pub IsParentText : Root → List ℕ → Type 0
IsParentText root text = (text ≡ documents_text root) ⊎ IsDocumentText root text

-- a text of which the fact holds
abbrev pub IsTextOf : (List ℕ → Type 0) → Json → Type 0
IsTextOf Fact d = (text : List ℕ) × ((d ≡ string text) × Fact text)

-- a tree may stand as a leaf of that kind
abbrev pub FitsLeaf : Root → Leaf → Json → Type 0
FitsLeaf root leaf.Null d = IsNullTree d
FitsLeaf root leaf.Boolean d = (is : Bool) × (d ≡ boolean is)
FitsLeaf root leaf.Integer d = (z : ℤ) × SpellsWhole d z
FitsLeaf root leaf.Time d = IsTextOf IsTimeText d
FitsLeaf root leaf.Text d = IsText d
FitsLeaf root leaf.Bytes d = IsTextOf IsBytesText d
FitsLeaf root leaf.Reference d = IsTextOf IsReferenceText d
FitsLeaf root leaf.Name d = IsTextOf (IsDocumentText root) d
FitsLeaf root leaf.Path d = IsTextOf IsFieldPathText d
FitsLeaf root leaf.ServerTime d = d ≡ string (codes "REQUEST_TIME")
FitsLeaf root leaf.Id d = IsTextOf IsSegment d
FitsLeaf root leaf.Parent d = IsTextOf (IsParentText root) d
FitsLeaf root leaf.QueryPath d = IsTextOf IsQueryPathText d
FitsLeaf root leaf.Limit d = (z : ℤ) × SpellsShort d z
FitsLeaf root leaf.Descendants d = d ≡ boolean false
FitsLeaf root leaf.TargetId d = (z : ℤ) × SpellsShort d z
FitsLeaf root leaf.Count d = (n : ℕ) × SpellsUpTo max_count d n
FitsLeaf root leaf.Code d = (n : ℕ) × SpellsUpTo max_code d n
FitsLeaf root leaf.ListenerId d = (n : ℕ) × SpellsUpTo max_listener_id d n
FitsLeaf root (leaf.Constant which) d = IsTextOf (λ text. is_constant which text ≡ true) d

-- a leaf of that kind is a text of which a fact holds
abbrev pub is_of_text : Leaf → Bool
is_of_text leaf.Null = false
is_of_text leaf.Boolean = false
is_of_text leaf.Integer = false
is_of_text leaf.Text = false
is_of_text leaf.ServerTime = false
is_of_text leaf.Limit = false
is_of_text leaf.Descendants = false
is_of_text leaf.TargetId = false
is_of_text leaf.Count = false
is_of_text leaf.Code = false
is_of_text leaf.ListenerId = false
is_of_text _ = true

-- that fact
abbrev pub FitsText : Root → Leaf → List ℕ → Type 0
FitsText root leaf.Time text = IsTimeText text
FitsText root leaf.Bytes text = IsBytesText text
FitsText root leaf.Reference text = IsReferenceText text
FitsText root leaf.Name text = IsDocumentText root text
FitsText root leaf.Path text = IsFieldPathText text
FitsText root leaf.Id text = IsSegment text
FitsText root leaf.Parent text = IsParentText root text
FitsText root leaf.QueryPath text = IsQueryPathText text
FitsText root (leaf.Constant which) text = is_constant which text ≡ true
FitsText root _ text = ⊥

-- ---- the faults of what may not

-- the faults of a text that is to be a name: none, or one of these
abbrev pub NamingFaults : Type 0 → (NamingFault → Type 0) → List ℕ → List JsonFault → Type 0
NamingFaults Fact Has text faults = (Fact × (faults ≡ [])) ⊎ ((fault : NamingFault) × Has fault × (faults ≡ bad_name fault text ∷ []))

-- of a field's name
abbrev pub FieldNameFaults : List ℕ → List JsonFault → Type 0
FieldNameFaults name faults = NamingFaults (IsFieldName name) (HasFieldFault name) name faults

-- why a text that has at most 21 names, or none, isn't the path of a field in a write
abbrev pub HasFieldPathFault : List ℕ → NamingFault → Type 0
-- it isn't read as any path whose names have 1 to 1,500 bytes
HasFieldPathFault text BadPath = (names : List (List ℕ)) → SpellsPath text names → ¬ (All HasNameLength names)
-- it is read as one, and a name is reserved
HasFieldPathFault text ReservedField = (names : List (List ℕ)) × SpellsPath text names × All HasNameLength names × ((name : List ℕ) × Contains names name × IsReserved name)
HasFieldPathFault text _ = ⊥

-- the text has more names than a path may have
abbrev pub HasManyNames : List ℕ → Type 0
HasManyNames text = (names : List (List ℕ)) × SpellsPath text names × (max_names < length names)

-- The faults of a text that is to be a path. One with too many names is too deep, whatever they are.
pub data NamesFaults (Fact : Type 0) (Has : NamingFault → Type 0) (text : List ℕ) : List JsonFault → Type 0 where
  too_many : HasManyNames text → NamesFaults Fact Has text (json_fault.TooDeep ∷ [])
  few : {faults : List JsonFault} → ¬ (HasManyNames text) → NamingFaults Fact Has text faults → NamesFaults Fact Has text faults

-- of one in a write
abbrev pub PathFaults : List ℕ → List JsonFault → Type 0
PathFaults text faults = NamesFaults (IsFieldPathText text) (HasFieldPathFault text) text faults

-- why a text that has at most 21 names, or none, isn't the path of a field in a query
abbrev pub HasQueryPathFault : List ℕ → NamingFault → Type 0
HasQueryPathFault text BadPath = HasPathFault text field.BadPath
HasQueryPathFault text ReservedField = HasPathFault text field.ReservedField
HasQueryPathFault text _ = ⊥

-- of one in a query
abbrev pub QueryPathFaults : List ℕ → List JsonFault → Type 0
QueryPathFaults text faults = NamesFaults (IsQueryPathText text) (HasQueryPathFault text) text faults

-- of a text that is to be the id of a collection
abbrev pub IdFaults : List ℕ → List JsonFault → Type 0
IdFaults text faults = Unless (IsSegment text) (bad_name BadSegment text) faults

-- of a text that is to be a constant
abbrev pub constant_faults : Constants → List ℕ → List ℕ → List JsonFault
constant_faults which name text =
    if is_constant which text then []
    else if is_untaken which text then json_fault.Unsupported text ∷ []
    else json_fault.BadShape name ∷ []

-- of what must be false: true isn't supported
abbrev pub descendants_faults : List ℕ → Json → List JsonFault
descendants_faults name (boolean false) = []
descendants_faults name (boolean true) = json_fault.Unsupported name ∷ []
descendants_faults name _ = json_fault.BadShape name ∷ []

-- a text with these faults, or no text
pub data InText (d : Json) (name : List ℕ) (Faults : List ℕ → List JsonFault → Type 0) : List JsonFault → Type 0 where
  in_text : (text : List ℕ) (faults : List JsonFault) → d ≡ string text → Faults text faults → InText d name Faults faults
  in_other : ¬ (IsText d) → InText d name Faults (json_fault.BadShape name ∷ [])

-- of a text as a reference, and as a name under the root
abbrev pub ReferenceFaults : List ℕ → List JsonFault → Type 0
ReferenceFaults text faults = NamingFaults (IsReferenceText text) (HasReferenceFault text) text faults

abbrev pub DocumentFaults : Root → List ℕ → List JsonFault → Type 0
DocumentFaults root text faults = NamingFaults (IsDocumentText root text) (HasDocumentFault root text) text faults

-- of a text that is to name a document, or the root's `documents`
abbrev pub ParentFaults : Root → List ℕ → List JsonFault → Type 0
ParentFaults root text faults = ((text ≡ documents_text root) × (faults ≡ [])) ⊎ ((text ≢ documents_text root) × DocumentFaults root text faults)

-- the faults of a text that is to be a leaf of that kind
abbrev pub TextFaults : Root → Leaf → List ℕ → List ℕ → List JsonFault → Type 0
TextFaults root leaf.Time name text faults = Unless (IsTimeText text) (json_fault.BadTime name) faults
TextFaults root leaf.Bytes name text faults = Unless (IsBytesText text) (json_fault.BadBytes name) faults
TextFaults root leaf.Reference name text faults = ReferenceFaults text faults
TextFaults root leaf.Name name text faults = DocumentFaults root text faults
TextFaults root leaf.Path name text faults = PathFaults text faults
TextFaults root leaf.Id name text faults = IdFaults text faults
TextFaults root leaf.Parent name text faults = ParentFaults root text faults
TextFaults root leaf.QueryPath name text faults = QueryPathFaults text faults
TextFaults root (leaf.Constant which) name text faults = faults ≡ constant_faults which name text
TextFaults root _ name text faults = faults ≡ []

-- the faults of a leaf of that kind, under that name
abbrev pub LeafFaults : Root → Leaf → List ℕ → Json → List JsonFault → Type 0
LeafFaults root leaf.Time name d faults = InText d name (λ text. Unless (IsTimeText text) (json_fault.BadTime name)) faults
LeafFaults root leaf.Bytes name d faults = InText d name (λ text. Unless (IsBytesText text) (json_fault.BadBytes name)) faults
LeafFaults root leaf.Reference name d faults = InText d name ReferenceFaults faults
LeafFaults root leaf.Name name d faults = InText d name (DocumentFaults root) faults
LeafFaults root leaf.Path name d faults = InText d name PathFaults faults
LeafFaults root leaf.Id name d faults = InText d name IdFaults faults
LeafFaults root leaf.Parent name d faults = InText d name (ParentFaults root) faults
LeafFaults root leaf.QueryPath name d faults = InText d name QueryPathFaults faults
LeafFaults root leaf.Descendants name d faults = faults ≡ descendants_faults name d
LeafFaults root (leaf.Constant which) name d faults = InText d name (λ text. λ found. found ≡ constant_faults which name text) faults
LeafFaults root kind name d faults = Unless (FitsLeaf root kind d) (json_fault.BadShape name) faults
