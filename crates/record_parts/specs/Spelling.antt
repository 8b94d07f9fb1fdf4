-- The parts of commits as bytes. Numbers are big-endian, signed ones two's complement.
use Rattle.std.specs.Prelude.{ℕ, ◌<◌, ◌≤◌, ◌-◌, Bool, ℤ, if◌then◌else◌, ◌^◌, List, [], ◌∷◌, ◌++◌, length, flat_map, Option, Some, None, IfSome, FitsSigned}
use Rattle.std.specs.List.{All}
use Rattle.std.specs.Int.{w32, w64, to_be_bytes, cast_unsigned}
use Rattle.std.specs.Str.{IsUtf8}
use Rattle.document_keys.specs.Names.{IsKey, IsSegment}
use Rattle.document_keys.specs.Paths.{IsFieldName}
use Rattle.value_model.specs.Time.{IsMoment}
use Rattle.value_model.specs.Data as kind
use Rattle.value_model.specs.Data.{Data, Items, Members, Entries, list_of, entries_of, depth, entries_depth}
use Rattle.value_model.specs.Storable.{IsCountable, IsStorable, AreStorable}
use Rattle.value_model.specs.declared.timestamp.Timestamp.{Timestamp}
use Rattle.value_model.specs.declared.reference.RefName.{RefName}
use Rattle.mutations.specs.declared.transform.Change.{Change}
use Rattle.mutations.specs.declared.transform.Change.TheVariants.{ServerTime, Increment, Maximum, Minimum, Append, RemoveAll}
use Rattle.mutations.specs.declared.transform.Transform.{Transform}
use Rattle.mutations.specs.declared.write.Precondition.{Precondition}
use Rattle.mutations.specs.declared.write.Precondition.TheVariants.{Free, Exists, UpdateTime}
use Rattle.mutations.specs.declared.write.Write.{Write}
use Rattle.mutations.specs.declared.write.Write.TheVariants.{Update, Delete}

-- eight bytes
abbrev pub number : ℕ → List ℕ
number n = to_be_bytes w64 n

-- eight bytes, in two's complement
abbrev pub signed : ℤ → List ℕ
signed z = number (cast_unsigned w64 z)

-- one byte, 0 or 1
abbrev pub boolean : Bool → List ℕ
boolean b = (if b then 1 else 0) ∷ []

-- the number of items, and each
abbrev pub many : {X : Type 0} → (X → List ℕ) → List X → List ℕ
many spell xs = number (length xs) ++ flat_map spell xs

-- 0 for nothing, or 1 and what there is
abbrev pub opt : {X : Type 0} → (X → List ℕ) → Option X → List ℕ
opt spell None = 0 ∷ []
opt spell (Some x) = 1 ∷ spell x

-- the length, and the bytes
unfoldable pub text : List ℕ → List ℕ
text bytes = number (length bytes) ++ bytes

-- the number of segments, and each as a text
unfoldable pub key : List (List ℕ) → List ℕ
key segments = many text segments

-- the seconds, and the nanoseconds in four bytes
unfoldable pub time : Timestamp → List ℕ
time t = signed t.seconds ++ to_be_bytes w32 t.nanos

-- the project, the database and the key
unfoldable pub name : RefName → List ℕ
name r = text r.project ++ (text r.database ++ key r.key)

-- A byte for the kind, and what it holds: a boolean as 0 or 1, a whole number, a time, a text, bytes, the parts of a name, or
-- the number of items or members and each of them. A time that isn't known yet is in nothing that has a spelling.
unfoldable mutual
  pub value : Data → List ℕ
  value kind.null = 0 ∷ []
  value (kind.boolean b) = 1 ∷ boolean b
  value (kind.integer z) = 2 ∷ signed z
  value (kind.time t) = 3 ∷ time t
  value (kind.pending t) = 4 ∷ time t
  value (kind.text s) = 5 ∷ text s
  value (kind.bytes s) = 6 ∷ text s
  value (kind.reference r) = 7 ∷ name r
  value (kind.array ds) = 8 ∷ (number (length (list_of ds)) ++ items ds)
  value (kind.map ms) = 9 ∷ (number (length (entries_of ms)) ++ members ms)

  pub items : Items → List ℕ
  items kind.no_items = []
  items (kind.item d ds) = value d ++ items ds

  pub members : Members → List ℕ
  members kind.no_members = []
  members (kind.member n d ms) = text n ++ (value d ++ members ms)

-- a name, and its value
unfoldable pub entry : List ℕ × Data → List ℕ
entry e = text e.0 ++ value e.1

-- the number of fields, and each
unfoldable pub fields : Entries → List ℕ
fields es = many entry es

-- the number of names, and each as a text
abbrev pub path : List (List ℕ) → List ℕ
path names = many text names

-- 0 for none, 1 and whether there is to be a document, or 2 and the time of its last change
unfoldable pub precondition : Precondition → List ℕ
precondition Free = 0 ∷ []
precondition (Exists is) = 1 ∷ boolean is
precondition (UpdateTime t) = 2 ∷ time t

-- a byte for the kind, and its number or its values
unfoldable pub change : Change → List ℕ
change ServerTime = 1 ∷ []
change (Increment z) = 2 ∷ signed z
change (Maximum z) = 3 ∷ signed z
change (Minimum z) = 4 ∷ signed z
change (Append ds) = 5 ∷ many value ds
change (RemoveAll ds) = 6 ∷ many value ds

-- the path, and the change there
unfoldable pub transform : Transform → List ℕ
transform t = path t.path ++ change t.change

-- 1 for an update, its key, fields, mask, transforms and precondition; or 2 for a delete, its key and precondition
unfoldable pub write : Write → List ℕ
write (Update k fs mask transforms condition) = 1 ∷ (key k ++ (fields fs ++ (opt (many path) mask ++ (many transform transforms ++ precondition condition))))
write (Delete k condition) = 2 ∷ (key k ++ precondition condition)

-- a text whose length eight bytes have
pub record IsText (bytes : List ℕ) : Type 0 where
  pub utf8 : IsUtf8 bytes
  pub many : length bytes < 2 ^ 64

-- the name of a field that is a text
pub record IsNameText (name : List ℕ) : Type 0 where
  pub utf8 : IsUtf8 name
  pub field : IsFieldName name

-- a segment that is a text
pub record IsSegmentText (name : List ℕ) : Type 0 where
  pub utf8 : IsUtf8 name
  pub segment : IsSegment name

-- a value that can be stored, nested at most so deep
pub record IsSpelledValue (limit : ℕ) (d : Data) : Type 0 where
  pub storable : IsStorable d
  pub nested : depth d ≤ limit

-- a key of UTF-8 segments, whose number eight bytes have
pub record IsSpelledKey (segments : List (List ℕ)) : Type 0 where
  pub names : IsKey segments
  pub texts : All IsUtf8 segments
  pub many : length segments < 2 ^ 64

-- fields that can be stored, whose values are nested at most so deep
pub record AreSpelledFields (limit : ℕ) (es : Entries) : Type 0 where
  pub storable : AreStorable es
  pub nested : entries_depth es ≤ limit

-- a list whose number eight bytes have, and each of whose items has a spelling
pub record AreSpelled {X : Type 0} (Fits : X → Type 0) (xs : List X) : Type 0 where
  pub count : IsCountable xs
  pub each : All Fits xs

-- a path that has a spelling: 1 to 21 names of fields, so it isn't `__name__`
pub record IsSpelledPath (names : List (List ℕ)) : Type 0 where
  pub some : 0 < length names
  pub most : length names ≤ 21
  pub each : All IsNameText names

-- a precondition that has a spelling: its time is one of the years 1 to 9999
abbrev pub IsSpelledPrecondition : Precondition → Type 0
IsSpelledPrecondition Free = Unit {0}
IsSpelledPrecondition (Exists is) = Unit {0}
IsSpelledPrecondition (UpdateTime t) = IsMoment t

-- values for an array under a path of so many names, at most 20: within it they are nested at most 20 deep
pub record AreSpelledElements (names : ℕ) (ds : List Data) : Type 0 where
  pub path : names ≤ 20
  pub values : AreSpelled (IsSpelledValue (20 - names)) ds

-- a change that has a spelling, at a path of so many names
abbrev pub IsSpelledChange : ℕ → Change → Type 0
IsSpelledChange names ServerTime = Unit {0}
IsSpelledChange names (Increment z) = FitsSigned w64 z
IsSpelledChange names (Maximum z) = FitsSigned w64 z
IsSpelledChange names (Minimum z) = FitsSigned w64 z
IsSpelledChange names (Append ds) = AreSpelledElements names ds
IsSpelledChange names (RemoveAll ds) = AreSpelledElements names ds

-- a transform that has a spelling
pub record IsSpelledTransform (t : Transform) : Type 0 where
  pub path : IsSpelledPath t.path
  pub change : IsSpelledChange (length t.path) t.change

-- an update that has a spelling: its values are nested at most 20 deep
pub record IsSpelledUpdate (k : List (List ℕ)) (fs : Entries) (paths : Option (List (List (List ℕ)))) (ts : List Transform) (held : Precondition) : Type 0 where
  pub key : IsSpelledKey k
  pub fields : AreSpelledFields 20 fs
  pub mask : IfSome paths (AreSpelled IsSpelledPath)
  pub transforms : AreSpelled IsSpelledTransform ts
  pub condition : IsSpelledPrecondition held

-- a write that has a spelling
abbrev pub IsSpelledWrite : Write → Type 0
IsSpelledWrite (Update k fs mask transforms condition) = IsSpelledUpdate k fs mask transforms condition
IsSpelledWrite (Delete k condition) = IsSpelledKey k × IsSpelledPrecondition condition
