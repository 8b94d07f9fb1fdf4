-- How field paths are written: the names of the fields from the outermost in, joined by `.`. A name of letters, digits
-- and `_` that doesn't begin with a digit may stand plain; any may stand between backticks, with a backslash before each
-- backtick and backslash in it.
use Rattle.std.specs.Prelude.{◌≡◌, ◌≢◌, ◌⊎◌, ℕ, ◌<◌, Bool, false, ◌&&◌, ◌||◌, ◌==◌, if◌then◌else◌, IsTrue, List, [], ◌∷◌, ◌++◌, length, codes}
use Rattle.std.specs.Char.{is_ascii_alphabetic, is_ascii_alphanumeric}
use Rattle.std.specs.List.{All, Contains, list_all}
use Rattle.document_keys.specs.declared.faults.FieldFault.{FieldFault}
use Rattle.document_keys.specs.declared.faults.FieldFault.TheVariants.{BadPath, ReservedField, NoMemory}
use Rattle.document_keys.specs.Names.{HasNameLength, IsReserved}

-- what a plain name begins with, and what it goes on with: `[A-Za-z_]` and `[A-Za-z0-9_]`
abbrev pub is_name_start : ℕ → Bool
is_name_start byte = is_ascii_alphabetic byte || (byte == 95)

abbrev pub is_name_part : ℕ → Bool
is_name_part byte = is_ascii_alphanumeric byte || (byte == 95)

-- the name may stand plain
abbrev pub is_plain : List ℕ → Bool
is_plain [] = false
is_plain (first ∷ others) = is_name_start first && list_all is_name_part others

-- a backtick or a backslash
abbrev pub is_escaped : ℕ → Bool
is_escaped byte = (byte == 96) || (byte == 92)

-- with a backslash before each of those
abbrev pub escaped : List ℕ → List ℕ
escaped [] = []
escaped (byte ∷ name) = if is_escaped byte then 92 ∷ byte ∷ escaped name else byte ∷ escaped name

-- between backticks
abbrev pub quoted : List ℕ → List ℕ
quoted name = 96 ∷ (escaped name ++ 96 ∷ [])

-- a text that is read as the name
pub data SpellsName : List ℕ → List ℕ → Type 0 where
  plainly : (name : List ℕ) → IsTrue (is_plain name) → SpellsName name name
  between : (name : List ℕ) → SpellsName (quoted name) name

-- a text that is read as the path
pub data SpellsPath : List ℕ → List (List ℕ) → Type 0 where
  alone : (text name : List ℕ) → SpellsName text name → SpellsPath text (name ∷ [])
  joined : (text name rest : List ℕ) (path : List (List ℕ)) → SpellsName text name → SpellsPath rest path → SpellsPath (text ++ 46 ∷ rest) (name ∷ path)

-- the printed form, which quotes only where it must
abbrev pub printed_name : List ℕ → List ℕ
printed_name name = if is_plain name then name else quoted name

abbrev pub printed_path : List (List ℕ) → List ℕ
printed_path [] = []
printed_path (name ∷ []) = printed_name name
printed_path (name ∷ next ∷ path) = printed_name name ++ 46 ∷ printed_path (next ∷ path)

-- the name of a field: 1 to 1,500 bytes, not of the form `__.*__`
pub record IsFieldName (name : List ℕ) : Type 0 where
  pub long : HasNameLength name
  pub free : ¬ (IsReserved name)

-- the fault of a name
abbrev pub HasNameFault : List ℕ → FieldFault → Type 0
HasNameFault name BadPath = ¬ (HasNameLength name)
HasNameFault name ReservedField = HasNameLength name × IsReserved name
HasNameFault name NoMemory = ⊥

-- some name is reserved, and they aren't `__name__` by itself, which stands for the document's own name
pub record HasReserved (names : List (List ℕ)) : Type 0 where
  pub not_key : names ≢ codes "__name__" ∷ []
  pub name : List ℕ
  pub there : Contains names name
  pub reserved : IsReserved name

-- a field path: at least one name, each of 1 to 1,500 bytes, and none reserved but `__name__` by itself
pub record IsFieldPath (names : List (List ℕ)) : Type 0 where
  pub some : 0 < length names
  pub long : All HasNameLength names
  pub free : ¬ (HasReserved names)

-- the fault of a list of names
abbrev pub HasNamesFault : List (List ℕ) → FieldFault → Type 0
HasNamesFault names BadPath = (length names ≡ 0) ⊎ ¬ (All HasNameLength names)
HasNamesFault names ReservedField = (0 < length names) × All HasNameLength names × HasReserved names
HasNamesFault names NoMemory = ⊥

-- the fault of a text that isn't a field path
abbrev pub HasPathFault : List ℕ → FieldFault → Type 0
-- it isn't read as any path whose names have 1 to 1,500 bytes
HasPathFault text BadPath = (names : List (List ℕ)) → SpellsPath text names → ¬ (All HasNameLength names)
-- it is read as one, and a name is reserved
HasPathFault text ReservedField = (names : List (List ℕ)) × SpellsPath text names × All HasNameLength names × HasReserved names
HasPathFault text NoMemory = Unit {0}
