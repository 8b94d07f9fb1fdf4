-- What the two journal files hold. The byte 1 is an open gate, and any other byte a closed one. A file is a header, that is
-- a gate, the magic and the file's generation, and then records, that is a gate, a length and as many bytes of payload.
-- The records end at the first closed gate, and what follows it has no meaning.
use Rattle.std.specs.Prelude.{◌≡◌, ◌≢◌, ℕ, ◌^◌, ◌≤◌, ◌<◌, List, [], ◌∷◌, ◌++◌, length, slice_index, ◌⊎◌, All, flat_map}
use Rattle.std.specs.Int.{w64, to_be_bytes}
use Rattle.host_api.specs.declared.host.FileId.{FileId}
use Rattle.host_api.specs.declared.host.FileId.TheVariants.{Zero, One}
use Rattle.host_api.specs.Host.{Files, other}

-- the codes of "FSJRNL1"
abbrev pub magic : List ℕ
magic = 70 ∷ 83 ∷ 74 ∷ 82 ∷ 78 ∷ 76 ∷ 49 ∷ []

-- an open header: 16 bytes, of which the last eight are the generation, its highest byte first
unfoldable pub header_of : ℕ → List ℕ
header_of generation = 1 ∷ magic ++ to_be_bytes w64 generation

-- an open record: eight bytes of length, the highest first, and the payload
unfoldable pub record_of : List ℕ → List ℕ
record_of payload = 1 ∷ to_be_bytes w64 (length payload) ++ payload

-- there is no header, or its gate is closed
abbrev pub IsBlank : List ℕ → Type 0
IsBlank file = (length file < 16) ⊎ (slice_index file 0 ≢ 1)

-- The header, the open records of these payloads, and at the byte `end` a closed gate.
pub record IsFile (generation : ℕ) (payloads : List (List ℕ)) (end : ℕ) (file : List ℕ) : Type 0 where
  pub at_least_one : 1 ≤ generation
  pub fits : generation < 2 ^ 64
  pub short : All (λ p. length p < 2 ^ 64) payloads
  pub gate : ℕ
  pub shut : gate ≢ 1
  pub rest : List ℕ
  pub split : file ≡ header_of generation ++ flat_map record_of payloads ++ gate ∷ rest
  pub ends : length (header_of generation ++ flat_map record_of payloads) ≡ end

-- neither blank nor of the form above
pub record IsForeign (file : List ℕ) : Type 0 where
  pub not_blank : ¬ IsBlank file
  pub no_file : (generation : ℕ) (payloads : List (List ℕ)) (end : ℕ) → ¬ IsFile generation payloads end file

-- The file is the first that is foreign.
abbrev pub IsFirstForeign : FileId → Files → Type 0
IsFirstForeign Zero files = IsForeign (files Zero)
IsFirstForeign One files = ¬ IsForeign (files Zero) × IsForeign (files One)

-- Where this file has this generation, it counts before the other one with the lower generation: file 0 counts on a tie.
abbrev pub Outranks : FileId → ℕ → ℕ → Type 0
Outranks Zero generation lower = lower ≤ generation
Outranks One generation lower = lower < generation

-- what the other file may be where this one counts with this generation
pub data IsBelow (file : FileId) (generation : ℕ) (bytes : List ℕ) : Type 0 where
  blank : IsBlank bytes → IsBelow file generation bytes
  older : (lower : ℕ) (payloads : List (List ℕ)) (end : ℕ) → IsFile lower payloads end bytes → Outranks file generation lower → IsBelow file generation bytes

-- Of two files this one counts, and has this generation and these payloads.
pub record Counting (files : Files) (file : FileId) (generation : ℕ) (payloads : List (List ℕ)) : Type 0 where
  pub end : ℕ
  pub counts : IsFile generation payloads end (files file)
  pub below : IsBelow file generation (files (other file))

abbrev pub AreBlank : Files → Type 0
AreBlank files = IsBlank (files Zero) × IsBlank (files One)

-- The generation and the payloads that two files give: 1 and none where both are blank, and otherwise those of the
-- counting file.
pub data Gives (files : Files) (generation : ℕ) (payloads : List (List ℕ)) : Type 0 where
  fresh : AreBlank files → generation ≡ 1 → payloads ≡ [] → Gives files generation payloads
  counted : (file : FileId) → Counting files file generation payloads → Gives files generation payloads

-- The file that a journal goes on with: the counting one, and file 0 where both are blank.
pub data GoesOn (files : Files) (file : FileId) : Type 0 where
  first : AreBlank files → file ≡ Zero → GoesOn files file
  same : (generation : ℕ) (payloads : List (List ℕ)) → Counting files file generation payloads → GoesOn files file
