-- There is one way to read a file, and one way to read two.
use Rattle.std.specs.Prelude.{◌≡◌, ℕ, List}
use Rattle.host_api.specs.declared.host.FileId.{FileId}
use Rattle.host_api.specs.Host.{Files}
use Rattle.disk_journal.specs.File.{IsBlank, IsFile, IsForeign, Counting, Gives}

-- A file has at most one generation, one list of payloads and one place of its first closed gate.
abbrev pub AFileIsReadOnce : Type 0
AFileIsReadOnce = (file : List ℕ) (g : ℕ) (ps : List (List ℕ)) (e : ℕ) (h : ℕ) (qs : List (List ℕ)) (f : ℕ) → IsFile g ps e file → IsFile h qs f file → (g ≡ h) × (ps ≡ qs) × (e ≡ f)

-- A file that has these isn't blank.
abbrev pub AFileIsNotBlank : Type 0
AFileIsNotBlank = (file : List ℕ) (g : ℕ) (ps : List (List ℕ)) (e : ℕ) → IsFile g ps e file → ¬ IsBlank file

-- Of two files at most one counts, with one generation and one list of payloads.
abbrev pub OneFileCounts : Type 0
OneFileCounts = (files : Files) (file : FileId) (g : ℕ) (ps : List (List ℕ)) (also : FileId) (h : ℕ) (qs : List (List ℕ)) → Counting files file g ps → Counting files also h qs → (file ≡ also) × (g ≡ h) × (ps ≡ qs)

-- Two files give at most one generation and one list of payloads.
abbrev pub TwoFilesGiveOnce : Type 0
TwoFilesGiveOnce = (files : Files) (g : ℕ) (ps : List (List ℕ)) (h : ℕ) (qs : List (List ℕ)) → Gives files g ps → Gives files h qs → (g ≡ h) × (ps ≡ qs)

-- Of two files that give payloads none is foreign.
abbrev pub NoneIsForeign : Type 0
NoneIsForeign = (files : Files) (g : ℕ) (ps : List (List ℕ)) (file : FileId) → Gives files g ps → ¬ IsForeign (files file)
