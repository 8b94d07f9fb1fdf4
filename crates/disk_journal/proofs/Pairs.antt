-- One of two files counts, and what they give is one list.
use Rattle.std.proofs.Common.{◌≡◌, ℕ, ◌≤◌, ◌<◌, List, refl, sym, subst, ◌∙◌, arith}
use Rattle.host_api.specs.declared.host.FileId.{FileId}
use Rattle.host_api.specs.declared.host.FileId.TheVariants.{Zero, One}
use Rattle.host_api.specs.Host.{Files, other}
use Rattle.disk_journal.specs.File.{IsFile, IsBelow, Outranks, IsForeign, Counting, Gives}
use Rattle.disk_journal.proofs.Appending.{of_each}
use Rattle.disk_journal.proofs.Once.{file_once, file_not_blank}
use Rattle.disk_journal.proofs.Openings.{blank_gives}

pub record IsSameCount (file : FileId) (g : ℕ) (ps : List (List ℕ)) (also : FileId) (h : ℕ) (qs : List (List ℕ)) : Type 0 where
  pub counts : file ≡ also
  pub generation : g ≡ h
  pub payloads : ps ≡ qs

-- the file that doesn't count is of a generation that the other one outranks
outranked : {h : ℕ} {qs : List (List ℕ)} {f : ℕ} {bytes : List ℕ} (file : FileId) (g : ℕ) → IsBelow file g bytes → IsFile h qs f bytes → Outranks file g h
outranked {h} {qs} {f} {bytes} file g (IsBelow.blank is) also = absurd (file_not_blank also is)
outranked {h} {qs} {f} {bytes} file g (IsBelow.older lower ps e is outranks) also = subst (λ (n : ℕ). Outranks file g n) (file_once is also).generation outranks

not_both : {g h : ℕ} {ps qs : List (List ℕ)} {files : Files} → Counting files Zero g ps → Counting files One h qs → ⊥
not_both {g} {h} first second =
    let one : h ≤ g = outranked Zero g first.below second.counts in
    let two : g < h = outranked One h second.below first.counts in
    omega arith

pub counts_once : {files : Files} {file : FileId} {g : ℕ} {ps : List (List ℕ)} {also : FileId} {h : ℕ} {qs : List (List ℕ)} → Counting files file g ps → Counting files also h qs → IsSameCount file g ps also h qs
counts_once {file = Zero} {also = Zero} first second = let same = file_once first.counts second.counts in record { counts = refl; generation = same.generation; payloads = same.payloads }
counts_once {file = Zero} {also = One} first second = absurd (not_both first second)
counts_once {file = One} {also = Zero} first second = absurd (not_both second first)
counts_once {file = One} {also = One} first second = let same = file_once first.counts second.counts in record { counts = refl; generation = same.generation; payloads = same.payloads }

pub gives_once : (files : Files) (g : ℕ) (ps : List (List ℕ)) (h : ℕ) (qs : List (List ℕ)) → Gives files g ps → Gives files h qs → (g ≡ h) × (ps ≡ qs)
gives_once files g ps h qs (Gives.fresh are first none) second = let also = blank_gives files h qs are second in (first ∙ sym also.0, none ∙ sym also.1)
gives_once files g ps h qs (Gives.counted file first) (Gives.fresh are one none) = let also = blank_gives files g ps are (Gives.counted file first) in (also.0 ∙ sym one, also.1 ∙ sym none)
gives_once files g ps h qs (Gives.counted file first) (Gives.counted also second) = let same = counts_once first second in (same.generation, same.payloads)

-- what may stand beside the counting file isn't foreign
below_known : (file : FileId) (g : ℕ) (bytes : List ℕ) → IsBelow file g bytes → ¬ IsForeign bytes
below_known file g bytes (IsBelow.blank is) foreign = foreign.not_blank is
below_known file g bytes (IsBelow.older lower ps e is outranks) foreign = foreign.no_file lower ps e is

pub none_foreign : (files : Files) (g : ℕ) (ps : List (List ℕ)) (file : FileId) → Gives files g ps → ¬ IsForeign (files file)
none_foreign files g ps Zero (Gives.fresh are first none) foreign = foreign.not_blank are.0
none_foreign files g ps One (Gives.fresh are first none) foreign = foreign.not_blank are.1
none_foreign files g ps file (Gives.counted f it) foreign = of_each (λ (x : FileId). ¬ IsForeign (files x)) f (λ known. known.no_file g ps it.end it.counts) (below_known f g (files (other f)) it.below) file foreign
