-- Bytes that are a commit, and nothing more.
use Rattle.std.proofs.Common.{◌≡◌, ℕ, ◌<◌, List, [], ◌++◌, length, sym, ap, ◌∙◌, arith}
use Rattle.std.proofs.lemmas.List.{append-nil}
use Rattle.record_codec.specs.declared.commit.Commit.{Commit}
use Rattle.record_codec.specs.Spelling.{spelling, HasSpelling}
use Rattle.record_parts.specs.Reading.{Begins, BeginsNone}
use Rattle.record_parts.proofs.Forms.{next}
use Rattle.record_codec.proofs.CommitForms.{unique_commit}

pub whole : (bytes : List ℕ) (c : Commit) → Begins spelling HasSpelling bytes c [] → bytes ≡ spelling c
whole bytes c b = b.parts ∙ append-nil (spelling c)

pub no_whole : (bytes : List ℕ) → BeginsNone spelling HasSpelling bytes → (c : Commit) → HasSpelling c → bytes ≡ spelling c → ⊥
no_whole bytes none c fits e = none c [] (record { parts = e ∙ sym (append-nil (spelling c)); fits = fits })

pub longer : (bytes : List ℕ) (c : Commit) (rest : List ℕ) → Begins spelling HasSpelling bytes c rest → 0 < length rest → (d : Commit) → HasSpelling d → bytes ≡ spelling d → ⊥
longer bytes c rest first some d fits e =
    let is = next spelling HasSpelling unique_commit bytes c rest first d [] fits (e ∙ sym (append-nil (spelling d))) in
    omega (arith, some, ap length is.1)

pub one_value : (a b : Commit) → HasSpelling a → HasSpelling b → spelling a ≡ spelling b → a ≡ b
one_value a b fits_a fits_b e = (unique_commit a b [] [] fits_a fits_b (ap (λ (bytes : List ℕ). bytes ++ []) e)).0
