-- The forms of batches and commits.
use Rattle.std.proofs.Common.{◌≡◌, ◌≢◌, ◌≤◌, ℕ, List, [], ◌∷◌, refl, arith}
use Rattle.value_model.specs.declared.timestamp.Timestamp.{Timestamp}
use Rattle.mutations.specs.declared.batch.Batch.{Batch}
use Rattle.mutations.specs.declared.write.Write.{Write}
use Rattle.record_parts.proofs.Wide.{IsUnique}
use Rattle.queries.specs.declared.target.Target.{Target}
use Rattle.mutations.specs.declared.results.WriteResult.{WriteResult}
use Rattle.outcome_codec.specs.declared.parts.KeyedEntry.{KeyedEntry}
use Rattle.outcome_codec.specs.declared.parts.PointRow.{PointRow}
use Rattle.outcome_codec.proofs.OutcomeForms.{result_form, entries_form, rows_form, ids_form, keys_form}
use Rattle.target_codec.proofs.FilterForms.{target_form}
use Rattle.record_parts.proofs.Basics.{word, half, moment}
use Rattle.record_parts.proofs.Combine.{Form, Made, IsKind, HasKind, has_kind, IsTagged, both, list, unique_kinds, tag_first}
use Rattle.record_parts.proofs.WriteForms.{write_form}
use Rattle.record_codec.specs.declared.commit.Commit.{Commit}
use Rattle.record_codec.specs.declared.commit.Commit.TheVariants.{Enqueue, Acknowledge, Reject, Allocate, Point, Reset, Drop}
use Rattle.record_codec.specs.Spelling.{batch, step, spelling, IsSpelledBatch, HasSpelling}

-- ---- batches and commits

abbrev pub from_time : Form (Timestamp × List Write)
from_time = both moment (list write_form)

abbrev pub batch_parts : Form (ℕ × (Timestamp × List Write))
batch_parts = both word from_time

abbrev pub batch_of_parts : ℕ × (Timestamp × List Write) → Batch
batch_of_parts p = record { id = p.0; at = p.1.0; writes = p.1.1 }

pub batch_made : (b : Batch) → IsSpelledBatch b → Made batch_of_parts batch_parts b
batch_made b fits = record { content = (b.id, (b.at, b.writes)); is = refl; fits = (fits.id, (fits.at, fits.writes)) }

pub batch_kind : IsKind batch IsSpelledBatch [] batch_of_parts batch_parts
unfolding batch
batch_kind = record { on = λ x. refl; fits = λ x fits. record { id = fits.0; at = fits.1.0; writes = fits.1.1 }; back = λ b rest bytes e fits. batch_made b fits }

abbrev pub batch_form : Form Batch
batch_form = record { spell = batch; Fits = IsSpelledBatch; unique = unique_kinds batch IsSpelledBatch (λ b fits. has_kind batch_kind b (batch_made b fits)) }

abbrev pub step_tag : Commit → ℕ
step_tag (Enqueue b) = 1
step_tag (Acknowledge b at results) = 2
step_tag (Reject b) = 3
step_tag (Allocate id t) = 4
step_tag (Point at entries rows) = 5
step_tag (Reset ids) = 6
step_tag (Drop keys ids) = 7

pub step_tagged : IsTagged step step_tag
unfolding step
step_tagged (Enqueue b) = refl
step_tagged (Acknowledge b at results) = refl
step_tagged (Reject b) = refl
step_tagged (Allocate id t) = refl
step_tagged (Point at entries rows) = refl
step_tagged (Reset ids) = refl
step_tagged (Drop keys ids) = refl

abbrev pub from_commit_time : Form (Timestamp × List WriteResult)
from_commit_time = both moment (list result_form)

abbrev pub acknowledge_parts : Form (ℕ × (Timestamp × List WriteResult))
acknowledge_parts = both word from_commit_time

abbrev pub acknowledge_of_parts : ℕ × (Timestamp × List WriteResult) → Commit
acknowledge_of_parts p = Acknowledge p.0 p.1.0 p.1.1

abbrev pub allocate_parts : Form (ℕ × Target)
allocate_parts = both half target_form

abbrev pub allocate_of_parts : ℕ × Target → Commit
allocate_of_parts p = Allocate p.0 p.1

abbrev pub from_entries : Form (List KeyedEntry × List PointRow)
from_entries = both entries_form rows_form

abbrev pub point_parts : Form (Timestamp × (List KeyedEntry × List PointRow))
point_parts = both moment from_entries

abbrev pub point_of_parts : Timestamp × (List KeyedEntry × List PointRow) → Commit
point_of_parts p = Point p.0 p.1.0 p.1.1

abbrev pub drop_parts : Form (List (List (List ℕ)) × List ℕ)
drop_parts = both keys_form ids_form

abbrev pub drop_of_parts : List (List (List ℕ)) × List ℕ → Commit
drop_of_parts p = Drop p.0 p.1

enqueue_made : (c : Commit) → step_tag c ≡ 1 → HasSpelling c → Made Enqueue batch_form c
enqueue_made (Enqueue b) e fits = record { content = b; is = refl; fits = fits }
enqueue_made c e fits = absurd (omega (arith, e))

acknowledge_made : (c : Commit) → step_tag c ≡ 2 → HasSpelling c → Made acknowledge_of_parts acknowledge_parts c
acknowledge_made (Acknowledge b at results) e fits = record { content = (b, (at, results)); is = refl; fits = (fits.id, (fits.moment, fits.each)) }
acknowledge_made c e fits = absurd (omega (arith, e))

reject_made : (c : Commit) → step_tag c ≡ 3 → HasSpelling c → Made Reject word c
reject_made (Reject b) e fits = record { content = b; is = refl; fits = fits }
reject_made c e fits = absurd (omega (arith, e))

allocate_made : (c : Commit) → step_tag c ≡ 4 → HasSpelling c → Made allocate_of_parts allocate_parts c
allocate_made (Allocate id t) e fits = record { content = (id, t); is = refl; fits = fits }
allocate_made c e fits = absurd (omega (arith, e))

point_made : (c : Commit) → step_tag c ≡ 5 → HasSpelling c → Made point_of_parts point_parts c
point_made (Point at entries rows) e fits = record { content = (at, (entries, rows)); is = refl; fits = (fits.moment, (fits.seen, fits.held)) }
point_made c e fits = absurd (omega (arith, e))

reset_made : (c : Commit) → step_tag c ≡ 6 → HasSpelling c → Made Reset ids_form c
reset_made (Reset ids) e fits = record { content = ids; is = refl; fits = fits }
reset_made c e fits = absurd (omega (arith, e))

drop_made : (c : Commit) → step_tag c ≡ 7 → HasSpelling c → Made drop_of_parts drop_parts c
drop_made (Drop keys ids) e fits = record { content = (keys, ids); is = refl; fits = fits }
drop_made c e fits = absurd (omega (arith, e))

pub enqueue_kind : IsKind step HasSpelling (1 ∷ []) Enqueue batch_form
unfolding step
enqueue_kind = record { on = λ x. refl; fits = λ x fits. fits; back = λ c rest bytes e fits. enqueue_made c (tag_first step_tagged c rest bytes 1 e) fits }

pub acknowledge_kind : IsKind step HasSpelling (2 ∷ []) acknowledge_of_parts acknowledge_parts
unfolding step
acknowledge_kind = record { on = λ x. refl; fits = λ x fits. record { id = fits.0; moment = fits.1.0; each = fits.1.1 }; back = λ c rest bytes e fits. acknowledge_made c (tag_first step_tagged c rest bytes 2 e) fits }

pub reject_kind : IsKind step HasSpelling (3 ∷ []) Reject word
unfolding step
reject_kind = record { on = λ x. refl; fits = λ x fits. fits; back = λ c rest bytes e fits. reject_made c (tag_first step_tagged c rest bytes 3 e) fits }

pub allocate_kind : IsKind step HasSpelling (4 ∷ []) allocate_of_parts allocate_parts
unfolding step
allocate_kind = record { on = λ x. refl; fits = λ x fits. fits; back = λ c rest bytes e fits. allocate_made c (tag_first step_tagged c rest bytes 4 e) fits }

pub point_kind : IsKind step HasSpelling (5 ∷ []) point_of_parts point_parts
unfolding step
point_kind = record { on = λ x. refl; fits = λ x fits. record { moment = fits.0; seen = fits.1.0; held = fits.1.1 }; back = λ c rest bytes e fits. point_made c (tag_first step_tagged c rest bytes 5 e) fits }

pub reset_kind : IsKind step HasSpelling (6 ∷ []) Reset ids_form
unfolding step
reset_kind = record { on = λ x. refl; fits = λ x fits. fits; back = λ c rest bytes e fits. reset_made c (tag_first step_tagged c rest bytes 6 e) fits }

pub drop_kind : IsKind step HasSpelling (7 ∷ []) drop_of_parts drop_parts
unfolding step
drop_kind = record { on = λ x. refl; fits = λ x fits. fits; back = λ c rest bytes e fits. drop_made c (tag_first step_tagged c rest bytes 7 e) fits }

pub step_kinds : (c : Commit) → HasSpelling c → HasKind step HasSpelling c
step_kinds (Enqueue b) fits = has_kind enqueue_kind (Enqueue b) (enqueue_made (Enqueue b) refl fits)
step_kinds (Acknowledge b at results) fits = has_kind acknowledge_kind (Acknowledge b at results) (acknowledge_made (Acknowledge b at results) refl fits)
step_kinds (Reject b) fits = has_kind reject_kind (Reject b) (reject_made (Reject b) refl fits)
step_kinds (Allocate id t) fits = has_kind allocate_kind (Allocate id t) (allocate_made (Allocate id t) refl fits)
step_kinds (Point at entries rows) fits = has_kind point_kind (Point at entries rows) (point_made (Point at entries rows) refl fits)
step_kinds (Reset ids) fits = has_kind reset_kind (Reset ids) (reset_made (Reset ids) refl fits)
step_kinds (Drop keys ids) fits = has_kind drop_kind (Drop keys ids) (drop_made (Drop keys ids) refl fits)

abbrev pub step_form : Form Commit
step_form = record { spell = step; Fits = HasSpelling; unique = unique_kinds step HasSpelling step_kinds }

pub step_other : (byte : ℕ) → (1 ≤ byte → byte ≤ 7 → ⊥) → (c : Commit) → HasSpelling c → step_tag c ≢ byte
step_other byte other c fits e = other (omega (arith, e, least c)) (omega (arith, e, most c))
  where
    least : (c : Commit) → 1 ≤ step_tag c
    least (Enqueue b) = omega arith
    least (Acknowledge b at results) = omega arith
    least (Reject b) = omega arith
    least (Allocate id t) = omega arith
    least (Point at entries rows) = omega arith
    least (Reset ids) = omega arith
    least (Drop keys ids) = omega arith

    most : (c : Commit) → step_tag c ≤ 7
    most (Enqueue b) = omega arith
    most (Acknowledge b at results) = omega arith
    most (Reject b) = omega arith
    most (Allocate id t) = omega arith
    most (Point at entries rows) = omega arith
    most (Reset ids) = omega arith
    most (Drop keys ids) = omega arith

pub format_made : (c : Commit) → HasSpelling c → Made (λ c. c) step_form c
format_made c fits = record { content = c; is = refl; fits = fits }

pub format_kind : IsKind spelling HasSpelling (1 ∷ []) (λ c. c) step_form
unfolding spelling
format_kind = record { on = λ x. refl; fits = λ x fits. fits; back = λ c rest bytes e fits. format_made c fits }

pub unique_commit : IsUnique spelling HasSpelling
unique_commit = unique_kinds spelling HasSpelling (λ c fits. has_kind format_kind c (format_made c fits))
