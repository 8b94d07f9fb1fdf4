-- One more call in the list of calls, and what is kept beside it.
use Rattle.std.proofs.Common.{◌≡◌, ℕ, suc, ◌+◌, ◌^◌, ◌<◌, ◌≤◌, Bool, true, false, nat_le, All, List, [], ◌∷◌, ◌++◌, length, get_or, take, map, ⊎_elim, refl, ap, sym, ◌∙◌, subst, arith, if◌then◌else◌}
use Rattle.std.proofs.lemmas.List.{append-nil, map_push, get_or-map, get_or_append_left, get_or_push, length-map, length_push, take_all, take_more}
use Rattle.std.proofs.lemmas.Bool.{cases_lt}
use Rattle.std.proofs.lemmas.Grind.{common_steps}
use Rattle.host_api.specs.declared.host.FileId.{FileId}
use Rattle.host_api.specs.declared.host.FileId.TheVariants.{Zero, One}
use Rattle.host_api.specs.declared.log.Entry.{Entry}
use Rattle.host_api.specs.Host.{Files, OnFile, over}
use Rattle.host_api.specs.Disk.{Disk}
use Rattle.host_api.specs.Past.{Step, emit, write, cut, sync, Note, Past, first, upto, emitted, after, run, disk_at, output_at, Grows}
use Rattle.host_api.specs.declared.contents.Contents.{Contents}
use Rattle.host_api.specs.Contents.{held}
use Rattle.host_api.specs.Entries.{IsKept, EndsWithin, step_of, note_of, notes_of}
use Rattle.host_api.proofs.Pasts.{run_push, disk_none, disk_one, output_none, output_one}

abbrev note_from : ℕ → Step → Note
note_from number step = record { number = number; step = step }

-- no note has a number above this one
abbrev IsNumbered : ℕ → List Note → Type 0
IsNumbered k notes = All (λ note. note.number ≤ k) notes

numbered_tail : (k : ℕ) (note : Note) (notes : List Note) → IsNumbered k (note ∷ notes) → IsNumbered k notes
numbered_tail k note notes all = λ i d lt. all (suc i) d (omega arith)

upto_all : (k : ℕ) (notes : List Note) → IsNumbered k notes → upto k notes ≡ map (λ note. note.step) notes
upto_all k [] all = refl
upto_all k (note ∷ notes) all =
    let le : nat_le note.number k ≡ true = grind (arith, common_steps, all 0 note (omega arith)) in
    rw le (ap (λ (s : List Step). note.step ∷ s) (upto_all k notes (numbered_tail k note notes all)))

upto_push_after : (k : ℕ) (notes : List Note) (note : Note) → k + 1 ≤ note.number → upto k (notes ++ note ∷ []) ≡ upto k notes
upto_push_after k [] note gt = let no_le : nat_le note.number k ≡ false = grind (arith, common_steps) in rw no_le refl
upto_push_after k (one ∷ notes) note gt =
    elim (nat_le one.number k) as (λ (t : Bool). (if t then one.step ∷ upto k (notes ++ note ∷ []) else upto k (notes ++ note ∷ [])) ≡ (if t then one.step ∷ upto k notes else upto k notes)) [
      | true ↦ ap (λ (s : List Step). one.step ∷ s) (upto_push_after k notes note gt)
      | false ↦ upto_push_after k notes note gt
    ]

numbered_more : (k j : ℕ) (notes : List Note) → k ≤ j → IsNumbered k notes → IsNumbered j notes
numbered_more k j notes le all = λ i d lt. omega (arith, all i d lt)

all_push : (P : Note → Type 0) (notes : List Note) (note : Note) → All P notes → P note → All P (notes ++ note ∷ [])
all_push P notes note all here = λ i d lt.
    ⊎_elim
    (λ before. subst P (sym (get_or_append_left notes (note ∷ []) d i before)) (all i d before))
    (λ at_end. subst P (sym (get_or_push notes note d i (omega (arith, lt, at_end, length_push notes note)))) here)
    (cases_lt i (length notes))

numbered_push : (k : ℕ) (notes : List Note) (note : Note) → IsNumbered k notes → note.number ≤ k + 1 → IsNumbered (k + 1) (notes ++ note ∷ [])
numbered_push k notes note all le = all_push (λ (n : Note). n.number ≤ k + 1) notes note (numbered_more k (k + 1) notes (omega arith) all) le

-- the past after a call that did nothing, and after one that did this
abbrev pub passed : Past → Past
passed past = record past { calls = past.calls + 1 }

abbrev pub noted : Past → List Note → Past
noted past notes = record past { notes = notes; calls = past.calls + 1 }

-- the notes with one more of this step
abbrev pub IsNoted : Past → Step → List Note → Type 0
IsNoted past step notes = notes ≡ past.notes ++ (record { number = past.calls + 1; step = step }) ∷ []

pub grows_passed : (past : Past) → All (λ note. note.number ≤ past.calls) past.notes → Grows [] past (passed past)
grows_passed past all = record {
  zero = refl;
  one = refl;
  later = omega arith;
  most = omega arith;
  before = λ k le. refl;
  now = upto_all (past.calls + 1) past.notes (numbered_more past.calls (past.calls + 1) past.notes (omega arith) all) ∙ sym (upto_all past.calls past.notes all) ∙ sym (append-nil (upto past.calls past.notes));
}

pub grows_noted : (past : Past) (step : Step) (notes : List Note) → All (λ note. note.number ≤ past.calls) past.notes → IsNoted past step notes → Grows (step ∷ []) past (noted past notes)
grows_noted past step notes all is =
    let note : Note = record { number = past.calls + 1; step = step } in
    rw is (record {
      zero = refl;
      one = refl;
      later = omega arith;
      most = omega arith;
      before = λ k le. upto_push_after k past.notes note (omega arith);
      now = upto_all (past.calls + 1) (past.notes ++ note ∷ []) (numbered_push past.calls past.notes note all (omega arith))
          ∙ map_push (λ (n : Note). n.step) past.notes note
          ∙ ap (λ (s : List Step). s ++ step ∷ []) (sym (upto_all past.calls past.notes all));
    })

numbered_noted : (past : Past) (step : Step) (notes : List Note) → All (λ note. note.number ≤ past.calls) past.notes → IsNoted past step notes → IsNumbered (past.calls + 1) notes
numbered_noted past step notes all is = rw is (numbered_push past.calls past.notes (record { number = past.calls + 1; step = step }) all (omega arith))

pub kept_passed : (past : Past) (files : Files) (out : List ℕ) → IsKept past files out → IsKept (passed past) files out
kept_passed past files out kept =
    let grows = grows_passed past kept.numbered in
    record {
      numbered = numbered_more past.calls (past.calls + 1) past.notes (omega arith) kept.numbered;
      within = kept.within;
      zero = kept.zero ∙ sym (ap (λ (x : Disk). x.bytes) (disk_none grows Zero));
      one = kept.one ∙ sym (ap (λ (x : Disk). x.bytes) (disk_none grows One));
      output = kept.output ∙ sym (output_none grows);
    }

within_noted : (past : Past) (step : Step) (notes : List Note) → All (λ note. EndsWithin note.step) past.notes → EndsWithin step → IsNoted past step notes → All (λ note. EndsWithin note.step) notes
within_noted past step notes all here is = rw is (all_push (λ (n : Note). EndsWithin n.step) past.notes (record { number = past.calls + 1; step = step }) all here)

-- a step that makes these files and this output of those before
pub kept_noted : (past : Past) (step : Step) (notes : List Note) (files files2 : Files) (out out2 : List ℕ) → IsNoted past step notes → EndsWithin step → IsKept past files out
    → (files2 Zero ≡ (after Zero step (disk_at Zero past.calls past)).bytes) → (files2 One ≡ (after One step (disk_at One past.calls past)).bytes)
    → out2 ≡ output_at (past.calls + 1) (noted past notes) → IsKept (noted past notes) files2 out2
kept_noted past step notes files files2 out out2 is within kept zero one output =
    let grows = grows_noted past step notes kept.numbered is in
    record {
      numbered = numbered_noted past step notes kept.numbered is;
      within = within_noted past step notes kept.within within is;
      zero = zero ∙ sym (ap (λ (x : Disk). x.bytes) (disk_one grows Zero));
      one = one ∙ sym (ap (λ (x : Disk). x.bytes) (disk_one grows One));
      output = output;
    }

pub kept_emit : (past : Past) (piece : List ℕ) (notes : List Note) (files : Files) (out out2 : List ℕ) → IsNoted past (emit piece) notes → IsKept past files out → out2 ≡ out ++ piece → IsKept (noted past notes) files out2
kept_emit past piece notes files out out2 is kept more =
    let grows = grows_noted past (emit piece) notes kept.numbered is in
    kept_noted past (emit piece) notes files files out out2 is tt kept kept.zero kept.one (more ∙ ap (λ (o : List ℕ). o ++ piece) kept.output ∙ sym (output_one grows))

-- a step that emits nothing
quiet : (past : Past) (step : Step) (notes : List Note) (files : Files) (out : List ℕ) → IsNoted past step notes → IsKept past files out → emitted step ≡ [] → out ≡ output_at (past.calls + 1) (noted past notes)
quiet past step notes files out is kept none =
    let grows = grows_noted past step notes kept.numbered is in
    kept.output ∙ sym (append-nil (output_at past.calls past)) ∙ ap (λ (e : List ℕ). output_at past.calls past ++ e) (sym none) ∙ sym (output_one grows)

pub kept_sync : (past : Past) (file : FileId) (notes : List Note) (files : Files) (out : List ℕ) → IsNoted past (sync file) notes → IsKept past files out → IsKept (noted past notes) files out
kept_sync past Zero notes files out is kept = kept_noted past (sync Zero) notes files files out out is tt kept kept.zero kept.one (quiet past (sync Zero) notes files out is kept refl)
kept_sync past One notes files out is kept = kept_noted past (sync One) notes files files out out is tt kept kept.zero kept.one (quiet past (sync One) notes files out is kept refl)

pub kept_write : (past : Past) (file : FileId) (at : ℕ) (piece : List ℕ) (done : Bool) (notes : List Note) (files files2 : Files) (out : List ℕ) → IsNoted past (write file at piece done) notes → at + length piece < 2 ^ 64 → IsKept past files out
    → OnFile file (λ a b. b ≡ (if done then over a at piece else a)) files files2 → IsKept (noted past notes) files2 out
kept_write past Zero at piece done notes files files2 out is within kept step = kept_noted past (write Zero at piece done) notes files files2 out out is within kept
    (step.this ∙ ap (λ (b : List ℕ). if done then over b at piece else b) kept.zero) (step.that ∙ kept.one) (quiet past (write Zero at piece done) notes files out is kept refl)
kept_write past One at piece done notes files files2 out is within kept step = kept_noted past (write One at piece done) notes files files2 out out is within kept
    (step.that ∙ kept.zero) (step.this ∙ ap (λ (b : List ℕ). if done then over b at piece else b) kept.one) (quiet past (write One at piece done) notes files out is kept refl)

pub kept_cut : (past : Past) (file : FileId) (len : ℕ) (done : Bool) (notes : List Note) (files files2 : Files) (out : List ℕ) → IsNoted past (cut file len done) notes → IsKept past files out
    → OnFile file (λ a b. b ≡ (if done then take len a else a)) files files2 → IsKept (noted past notes) files2 out
kept_cut past Zero len done notes files files2 out is kept step = kept_noted past (cut Zero len done) notes files files2 out out is tt kept
    (step.this ∙ ap (λ (b : List ℕ). if done then take len b else b) kept.zero) (step.that ∙ kept.one) (quiet past (cut Zero len done) notes files out is kept refl)
kept_cut past One len done notes files files2 out is kept step = kept_noted past (cut One len done) notes files files2 out out is tt kept
    (step.that ∙ kept.zero) (step.this ∙ ap (λ (b : List ℕ). if done then take len b else b) kept.one) (quiet past (cut One len done) notes files out is kept refl)

-- what is kept of a file
pub kept_file : (past : Past) (files : Files) (out : List ℕ) → IsKept past files out → (file : FileId) → files file ≡ (disk_at file past.calls past).bytes
kept_file past files out kept Zero = kept.zero
kept_file past files out kept One = kept.one

-- one more entry behind those that are kept
pub pushed : (before between later : List Entry) (entry : Entry) (step : Step) → between ≡ before → later ≡ between ++ entry ∷ [] → step_of entry.step ≡ step
    → notes_of later ≡ notes_of before ++ (record { number = entry.number; step = step }) ∷ []
pushed before between later entry step same more is =
    ap notes_of (more ∙ ap (λ (e : List Entry). e ++ entry ∷ []) same)
    ∙ map_push note_of before entry
    ∙ ap (λ (s : Step). notes_of before ++ (note_from entry.number s) ∷ []) is

-- the same contents
pub kept_same : (past : Past) (files files2 : Files) (out : List ℕ) → IsKept past files out → files2 Zero ≡ files Zero → files2 One ≡ files One → IsKept past files2 out
kept_same past files files2 out kept zero one = record { numbered = kept.numbered; within = kept.within; zero = zero ∙ kept.zero; one = one ∙ kept.one; output = kept.output }

upto_push : (k : ℕ) (notes : List Note) (note : Note) → upto k (notes ++ note ∷ []) ≡ upto k notes ++ (if nat_le note.number k then note.step ∷ [] else [])
upto_push k [] note = elim (nat_le note.number k) as (λ (t : Bool). (if t then note.step ∷ [] else []) ≡ [] ++ (if t then note.step ∷ [] else [])) [ true ↦ refl | false ↦ refl ]
upto_push k (one ∷ notes) note =
    elim (nat_le one.number k) as (λ (t : Bool). (if t then one.step ∷ upto k (notes ++ note ∷ []) else upto k (notes ++ note ∷ [])) ≡ (if t then one.step ∷ upto k notes else upto k notes) ++ (if nat_le note.number k then note.step ∷ [] else [])) [
      | true ↦ ap (λ (s : List Step). one.step ∷ s) (upto_push k notes note)
      | false ↦ upto_push k notes note
    ]

-- a file after those of the first i entries whose call is among the first k
pub replayed : FileId → Disk → ℕ → ℕ → List Entry → Disk
replayed file base k i entries = run file base (upto k (notes_of (take i entries)))

notes_more : (i : ℕ) (entries : List Entry) (entry : Entry) → i < length entries → entry ≡ get_or entries i entry → notes_of (take (i + 1) entries) ≡ notes_of (take i entries) ++ note_of entry ∷ []
notes_more i entries entry lt is = ap notes_of (take_more entries i entry lt ∙ ap (λ (e : Entry). take i entries ++ e ∷ []) (sym is)) ∙ map_push note_of (take i entries) entry

pub replayed_none : (file : FileId) (base : Disk) (k : ℕ) (entries : List Entry) → replayed file base k 0 entries ≡ base
unfolding replayed
replayed_none file base k entries = refl

pub replayed_all : (file : FileId) (base : Disk) (k i : ℕ) (entries : List Entry) → length entries ≤ i → replayed file base k i entries ≡ run file base (upto k (notes_of entries))
unfolding replayed
replayed_all file base k i entries le = ap (λ (e : List Entry). run file base (upto k (notes_of e))) (take_all i entries le)

pub replayed_taken : (file : FileId) (base : Disk) (k i : ℕ) (entries : List Entry) (entry : Entry) → i < length entries → entry ≡ get_or entries i entry → entry.number ≤ k
    → replayed file base k (i + 1) entries ≡ after file (step_of entry.step) (replayed file base k i entries)
unfolding replayed
replayed_taken file base k i entries entry lt is le =
    let yes : nat_le entry.number k ≡ true = grind (arith, common_steps) in
    ap (λ (n : List Note). run file base (upto k n)) (notes_more i entries entry lt is)
    ∙ ap (λ (s : List Step). run file base s) (upto_push k (notes_of (take i entries)) (note_of entry) ∙ ap (λ (t : Bool). upto k (notes_of (take i entries)) ++ (if t then step_of entry.step ∷ [] else [])) yes)
    ∙ run_push file base (upto k (notes_of (take i entries))) (step_of entry.step)

pub replayed_skipped : (file : FileId) (base : Disk) (k i : ℕ) (entries : List Entry) (entry : Entry) → i < length entries → entry ≡ get_or entries i entry → k < entry.number
    → replayed file base k (i + 1) entries ≡ replayed file base k i entries
unfolding replayed
replayed_skipped file base k i entries entry lt is gt =
    let no_le : nat_le entry.number k ≡ false = grind (arith, common_steps) in
    ap (λ (n : List Note). run file base (upto k n)) (notes_more i entries entry lt is)
    ∙ ap (λ (s : List Step). run file base s) (upto_push k (notes_of (take i entries)) (note_of entry) ∙ ap (λ (t : Bool). upto k (notes_of (take i entries)) ++ (if t then step_of entry.step ∷ [] else [])) no_le ∙ append-nil (upto k (notes_of (take i entries))))

pub within_entry : (i : ℕ) (entries : List Entry) (entry : Entry) → All (λ note. EndsWithin note.step) (notes_of entries) → i < length entries → entry ≡ get_or entries i entry → EndsWithin (step_of entry.step)
within_entry i entries entry all lt is =
    subst (λ (n : Note). EndsWithin n.step) (get_or-map note_of entries i entry (note_of entry) lt ∙ ap note_of (sym is)) (all i (note_of entry) (omega (arith, lt, length-map entries note_of)))

-- the first contents, as the past has them
pub held_first : (contents : Contents) (file : FileId) (notes : List Note) (calls : ℕ) → held contents file ≡ first file (record { zero = contents.zero.items; one = contents.one.items; notes = notes; calls = calls })
held_first contents Zero notes calls = refl
held_first contents One notes calls = refl
