-- What a crash finds of a run, as its lines are handled.
use Rattle.std.proofs.Common.{◌≡◌, ◌⊎◌, inl, inr, ⊎_elim, ℕ, ◌+◌, ◌≤◌, ◌<◌, List, [], ◌∷◌, ◌++◌, length, take, drop, Option, Some, None, refl, sym, ap, subst, ◌∙◌, arith, append_assoc, length-append}
use Rattle.std.specs.List.{All}
use Rattle.std.proofs.lemmas.Option.{none-some}
use Rattle.std.proofs.lemmas.List.{take-append-drop}
use Rattle.std.proofs.lemmas.List.Sums.{fold-append}
use Rattle.std.proofs.lemmas.List.Elements.{All-nil, All-cons, All-head, All-tail, All-append, All-weaker}
use Rattle.host_api.specs.Host.{Files, IsPart}
use Rattle.document_keys.specs.Names.{Root}
use Rattle.record_codec.specs.declared.commit.Commit.{Commit}
use Rattle.local_store.specs.Files.{FindsState}
use Rattle.local_store.specs.State.{State, committed}
use Rattle.line_printer.specs.Reported.{lines_on, whole_lines, ReportsWithin, ReportedWithin}
use Rattle.line_printer.proofs.Breaks.{open_on, lines_append, open_append}
use Rattle.client_turns.specs.Turns.{after}
use Rattle.client_run.specs.Crash.{FindsNext, Survives}
use Rattle.client_run.specs.History.{Handled, History, now, heard, output_of, made, commits_of, after_all}
use Rattle.client_run.specs.Laws.{HasListenerIds}
use Rattle.client_run.specs.Output.{Call, IsRun, out_after}
use Rattle.client_run.specs.Printed.{printed}
use Rattle.line_printer.proofs.Within.{IsWithin}

-- ---- reports of a front

all_front : {X : Type 0} (P : X → Type 0) (xs ys : List X) → All P (xs ++ ys) → All P xs
all_front P [] ys all = All-nil P
all_front P (x ∷ xs) ys all = All-cons P x xs (All-head P x (xs ++ ys) all) (all_front P xs ys (All-tail P x (xs ++ ys) all))

reported_front : (most : ℕ) (front rest : List ℕ) → ReportedWithin most (front ++ rest) → ReportedWithin most front
reported_front most front rest within = all_front (ReportsWithin most) (whole_lines front) (lines_on (open_on [] front) rest) (subst (λ (ls : List (List ℕ)). All (ReportsWithin most) ls) (lines_append [] front rest) within)

reported_part : (most : ℕ) (text piece : List ℕ) (k : ℕ) → ReportedWithin most (text ++ piece) → ReportedWithin most (text ++ take k piece)
reported_part most text piece k within =
    reported_front most (text ++ take k piece) (drop k piece)
    (subst (ReportedWithin most) (ap (λ (p : List ℕ). text ++ p) (sym (take-append-drop k piece)) ∙ sym (append_assoc text (take k piece) (drop k piece))) within)

-- ---- one turn more

after_counts : (s : State) (c : Option Commit) → (after s c).number ≡ s.number + length (made c)
after_counts s None = omega arith
after_counts s (Some c) = refl

pub after_made : (s : State) (c : Option Commit) → after s c ≡ after_all s (made c)
after_made s None = refl
after_made s (Some c) = refl

-- what the lines so far wrote is whole lines, and reports no number above that of the state after them
pub record IsFine (root : Root) (s : State) (history : History) : Type 0 where
  pub whole : open_on [] (output_of root history) ≡ []
  pub within : ReportedWithin (now s history).number (output_of root history)
  pub state : now s history ≡ after_all s (commits_of history)
  pub number : (now s history).number ≡ s.number + length (commits_of history)
  pub small : HasListenerIds (heard history)

pub fine_none : (root : Root) (s : State) → IsFine root s []
fine_none root s = record { whole = refl; within = All-nil (ReportsWithin s.number); state = refl; number = omega arith; small = λ id view is. absurd (none-some view is) }

pub fine_more : (root : Root) (s : State) (history : History) (line : Handled) → line.state ≡ now s history → IsWithin (after line.state line.turn.commit).number (printed root (length history + 1) line.turn) → HasListenerIds (heard (line ∷ history)) → IsFine root s history → IsFine root s (line ∷ history)
fine_more root s history line at within small fine =
    let t = line.turn in
    let text = printed root (length history + 1) t in
    let same : (now s history).number ≡ line.state.number = ap (λ (x : State). x.number) (sym at) in
    let grown = after_counts line.state t.commit in
    record {
      whole = open_append [] (output_of root history) text ∙ ap (λ (l : List ℕ). open_on l text) fine.whole ∙ within.whole;
      within = subst (λ (ls : List (List ℕ)). All (ReportsWithin (after line.state t.commit).number) ls)
          (ap (λ (l : List ℕ). whole_lines (output_of root history) ++ lines_on l text) (sym fine.whole) ∙ sym (lines_append [] (output_of root history) text))
          (All-append (ReportsWithin (after line.state t.commit).number) (whole_lines (output_of root history)) (whole_lines text)
          (All-weaker (ReportsWithin (now s history).number) (ReportsWithin (after line.state t.commit).number) (λ l within n reports. let few : n ≤ (now s history).number = within n reports in omega (arith, few, grown, same)) (whole_lines (output_of root history)) fine.within)
          within.within);
      state = ap (λ (x : State). after x t.commit) at ∙ after_made (now s history) t.commit ∙ ap (λ (x : State). after_all x (made t.commit)) fine.state ∙ sym (fold-append committed s (commits_of history) (made t.commit));
      number = omega (arith, grown, same, fine.number, length-append (commits_of history) (made t.commit));
      small = small;
    }

-- ---- at one moment

-- between two items
pub survives_at : (most : ℕ) (call : Call) (out : List ℕ) (files : Files) (history : History) → length history < most → IsRun call history → IsFine call.root call.first history → out ≡ out_after call history → FindsState files (now call.first history) ⊎ FindsNext call history files → Survives most call out files
survives_at most call out files history within run fine wrote finds = record {
  history = history;
  run = run;
  finds = ⊎_elim (λ here. inl (omega (arith, within), subst (FindsState files) fine.state here)) (λ next. inr (within, next)) finds;
  number = sym (ap (λ (t : State). t.number) fine.state) ∙ fine.number;
  since = output_of call.root history;
  output = wrote;
  reported = subst (λ (n : ℕ). ReportedWithin n (output_of call.root history)) fine.number fine.within;
}

-- within the turn of an item, after its commit: a part of its lines went out
pub survives_part : (most : ℕ) (call : Call) (out : List ℕ) (files : Files) (history : History) (text piece : List ℕ) → length history ≤ most → IsRun call history → IsFine call.root call.first history → output_of call.root history ≡ text ++ piece → IsPart piece (call.out ++ text) out → FindsState files (now call.first history) → Survives most call out files
survives_part most call out files history text piece within run fine wrote part finds = record {
  history = history;
  run = run;
  finds = inl (within, subst (FindsState files) fine.state finds);
  number = sym (ap (λ (t : State). t.number) fine.state) ∙ fine.number;
  since = text ++ take part.0 piece;
  output = part.1 ∙ append_assoc call.out text (take part.0 piece);
  reported = subst (λ (n : ℕ). ReportedWithin n (text ++ take part.0 piece)) fine.number
      (reported_part (now call.first history).number text piece part.0 (subst (ReportedWithin (now call.first history).number) wrote fine.within));
}

-- with more items at the most
pub survives_more : (most more : ℕ) (call : Call) (out : List ℕ) (files : Files) → most ≤ more → Survives most call out files → Survives more call out files
survives_more most more call out files less it = record {
  history = it.history;
  run = it.run;
  finds = ⊎_elim (λ here. inl (omega (arith, here.0, less), here.1)) (λ next. inr (omega (arith, next.0, less), next.1)) it.finds;
  number = it.number;
  since = it.since;
  output = it.output;
  reported = it.reported;
}
