-- what add requests ask for: the targets of rows, or documents in limbo
use Rattle.std.proofs.Common.{◌≡◌, ◌⊎◌, inl, inr, ℤ, Bool, true, false, List, [], ◌∷◌, ◌++◌, Option, Some, None, if◌then◌else◌, refl, sym, ap, subst, ◌∙◌}
use Rattle.std.proofs.lemmas.Option.{none-some}
use Rattle.std.proofs.lemmas.List.Sums.{fold-append}
use Rattle.std.specs.List.{AllZip, Contains}
use Rattle.std.specs.Ordering.{int_eq}
use Rattle.agreement.proofs.Counting.{same_id-true}
use Rattle.agreement.specs.Backend.{Id}
use Rattle.agreement.specs.Transcript.{Event, Request, Unasked, request}
use Rattle.document_keys.specs.Names.{Root}
use Rattle.limbo_resolver.specs.Limbo.{is_odd}
use Rattle.durable_state.specs.State.{State, committed}
use Rattle.queries.specs.declared.target.Target.TheVariants.{Document}
use Rattle.record_codec.specs.declared.commit.Commit.{Commit}
use Rattle.target_cache.specs.Cache.{IsRow, blank}
use Rattle.target_cache.specs.declared.row.Row.{Row}
use Rattle.client_turns.proofs.Wanted.{first_among, later_among}
use Rattle.client_turns.specs.Asking.{AsksIf, IsAddLine, IsListenLine, resets_by}
use Rattle.client_turns.specs.LimboListens.{limbo_of}
use Rattle.client_turns.specs.Lines.{Line, add}
use Rattle.client_turns.specs.Order.{AreHeard, now}
use Rattle.client_turns.specs.Past.{Entry, Past}
use Rattle.client_turns.specs.Turn.{answered_next}
use Rattle.client_turns.specs.Turns.{after}
use Rattle.client_turns.specs.Watching.{WatchStep, closes, hears, is_watched, opens, passes, rings, step_of}
use Rattle.client_agreement.proofs.GoingOut.{fold_asks, asked_plain, asked_removes, reset_by}
use Rattle.client_agreement.proofs.Odd.{running_odd}
use Rattle.client_agreement.proofs.Parts.{Parts, parts}
use Rattle.client_agreement.specs.Transcript.{asked_by, asked_in, came_by, is_removed_in, request_of, transcript}

-- the id asked for its row's target, or is that of a document in limbo
data IsKnown (rows : List Row) (id : Id) (opening : Request) : Type 0 where
  of_row : (row : Row) → IsRow rows id row → opening.query ≡ row.target → IsKnown rows id opening
  of_limbo : is_odd id ≡ true → IsKnown rows id opening

AllKnown : List Row → List Event → Type 0
AllKnown rows x = (id : Id) (opening : Request) → request id x ≡ Some opening → IsKnown rows id opening

-- one more add request
known_asked : (rows : List Row) (x : List Event) (t : ℤ) (row : Row) (line : Line) → line ≡ add t row → IsKnown rows t (request_of row) → AllKnown rows x → AllKnown rows (asked_by x line)
unfolding AllKnown
known_asked rows x t row line is here all id opening asked = by (int_eq t id) refl (ap (λ (l : Line). request id (asked_by x l)) (sym is) ∙ asked)
  where
    by : (b : Bool) → int_eq t id ≡ b → (if b then Some (request_of row) else request id x) ≡ Some opening → IsKnown rows id opening
    by true same asked =
        let opening_is : request_of row ≡ opening = cc in
        subst (λ (i : Id). IsKnown rows i opening) (same_id-true t id same) (subst (IsKnown rows t) opening_is here)
    by false same asked = all id opening asked

module _ (rows : List Row) where
  known_adds : (state : State) → state.rows ≡ rows → (ids : List ℤ) (lines : List Line) (x : List Event) → AllZip (IsAddLine state) ids lines → AllKnown rows x → AllKnown rows (asked_in lines x)
  known_adds state same [] [] x zip all = all
  known_adds state same [] (line ∷ lines) x zip all = absurd zip
  known_adds state same (id ∷ ids) [] x zip all = absurd zip
  known_adds state same (id ∷ ids) (line ∷ lines) x zip all =
      known_adds state same ids lines (asked_by x line) zip.1
      (known_asked rows x id zip.0.row line zip.0.is (of_row zip.0.row (subst (λ (rs : List Row). IsRow rs id zip.0.row) same zip.0.of_id) refl) all)

  known_listens : (past : Past) (ids : List ℤ) (lines : List Line) (x : List Event) → AllZip (IsListenLine (limbo_of past)) ids lines → ((t : ℤ) → Contains ids t → is_odd t ≡ true) → AllKnown rows x → AllKnown rows (asked_in lines x)
  known_listens past [] [] x zip odd all = all
  known_listens past [] (line ∷ lines) x zip odd all = absurd zip
  known_listens past (id ∷ ids) [] x zip odd all = absurd zip
  known_listens past (id ∷ ids) (line ∷ lines) x zip odd all =
      known_listens past ids lines (asked_by x line) zip.1 (λ t here. odd t (later_among id t ids here))
      (known_asked rows x id (blank (Document zip.0.key)) line zip.0.is (of_limbo (odd id (first_among id ids))) all)

-- rows stay
RowsStay : List Row → List Row → Type 0
RowsStay rows later = (id : Id) (row : Row) → IsRow rows id row → (new : Row) × IsRow later id new × (new.target ≡ row.target)

known_later : (rows later : List Row) → RowsStay rows later → (id : Id) (opening : Request) → IsKnown rows id opening → IsKnown later id opening
unfolding RowsStay
known_later rows later stay id opening (of_row row there is) = let new = stay id row there in of_row new.0 new.1 (is ∙ sym new.2)
known_later rows later stay id opening (of_limbo odd) = of_limbo odd

known_came : (rows later : List Row) → RowsStay rows later → (step : WatchStep) (removed : Id → Bool) (x : List Event) → AllKnown rows x → AllKnown later (came_by step removed x)
unfolding AllKnown
known_came rows later stay opens removed x all id opening asked = absurd (none-some _ asked)
known_came rows later stay closes removed x all id opening asked = absurd (none-some _ asked)
known_came rows later stay (hears m) removed x all id opening asked = known_later rows later stay id opening (all id opening asked)
known_came rows later stay rings removed x all id opening asked = known_later rows later stay id opening (all id opening asked)
known_came rows later stay passes removed x all id opening asked = known_later rows later stay id opening (all id opening asked)

module _ (row_stays : (s : State) (commit : Commit) (id : Id) (row : Row) → IsRow s.rows id row → (new : Row) × IsRow (committed s commit).rows id new × (new.target ≡ row.target)) where
  stay_after : (s : State) (commit : Option Commit) → RowsStay s.rows (after s commit).rows
  unfolding RowsStay
  stay_after s None id row there = (row, there, refl)
  stay_after s (Some commit) id row there = row_stays s commit id row there

  known_next : (root : Root) (e : Entry) (past : Past) → Parts root e.state past e.event e.turn → AllKnown e.state.rows (transcript past) → AllKnown (after e.state e.turn.commit).rows (transcript (e ∷ past))
  unfolding AllKnown
  known_next root e past p all = subst (AllKnown rows) (sym (lines_asked_here came)) (by (is_watched (answered_next e.state past e.event p.settled)) p.asks)
    where
      rows : List Row
      rows = (after e.state e.turn.commit).rows

      came : List Event
      came = Unasked (is_removed_in e.turn.lines) ∷ came_by (step_of e) (reset_by e past) (transcript past)

      lines_asked_here : (x : List Event) → asked_in e.turn.lines x ≡ asked_in p.asked x
      lines_asked_here x =
          ap (λ ls. asked_in ls x) p.lines
          ∙ fold-append asked_by x p.settled.lines (p.asked ++ p.behind)
          ∙ ap (asked_in (p.asked ++ p.behind)) (asked_plain p.settled.lines x p.plain_front)
          ∙ fold-append asked_by x p.asked p.behind
          ∙ asked_plain p.behind (asked_in p.asked x) p.plain_behind

      before : AllKnown rows came
      before = known_came e.state.rows rows (stay_after e.state e.turn.commit) (step_of e) (reset_by e past) (transcript past) all

      by : (b : Bool) → AsksIf b (after e.state e.turn.commit) (answered_next e.state past e.event p.settled) (resets_by e.event e.turn.commit past) p.asked → AllKnown rows (asked_in p.asked came)
      by false none = subst (λ ls. AllKnown rows (asked_in ls came)) (sym none) before
      by true it = subst (AllKnown rows) (sym (
          ap (λ ls. asked_in ls came) it.is
          ∙ fold_asks asked_by it.removed it.adds it.listen_adds came
          ∙ ap (λ y. asked_in it.listen_adds (asked_in it.adds y)) (asked_removes it.removed came)))
          (known_listens rows (answered_next e.state past e.event p.settled) it.listens it.listen_adds (asked_in it.adds came) it.keys
          (λ t here. running_odd t (answered_next e.state past e.event p.settled) ((it.are_listens.each t).0 here).running)
          (known_adds rows (after e.state e.turn.commit) refl it.added it.adds came it.rows before))

  pub asked_rows : (root : Root) (first : State) (past : Past) → AreHeard root first past → (id : Id) (opening : Request) → request id (transcript past) ≡ Some opening
      → ((row : Row) × IsRow (now first past).rows id row × (opening.query ≡ row.target)) ⊎ (is_odd id ≡ true)
  unfolding AllKnown
  asked_rows root first past heard id opening asked = by (all_known past heard id opening asked)
    where
      all_known : (past : Past) → AreHeard root first past → AllKnown (now first past).rows (transcript past)
      all_known [] heard = λ i o none. absurd (none-some _ none)
      all_known (e ∷ past) heard =
          known_next root e past (parts root e.state past e.event e.turn heard.1.turn heard.1.heard)
          (subst (λ (s : State). AllKnown s.rows (transcript past)) (sym heard.1.state) (all_known past heard.0))

      by : IsKnown (now first past).rows id opening → ((row : Row) × IsRow (now first past).rows id row × (opening.query ≡ row.target)) ⊎ (is_odd id ≡ true)
      by (of_row row there is) = inl (row, there, is)
      by (of_limbo odd) = inr odd
