-- what is read off the past of the stream of listeners, where lines come behind an answer
use Rattle.std.proofs.Common.{◌≡◌, ℕ, ℤ, ◌&&◌, not, List, [], ◌∷◌, map as each, Option, option_map, refl, ap, ◌∙◌}
use Rattle.std.proofs.lemmas.List.Sums.{fold-append}
use Rattle.std.specs.List.{fold, list_any}
use Rattle.client_events.specs.declared.event.Event.{Event}
use Rattle.limbo_resolver.specs.Limbo.{Limbo}
use Rattle.durable_state.specs.State.{State}
use Rattle.mutations.specs.declared.batch.Batch.{Batch}
use Rattle.client_turns.specs.LimboListens.{is_sought}
use Rattle.client_turns.specs.Lines.{Line, Told}
use Rattle.client_turns.specs.Past.{Past, Turn}
use Rattle.client_turns.specs.Settling.{current_with, stance_by, stance_of}
use Rattle.client_turns.specs.Turn.{answered_next, snapshot_line, with_lines}
use Rattle.client_turns.specs.Watching.{begun, begun_by, begun_in, calls_by, calls_of, current_keys, if_so, is_offline, is_target, is_wanted, listened, listened_by, listened_in, online_of, requested_by, requested_in, step_by, told_by}
use Rattle.client_turns.specs.Writing.{request_of}
use Rattle.client_turns.proofs.Current.{sought_still}

-- ---- lines of which nothing is read

module _ {B : Type 0} (f : B → Line → B) where
  pub fold_told : ((b : B) (s : State) (t : Told) → f b (snapshot_line s t) ≡ b) → (s : State) (ts : List Told) (b : B) → fold f b (each (snapshot_line s) ts) ≡ b
  fold_told plain s [] b = refl
  fold_told plain s (t ∷ ts) b = ap (λ x. fold f x (each (snapshot_line s) ts)) (plain b s t) ∙ fold_told plain s ts b

  pub fold_sent : ((b : B) (token : List ℕ) (x : Batch) → f b (request_of token x) ≡ b) → (token : List ℕ) (xs : List Batch) (b : B) → fold f b (each (request_of token) xs) ≡ b
  fold_sent plain token [] b = refl
  fold_sent plain token (x ∷ xs) b = ap (λ y. fold f y (each (request_of token) xs)) (plain b token x) ∙ fold_sent plain token xs b

-- ---- more lines behind a turn, of which no target is read

module _ (past : Past) (s : State) (e : Event) (t : Turn) (more : List Line)
    (no_target : (id : ℕ) (was : Option ℤ) → listened_in id more was ≡ was) (no_begin : (ids : List ℕ) → begun_in more ids ≡ ids) where
  abbrev before : Past
  before = answered_next s past e t

  abbrev behind : Past
  behind = answered_next s past e (with_lines t more)

  pub targets_behind : (id : ℕ) → listened id behind ≡ listened id before
  targets_behind id = fold-append (listened_by id) (listened id past) t.lines more ∙ no_target id (listened id before)

  begun_behind : begun behind ≡ begun before
  begun_behind = fold-append begun_by (begun past) t.lines more ∙ no_begin (begun before)

  pub wanted_behind : (x : ℤ) → is_wanted x behind ≡ is_wanted x before
  wanted_behind x = λ i. list_any (λ id. is_target x (targets_behind id i)) (begun_behind i)

  pub current_behind : (x : ℤ) → current_keys x behind ≡ current_keys x before
  current_behind x = ap (λ b. if_so (b && not (is_offline (online_of before))) (told_by x (step_by e t.refusal) t.commit (calls_of past) (current_keys x past))) (wanted_behind x)

  pub stance_behind : (id : ℕ) → stance_of behind id ≡ stance_of before id
  stance_behind id = λ i. stance_by (targets_behind id i) (λ x. option_map current_with (current_behind x i)) (online_of before)

  pub calls_behind : calls_of behind ≡ requested_in more (calls_of before)
  calls_behind = fold-append requested_by (calls_by (step_by e t.refusal) t.commit (calls_of past)) t.lines more

  pub sought_behind : (x : ℤ) (limbo : Limbo) → is_sought x behind limbo ≡ is_sought x before limbo
  sought_behind x limbo = sought_still before behind limbo x (wanted_behind x)
