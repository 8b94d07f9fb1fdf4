-- the id of a listener's target
use Rattle.std.proofs.Common.{◌≡◌, ℕ, ◌<◌, ◌≤◌, ℤ, pos, Bool, true, false, ◌&&◌, not, nat_lt, List, length, Option, Some, None, if◌then◌else◌, refl, sym, ap, subst, ◌∙◌}
use Rattle.std.proofs.lemmas.Bool.{lt-ltb, le-ltb}
use Rattle.host_api.specs.Host.{View}
use Rattle.local_store.specs.Files.{Moves}
use Rattle.local_store.specs.State.{Fits, State, committed, most_commits}
use Rattle.queries.specs.declared.target.Target.{Target}
use Rattle.record_codec.specs.declared.commit.Commit.TheVariants.{Allocate}
use Rattle.target_cache.specs.Cache.{TellsId, id_at}
use Rattle.target_cache.specs.declared.row.Row.{Row}
use Rattle.client_turns.specs.Answers.{are_left, last_target}
use Rattle.sync_engine.specs.Targets.{GivesTarget, MakesRow, MovesForTarget, given_state}

and_false : (a : Bool) → (a && false) ≡ false
and_false true = refl
and_false false = refl

no_number : (s : State) → most_commits ≤ s.number → are_left s ≡ false
no_number s many = ap (λ b. b && not (nat_lt last_target (id_at (length s.rows)))) (le-ltb s.number most_commits many)

no_id : (s : State) → last_target < id_at (length s.rows) → are_left s ≡ false
no_id s many = ap (λ b. nat_lt s.number most_commits && not b) (lt-ltb last_target (id_at (length s.rows)) many) ∙ and_false (nat_lt s.number most_commits)

both_left : (s : State) → s.number < most_commits → id_at (length s.rows) ≤ last_target → are_left s ≡ true
both_left s few low =
    ap (λ b. b && not (nat_lt last_target (id_at (length s.rows)))) (lt-ltb s.number most_commits few)
    ∙ ap not (le-ltb last_target (id_at (length s.rows)) low)

-- the rows as they are read tell the ids of the state
module _ (s : State) (target : Target) (rows : List Row) (same : rows ≡ s.rows) where
  as_state : (found : Option ℤ) → TellsId rows target found → TellsId s.rows target found
  as_state found = subst (λ (l : List Row). TellsId l target found) same

  pub gives_found : (id at : ℤ) → at ≡ id → TellsId rows target (Some id) → GivesTarget s target (Some at) s
  gives_found id at back tells = record { found = Some id; tells = as_state (Some id) tells; id = ap Some back; state = refl }

  pub moves_found : {old new : View} (id : ℤ) → TellsId rows target (Some id) → Moves s s old new → MovesForTarget s target old new
  moves_found id tells moves = record { found = Some id; tells = as_state (Some id) tells; moves = moves }

  gives_none : TellsId rows target None → are_left s ≡ false → GivesTarget s target None s
  gives_none tells none = record {
    found = None;
    tells = as_state None tells;
    id = ap (λ b. if b then Some (pos (id_at (length s.rows))) else None) (sym none);
    state = ap (λ b. if b then committed s (Allocate (id_at (length s.rows)) target) else s) (sym none);
  }

  moves_none_left : {old new : View} → TellsId rows target None → are_left s ≡ false → Moves s s old new → MovesForTarget s target old new
  moves_none_left {old} {new} tells none moves = record {
    found = None;
    tells = as_state None tells;
    moves = subst (λ (t : State). Moves s t old new) (ap (λ b. if b then committed s (Allocate (id_at (length s.rows)) target) else s) (sym none)) moves;
  }

  pub gives_no_number : TellsId rows target None → most_commits ≤ s.number → GivesTarget s target None s
  gives_no_number tells many = gives_none tells (no_number s many)

  pub moves_no_number : {old new : View} → TellsId rows target None → most_commits ≤ s.number → Moves s s old new → MovesForTarget s target old new
  moves_no_number tells many = moves_none_left tells (no_number s many)

  pub gives_no_id : (id : ℕ) → id ≡ id_at (length rows) → TellsId rows target None → last_target < id → GivesTarget s target None s
  gives_no_id id is tells many = gives_none tells (no_id s (subst (λ (n : ℕ). last_target < n) (is ∙ ap (λ (l : List Row). id_at (length l)) same) many))

  pub moves_no_id : {old new : View} (id : ℕ) → id ≡ id_at (length rows) → TellsId rows target None → last_target < id → Moves s s old new → MovesForTarget s target old new
  moves_no_id id is tells many = moves_none_left tells (no_id s (subst (λ (n : ℕ). last_target < n) (is ∙ ap (λ (l : List Row). id_at (length l)) same) many))

  module _ (id : ℕ) (is : id ≡ id_at (length rows)) (tells : TellsId rows target None) (few : s.number < most_commits) (low : id ≤ last_target) where
    id_is : id ≡ id_at (length s.rows)
    id_is = is ∙ ap (λ (l : List Row). id_at (length l)) same

    left : are_left s ≡ true
    left = both_left s few (subst (λ (n : ℕ). n ≤ last_target) id_is low)

    pub allocation_fits : Fits s (Allocate id target)
    allocation_fits = (record { next = id_is; left = low; new = λ at row of_id same_target. as_state None tells at (record { row = row; of_id = of_id; same = same_target }) }, few)

    given_left : given_state s target None ≡ committed s (Allocate id target)
    given_left = ap (λ b. if b then committed s (Allocate (id_at (length s.rows)) target) else s) left ∙ ap (λ n. committed s (Allocate n target)) (sym id_is)

    pub gives_new : {t : State} (given : ℤ) → given ≡ pos id → t ≡ committed s (Allocate id target) → GivesTarget s target (Some given) t
    gives_new given at moved = record {
      found = None;
      tells = as_state None tells;
      id = ap Some (at ∙ ap pos id_is) ∙ ap (λ b. if b then Some (pos (id_at (length s.rows))) else None) (sym left);
      state = moved ∙ sym given_left;
    }

    pub makes_new : MakesRow s target
    makes_new = record { tells = as_state None tells; left = left }

    pub moves_new : {old new : View} → Moves s (committed s (Allocate id target)) old new → MovesForTarget s target old new
    moves_new {old} {new} moves = record { found = None; tells = as_state None tells; moves = subst (λ (t : State). Moves s t old new) (sym given_left) moves }
