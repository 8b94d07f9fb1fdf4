-- Payloads that lead from one state to another.
use Rattle.std.proofs.Common.{◌≡◌, ℕ, List, [], ◌∷◌, ◌++◌, drop, Some, None, refl, sym, ap, subst, ◌∙◌}
use Rattle.std.proofs.Math.Seq.{split_at}
use Rattle.std.specs.List.{slice_get}
use Rattle.std.proofs.lemmas.Option.{get_or_from_slice_get, slice_get_within}
use Rattle.record_codec.specs.declared.commit.Commit.{Commit}
use Rattle.record_codec.specs.Spelling.{spelling, HasSpelling}
use Rattle.record_codec.proofs.Whole.{one_value}
use Rattle.host_api.specs.Host.{Files}
use Rattle.disk_journal.proofs.Pairs.{gives_once}
use Rattle.local_store.specs.State.{State, start, Fits, committed, Replays}
use Rattle.local_store.specs.Files.{FindsState}

-- one payload more
pub replays_push : (s : State) (ps : List (List ℕ)) (t : State) (p : List ℕ) (c : Commit) → Replays s ps t → HasSpelling c → p ≡ spelling c → Fits t c → Replays s (ps ++ p ∷ []) (committed t c)
replays_push s [] t p c here has is fits = (c, has, is, subst (λ (u : State). Fits u c) here fits, ap (λ u. committed u c) here)
replays_push s (q ∷ ps) t p c (first, first_has, first_is, first_fits, rest) has is fits = (first, first_has, first_is, first_fits, replays_push (committed s first) ps t p c rest has is fits)

-- payloads lead to one state
pub replays_once : (s : State) (ps : List (List ℕ)) (t u : State) → Replays s ps t → Replays s ps u → t ≡ u
replays_once s [] t u first second = first ∙ sym second
replays_once s (p ∷ ps) t u (c, has, is, fits, rest) (d, also_has, also_is, also_fits, also_rest) =
    let same = one_value d c also_has has (sym also_is ∙ is) in
    replays_once (committed s c) ps t u rest (subst (λ (e : Commit). Replays (committed s e) ps u) same also_rest)

-- two files find one state
pub find_once : (files : Files) (a b : State) → FindsState files a → FindsState files b → a ≡ b
find_once files a b first second =
    let same = gives_once files first.generation first.payloads second.generation second.payloads first.gives second.gives in
    replays_once start second.payloads a b (subst (λ (ps : List (List ℕ)). Replays start ps a) same.1 first.leads.replays) second.leads.replays

-- ---- a loop over the payloads

-- What is left of the payloads leads from the state that is reached where they all lead from the first one.
pub record HasReplayed (from : State) (payloads rest : List (List ℕ)) (reached : State) : Type 0 where
  pub onward : (s : State) → Replays reached rest s → Replays from payloads s
  pub back : (s : State) → Replays from payloads s → Replays reached rest s

first_of : (rest : List (List ℕ)) (payload : List ℕ) → slice_get rest 0 ≡ Some payload → rest ≡ payload ∷ drop 1 rest
first_of rest payload here =
    split_at rest 0 payload (slice_get_within rest 0 payload here)
    ∙ ap (λ (p : List ℕ). p ∷ drop 1 rest) (get_or_from_slice_get rest 0 payload payload here)

none_left : (rest : List (List ℕ)) → slice_get rest 0 ≡ None → rest ≡ []
none_left [] none = refl
none_left (payload ∷ rest) none = cc

-- a payload leads on by the commit that it spells
first_made : (payload : List ℕ) (behind : List (List ℕ)) (commit : Commit) (reached s : State) → HasSpelling commit → payload ≡ spelling commit
    → Replays reached (payload ∷ behind) s → Fits reached commit × Replays (committed reached commit) behind s
first_made payload behind commit reached s has is (first, first_has, first_is, first_fits, leads) =
    let same = one_value first commit first_has has (sym first_is ∙ is) in
    (subst (λ (c : Commit). Fits reached c) same first_fits, subst (λ (c : Commit). Replays (committed reached c) behind s) same leads)

-- the commit of the first payload is made, and that is left behind
pub replays_first : {from reached next : State} {payloads rest behind : List (List ℕ)} (payload : List ℕ) (commit : Commit)
    → slice_get rest 0 ≡ Some payload → behind ≡ drop 1 rest → HasSpelling commit → payload ≡ spelling commit
    → Fits reached commit → next ≡ committed reached commit → HasReplayed from payloads rest reached → HasReplayed from payloads behind next
replays_first {from} {reached} {next} {payloads} {rest} {behind} payload commit here left has is fits made so_far = record {
  onward = λ s leads. so_far.onward s (subst (λ (l : List (List ℕ)). Replays reached l s) (sym split) (commit, has, is, fits, subst (λ u. Replays u behind s) made leads));
  back = λ s leads.
      let on = first_made payload behind commit reached s has is (subst (λ (l : List (List ℕ)). Replays reached l s) split (so_far.back s leads)) in
      subst (λ u. Replays u behind s) (sym made) on.1;
}
  where
    split : rest ≡ payload ∷ behind
    split = first_of rest payload here ∙ ap (λ (l : List (List ℕ)). payload ∷ l) (sym left)

-- the first payload spells no commit
pub unspelled : {from reached : State} {payloads rest : List (List ℕ)} (payload : List ℕ) → slice_get rest 0 ≡ Some payload
    → ((c : Commit) → HasSpelling c → payload ≡ spelling c → ⊥) → HasReplayed from payloads rest reached → (s : State) → Replays from payloads s → ⊥
unspelled {from} {reached} {payloads} {rest} payload here none so_far s leads = spells (subst (λ (l : List (List ℕ)). Replays reached l s) (first_of rest payload here) (so_far.back s leads))
  where
    spells : Replays reached (payload ∷ drop 1 rest) s → ⊥
    spells (first, first_has, first_is, first_fits, more) = none first first_has first_is

-- the commit of the first payload doesn't fit
pub unfit : {from reached : State} {payloads rest : List (List ℕ)} (payload : List ℕ) (commit : Commit) → slice_get rest 0 ≡ Some payload
    → HasSpelling commit → payload ≡ spelling commit → (Fits reached commit → ⊥) → HasReplayed from payloads rest reached → (s : State) → Replays from payloads s → ⊥
unfit {from} {reached} {payloads} {rest} payload commit here has is no_fit so_far s leads =
    no_fit (first_made payload (drop 1 rest) commit reached s has is (subst (λ (l : List (List ℕ)). Replays reached l s) (first_of rest payload here) (so_far.back s leads))).0

-- no payload is left
pub all_replayed : {from reached : State} {payloads rest : List (List ℕ)} → slice_get rest 0 ≡ None → HasReplayed from payloads rest reached → Replays from payloads reached
all_replayed {from} {reached} {payloads} {rest} none so_far = so_far.onward reached (subst (λ (l : List (List ℕ)). Replays reached l reached) (sym (none_left rest none)) refl)
