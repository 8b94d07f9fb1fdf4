-- what a point hands out
use Rattle.std.proofs.Common.{◌≡◌, ◌≢◌, ◌∙◌, ◌↔◌, inl, inr, ℕ, suc, ◌<ℤ◌, Bool, true, Option, Some, None, List, [], ◌∷◌, map, refl, sym, ap, subst, arith}
use Rattle.std.specs.BTreeMap.{BTreeMap, IsEmpty}
use Rattle.std.specs.List.{AllPairs, Contains, filter, slice_get}
use Rattle.std.specs.Map.{lookup}
use Rattle.std.specs.Option.{option_and_then}
use Rattle.std.proofs.lemmas.List.Elements.{All-contains, All-map}
use Rattle.std.proofs.lemmas.List.Kept.{AllPairs-cons, AllPairs-filter}
use Rattle.value_model.specs.declared.document.Entry.{Entry}
use Rattle.watch_aggregator.specs.declared.point.WatchTarget.{WatchTarget}
use Rattle.watch_aggregator.specs.declared.watched.Watched.{Watched}
use Rattle.listen_protocol.specs.Calls.{Key, Calls, applied, skipped}
use Rattle.document_keys.specs.KeySet.{is_key}
use Rattle.watch_aggregator.specs.Buffer.{IsBuffer}
use Rattle.watch_aggregator.specs.Points.{target_at, target_from, token_option}
use Rattle.watch_aggregator.specs.Steps.{HasToken, IsEach}
use Rattle.listen_protocol.specs.Transcript.{counts, token_in}
use Rattle.watch_aggregator.specs.Standing.{IsWatched, AreWatched}
use Rattle.watch_aggregator.proofs.Ended.{choose, chosen, found_id}
use Rattle.listen_protocol.proofs.Ids.{counts_live}
use Rattle.watch_aggregator.proofs.Targets.{each_stands}

-- ---- a point that was applied or skipped leaves no tokens

pub skipped_stand : (tokens : List (List ℕ)) (ws vs : List Watched) (h : Calls) → AreWatched tokens ws h → IsEach (λ v w. w ≡ record v { token = None }) ws vs → AreWatched [] vs (skipped ∷ h)
skipped_stand tokens ws vs h are each =
    each_stands tokens [] ws vs h skipped (λ v w. w ≡ record v { token = None }) are each
    (λ w v same is. (
      ap (λ (x : Watched). x.id) same,
      subst (IsWatched [] w.id (skipped ∷ h)) (sym same) (record {
        settled = is.settled;
        count = is.count;
        wants = is.wants;
        counting = is.counting;
        document = is.document;
        waits = is.waits;
        told = is.told;
        current = is.current;
        token = λ counted. refl;
      }),
    ))
    (λ t absent none. none)

pub applied_stand : (tokens : List (List ℕ)) (ws vs : List Watched) (h : Calls) → AreWatched tokens ws h → IsEach (λ v w. w ≡ record v { token = None }) ws vs → AreWatched [] vs (applied ∷ h)
applied_stand tokens ws vs h are each =
    each_stands tokens [] ws vs h applied (λ v w. w ≡ record v { token = None }) are each
    (λ w v same is. (
      ap (λ (x : Watched). x.id) same,
      subst (IsWatched [] w.id (applied ∷ h)) (sym same) (record {
        settled = is.settled;
        count = is.count;
        wants = is.wants;
        counting = is.counting;
        document = is.document;
        waits = is.waits;
        told = is.told;
        current = is.current;
        token = λ counted. refl;
      }),
    ))
    (λ t absent none. none)

pub buffer_applied : (now : BTreeMap Key Entry) (h : Calls) → IsEmpty now → IsBuffer now (applied ∷ h)
buffer_applied now h empty = record { at = λ k. ap (lookup (is_key k)) empty }

-- ---- the targets

token_is : (tokens : List (List ℕ)) (place : Option ℕ) (token : List ℕ) → HasToken tokens place token → option_and_then (slice_get tokens) place ≡ token_option token
token_is tokens None token has = ap token_option (sym has)
token_is tokens (Some place) token has = has.0 ∙ some token has.1
  where
    some : (bytes : List ℕ) → bytes ≢ [] → Some bytes ≡ token_option bytes
    some [] isnt = absurd (isnt refl)
    some (byte ∷ bytes) isnt = refl

target_is : (tokens : List (List ℕ)) (h : Calls) (w : Watched) → IsWatched tokens w.id h w → counts w.id h ≡ true → target_from tokens w ≡ target_at h w.id
target_is tokens h w is counted = λ i. record {
  id = w.id;
  document = is.document i;
  current = is.current counted i;
  token = token_is tokens w.token (token_in w.id h) (is.token counted) i;
  told = is.told counted i;
}

pub targets_are : (tokens : List (List ℕ)) (ws : List Watched) (h : Calls) (targets : List WatchTarget) (target : WatchTarget) → AreWatched tokens ws h → targets ≡ map (target_from tokens) (filter (λ (w : Watched). w.counts) ws) → Contains targets target ↔ ((counts target.id h ≡ true) × (target ≡ target_at h target.id))
targets_are tokens ws h targets target are is = (there, back)
  where
    kept : (w : Watched) → Contains ws w → IsWatched tokens w.id h w
    kept w has = All-contains (λ w. IsWatched tokens w.id h w) ws w are.each has

    listed : (w : Watched) → Contains ws w → w.counts ≡ true → Contains targets (target_from tokens w)
    listed w has counting = subst (λ ts. Contains ts (target_from tokens w)) (sym is) (choose (target_from tokens) (λ (v : Watched). v.counts) ws w has counting)

    same : (w : Watched) → Contains ws w → w.counts ≡ true → target_from tokens w ≡ target_at h w.id
    same w has counting = target_is tokens h w (kept w has) (sym (kept w has).counting ∙ counting)

    there : Contains targets target → (counts target.id h ≡ true) × (target ≡ target_at h target.id)
    there has =
        let found = chosen (target_from tokens) (λ (v : Watched). v.counts) ws target (subst (λ ts. Contains ts target) is has) in
        let w = found.0 in
        let id_is : w.id ≡ target.id = ap (λ (t : WatchTarget). t.id) found.3 in
        (subst (λ t. counts t h ≡ true) id_is (sym (kept w found.1).counting ∙ found.2), sym found.3 ∙ same w found.1 found.2 ∙ ap (target_at h) id_is)

    back : (counts target.id h ≡ true) × (target ≡ target_at h target.id) → Contains targets target
    back (counted, at) = elim (found_id ws target.id) [
      | inl (w, has, id_is) ↦
          let counting : w.counts ≡ true = (kept w has).counting ∙ subst (λ t. counts t h ≡ true) (sym id_is) counted in
          subst (Contains targets) (same w has counting ∙ ap (target_at h) id_is ∙ sym at) (listed w has counting)
      | inr none ↦ absurd (let zero_open = are.others target.id none in let live = counts_live target.id h counted in let one_open = live.1 in omega arith)
    ]

pairs-map : (tokens : List (List ℕ)) (ws : List Watched) → AllPairs (λ v w. v.id <ℤ w.id) ws → AllPairs (λ (a b : WatchTarget). a.id <ℤ b.id) (map (target_from tokens) ws)
pairs-map tokens [] pairs = λ i j d before inside. absurd (omega arith)
pairs-map tokens (w ∷ ws) pairs =
    AllPairs-cons (λ (a b : WatchTarget). a.id <ℤ b.id) (target_from tokens w) (map (target_from tokens) ws)
    (All-map (λ (b : WatchTarget). w.id <ℤ b.id) (target_from tokens) ws (λ k d inside. pairs 0 (suc k) d (omega arith) (omega arith)))
    (pairs-map tokens ws (λ i j d before inside. pairs (suc i) (suc j) d (omega arith) (omega arith)))

pub targets_ascend : (tokens : List (List ℕ)) (p : Watched → Bool) (ws : List Watched) → AllPairs (λ v w. v.id <ℤ w.id) ws → AllPairs (λ (a b : WatchTarget). a.id <ℤ b.id) (map (target_from tokens) (filter p ws))
targets_ascend tokens p ws pairs = pairs-map tokens (filter p ws) (AllPairs-filter (λ v w. v.id <ℤ w.id) p ws pairs)
