-- what a message that names a document makes of what is kept of all ids
use Rattle.std.proofs.Common.{◌≡◌, ◌∙◌, ℕ, ℤ, Bool, true, false, ◌&&◌, not, if◌then◌else◌, None, List, [], ◌∷◌, map, refl, sym, ap, subst}
use Rattle.std.proofs.lemmas.Bool.{and_parts, and_right, not-true}
use Rattle.document_keys.specs.KeySet.{IsAscending, with_key, without_key}
use Rattle.value_model.specs.declared.message.ListenResponse.{ListenResponse}
use Rattle.value_model.specs.declared.message.ListenResponse.TheVariants as sent
use Rattle.value_model.specs.declared.message.ChangeKind.{ChangeKind}
use Rattle.value_model.specs.declared.message.DocumentChange.{DocumentChange}
use Rattle.value_model.specs.declared.message.ExistenceFilter.{ExistenceFilter}
use Rattle.watch_aggregator.specs.declared.watched.Watched.{Watched}
use Rattle.listen_protocol.specs.Calls.{Key, Calls, came, changes, lists, token_for}
use Rattle.listen_protocol.specs.ToldKeys.{StartsAscend, named_step, told_step}
use Rattle.listen_protocol.proofs.ToldLaw.{told_law}
use Rattle.watch_aggregator.specs.Standing.{IsWatched, AreWatched}
use Rattle.watch_aggregator.specs.Told.{for_ids, has_key, hits, put, settle, take_back, take_out}
use Rattle.watch_aggregator.specs.Steps.{AreAscending}
use Rattle.watch_aggregator.proofs.Mapped.{ascending_map, each_map, ids_keep, map_map, map_same}
use Rattle.watch_aggregator.proofs.Members.{has_with, with_same, without_twice, without_with}
use Rattle.watch_aggregator.proofs.Messages.{named, named_stands, quiet}
use Rattle.watch_aggregator.proofs.Targets.{each_stands, none_stays}

-- ---- each step keeps the id, and a second time does nothing

pub put_keeps : (change : DocumentChange) (w : Watched) → (put change w).id ≡ w.id
put_keeps change w = go (hits change w && not (has_key change.key w.told))
  where
    go : (b : Bool) → (if b then record w { told = with_key change.key w.told; fresh = true } else w).id ≡ w.id
    go true = refl
    go false = refl

pub put_twice : (change : DocumentChange) (w : Watched) → put change (put change w) ≡ put change w
put_twice change w = go (hits change w && not (has_key change.key w.told)) refl
  where
    go : (b : Bool) → (hits change w && not (has_key change.key w.told)) ≡ b → put change (if b then record w { told = with_key change.key w.told; fresh = true } else w) ≡ (if b then record w { told = with_key change.key w.told; fresh = true } else w)
    go true e = rw (has_with change.key w.told, and_right (hits change w) false refl) refl
    go false e = rw e refl

pub back_keeps : (key : Key) (w : Watched) → (take_back key w).id ≡ w.id
back_keeps key w = go w.fresh
  where
    go : (b : Bool) → (if b then record w { told = without_key key w.told; fresh = false } else w).id ≡ w.id
    go true = refl
    go false = refl

pub back_twice : (key : Key) (w : Watched) → take_back key (take_back key w) ≡ take_back key w
back_twice key w = go w.fresh refl
  where
    go : (b : Bool) → w.fresh ≡ b → take_back key (if b then record w { told = without_key key w.told; fresh = false } else w) ≡ (if b then record w { told = without_key key w.told; fresh = false } else w)
    go true e = refl
    go false e = rw e refl

pub taken_back : (key : Key) (w : Watched) (told : List Key) → w.fresh ≡ true → told ≡ without_key key w.told → record w { told = told; fresh = false } ≡ take_back key w
taken_back key w told marked out = rw marked (ap (λ (keys : List Key). record w { told = keys; fresh = false }) out)

pub settle_keeps : (w : Watched) → (settle w).id ≡ w.id
settle_keeps w = refl

pub settle_twice : (w : Watched) → settle (settle w) ≡ settle w
settle_twice w = refl

pub out_keeps : (key : Key) (w : Watched) → (take_out key w).id ≡ w.id
out_keeps key w = go w.counts
  where
    go : (b : Bool) → (if b then record w { told = without_key key w.told } else w).id ≡ w.id
    go true = refl
    go false = refl

pub out_twice : (key : Key) (w : Watched) → take_out key (take_out key w) ≡ take_out key w
out_twice key w = go w.counts refl
  where
    go : (b : Bool) → w.counts ≡ b → take_out key (if b then record w { told = without_key key w.told } else w) ≡ (if b then record w { told = without_key key w.told } else w)
    go true e = rw (e, without_twice key w.told) refl
    go false e = rw e refl

-- ---- one id

settled_same : (w : Watched) → w.fresh ≡ false → settle w ≡ w
settled_same w settled = ap (λ f. record w { fresh = f }) (sym settled)

listed : (ids : List ℤ) (f : Watched → Watched) (w : Watched) → lists ids w.id ≡ true → for_ids ids f w ≡ f w
listed ids f w e = rw e refl

unlisted : (ids : List ℤ) (f : Watched → Watched) (w : Watched) → lists ids w.id ≡ false → for_ids ids f w ≡ w
unlisted ids f w e = rw e refl

module _ (change : DocumentChange) (w : Watched) (settled : w.fresh ≡ false) (ascends : w.counts ≡ true → IsAscending w.told) where
  -- the key put in, and what was marked settled
  put_settled : (c a r : Bool) → w.counts ≡ c → lists change.target_ids w.id ≡ a → lists change.removed_target_ids w.id ≡ r → for_ids change.target_ids settle (for_ids change.target_ids (put change) w) ≡ record w { told = if c && (a && not r) then with_key change.key w.told else w.told }
  put_settled true false r ec ea er = ap (for_ids change.target_ids settle) (unlisted change.target_ids (put change) w ea) ∙ unlisted change.target_ids settle w ea
  put_settled false false r ec ea er = ap (for_ids change.target_ids settle) (unlisted change.target_ids (put change) w ea) ∙ unlisted change.target_ids settle w ea
  put_settled false true r ec ea er =
      let missed : put change w ≡ w = rw ec refl in
      ap (for_ids change.target_ids settle) (listed change.target_ids (put change) w ea ∙ missed) ∙ listed change.target_ids settle w ea ∙ settled_same w settled
  put_settled true true true ec ea er =
      let missed : put change w ≡ w = rw (ec, ea, er) refl in
      ap (for_ids change.target_ids settle) (listed change.target_ids (put change) w ea ∙ missed) ∙ listed change.target_ids settle w ea ∙ settled_same w settled
  put_settled true true false ec ea er = go (has_key change.key w.told) refl
    where
      go : (b : Bool) → has_key change.key w.told ≡ b → for_ids change.target_ids settle (for_ids change.target_ids (put change) w) ≡ record w { told = with_key change.key w.told }
      go true e =
          let there : put change w ≡ w = rw (ec, ea, er, e) refl in
          ap (for_ids change.target_ids settle) (listed change.target_ids (put change) w ea ∙ there) ∙ listed change.target_ids settle w ea ∙ settled_same w settled
          ∙ ap (λ (keys : List Key). record w { told = keys }) (with_same change.key w.told (ascends ec) e)
      go false e =
          let v : Watched = record w { told = with_key change.key w.told; fresh = true } in
          let new : put change w ≡ v = rw (ec, ea, er, e) refl in
          ap (for_ids change.target_ids settle) (listed change.target_ids (put change) w ea ∙ new) ∙ listed change.target_ids settle v ea
          ∙ ap (λ f. record w { told = with_key change.key w.told; fresh = f }) (sym settled)

  pub changed_one : for_ids change.removed_target_ids (take_out change.key) (for_ids change.target_ids settle (for_ids change.target_ids (put change) w)) ≡ named change.key (lists change.target_ids w.id) (lists change.removed_target_ids w.id) w
  changed_one = go w.counts (lists change.target_ids w.id) (lists change.removed_target_ids w.id) refl refl refl
    where
      out : Watched → Watched
      out = for_ids change.removed_target_ids (take_out change.key)

      go : (c a r : Bool) → w.counts ≡ c → lists change.target_ids w.id ≡ a → lists change.removed_target_ids w.id ≡ r → for_ids change.removed_target_ids (take_out change.key) (for_ids change.target_ids settle (for_ids change.target_ids (put change) w)) ≡ record w { told = if c then named_step change.key a r w.told else w.told }
      go true true true ec ea er = ap out (put_settled true true true ec ea er) ∙ listed change.removed_target_ids (take_out change.key) w er ∙ rw ec refl
      go true false true ec ea er = ap out (put_settled true false true ec ea er) ∙ listed change.removed_target_ids (take_out change.key) w er ∙ rw ec refl
      go true true false ec ea er = ap out (put_settled true true false ec ea er) ∙ unlisted change.removed_target_ids (take_out change.key) (record w { told = with_key change.key w.told }) er
      go true false false ec ea er = ap out (put_settled true false false ec ea er) ∙ unlisted change.removed_target_ids (take_out change.key) w er
      go false a true ec ea er = ap out (put_settled false a true ec ea er) ∙ listed change.removed_target_ids (take_out change.key) w er ∙ rw ec refl
      go false a false ec ea er = ap out (put_settled false a false ec ea er) ∙ unlisted change.removed_target_ids (take_out change.key) w er

  -- what was put in and taken back
  pub back_one : (ids : List ℤ) → for_ids change.target_ids (take_back change.key) (for_ids ids (put change) w) ≡ w
  back_one ids = go (lists ids w.id)
    where
      unmarked : (b : Bool) → (if b then take_back change.key w else w) ≡ w
      unmarked true = rw settled refl
      unmarked false = refl

      tried : (b : Bool) → (hits change w && not (has_key change.key w.told)) ≡ b → for_ids change.target_ids (take_back change.key) (if b then record w { told = with_key change.key w.told; fresh = true } else w) ≡ w
      tried false e = unmarked (lists change.target_ids w.id)
      tried true e =
          let p = and_parts (hits change w) (not (has_key change.key w.told)) e in
          let q = and_parts w.counts (lists change.target_ids w.id && not (lists change.removed_target_ids w.id)) p.0 in
          let is_listed = (and_parts (lists change.target_ids w.id) (not (lists change.removed_target_ids w.id)) q.1).0 in
          let absent = not-true (has_key change.key w.told) p.1 in
          rw is_listed (λ i. record w { told = without_with change.key w.told (ascends q.0) absent i; fresh = sym settled i })

      go : (b : Bool) → for_ids change.target_ids (take_back change.key) (if b then put change w else w) ≡ w
      go true = tried (hits change w && not (has_key change.key w.told)) refl
      go false = unmarked (lists change.target_ids w.id)

gone_one : (key : Key) (removed : List ℤ) (w : Watched) → for_ids removed (take_out key) w ≡ named key false (lists removed w.id) w
gone_one key removed w = go w.counts (lists removed w.id) refl refl
  where
    go : (c r : Bool) → w.counts ≡ c → lists removed w.id ≡ r → for_ids removed (take_out key) w ≡ record w { told = if c then named_step key false r w.told else w.told }
    go true true ec er = rw (er, ec) refl
    go true false ec er = rw er refl
    go false true ec er = rw (er, ec) refl
    go false false ec er = rw er refl

-- ---- all ids

told_ascends : (tokens : List (List ℕ)) (t : ℤ) (h : Calls) (w : Watched) → StartsAscend h → IsWatched tokens t h w → w.counts ≡ true → IsAscending w.told
told_ascends tokens t h w starts is counting = subst IsAscending (sym (is.told (sym is.counting ∙ counting))) (told_law.ascend t h starts)

named_all : (tokens : List (List ℕ)) (ws : List Watched) (h : Calls) (m : ListenResponse) (key : Key) (a r : ℤ → Bool) (f : Watched → Watched) → AreWatched tokens ws h → ((t : ℤ) (P : ChangeKind → Bool) → changes P m t ≡ false) → ((t : ℤ) → token_for m t ≡ []) → ((t : ℤ) (keys : List Key) → told_step m t keys ≡ named_step key (a t) (r t) keys) → ((w : Watched) → IsWatched tokens w.id h w → f w ≡ named key (a w.id) (r w.id) w) → AreWatched tokens (map f ws) (came m ∷ h)
named_all tokens ws h m key a r f are none no_token steps is_named =
    each_stands tokens tokens ws (map f ws) h (came m) (λ w v. v ≡ f w) are (each_map f ws)
    (λ w v same is. (
      ap (λ (x : Watched). x.id) (same ∙ is_named w is),
      subst (IsWatched tokens w.id (came m ∷ h)) (sym (same ∙ is_named w is)) (named_stands tokens w.id h w m key (a w.id) (r w.id) is (none w.id) (no_token w.id) (steps w.id)),
    ))
    (λ t absent zero_open. none_stays t m h zero_open)

pub document_changed : (tokens : List (List ℕ)) (ws us : List Watched) (h : Calls) (change : DocumentChange) → AreWatched tokens ws h → StartsAscend h → us ≡ map (for_ids change.removed_target_ids (take_out change.key)) (map (for_ids change.target_ids settle) (map (for_ids change.target_ids (put change)) ws)) → AreWatched tokens us (came (sent.Change change) ∷ h)
document_changed tokens ws us h change are starts is =
    let out = for_ids change.removed_target_ids (take_out change.key) in
    let set = for_ids change.target_ids settle in
    let puts = for_ids change.target_ids (put change) in
    let once : us ≡ map (λ w. out (set (puts w))) ws = is ∙ map_map out set (map puts ws) ∙ map_map (λ w. out (set w)) puts ws in
    subst (λ vs. AreWatched tokens vs (came (sent.Change change) ∷ h)) (sym once)
    (named_all tokens ws h (sent.Change change) change.key (lists change.target_ids) (lists change.removed_target_ids) (λ w. out (set (puts w))) are (λ t P. refl) (λ t. refl) (λ t keys. refl)
    (λ w is'. changed_one change w is'.settled (told_ascends tokens w.id h w starts is')))

pub put_back : (tokens : List (List ℕ)) (ws us : List Watched) (h : Calls) (change : DocumentChange) (ids : List ℤ) → AreWatched tokens ws h → StartsAscend h → us ≡ map (for_ids change.target_ids (take_back change.key)) (map (for_ids ids (put change)) ws) → AreWatched tokens us h
put_back tokens ws us h change ids are starts is =
    let back = for_ids change.target_ids (take_back change.key) in
    let puts = for_ids ids (put change) in
    let same : us ≡ ws = is ∙ map_map back puts ws ∙ map_same (λ w. back (puts w)) ws (λ k d inside. let is' = are.each k d inside in back_one change _ is'.settled (told_ascends tokens _ h _ starts is') ids) in
    subst (λ vs. AreWatched tokens vs h) (sym same) are

-- the same, as the three steps tell it
pub change_stands : (tokens : List (List ℕ)) (ws puts sets us : List Watched) (h : Calls) (change : DocumentChange) (targets removed : List ℤ) → AreWatched tokens ws h → StartsAscend h → targets ≡ change.target_ids → removed ≡ change.removed_target_ids → (AreAscending ws → puts ≡ map (for_ids change.target_ids (put change)) ws) → (AreAscending puts → sets ≡ map (for_ids targets settle) puts) → (AreAscending sets → us ≡ map (for_ids removed (take_out change.key)) sets) → AreWatched tokens us (came (sent.Change change) ∷ h)
change_stands tokens ws puts sets us h change targets removed are starts targets_are removed_are put_in settled out =
    let first = put_in are.ascending in
    let ascending' : AreAscending puts = subst AreAscending (sym first) (ascending_map (for_ids change.target_ids (put change)) ws (ids_keep (put change) (put_keeps change) change.target_ids) are.ascending) in
    let second = settled ascending' in
    let ascending'' : AreAscending sets = subst AreAscending (sym second) (ascending_map (for_ids targets settle) puts (ids_keep settle settle_keeps targets) ascending') in
    document_changed tokens ws us h change are starts (out ascending''
    ∙ (λ i. map (for_ids (removed_are i) (take_out change.key)) (second i))
    ∙ (λ i. map (for_ids change.removed_target_ids (take_out change.key)) (map (for_ids (targets_are i) settle) (first i))))

-- and the two of a change that is undone
pub back_stands : (tokens : List (List ℕ)) (ws puts us : List Watched) (h : Calls) (change : DocumentChange) (ids targets : List ℤ) → AreWatched tokens ws h → StartsAscend h → targets ≡ change.target_ids → puts ≡ map (for_ids ids (put change)) ws → (AreAscending puts → us ≡ map (for_ids targets (take_back change.key)) puts) → AreWatched tokens us h
back_stands tokens ws puts us h change ids targets are starts targets_are put_in back =
    let ascending' : AreAscending puts = subst AreAscending (sym put_in) (ascending_map (for_ids ids (put change)) ws (ids_keep (put change) (put_keeps change) ids) are.ascending) in
    put_back tokens ws us h change ids are starts (back ascending' ∙ (λ i. map (for_ids (targets_are i) (take_back change.key)) (put_in i)))

pub document_gone : (tokens : List (List ℕ)) (ws us : List Watched) (h : Calls) (m : ListenResponse) (key : Key) (removed : List ℤ) → AreWatched tokens ws h → ((t : ℤ) (P : ChangeKind → Bool) → changes P m t ≡ false) → ((t : ℤ) → token_for m t ≡ []) → ((t : ℤ) (keys : List Key) → told_step m t keys ≡ named_step key false (lists removed t) keys) → us ≡ map (for_ids removed (take_out key)) ws → AreWatched tokens us (came m ∷ h)
document_gone tokens ws us h m key removed are none no_token steps is =
    subst (λ vs. AreWatched tokens vs (came m ∷ h)) (sym is)
    (named_all tokens ws h m key (λ t. false) (lists removed) (for_ids removed (take_out key)) are none no_token steps (λ w is'. gone_one key removed w))

-- a filter changes nothing
pub filter_stands : (tokens : List (List ℕ)) (ws : List Watched) (h : Calls) (filter : ExistenceFilter) → AreWatched tokens ws h → AreWatched tokens ws (came (sent.Filter filter) ∷ h)
filter_stands tokens ws h filter are =
    each_stands tokens tokens ws ws h (came (sent.Filter filter)) (λ w v. v ≡ w) are (record { same_length = refl; at = λ k d inside. refl })
    (λ w v same is. (ap (λ (x : Watched). x.id) same, subst (IsWatched tokens w.id (came (sent.Filter filter) ∷ h)) (sym same) (quiet (sent.Filter filter) None is refl refl refl refl refl (λ keys. refl))))
    (λ t absent zero_open. none_stays t (sent.Filter filter) h zero_open)
