-- the turn by which documents in limbo go whose listens the backend ended
use Rattle.std.proofs.Common.{◌≡◌, ◌≢◌, ⊎_elim, inl, inr, ℕ, ◌<◌, ◌≤◌, ℤ, pos, nat_eq, Bool, true, false, ◌&&◌, ◌||◌, List, [], ◌∷◌, ◌++◌, map as each, Option, Some, None, option_map, IfSome, if◌then◌else◌, Vec, Global, refl, sym, ap, subst, ◌∙◌}
use Rattle.std.proofs.lemmas.Bool.{and_parts, lt-ltb, le-ltb, true≢false}
use Rattle.std.proofs.lemmas.Option.{none-some}
use Rattle.std.proofs.lemmas.List.Elements.{Contains-append_cases, Contains-append_left, Contains-append_right}
use Rattle.std.specs.FinMap as map
use Rattle.std.specs.List.{AllZip, Contains, list_any}
use Rattle.std.specs.Ordering.{int_eq}
use Rattle.host_api.specs.Host.{View}
use Rattle.client_events.specs.Spelled.{IsSpelledMessage}
use Rattle.client_events.specs.declared.event.Event.TheVariants as event
use Rattle.durable_state.proofs.Laid.{among_in, in_among, not_so}
use Rattle.durable_state.proofs.Local.{documents_local}
use Rattle.durable_state.specs.Cached.{Changed, dropped, with_all}
use Rattle.durable_state.specs.Documents.{documents_of, is_among, is_named, standing_by, stored}
use Rattle.limbo_resolver.specs.Limbo.{Key, Limbo}
use Rattle.limbo_listens.proofs.Laws.{ids_of_running}
use Rattle.listen_protocol.specs.Calls.{lists}
use Rattle.listen_protocol.specs.ToldKeys.{told_keys}
use Rattle.listen_protocol.specs.Transcript.{counts}
use Rattle.listeners.specs.Concerns.{Concerns}
use Rattle.listeners.specs.Table.{target_of, viewed}
use Rattle.local_store.specs.Documents.{document_of, entry_of}
use Rattle.local_store.specs.Files.{Moves}
use Rattle.local_store.specs.State.{State, committed, most_commits}
use Rattle.overlays.specs.LocalDocument.{base_of, local_document}
use Rattle.record_codec.specs.declared.commit.Commit.{Commit}
use Rattle.record_codec.specs.declared.commit.Commit.TheVariants.{Drop}
use Rattle.remote_documents.specs.Table.{EntryMap}
use Rattle.value_model.specs.Documents.{Stored}
use Rattle.value_model.specs.declared.document.Document.{Document}
use Rattle.value_model.specs.declared.document.DocState.TheVariants as stands
use Rattle.value_model.specs.declared.document.Entry.{Entry}
use Rattle.value_model.specs.declared.document.RpcStatus.{RpcStatus}
use Rattle.value_model.specs.declared.document.Seal.{Seal}
use Rattle.value_model.specs.declared.message.ListenResponse.{ListenResponse}
use Rattle.value_model.specs.declared.message.ListenResponse.TheVariants as sent
use Rattle.value_model.specs.declared.message.TargetChange.{TargetChange}
use Rattle.views.specs.declared.standing.Standing.{Standing}
use Rattle.watch_aggregator.specs.Effects.{Gives}
use Rattle.watch_aggregator.specs.declared.effect.Effect.TheVariants as effect
use Rattle.client_turns.specs.Answers.{Answers}
use Rattle.sync_engine.specs.Dropping.{AreBlankedIn, AreMovedBy, AreToldListens, Drops, HoldsOne, LetsGo, ShareOne}
use Rattle.client_turns.specs.Hearing as hearing
use Rattle.client_turns.specs.Hearing.{AreBlankedFor, AreDropped, HeardTurn, Holds, commits_if_left}
use Rattle.client_turns.specs.LimboListens.{heard_limbo, is_running, limbo_of, without_all}
use Rattle.client_turns.specs.Lines.{Line, error}
use Rattle.client_turns.specs.Past.{Past, Turn}
use Rattle.client_turns.specs.Asking.{resets_by}
use Rattle.client_turns.specs.Settling.{current_with, HasTargetRow}
use Rattle.sync_engine.specs.Standing.{IsQuiet, Kept, StandsFor, limbo_in, stance_in, standing_in}
use Rattle.sync_engine.specs.Stream.{Hears, resets_of}
use Rattle.sync_engine.specs.Telling.{AreListenersIn, HandsSettled, IsQuietOrAmong, IsShown, KeepsRest, MakesOne, MovesBy, Raises, RemovesAll, ResetsAsDue}
use Rattle.client_turns.specs.Turn.{answered_next}
use Rattle.client_turns.specs.Turns.{commits, refused}
use Rattle.client_turns.specs.Watching.{calls_of, current_keys}
use Rattle.sync_engine.specs.declared.dropping.Going.{Going}
use Rattle.sync_engine.specs.declared.out.Out.{Out}
use Rattle.sync_engine.specs.declared.out.Out.TheVariants.{Error}
use Rattle.sync_engine.specs.declared.out.Outcome.TheVariants.{Done}
use Rattle.client_turns.specs.declared.refusal.Refusal.TheVariants.{IdsSpent}
use Rattle.sync_engine.specs.declared.watch_stream.Due.TheVariants.{Nothing}
use Rattle.sync_engine.specs.declared.watch_stream.WatchStream.{WatchStream}
use Rattle.sync_engine.proofs.Committed.{makes_by, moves_by}
use Rattle.client_turns.proofs.Given.{EndsTargets, ended_change}
use Rattle.sync_engine.proofs.Dropped.{errors_raise, errors_shown, follows, listed_among, listeners_of_past, others_apart}
use Rattle.sync_engine.proofs.Emptied.{held_blanked, quiet_over, row_blanked}
use Rattle.sync_engine.proofs.Following.{Follows}
use Rattle.sync_engine.proofs.Handing.{as_done, handed}
use Rattle.sync_engine.proofs.Quiet.{TouchesSame, get_all, touched_same}
use Rattle.sync_engine.proofs.Turning.{among_or_not}
use Rattle.client_turns.proofs.Wanted.{any_at, first_among, later_among}

-- ---- by what the client keeps, and by what was heard

module _ {client : Kept} {past : Past} (stands : StandsFor client client.store.state past) where
  -- what a target holds is what the client keeps of it
  held_is : (t : ℤ) (keys : List Key) → HoldsOne client (calls_of past) t keys → (key : Key) × Contains keys key × Holds client.store.state past t key
  held_is t keys (inl row) = (row.share.key, row.share.one, hearing.by_row row.row row.held row.of_id row.holds row.share.other)
  held_is t keys (inr (inl told)) = (told.1.key, told.1.one, hearing.by_told told.0 told.1.other)
  held_is t keys (inr (inr now)) = by (current_keys t past) refl
    where
      by : (o : Option (List Key)) → current_keys t past ≡ o → (key : Key) × Contains keys key × Holds client.store.state past t key
      by None none = absurd (none-some now.standing (sym (stands.watch.current t ∙ ap (option_map current_with) none) ∙ now.current))
      by (Some held) some =
          let same : current_with held ≡ now.standing = one (current_with held) now.standing (sym (stands.watch.current t ∙ ap (option_map current_with) some) ∙ now.current) in
          (now.share.key, now.share.one, hearing.by_current held some (subst (λ (k : Standing). Contains k.keys now.share.key) (sym same) now.share.other))
        where
          one : (a b : Standing) → Some a ≡ Some b → a ≡ b
          one a b so = cc

  is_held : (t : ℤ) (keys : List Key) (key : Key) → Contains keys key → Holds client.store.state past t key → HoldsOne client (calls_of past) t keys
  is_held t keys key among (hearing.by_row row held of_id holds there) = inl (record { row = row; held = held; of_id = of_id; holds = holds; share = record { key = key; one = among; other = there } })
  is_held t keys key among (hearing.by_told counting there) = inr (inl (counting, record { key = key; one = among; other = there }))
  is_held t keys key among (hearing.by_current held current there) =
      inr (inr (record { standing = current_with held; current = stands.watch.current t ∙ ap (option_map current_with) current; share = record { key = key; one = among; other = there } }))

  pub blanked_for : (ended : List ℤ) (keys : List Key) (those : List ℕ) → AreBlankedIn client (calls_of past) ended keys those → AreBlankedFor client.store.state past ended keys those
  blanked_for ended keys those are = record {
    ascending = are.ascending;
    each = λ n. (
      λ there. let it = (are.each n).0 there in (it.0, ⊎_elim inl (λ one. inr (held_is (pos n) keys one)) it.1),
      λ it. (are.each n).1 (it.0, ⊎_elim inl (λ one. inr (is_held (pos n) keys one.0 one.1 one.2)) it.1),
    );
  }

-- ---- what the event comes to

module _ {client : Kept} {past : Past} (response : ListenResponse) (ids : List ℤ) (status : RpcStatus) (keys : List Key) (rows those : List ℕ) (stands : StandsFor client client.store.state past) (opening : client.watch.is_open ≡ true) (gives : Gives (calls_of past) response (effect.Ended ids status))
    (drops : AreDropped client.limbo.limbo ids keys) (some : keys ≢ []) (blanked : AreBlankedIn client (calls_of past) ids keys rows) (are : AreListenersIn client.listeners ids those) where
  as_dropped : (t : Turn) → t ≡ commits_if_left client.store.state (Drop keys rows) (each (λ id. error id status) those) → Answers client.store.state past (event.Watch response) t
  as_dropped t is = subst (λ (b : Bool). HeardTurn client.store.state past response b t) (sym (sym stands.watch.opening ∙ opening))
      (hearing.dropped ids status keys rows those gives (subst (λ (l : Limbo). AreDropped l ids keys) stands.limbo_is drops) some (blanked_for stands ids keys rows blanked) (listeners_of_past response ids status stands opening gives those are) is)

  -- no number is left
  pub dropped_spent : most_commits ≤ client.store.state.number → Answers client.store.state past (event.Watch response) (refused IdsSpent)
  dropped_spent many = as_dropped (refused IdsSpent) (sym (ap (λ b. if b then commits (Drop keys rows) (each (λ id. error id status) those) else refused IdsSpent) (le-ltb client.store.state.number most_commits many)))

  pub dropped_answers : client.store.state.number < most_commits → Answers client.store.state past (event.Watch response) (commits (Drop keys rows) (each (λ id. error id status) those))
  dropped_answers few = as_dropped (commits (Drop keys rows) (each (λ id. error id status) those)) (sym (ap (λ b. if b then commits (Drop keys rows) (each (λ id. error id status) those) else refused IdsSpent) (lt-ltb client.store.state.number most_commits few)))

  pub makes_dropped : client.store.state.number < most_commits → MakesOne client.store.state past (event.Watch response)
  makes_dropped few = makes_by (commits (Drop keys rows) (each (λ id. error id status) those)) (Drop keys rows) (dropped_answers few) refl

  -- what a crash finds
  pub moves_dropped : {before later : View} → client.store.state.number < most_commits → Moves client.store.state (committed client.store.state (Drop keys rows)) before later → MovesBy client.store.state past (event.Watch response) before later
  moves_dropped few moves = moves_by (commits (Drop keys rows) (each (λ id. error id status) those)) (dropped_answers few) moves

-- ---- the documents that stay

-- keys that are dropped are the ones that change
dropped_are : (keys : List Key) → each (λ (c : Changed). c.0) (dropped keys) ≡ keys
dropped_are [] = refl
dropped_are (key ∷ keys) = ap (λ ks. key ∷ ks) (dropped_are keys)

-- the entry of any other key stays
entry_stays : (entries : EntryMap) (keys : List Key) (key : Key) → is_among keys key ≡ false → map.get (with_all entries (dropped keys)) key ≡ map.get entries key
entry_stays entries keys key never = get_all entries (dropped keys) key (ap (λ ks. is_among ks key) (dropped_are keys) ∙ never)

-- and so does its document
document_stays : (s : State) (keys : List Key) (rows : List ℕ) (key : Key) → is_among keys key ≡ false → map.get (documents_of (committed s (Drop keys rows))) key ≡ map.get (documents_of s) key
document_stays s keys rows key never =
    let t = committed s (Drop keys rows) in
    let same : map.get t.entries key ≡ map.get s.entries key = entry_stays s.entries keys key never in
    let entry : entry_of t key ≡ entry_of s key = ap (option_map (λ (x : Entry × Seal). x.0)) same in
    let document : document_of t key ≡ document_of s key = λ i. local_document key (base_of (entry i)) s.batches in
    let kept : (d : Document) → stored t key d ≡ stored s key d = λ d i. record { fields = d.fields; update_time = d.update_time; state = if is_named s key then stands.Pending else standing_by (same i) } in
    documents_local t key ∙ ap (λ (f : Document → Stored). option_map f (document_of t key)) (λ i d. kept d i) ∙ ap (option_map (stored s key)) document ∙ sym (documents_local s key)

-- ---- lists of ids and keys

-- one of the keys is among others just where a test finds it
shared : (keys others : List Key) → list_any (is_among others) keys ≡ true → ShareOne keys others
shared [] others is = absurd (true≢false (sym is))
shared (key ∷ keys) others is = go (shared keys others) (is_among others key) refl is
  where
    go : (list_any (is_among others) keys ≡ true → ShareOne keys others) → (b : Bool) → is_among others key ≡ b → (b || list_any (is_among others) keys) ≡ true → ShareOne (key ∷ keys) others
    go later true found so = record { key = key; one = first_among key keys; other = among_in key others found }
    go later false none so = let it = later so in record { key = it.key; one = later_among key it.key keys it.one; other = it.other }

any_shared : (keys others : List Key) → ShareOne keys others → list_any (is_among others) keys ≡ true
any_shared keys others it = any_at (is_among others) keys it.key it.one (in_among it.key others it.other)

listed_each : (rows : List ℕ) (x : ℤ) → lists (each pos rows) x ≡ list_any (λ n. int_eq (pos n) x) rows
listed_each [] x = refl
listed_each (n ∷ rows) x = ap (λ b. int_eq (pos n) x || b) (listed_each rows x)

-- ---- the turn

module _ (old mid new : Kept) (past : Past) (change : TargetChange) (ids : List ℤ) (status : RpcStatus) (keys : List Key) (rows those moved : List ℕ) (told : List ℤ) (heard : WatchStream)
    (stands : StandsFor old old.store.state past) (opening : old.watch.is_open ≡ true) (idle : old.watch.due ≡ Nothing) (spelled : IsSpelledMessage (sent.Target change)) (gives : Gives (calls_of past) (sent.Target change) (effect.Ended ids status)) (ends : EndsTargets (calls_of past) change ids)
    (drops_keys : AreDropped old.limbo.limbo ids keys) (some : keys ≢ []) (blanked : AreBlankedIn old (calls_of past) ids keys rows) (told_are : AreToldListens old (calls_of past) keys told) (left : old.store.state.number < most_commits)
    (moved_are : AreMovedBy old keys (each pos rows) moved)
    (root : mid.root ≡ old.root) (state : mid.store.state ≡ committed old.store.state (Drop keys rows)) (writes : mid.writes ≡ old.writes)
    (are : AreListenersIn old.listeners ids those) (removed : RemovesAll those old.listeners mid.listeners)
    (forgets : (q : ℕ) → limbo_in mid q ≡ (if list_any (nat_eq q) those then [] else limbo_in old q)) (refuses : mid.limbo.limbo ≡ record old.limbo.limbo { running = without_all ids old.limbo.limbo.running })
    (hears_it : Hears (sent.Target change) old.watch heard) (dropping : Drops ids (each pos rows) (each pos rows ++ told) heard mid.watch) where
  abbrev made : Commit
  made = Drop keys rows

  abbrev lines : List Line
  lines = each (λ id. error id status) those

  abbrev answer : Turn
  answer = commits (Drop keys rows) (each (λ id. error id status) those)

  answers : Answers old.store.state past (event.Watch (sent.Target change)) answer
  answers = dropped_answers (sent.Target change) ids status keys rows those stands opening gives drops_keys some blanked are left

  rows_stay : (o : Option ℤ) → IfSome o (HasTargetRow old.store.state.rows) → IfSome o (HasTargetRow (committed old.store.state (Drop keys rows)).rows)
  rows_stay None has = tt
  rows_stay (Some t) has = row_blanked rows old.store.state.rows t has

  stays : Follows mid (committed old.store.state (Drop keys rows)) (answered_next old.store.state past (event.Watch (sent.Target change)) answer) (heard_limbo (calls_of past) (sent.Target change) (limbo_of past))
  stays = follows old mid past change ids status those (Some (Drop keys rows)) (λ x. list_any (λ n. int_eq (pos n) x) rows) heard stands idle spelled ends
      state refl rows_stay writes are removed forgets refuses hears_it (λ x. refl) dropping.opening dropping.aggregator dropping.online
      (λ x. dropping.current x ∙ ap (λ b. if lists ids x || b then None else standing_in heard.current.targets.items x) (listed_each rows x))

  -- a listener that isn't moved stays quiet
  quiet_or_moved : IsQuietOrAmong moved mid
  quiet_or_moved q view there = ⊎_elim inl (λ never. inr (by never (list_any (nat_eq q) those) refl)) (among_or_not moved q)
    where
      by : (Contains moved q → ⊥) → (b : Bool) → list_any (nat_eq q) those ≡ b → IsQuiet mid.root mid.store.state (stance_in mid q) (limbo_in mid q) view
      by never true is = absurd (none-some view (sym (removed.views q ∙ ap (λ b. if b then None else viewed old.listeners q) is) ∙ there))
      by never false is =
          quiet_over old mid past (committed old.store.state (Drop keys rows)) stands root state (dropping.online ∙ hears_it.online)
          held_falls rows_stay q view was documents touches
          (removed.targets q ∙ ap (λ b. if b then None else target_of old.listeners q) is) keeps
          (forgets q ∙ ap (λ b. if b then [] else limbo_in old q) is)
        where
          was : viewed old.listeners q ≡ Some view
          was = sym (removed.views q ∙ ap (λ b. if b then None else viewed old.listeners q) is) ∙ there

          held_falls : (o : Option ℤ) → Rattle.client_turns.specs.Settling.IsHeldFor (committed old.store.state (Drop keys rows)).rows o → Rattle.client_turns.specs.Settling.IsHeldFor old.store.state.rows o
          held_falls None it = it
          held_falls (Some t) it = held_blanked rows old.store.state.rows t it

          -- no key that goes concerns it
          unconcerned : (key : Key) → Concerns view.target key → is_among keys key ≡ false
          unconcerned key concerns = not_so (is_among keys key) (λ among. never (moved_are.concerned key (among_in key keys among) q (record { view = view; there = was; concerns = concerns })))

          documents : (key : Key) → Concerns view.target key → map.get (documents_of (committed old.store.state (Drop keys rows))) key ≡ map.get (documents_of old.store.state) key
          documents key concerns = document_stays old.store.state keys rows key (unconcerned key concerns)

          touches : TouchesSame old.store.state (committed old.store.state (Drop keys rows)) view
          touches key concerns = touched_same old.store.state (committed old.store.state (Drop keys rows)) key refl (entry_stays old.store.state.entries keys key (unconcerned key concerns)) refl

          -- its target is none of those whose rows were made blank
          unblanked : (x : ℤ) → target_of old.listeners q ≡ Some x → lists (each pos rows) x ≡ false
          unblanked x at = go (lists (each pos rows) x) refl
            where
              go : (b : Bool) → lists (each pos rows) x ≡ b → b ≡ false
              go true listed = absurd (never (moved_are.linked q x (listed_among x (each pos rows) listed) at))
              go false not_listed = refl

          keeps : (x : ℤ) → target_of old.listeners q ≡ Some x → standing_in mid.watch.current.targets.items x ≡ standing_in old.watch.current.targets.items x
          keeps x at =
              dropping.current x
              ∙ (λ i. if others_apart old past ids those (λ p. stands.targets p) are q x (sym (stands.targets q) ∙ at) is i || unblanked x at i then None else standing_in heard.current.targets.items x)
              ∙ ap (λ (c : _). standing_in c.targets.items x) hears_it.current

  -- just these are removed and added again
  resets : (next : Kept) → next.watch ≡ mid.watch → ResetsAsDue past (event.Watch (sent.Target change)) (Some (Drop keys rows)) next
  resets next same t = (forth, back)
    where
      due_is : resets_of next.watch.due ≡ each pos rows ++ told
      due_is = ap (λ (w : WatchStream). resets_of w.due) same ∙ dropping.due

      told_any : Bool
      told_any = list_any (is_among (told_keys t (calls_of past))) keys

      forth : resets_by (event.Watch (sent.Target change)) (Some (Drop keys rows)) past t ≡ true → Contains (resets_of next.watch.due) t
      forth is = subst (λ (l : List ℤ). Contains l t) (sym due_is) (by (list_any (λ n. int_eq (pos n) t) rows) refl is)
        where
          by : (b : Bool) → list_any (λ n. int_eq (pos n) t) rows ≡ b → (b || (is_running t (limbo_of past) && (counts t (calls_of past) && told_any))) ≡ true → Contains (each pos rows ++ told) t
          by true listed so = Contains-append_left (each pos rows) told t (listed_among t (each pos rows) (listed_each rows t ∙ listed))
          by false other so =
              let runs = and_parts (is_running t (limbo_of past)) (counts t (calls_of past) && told_any) so in
              let parts = and_parts (counts t (calls_of past)) told_any runs.1 in
              Contains-append_right (each pos rows) told t ((told_are.each t).1 (
                (ids_of_running old.limbo.limbo t).1 (ap (is_running t) stands.limbo_is ∙ runs.0),
                (parts.0, shared keys (told_keys t (calls_of past)) parts.1),
              ))

      back : Contains (resets_of next.watch.due) t → resets_by (event.Watch (sent.Target change)) (Some (Drop keys rows)) past t ≡ true
      back there = ⊎_elim
          (λ blank. ap (λ b. b || (is_running t (limbo_of past) && (counts t (calls_of past) && told_any))) (sym (listed_each rows t) ∙ among_listed_here blank))
          (λ one. let it = (told_are.each t).0 one in
          let runs : is_running t (limbo_of past) ≡ true = ap (is_running t) (sym stands.limbo_is) ∙ (ids_of_running old.limbo.limbo t).0 it.0 in
          (λ i. list_any (λ n. int_eq (pos n) t) rows || (runs i && (it.1.0 i && any_shared keys (told_keys t (calls_of past)) it.1.1 i))) ∙ or_true (list_any (λ n. int_eq (pos n) t) rows))
          (Contains-append_cases (each pos rows) told t (subst (λ (l : List ℤ). Contains l t) due_is there))
        where
          among_listed_here : Contains (each pos rows) t → lists (each pos rows) t ≡ true
          among_listed_here blank = Rattle.sync_engine.proofs.Dropped.among_listed t (each pos rows) blank

          or_true : (b : Bool) → (b || true) ≡ true
          or_true true = refl
          or_true false = refl

  pub hands_dropped : {before : List Out} {vec : Vec Out Global} {given : List ℕ} → KeepsRest mid new → given ≡ moved → (IsQuietOrAmong given mid → Raises mid new before vec.items) → before ≡ each (λ id. Error id status) those
      → HandsSettled old.store.state past (event.Watch (sent.Target change)) (Done vec) new
  hands_dropped {before} {vec} {given} rest same raises begins =
      as_done refl (resets new rest.watch)
      (handed old.store.state past (event.Watch (sent.Target change)) answer mid new before vec.items answers refl stays rest
      (raises (subst (λ (l : List ℕ). IsQuietOrAmong l mid) (sym same) quiet_or_moved)) (λ q. errors_raise q status those)
      (subst (λ (os : List Out). AllZip (IsShown new) os (each (λ id. error id status) those)) (sym begins) (errors_shown new status those)))

-- the listeners that ended are the same ones by another name
pub gone_of : {ended : List ℤ} {keys : List Key} {going : Going} {given those : List ℕ} {old new : Kept} → given ≡ those → LetsGo ended keys going given old new → LetsGo ended keys going those old new
gone_of {ended} {keys} {going} {old = old} {new = new} same it = subst (λ (l : List ℕ). LetsGo ended keys going l old new) same it

-- documents in limbo are dropped
pub hands_drop : {old new : Kept} (mid : Kept) {past : Past} {before : List Out} {vec : Vec Out Global} {given : List ℕ} (response : ListenResponse) (ids : List ℤ) (status : RpcStatus) (keys : List Key) (rows those moved : List ℕ) (told : List ℤ) (heard : WatchStream)
    → StandsFor old old.store.state past → old.watch.is_open ≡ true → old.watch.due ≡ Nothing → IsSpelledMessage response → Gives (calls_of past) response (effect.Ended ids status)
    → AreDropped old.limbo.limbo ids keys → keys ≢ [] → AreBlankedIn old (calls_of past) ids keys rows → AreToldListens old (calls_of past) keys told → old.store.state.number < most_commits → AreMovedBy old keys (each pos rows) moved
    → mid.root ≡ old.root → mid.store.state ≡ committed old.store.state (Drop keys rows) → mid.writes ≡ old.writes
    → AreListenersIn old.listeners ids those → RemovesAll those old.listeners mid.listeners
    → ((q : ℕ) → limbo_in mid q ≡ (if list_any (nat_eq q) those then [] else limbo_in old q)) → mid.limbo.limbo ≡ record old.limbo.limbo { running = without_all ids old.limbo.limbo.running }
    → Hears response old.watch heard → Drops ids (each pos rows) (each pos rows ++ told) heard mid.watch
    → KeepsRest mid new → given ≡ moved → (IsQuietOrAmong given mid → Raises mid new before vec.items) → before ≡ each (λ id. Error id status) those
    → HandsSettled old.store.state past (event.Watch response) (Done vec) new
hands_drop {old} {new} mid {past} {before} {vec} {given} response ids status keys rows those moved told heard stands opening idle spelled gives drops some blanked told_are left moved_are root state writes are removed forgets refuses hears_it dropping rest same raises begins =
    let found = ended_change (calls_of past) response ids status gives in
    subst (λ (r : ListenResponse). HandsSettled old.store.state past (event.Watch r) (Done vec) new) (sym found.1)
    (hands_dropped old mid new past found.0 ids status keys rows those moved told heard stands opening idle (subst IsSpelledMessage found.1 spelled) (subst (λ (r : ListenResponse). Gives (calls_of past) r (effect.Ended ids status)) found.1 gives) found.2
    drops some blanked told_are left moved_are root state writes are removed forgets refuses (subst (λ (r : ListenResponse). Hears r old.watch heard) found.1 hears_it) dropping rest same raises begins)
