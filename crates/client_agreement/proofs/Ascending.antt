-- the keys that add requests start with ascend
use Rattle.std.proofs.Common.{◌≡◌, ℕ, ◌+◌, ℤ, pos, Bool, true, false, nat_eq, nat_lt, List, [], ◌∷◌, ◌++◌, map as each, zero, suc, Option, Some, None, IfSome, if◌then◌else◌, sym, ap, subst, ◌∙◌, arith}
use Rattle.std.proofs.lemmas.Option.{none-some}
use Rattle.std.specs.List.{AllZip, Contains, slice_get}
use Rattle.document_keys.specs.KeySet.{IsAscending}
use Rattle.document_keys.specs.Names.{Root}
use Rattle.durable_state.specs.Rows.{blanked, held_at, holding, holding_from, told}
use Rattle.limbo_resolver.specs.Limbo.{Limbo}
use Rattle.listen_protocol.proofs.ToldLaw.{told_law}
use Rattle.listen_protocol.specs.Calls.{Calls, came}
use Rattle.listen_protocol.specs.ToldKeys.{StartsAscend}
use Rattle.host_api.specs.Host.{Files}
use Rattle.local_store.specs.Files.{FindsState}
use Rattle.local_store.specs.State.{Replays}
use Rattle.durable_state.specs.State.{State, committed, most_commits, start}
use Rattle.outcome_codec.specs.Spelling.{IsSpelledRow}
use Rattle.record_codec.specs.Spelling.{HasSpelling}
use Rattle.std.proofs.lemmas.List.Elements.{All-contains}
use Rattle.outcome_codec.specs.declared.parts.PointRow.{PointRow}
use Rattle.record_codec.specs.declared.commit.Commit.{Commit}
use Rattle.record_codec.specs.declared.commit.Commit.TheVariants.{Acknowledge, Allocate, Drop, Enqueue, Point, Reject, Reset}
use Rattle.target_cache.specs.Cache.{blank}
use Rattle.target_cache.specs.declared.row.Held.{Held}
use Rattle.target_cache.specs.declared.row.Row.{Row}
use Rattle.value_model.specs.declared.timestamp.Timestamp.{Timestamp}
use Rattle.value_model.specs.declared.message.ListenResponse.{ListenResponse}
use Rattle.std.proofs.lemmas.List.Sums.{fold-append}
use Rattle.client_turns.proofs.Wanted.{first_among, later_among}
use Rattle.client_turns.specs.declared.refusal.Refusal.TheVariants.{IdsSpent}
use Rattle.client_turns.specs.Asking.{AsksIf, IsAddLine, IsListenLine, resets_by}
use Rattle.client_turns.specs.Hearing.{Blanks, IsHeard, dropped, ended, held, mismatch, none_held, nothing, old_point, point, point_spent, fails as fails_heard}
use Rattle.client_turns.specs.LimboListens.{limbo_of}
use Rattle.client_turns.specs.Lines.{Line, remove}
use Rattle.client_turns.specs.Order.{AreHeard, now}
use Rattle.client_turns.specs.Past.{Entry, Past, Turn}
use Rattle.client_turns.specs.Turn.{answered_next, is_heard}
use Rattle.client_turns.specs.Turns.{after, commits, refused}
use Rattle.client_turns.specs.Watching.{WatchStep, calls_by, calls_of, closes, hears, held_keys, is_point, is_watched, opens, passed, passes, requested_by, requested_in, rings, step_of}
use Rattle.client_agreement.proofs.Moments.{moments_found}
use Rattle.client_agreement.proofs.EventKinds.{Kind, acks, allocates, breaks, enqueues, idle, kind_of, message, rejecting}
use Rattle.client_agreement.proofs.GoingOut.{fold_asks, requested_plain}
use Rattle.client_agreement.proofs.Parts.{Parts, parts}
use Rattle.client_agreement.specs.Standing.{IsWellMade, KeysAscend}

-- ---- rows

ascend_holding : (first id : ℕ) (new_held : Option Held) (rows : List Row) → IfSome new_held (λ h. IsAscending h.keys) → KeysAscend rows → KeysAscend (holding_from first id new_held rows)
ascend_holding first id new_held [] new all = tt
ascend_holding first id new_held (row ∷ rows) new all = (by (nat_eq first id), ascend_holding (first + 2) id new_held rows new all.1)
  where
    by : (b : Bool) → IfSome (if b then record row { held = new_held } else row).held (λ h. IsAscending h.keys)
    by true = new
    by false = all.0

pub ascend_blanked : (ids : List ℕ) (rows : List Row) → KeysAscend rows → KeysAscend (blanked ids rows)
ascend_blanked [] rows all = all
ascend_blanked (id ∷ ids) rows all = ascend_blanked ids (holding id None rows) (ascend_holding 2 id None rows tt all)

pub ascend_told : (at : Timestamp) (points : List PointRow) (rows : List Row) → ((p : PointRow) → Contains points p → IsAscending p.keys) → KeysAscend rows → KeysAscend (told at points rows)
ascend_told at [] rows each all = all
ascend_told at (p ∷ points) rows each all =
    ascend_told at points (holding p.id (Some (held_at at p)) rows) (λ q here. each q (later_among p q points here))
    (ascend_holding 2 p.id (Some (held_at at p)) rows (each p (first_among p points)) all)

pub ascend_more : (rows : List Row) (row : Row) → KeysAscend rows → IfSome row.held (λ h. IsAscending h.keys) → KeysAscend (rows ++ row ∷ [])
ascend_more [] row all new = (new, tt)
ascend_more (r ∷ rows) row all new = (all.0, ascend_more rows row all.1 new)

ascend_at : (rows : List Row) (place : ℕ) (row : Row) → slice_get rows place ≡ Some row → KeysAscend rows → IfSome row.held (λ h. IsAscending h.keys)
ascend_at [] place row there all = absurd (none-some _ there)
ascend_at (r ∷ rows) zero row there all = let same : r ≡ row = cc in subst (λ (x : Row). IfSome x.held (λ h. IsAscending h.keys)) same all.0
ascend_at (r ∷ rows) (suc place) row there all = ascend_at rows place row there all.1

-- ---- calls

ascend_passed : (b : Bool) (commit : Option Commit) (h : Calls) → StartsAscend h → StartsAscend (passed b commit h)
ascend_passed false commit h all = all
ascend_passed true None h all = all
ascend_passed true (Some commit) h all = all

ascend_came : (step : WatchStep) (commit : Option Commit) (h : Calls) → StartsAscend h → StartsAscend (calls_by step commit h)
ascend_came opens commit h all = tt
ascend_came closes commit h all = tt
ascend_came (hears m) commit h all = ascend_passed (is_point m) commit (came m ∷ h) all
ascend_came rings commit h all = all
ascend_came passes commit h all = all

held_ascend : (it : Option Held) → IfSome it (λ h. IsAscending h.keys) → IsAscending (held_keys it)
held_ascend None all = λ i j d before inside. absurd (omega (arith, inside))
held_ascend (Some h) all = all

ascend_removes : (ids : List ℤ) (h : Calls) → StartsAscend h → StartsAscend (requested_in (each remove ids) h)
ascend_removes [] h all = all
ascend_removes (id ∷ ids) h all = ascend_removes ids (requested_by h (remove id)) all

ascend_adds : (state : State) → KeysAscend state.rows → (ids : List ℤ) (lines : List Line) (h : Calls) → AllZip (IsAddLine state) ids lines → StartsAscend h → StartsAscend (requested_in lines h)
ascend_adds state rows [] [] h zip all = all
ascend_adds state rows [] (line ∷ lines) h zip all = absurd zip
ascend_adds state rows (id ∷ ids) [] h zip all = absurd zip
ascend_adds state rows (id ∷ ids) (line ∷ lines) h zip all =
    ascend_adds state rows ids lines (requested_by h line) zip.1
    (subst (λ (l : Line). StartsAscend (requested_by h l)) (sym zip.0.is)
    (held_ascend zip.0.row.held (ascend_at state.rows zip.0.of_id.place zip.0.row zip.0.of_id.there rows), all))

ascend_listens : (limbo : Limbo) (ids : List ℤ) (lines : List Line) (h : Calls) → AllZip (IsListenLine limbo) ids lines → StartsAscend h → StartsAscend (requested_in lines h)
ascend_listens limbo [] [] h zip all = all
ascend_listens limbo [] (line ∷ lines) h zip all = absurd zip
ascend_listens limbo (id ∷ ids) [] h zip all = absurd zip
ascend_listens limbo (id ∷ ids) (line ∷ lines) h zip all =
    ascend_listens limbo ids lines (requested_by h line) zip.1
    (subst (λ (l : Line). StartsAscend (requested_by h l)) (sym zip.0.is) (held_ascend None tt, all))

-- ---- the rows behind an event

ascend_blanks : (s : State) (ids : List ℕ) (lines : List Line) (t : Turn) → Blanks s ids lines t → t.refusal ≡ None → KeysAscend s.rows → KeysAscend (after s t.commit).rows
ascend_blanks s ids lines t (none_held none is) fine all = subst (λ (c : Option Commit). KeysAscend (after s c).rows) (sym (ap (λ (x : Turn). x.commit) is)) all
ascend_blanks s ids lines t (held any is) fine all = by (nat_lt s.number most_commits) is
  where
    by : (b : Bool) → t ≡ (if b then commits (Reset ids) lines else refused IdsSpent) → KeysAscend (after s t.commit).rows
    by true is = subst (λ (c : Option Commit). KeysAscend (after s c).rows) (sym (ap (λ (x : Turn). x.commit) is)) (ascend_blanked ids s.rows all)
    by false is = absurd (none-some _ (sym fine ∙ ap (λ (x : Turn). x.refusal) is))

ascend_left : (s : State) (commit : Commit) (lines : List Line) (t : Turn) → t ≡ (if nat_lt s.number most_commits then commits commit lines else refused IdsSpent) → t.refusal ≡ None → KeysAscend (committed s commit).rows → KeysAscend (after s t.commit).rows
ascend_left s commit lines t is fine made = by (nat_lt s.number most_commits) is
  where
    by : (b : Bool) → t ≡ (if b then commits commit lines else refused IdsSpent) → KeysAscend (after s t.commit).rows
    by true is = subst (λ (c : Option Commit). KeysAscend (after s c).rows) (sym (ap (λ (x : Turn). x.commit) is)) made
    by false is = absurd (none-some _ (sym fine ∙ ap (λ (x : Turn). x.refusal) is))

ascend_heard : (s : State) (past : Past) (m : ListenResponse) (t : Turn) → IsHeard s past m t → t.refusal ≡ None → StartsAscend (calls_of past) → KeysAscend s.rows → KeysAscend (after s t.commit).rows
ascend_heard s past m t (nothing gives is) fine starts all = subst (λ (c : Option Commit). KeysAscend (after s c).rows) (sym (ap (λ (x : Turn). x.commit) is)) all
ascend_heard s past m t (old_point at gives old is) fine starts all = subst (λ (c : Option Commit). KeysAscend (after s c).rows) (sym (ap (λ (x : Turn). x.commit) is)) all
ascend_heard s past m t (point at entries rows gives below commit is) fine starts all =
    ascend_left s (Point at entries rows) [] t is fine (ascend_told at rows s.rows (λ p here. subst IsAscending (sym ((commit.has p).0 here).told) (told_law.ascend (pos p.id) (came m ∷ calls_of past) starts)) all)
ascend_heard s past m t (point_spent at gives below many is) fine starts all = absurd (none-some _ (sym fine ∙ ap (λ (x : Turn). x.refusal) is))
ascend_heard s past m t (mismatch id told count ids gives have blanks) fine starts all = ascend_blanks s ids [] t blanks fine all
ascend_heard s past m t (ended ids status those listeners gives none have are blanks) fine starts all = ascend_blanks s those _ t blanks fine all
ascend_heard s past m t (dropped ids status keys those listeners gives drops some blanked are is) fine starts all = ascend_left s (Drop keys those) _ t is fine (ascend_blanked those s.rows all)
ascend_heard s past m t (fails_heard why refuses is) fine starts all = absurd (none-some _ (sym fine ∙ ap (λ (x : Turn). x.refusal) is))

ascend_kind : (s : State) (past : Past) (e : _) (t : Turn) → Kind s past e t → StartsAscend (calls_of past) → KeysAscend s.rows → KeysAscend (after s t.commit).rows
ascend_kind s past e t (idle step none plain) starts all = subst (λ (c : Option Commit). KeysAscend (after s c).rows) (sym none) all
ascend_kind s past e t (breaks step none) starts all = subst (λ (c : Option Commit). KeysAscend (after s c).rows) (sym none) all
ascend_kind s past e t (enqueues batch step made plain) starts all = subst (λ (c : Option Commit). KeysAscend (after s c).rows) (sym made) all
ascend_kind s past e t (rejecting id step made plain) starts all = subst (λ (c : Option Commit). KeysAscend (after s c).rows) (sym made) all
ascend_kind s past e t (acks id at results step made plain) starts all = subst (λ (c : Option Commit). KeysAscend (after s c).rows) (sym made) all
ascend_kind s past e t (allocates query step made plain) starts all = subst (λ (c : Option Commit). KeysAscend (after s c).rows) (sym made) (ascend_more s.rows (blank query) all tt)
ascend_kind s past e t (message m is fine watched it) starts all = ascend_heard s past m t it fine starts all

-- ---- over a past

pub record Ascends (first : State) (past : Past) : Type 0 where
  pub starts : StartsAscend (calls_of past)
  pub rows : KeysAscend (now first past).rows

ascends_next : (root : Root) (first : State) (e : Entry) (past : Past) → AreHeard root first (e ∷ past) → Ascends first past → Ascends first (e ∷ past)
ascends_next root first e past heard before = record { starts = starts; rows = rows }
  where
    p : Parts root e.state past e.event e.turn
    p = parts root e.state past e.event e.turn heard.1.turn heard.1.heard

    own : KeysAscend e.state.rows
    own = subst (λ (s : State). KeysAscend s.rows) (sym heard.1.state) before.rows

    rows : KeysAscend (after e.state e.turn.commit).rows
    rows = subst (λ (c : Option Commit). KeysAscend (after e.state c).rows) (sym p.commit)
        (ascend_kind e.state past e.event p.answer (kind_of e.state past e.event p.answer p.answers (ap is_heard (sym p.refusal) ∙ heard.1.heard)) before.starts own)

    came_here : Calls
    came_here = calls_by (step_of e) e.turn.commit (calls_of past)

    came_ascends : StartsAscend came_here
    came_ascends = ascend_came (step_of e) e.turn.commit (calls_of past) before.starts

    asked_ascend : (b : Bool) → AsksIf b (after e.state e.turn.commit) (answered_next e.state past e.event p.settled) (resets_by e.event e.turn.commit past) p.asked → StartsAscend (requested_in p.asked came_here)
    asked_ascend false none = subst (λ ls. StartsAscend (requested_in ls came_here)) (sym none) came_ascends
    asked_ascend true it = subst StartsAscend (sym (
        ap (λ ls. requested_in ls came_here) it.is
        ∙ fold_asks requested_by it.removed it.adds it.listen_adds came_here))
        (ascend_listens (limbo_of (answered_next e.state past e.event p.settled)) it.listens it.listen_adds _ it.keys
        (ascend_adds (after e.state e.turn.commit) rows it.added it.adds _ it.rows (ascend_removes it.removed came_here came_ascends)))

    starts : StartsAscend (calls_of (e ∷ past))
    starts = subst StartsAscend (sym (
        ap (λ ls. requested_in ls came_here) p.lines
        ∙ fold-append requested_by came_here p.settled.lines (p.asked ++ p.behind)
        ∙ ap (requested_in (p.asked ++ p.behind)) (requested_plain p.settled.lines came_here p.plain_front)
        ∙ fold-append requested_by came_here p.asked p.behind
        ∙ requested_plain p.behind (requested_in p.asked came_here) p.plain_behind))
        (asked_ascend (is_watched (answered_next e.state past e.event p.settled)) p.asks)

pub ascends : (root : Root) (first : State) (past : Past) → KeysAscend first.rows → AreHeard root first past → Ascends first past
ascends root first [] all heard = record { starts = tt; rows = all }
ascends root first (e ∷ past) all heard = ascends_next root first e past heard (ascends root first past all heard.0)

-- ---- what files find

ascend_committed : (s : State) (commit : Commit) → KeysAscend s.rows → HasSpelling commit → KeysAscend (committed s commit).rows
ascend_committed s (Enqueue batch) all spelled = all
ascend_committed s (Acknowledge id at results) all spelled = all
ascend_committed s (Reject id) all spelled = all
ascend_committed s (Allocate id target) all spelled = ascend_more s.rows (blank target) all tt
ascend_committed s (Point at entries rows) all spelled = ascend_told at rows s.rows (λ p here. (All-contains IsSpelledRow rows p spelled.held.each.each here).members.ascending) all
ascend_committed s (Reset ids) all spelled = ascend_blanked ids s.rows all
ascend_committed s (Drop keys ids) all spelled = ascend_blanked ids s.rows all

ascend_replayed : (s t : State) (payloads : List (List ℕ)) → KeysAscend s.rows → Replays s payloads t → KeysAscend t.rows
ascend_replayed s t [] all is = subst (λ (x : State). KeysAscend x.rows) (sym is) all
ascend_replayed s t (payload ∷ payloads) all it = ascend_replayed (committed s it.0) t payloads (ascend_committed s it.0 all it.1) it.4

-- the state that files find is well made
pub well_made_found : (files : Files) (s : State) → FindsState files s → IsWellMade s
well_made_found files s found = record { moments = moments_found files s found; ascending = ascend_replayed start s found.payloads tt found.leads.replays }
