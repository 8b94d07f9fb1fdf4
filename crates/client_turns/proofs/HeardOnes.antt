-- what a message on the stream of listeners comes to, and which requests go out, is determined
use Rattle.std.proofs.Common.{◌≡◌, ◌≢◌, ◌↔◌, ◌⊎◌, inl, inr, ⊎_elim, ℕ, ◌<◌, ◌≤◌, if◌then◌else◌, ℤ, ◌<ℤ◌, pos, Bool, true, false, List, [], ◌∷◌, ◌++◌, map as each, Option, Some, None, refl, sym, ap, subst, ◌∙◌, arith}
use Rattle.std.specs.Cmp.{int_chain}
use Rattle.std.specs.Int.Signed.{<ℤ_irrefl}
use Rattle.std.specs.List.{AllPairs, AllZip, Contains, slice_get}
use Rattle.std.proofs.lemmas.Bool.{le-ltb, true≢false}
use Rattle.std.proofs.lemmas.Option.{none-some, same_Some}
use Rattle.durable_state.specs.Rows.{HasRow}
use Rattle.durable_state.specs.State.{IsNotBelow, State, most_commits}
use Rattle.listen_protocol.specs.Calls.{Calls, came, is_remove}
use Rattle.outcome_codec.specs.declared.parts.KeyedEntry.{KeyedEntry}
use Rattle.outcome_codec.specs.declared.parts.PointRow.{PointRow}
use Rattle.record_codec.specs.declared.commit.Commit.TheVariants as commit
use Rattle.target_cache.specs.declared.row.Row.{Row}
use Rattle.value_model.specs.declared.document.RpcStatus.{RpcStatus}
use Rattle.value_model.specs.declared.message.ListenResponse.{ListenResponse}
use Rattle.value_model.specs.declared.message.ListenResponse.TheVariants as message
use Rattle.value_model.specs.declared.message.StreamName.TheVariants as stream
use Rattle.value_model.specs.declared.message.TargetChange.{TargetChange}
use Rattle.value_model.specs.declared.timestamp.Timestamp.{Timestamp}
use Rattle.watch_aggregator.specs.Effects.{Gives, GivesEnd, GivesPoint, IsEnded, Refuses}
use Rattle.watch_aggregator.specs.declared.effect.Effect.{Effect}
use Rattle.watch_aggregator.specs.declared.effect.Effect.TheVariants as effect
use Rattle.watch_aggregator.specs.declared.effect.WatchFault.TheVariants as fault
use Rattle.watch_aggregator.specs.declared.effect.WatchMember.{WatchMember}
use Rattle.watch_aggregator.specs.declared.effect.WatchMember.TheVariants as member
use Rattle.watch_points.proofs.Lists.{same_lists}
use Rattle.watch_points.proofs.Once.{once}
use Rattle.watch_points.specs.PointCommit.{IsPointCommit}
use Rattle.document_keys.proofs.Exact.{same_keys}
use Rattle.limbo_resolver.specs.Limbo.{Key, Limbo, key_in}
use Rattle.queries.specs.declared.target.Target.TheVariants.{Document as a_document}
use Rattle.target_cache.specs.Cache.{blank, IsRow, id_at}
use Rattle.client_turns.specs.Asking.{AreJust, Asks, AsksIf, IsAddLine, IsAdded, IsListenAdded, IsListenLine, IsRemoved}
use Rattle.client_turns.specs.Hearing.{AreBlankedFor, AreDropped, AreListenersOf, Blanks, HaveRows, HeardTurn, Holds, IsHeard, IsOld, commits_if_left, dropped, ended, fails, held, mismatch, none_held, nothing, old_point, point, point_spent, watch_member_name}
use Rattle.client_turns.specs.LimboListens.{limbo_of}
use Rattle.client_turns.specs.Lines.{Line, add, error, remove}
use Rattle.client_turns.specs.Past.{Past, Turn}
use Rattle.client_turns.specs.Turns.{answered, commits, refused}
use Rattle.client_turns.specs.Watching.{calls_of, listened}
use Rattle.client_turns.specs.declared.refusal.Refusal.TheVariants.{BadMessage, IdsSpent}

pub row_one : (rows : List Row) (id : ℤ) (a b : Row) → IsRow rows id a → IsRow rows id b → a ≡ b
row_one rows id a b first second =
    let ids : pos (id_at first.place) ≡ pos (id_at second.place) = sym first.is ∙ second.is in
    let counts : id_at first.place ≡ id_at second.place = cc in
    let places : first.place ≡ second.place = omega (arith, counts) in
    let rows_same : Some a ≡ Some b = sym first.there ∙ ap (slice_get rows) places ∙ second.there in
    cc

-- ---- ascending lists

-- the members of two lists for which the same holds are the same
both_just : {A : Type 0} (P : A → Type 0) (a b : List A) → ((x : A) → Contains a x ↔ P x) → ((x : A) → Contains b x ↔ P x) → (x : A) → Contains a x ↔ Contains b x
both_just P a b one two x = (λ has. (two x).1 ((one x).0 has), λ has. (one x).1 ((two x).0 has))

same_ids : (P : ℤ → Type 0) (a b : List ℤ) → AreJust P a → AreJust P b → a ≡ b
same_ids P a b one two = same_lists ◌<ℤ◌ (λ x. <ℤ_irrefl) int_chain a b one.ascending two.ascending (both_just P a b one.each two.each)

-- it holds of just these numbers, which ascend
record AreNumbers (P : ℕ → Type 0) (ns : List ℕ) : Type 0 where
  ascending : AllPairs (λ a b. a < b) ns
  each_one : (n : ℕ) → Contains ns n ↔ P n

same_numbers : (P : ℕ → Type 0) (a b : List ℕ) → AreNumbers P a → AreNumbers P b → a ≡ b
same_numbers P a b one two = same_lists (λ x y. x < y) (λ x less. omega (arith, less)) (λ x y z first second. omega (arith, first, second)) a b one.ascending two.ascending (both_just P a b one.each_one two.each_one)

have_rows_one : (rows : List Row) (ids : List ℤ) (a b : List ℕ) → HaveRows rows ids a → HaveRows rows ids b → a ≡ b
have_rows_one rows ids a b one two = same_numbers (λ n. Contains ids (pos n) × HasRow rows n) a b (record { ascending = one.ascending; each_one = one.each }) (record { ascending = two.ascending; each_one = two.each })

listeners_one : (past : Past) (ids : List ℤ) (a b : List ℕ) → AreListenersOf past ids a → AreListenersOf past ids b → a ≡ b
listeners_one past ids a b one two = same_numbers (λ l. (t : ℤ) × Contains ids t × (listened l past ≡ Some t)) a b (record { ascending = one.ascending; each_one = one.each }) (record { ascending = two.ascending; each_one = two.each })

-- the keys that go are one list, and so are the rows that are made blank
dropped_one : (limbo : Limbo) (ids : List ℤ) (a b : List Key) → AreDropped limbo ids a → AreDropped limbo ids b → a ≡ b
dropped_one limbo ids a b one two = same_keys a b one.ascending two.ascending (both_just (λ key. (t : ℤ) × Contains ids t × (key_in limbo.running t ≡ Some key)) a b one.each two.each)

blanked_one : (s : State) (past : Past) (gone : List ℤ) (keys : List Key) (a b : List ℕ) → AreBlankedFor s past gone keys a → AreBlankedFor s past gone keys b → a ≡ b
blanked_one s past gone keys a b one two =
    same_numbers (λ n. HasRow s.rows n × (Contains gone (pos n) ⊎ ((key : Key) × Contains keys key × Holds s past (pos n) key))) a b
    (record { ascending = one.ascending; each_one = one.each }) (record { ascending = two.ascending; each_one = two.each })

-- ---- a message has one effect

point_one : (change : TargetChange) (e f : Effect) → GivesPoint change e → GivesPoint change f → e ≡ f
point_one change effect.Nothing effect.Nothing one two = refl
point_one change effect.Nothing (effect.Point at) one two = absurd (one at two)
point_one change effect.Nothing (effect.Mismatch id told count) one two = absurd two
point_one change effect.Nothing (effect.Ended ids status) one two = absurd two
point_one change (effect.Point at) effect.Nothing one two = absurd (two at one)
point_one change (effect.Point at) (effect.Point other) one two = ap effect.Point (same_Some at other (sym one.time ∙ two.time))
point_one change (effect.Point at) (effect.Mismatch id told count) one two = absurd two
point_one change (effect.Point at) (effect.Ended ids status) one two = absurd two
point_one change (effect.Mismatch id told count) f one two = absurd one
point_one change (effect.Ended ids status) f one two = absurd one

end_one : (h : Calls) (change : TargetChange) (e f : Effect) → GivesEnd h change e → GivesEnd h change f → e ≡ f
end_one h change effect.Nothing effect.Nothing one two = refl
end_one h change effect.Nothing (effect.Ended ids status) one two = let some = two.3 in absurd (one.1 some.0 ((two.2 some.0).0 some.1))
end_one h change effect.Nothing (effect.Point at) one two = absurd two
end_one h change effect.Nothing (effect.Mismatch id told count) one two = absurd two
end_one h change (effect.Ended ids status) effect.Nothing one two = let some = one.3 in absurd (two.1 some.0 ((one.2 some.0).0 some.1))
end_one h change (effect.Ended ids status) (effect.Ended others cause) one two =
    let same = same_ids (IsEnded h change.target_ids) ids others (record { ascending = one.1; each = one.2 }) (record { ascending = two.1; each = two.2 }) in
    let why : status ≡ cause = same_Some status cause (sym one.0 ∙ two.0) in
    λ i. effect.Ended (same i) (why i)
end_one h change (effect.Ended ids status) (effect.Point at) one two = absurd two
end_one h change (effect.Ended ids status) (effect.Mismatch id told count) one two = absurd two
end_one h change (effect.Point at) f one two = absurd one
end_one h change (effect.Mismatch id told count) f one two = absurd one

gives_one : (h : Calls) (response : ListenResponse) (e f : Effect) → Gives h response e → Gives h response f → e ≡ f
gives_one h (message.Target change) e f one two =
    ⊎_elim (λ end. ⊎_elim (λ other. end_one h change e f end.1 other.1) (λ other. absurd (true≢false (sym end.0 ∙ other.0))) two)
    (λ point_of. ⊎_elim (λ other. absurd (true≢false (sym other.0 ∙ point_of.0))) (λ other. point_one change e f point_of.1 other.1) two) one
gives_one h (message.Change change) e f one two = one ∙ sym two
gives_one h (message.Delete delete) e f one two = one ∙ sym two
gives_one h (message.Remove removes) e f one two = one ∙ sym two
gives_one h (message.Filter filter) e f one two = one ∙ sym two

-- ---- a message that has an effect isn't refused

-- no id is ended by a REMOVE without ids
none_ended : (h : Calls) (ids : List ℤ) (t : ℤ) → ids ≡ [] → IsEnded h ids t → ⊥
none_ended h ids t none is = let of_none = subst (λ l. IsEnded h l t) none is in true≢false (sym of_none.listed)

-- a REMOVE that is refused ends nothing
end_fails : (h : Calls) (change : TargetChange) (why : WatchMember) (e : Effect) → Refuses h (message.Target change) (fault.BadMessage why) → GivesEnd h change e → ⊥
end_fails h change member.TargetIds effect.Nothing refuses gives = gives.0 refuses.1
end_fails h change member.TargetIds (effect.Ended ids status) refuses gives = let some = gives.3 in none_ended h change.target_ids some.0 refuses.1 ((gives.2 some.0).0 some.1)
end_fails h change member.TargetIds (effect.Point at) refuses gives = gives
end_fails h change member.TargetIds (effect.Mismatch id told count) refuses gives = gives
end_fails h change member.Cause effect.Nothing refuses gives = let some = refuses.2 in gives.1 some.0 some.1
end_fails h change member.Cause (effect.Ended ids status) refuses gives = none-some status (sym refuses.1 ∙ gives.0)
end_fails h change member.Cause (effect.Point at) refuses gives = gives
end_fails h change member.Cause (effect.Mismatch id told count) refuses gives = gives

removes_if_refused : (h : Calls) (change : TargetChange) (why : WatchMember) → Refuses h (message.Target change) (fault.BadMessage why) → is_remove change.kind ≡ true
removes_if_refused h change member.TargetIds refuses = refuses.0
removes_if_refused h change member.Cause refuses = refuses.0

not_both : (why : WatchMember) → fault.BadMessage why ≡ fault.NoMemory → ⊥
not_both why same = cc

gives_or_refuses : (h : Calls) (response : ListenResponse) (e : Effect) (why : WatchMember) → Gives h response e → Refuses h response (fault.BadMessage why) → ⊥
gives_or_refuses h (message.Target change) e why gives refuses =
    ⊎_elim (λ end. end_fails h change why e refuses end.1) (λ other. true≢false (sym (removes_if_refused h change why refuses) ∙ other.0)) gives
gives_or_refuses h (message.Change change) e why gives refuses = not_both why refuses
gives_or_refuses h (message.Delete delete) e why gives refuses = not_both why refuses
gives_or_refuses h (message.Remove removes) e why gives refuses = not_both why refuses
gives_or_refuses h (message.Filter filter) e why gives refuses = not_both why refuses

-- it is refused for one member
refuses_one : (h : Calls) (response : ListenResponse) (a b : WatchMember) → Refuses h response (fault.BadMessage a) → Refuses h response (fault.BadMessage b) → a ≡ b
refuses_one h (message.Target change) member.TargetIds member.TargetIds one two = refl
refuses_one h (message.Target change) member.TargetIds member.Cause one two = let some = two.2 in absurd (none_ended h change.target_ids some.0 one.1 some.1)
refuses_one h (message.Target change) member.Cause member.TargetIds one two = let some = one.2 in absurd (none_ended h change.target_ids some.0 two.1 some.1)
refuses_one h (message.Target change) member.Cause member.Cause one two = refl
refuses_one h (message.Change change) a b one two = absurd (not_both a one)
refuses_one h (message.Delete delete) a b one two = absurd (not_both a one)
refuses_one h (message.Remove removes) a b one two = absurd (not_both a one)
refuses_one h (message.Filter filter) a b one two = absurd (not_both a one)

-- ---- what an effect comes to

blanks_one : (s : State) (ids : List ℕ) (lines : List Line) (t u : Turn) → Blanks s ids lines t → Blanks s ids lines u → t ≡ u
blanks_one s ids lines t u (held any is) (held other is_too) = is ∙ sym is_too
blanks_one s ids lines t u (held any is) (none_held none is_too) = absurd (none any)
blanks_one s ids lines t u (none_held none is) (held any is_too) = absurd (none any)
blanks_one s ids lines t u (none_held none is) (none_held other is_too) = is ∙ sym is_too

-- a point is committed
record Committed (s : State) (past : Past) (response : ListenResponse) (at : Timestamp) (t : Turn) : Type 0 where
  below : IsNotBelow s.last_read at
  entries : List KeyedEntry
  rows : List PointRow
  makes : IsPointCommit s (came response ∷ calls_of past) at entries rows
  is : t ≡ commits_if_left s (commit.Point at entries rows) []

-- no number is left for the commit of a point
record Unnumbered (s : State) (at : Timestamp) (t : Turn) : Type 0 where
  below : IsNotBelow s.last_read at
  many : most_commits ≤ s.number
  is : t ≡ refused IdsSpent

-- targets ended
record EndsAll (s : State) (past : Past) (ids : List ℤ) (status : RpcStatus) (t : Turn) : Type 0 where
  none : AreDropped (limbo_of past) ids []
  those : List ℕ
  listeners : List ℕ
  have : HaveRows s.rows ids those
  are : AreListenersOf past ids listeners
  blanks : Blanks s those (each (λ l. error l status) listeners) t

-- targets ended, and documents in limbo go
record DropsAll (s : State) (past : Past) (ids : List ℤ) (status : RpcStatus) (t : Turn) : Type 0 where
  keys : List Key
  those : List ℕ
  listeners : List ℕ
  drops : AreDropped (limbo_of past) ids keys
  some : keys ≢ []
  blanked : AreBlankedFor s past ids keys those
  are : AreListenersOf past ids listeners
  is : t ≡ commits_if_left s (commit.Drop keys those) (each (λ l. error l status) listeners)

abbrev Comes : State → Past → ListenResponse → Effect → Turn → Type 0
Comes s past response effect.Nothing t = t ≡ answered []
Comes s past response (effect.Point at) t = (IsOld s.last_read at × (t ≡ answered [])) ⊎ (Committed s past response at t ⊎ Unnumbered s at t)
Comes s past response (effect.Mismatch id told count) t = (ids : List ℕ) × HaveRows s.rows (id ∷ []) ids × Blanks s ids [] t
Comes s past response (effect.Ended ids status) t = EndsAll s past ids status t ⊎ DropsAll s past ids status t

-- a message has an effect, or it is refused
abbrev Ways : State → Past → ListenResponse → Turn → Type 0
Ways s past response t =
    ((e : Effect) × Gives (calls_of past) response e × Comes s past response e t)
    ⊎ ((why : WatchMember) × Refuses (calls_of past) response (fault.BadMessage why) × (t ≡ refused (BadMessage stream.Watch (watch_member_name why))))

way_of : (s : State) (past : Past) (response : ListenResponse) (t : Turn) → IsHeard s past response t → Ways s past response t
way_of s past response t (nothing gives is) = inl (effect.Nothing, gives, is)
way_of s past response t (old_point at gives old is) = inl (effect.Point at, gives, inl (old, is))
way_of s past response t (point at entries rows gives below makes is) = inl (effect.Point at, gives, inr (inl (record { below = below; entries = entries; rows = rows; makes = makes; is = is })))
way_of s past response t (point_spent at gives below many is) = inl (effect.Point at, gives, inr (inr (record { below = below; many = many; is = is })))
way_of s past response t (mismatch id told count ids gives have blanks) = inl (effect.Mismatch id told count, gives, (ids, have, blanks))
way_of s past response t (ended ids status those listeners gives none have are blanks) = inl (effect.Ended ids status, gives, inl (record { none = none; those = those; listeners = listeners; have = have; are = are; blanks = blanks }))
way_of s past response t (dropped ids status keys those listeners gives drops some blanked are is) = inl (effect.Ended ids status, gives, inr (record { keys = keys; those = those; listeners = listeners; drops = drops; some = some; blanked = blanked; are = are; is = is }))
way_of s past response t (fails why refuses is) = inr (why, refuses, is)

old_or_not : (last : Option Timestamp) (at : Timestamp) → IsOld last at → IsNotBelow last at → ⊥
old_or_not None at old below = old
old_or_not (Some last) at old below = below old

committed_one : (s : State) (past : Past) (response : ListenResponse) (at : Timestamp) (t u : Turn) → Committed s past response at t → Committed s past response at u → t ≡ u
committed_one s past response at t u one two =
    let same = once s (came response ∷ calls_of past) at one.entries two.entries one.rows two.rows one.makes two.makes in
    one.is ∙ (λ i. commits_if_left s (commit.Point at (same.0 i) (same.1 i)) []) ∙ sym two.is

not_below : (s : State) (past : Past) (response : ListenResponse) (at : Timestamp) (t : Turn) → Committed s past response at t ⊎ Unnumbered s at t → IsNotBelow s.last_read at
not_below s past response at t (inl it) = it.below
not_below s past response at t (inr it) = it.below

unnumbered_one : (s : State) (past : Past) (response : ListenResponse) (at : Timestamp) (t u : Turn) → Committed s past response at t → Unnumbered s at u → t ≡ u
unnumbered_one s past response at t u one two = one.is ∙ ap (λ b. if b then commits (commit.Point at one.entries one.rows) [] else refused IdsSpent) (le-ltb s.number most_commits two.many) ∙ sym two.is

comes_one : (s : State) (past : Past) (response : ListenResponse) (e : Effect) (t u : Turn) → Comes s past response e t → Comes s past response e u → t ≡ u
comes_one s past response effect.Nothing t u one two = one ∙ sym two
comes_one s past response (effect.Point at) t u (inl one) (inl two) = one.1 ∙ sym two.1
comes_one s past response (effect.Point at) t u (inl one) (inr two) = absurd (old_or_not s.last_read at one.0 (not_below s past response at u two))
comes_one s past response (effect.Point at) t u (inr one) (inl two) = absurd (old_or_not s.last_read at two.0 (not_below s past response at t one))
comes_one s past response (effect.Point at) t u (inr (inl one)) (inr (inl two)) = committed_one s past response at t u one two
comes_one s past response (effect.Point at) t u (inr (inl one)) (inr (inr two)) = unnumbered_one s past response at t u one two
comes_one s past response (effect.Point at) t u (inr (inr one)) (inr (inl two)) = sym (unnumbered_one s past response at u t two one)
comes_one s past response (effect.Point at) t u (inr (inr one)) (inr (inr two)) = one.is ∙ sym two.is
comes_one s past response (effect.Mismatch id told count) t u one two =
    blanks_one s two.0 [] t u (subst (λ ids. Blanks s ids [] t) (have_rows_one s.rows (id ∷ []) one.0 two.0 one.1 two.1) one.2) two.2
comes_one s past response (effect.Ended ids status) t u (inl one) (inr two) = absurd (two.some (sym (dropped_one (limbo_of past) ids [] two.keys one.none two.drops)))
comes_one s past response (effect.Ended ids status) t u (inr one) (inl two) = absurd (one.some (sym (dropped_one (limbo_of past) ids [] one.keys two.none one.drops)))
comes_one s past response (effect.Ended ids status) t u (inr one) (inr two) =
    let keys = dropped_one (limbo_of past) ids one.keys two.keys one.drops two.drops in
    let those = blanked_one s past ids two.keys one.those two.those (subst (λ ks. AreBlankedFor s past ids ks one.those) keys one.blanked) two.blanked in
    let listeners = listeners_one past ids one.listeners two.listeners one.are two.are in
    one.is ∙ (λ i. commits_if_left s (commit.Drop (keys i) (those i)) (each (λ l. error l status) (listeners i))) ∙ sym two.is
comes_one s past response (effect.Ended ids status) t u (inl one) (inl two) =
    let those = have_rows_one s.rows ids one.those two.those one.have two.have in
    let listeners = listeners_one past ids one.listeners two.listeners one.are two.are in
    blanks_one s two.those (each (λ l. error l status) two.listeners) t u
    (subst (λ ls. Blanks s two.those (each (λ l. error l status) ls) t) listeners (subst (λ ns. Blanks s ns (each (λ l. error l status) one.listeners) t) those one.blanks)) two.blanks

ways_one : (s : State) (past : Past) (response : ListenResponse) (t u : Turn) → Ways s past response t → Ways s past response u → t ≡ u
ways_one s past response t u (inl one) (inl two) =
    comes_one s past response two.0 t u (subst (λ e. Comes s past response e t) (gives_one (calls_of past) response one.0 two.0 one.1 two.1) one.2) two.2
ways_one s past response t u (inl one) (inr two) = absurd (gives_or_refuses (calls_of past) response one.0 two.0 one.1 two.1)
ways_one s past response t u (inr one) (inl two) = absurd (gives_or_refuses (calls_of past) response two.0 one.0 two.1 one.1)
ways_one s past response t u (inr one) (inr two) =
    one.2 ∙ ap (λ (why : WatchMember). refused (BadMessage stream.Watch (watch_member_name why))) (refuses_one (calls_of past) response one.0 two.0 one.1 two.1) ∙ sym two.2

pub heard_one : (s : State) (past : Past) (response : ListenResponse) (opening : Bool) (t u : Turn) → HeardTurn s past response opening t → HeardTurn s past response opening u → t ≡ u
heard_one s past response true t u first second = ways_one s past response t u (way_of s past response t first) (way_of s past response u second)
heard_one s past response false t u first second = first ∙ sym second

-- ---- the requests

adds_one : (s : State) (ids : List ℤ) (lines others : List Line) → AllZip (IsAddLine s) ids lines → AllZip (IsAddLine s) ids others → lines ≡ others
adds_one s [] [] [] one two = refl
adds_one s [] [] (line ∷ others) one two = absurd two
adds_one s [] (line ∷ lines) others one two = absurd one
adds_one s (t ∷ ids) [] others one two = absurd one
adds_one s (t ∷ ids) (line ∷ lines) [] one two = absurd two
adds_one s (t ∷ ids) (line ∷ lines) (other ∷ others) one two =
    let row = row_one s.rows t one.0.row two.0.row one.0.of_id two.0.of_id in
    let first : line ≡ other = one.0.is ∙ ap (add t) row ∙ sym two.0.is in
    let rest = adds_one s ids lines others one.1 two.1 in
    λ i. first i ∷ rest i

listens_one : (limbo : Limbo) (ids : List ℤ) (lines others : List Line) → AllZip (IsListenLine limbo) ids lines → AllZip (IsListenLine limbo) ids others → lines ≡ others
listens_one limbo [] [] [] one two = refl
listens_one limbo [] [] (line ∷ others) one two = absurd two
listens_one limbo [] (line ∷ lines) others one two = absurd one
listens_one limbo (t ∷ ids) [] others one two = absurd one
listens_one limbo (t ∷ ids) (line ∷ lines) [] one two = absurd two
listens_one limbo (t ∷ ids) (line ∷ lines) (other ∷ others) one two =
    let key = same_Some one.0.key two.0.key (sym one.0.of_id ∙ two.0.of_id) in
    let first : line ≡ other = one.0.is ∙ ap (λ k. add t (blank (a_document k))) key ∙ sym two.0.is in
    let rest = listens_one limbo ids lines others one.1 two.1 in
    λ i. first i ∷ rest i

asked_one : (s : State) (next : Past) (reset : ℤ → Bool) (lines others : List Line) → Asks s next reset lines → Asks s next reset others → lines ≡ others
asked_one s next reset lines others one two =
    let removed = same_ids (IsRemoved next reset) one.removed two.removed one.are_removed two.are_removed in
    let added = same_ids (IsAdded next two.removed) one.added two.added (subst (λ ids. AreJust (IsAdded next ids) one.added) removed one.are_added) two.are_added in
    let listens = same_ids (IsListenAdded next two.removed) one.listens two.listens (subst (λ ids. AreJust (IsListenAdded next ids) one.listens) removed one.are_listens) two.are_listens in
    let adds = adds_one s two.added one.adds two.adds (subst (λ ids. AllZip (IsAddLine s) ids one.adds) added one.rows) two.rows in
    let listen_adds = listens_one (limbo_of next) two.listens one.listen_adds two.listen_adds (subst (λ ids. AllZip (IsListenLine (limbo_of next)) ids one.listen_adds) listens one.keys) two.keys in
    one.is ∙ (λ i. each remove (removed i) ++ adds i ++ listen_adds i) ∙ sym two.is

pub asks_one : (goes : Bool) (s : State) (next : Past) (reset : ℤ → Bool) (lines others : List Line) → AsksIf goes s next reset lines → AsksIf goes s next reset others → lines ≡ others
asks_one true s next reset lines others first second = asked_one s next reset lines others first second
asks_one false s next reset lines others first second = first ∙ sym second
