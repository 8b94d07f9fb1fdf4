-- what a run keeps is sound, and its synced snapshots agree
use Rattle.std.proofs.Common.{◌≡◌, ℕ, List, [], ◌∷◌, ◌++◌, length, drop, Option, Some, None, refl, sym, ap, subst, ◌∙◌}
use Rattle.std.specs.Prelude.{option_and_then}
use Rattle.std.specs.Option.{ForSome, option_map_or}
use Rattle.agreement.proofs.Chains.{moment_sound, more_sound, starts_live}
use Rattle.agreement.proofs.Histories.{history_documents}
use Rattle.agreement.proofs.Runs.{run_kept}
use Rattle.agreement.proofs.Turns.{Both}
use Rattle.agreement.specs.Allowed.{AreAllowed}
use Rattle.agreement.specs.Backend.{DocumentsStand, Id, Key, Setting, Tuple, tick_of}
use Rattle.agreement.specs.Client.{Client, run}
use Rattle.agreement.specs.Client as agreed
use Rattle.agreement.specs.Follows.{AreUnique, Follows}
use Rattle.agreement.specs.History.{Write}
use Rattle.agreement.specs.NextRun.{next_run, started}
use Rattle.agreement.specs.Sound.{AreCovered, IsSound, Sound}
use Rattle.agreement.specs.Transcript.{Event}
use Rattle.document_keys.specs.Names.{Root}
use Rattle.durable_state.specs.State.{State}
use Rattle.queries.specs.declared.target.Target.TheVariants.{Document}
use Rattle.std.proofs.lemmas.Option.{none-some}
use Rattle.std.proofs.Math.Seq.{drop-append_seam}
use Rattle.client_turns.specs.Order.{AreHeard, now}
use Rattle.client_turns.specs.Past.{Entry, Past}
use Rattle.target_cache.specs.declared.row.Row.{Row}
use Rattle.client_agreement.proofs.Moments.{moments_heard}
use Rattle.client_agreement.proofs.Reaching.{HasRowsOf, Reaches, allowed_append, run_append}
use Rattle.client_agreement.proofs.Rows.{row_is}
use Rattle.client_agreement.proofs.Synced.{raised_listens, raised_synced, snapshot_agrees}
use Rattle.client_agreement.proofs.Turns.{event_goes, goes_then}
use Rattle.client_agreement.specs.Durable.{client_of, entry_at, is_listener, query_at, row_of, setting_of, tuple_in}
use Rattle.client_agreement.specs.Honest.{AreAcknowledgedTruly}
use Rattle.client_agreement.specs.Laws.{Goes, IsHonestRun, SnapshotsAgree, SoundnessIsKept, StatesStaySound}
use Rattle.client_agreement.specs.Standing.{AreSpelled, IsWellMade, StandsAs}
use Rattle.client_agreement.specs.Transcript.{transcript}

-- ---- a client that starts

pub starts : (s : State) → StandsAs (client_of s) s []
starts s = record {
  entry = λ key. refl;
  read = refl;
  row = λ id. refl;
  target = λ id row there. ap (λ (o : Option Row). option_map_or (λ (r : Row). r.target) o (Document [])) ((row_is s.rows id row).0 there);
  current = λ id. refl;
  buffer = λ key. refl;
  past = refl;
}

-- ---- from one moment to a later one

goes_next : {s : Setting} {c : Client} {state later : State} {past next : Past} → Goes s c state past → ((d : Client) → StandsAs d state past → Goes s d later next) → Goes s c later next
goes_next {s} {c} {state} {later} {past} {next} goes more =
    goes_then (record { turns = goes.turns; allowed = goes.allowed; is = refl }) (more (run s goes.turns c) goes.stands)

-- what is given of what was heard
pub record IsGiven (s : Setting) (root : Root) (first : State) (past : Past) : Type 0 where
  pub listens : s.listens ≡ is_listener
  pub well : IsWellMade first
  pub spelled : AreSpelled past
  pub heard : AreHeard root first past
  pub truly : AreAcknowledgedTruly s past

given_before : {s : Setting} {root : Root} {first : State} (e : Entry) {past : Past} → IsGiven s root first (e ∷ past) → IsGiven s root first past
given_before e it = record { listens = it.listens; well = it.well; spelled = it.spelled.1; heard = it.heard.0; truly = it.truly.1 }

pub goes_over : (s : Setting) (root : Root) (first : State) (later past : Past) (c : Client) → IsGiven s root first (later ++ past) → StandsAs c (now first past) past → Goes s c (now first (later ++ past)) (later ++ past)
goes_over s root first [] past c it stands = record { turns = []; allowed = tt; stands = stands }
goes_over s root first (e ∷ later) past c it stands =
    goes_next (goes_over s root first later past c (given_before e it) stands)
    (λ d here. event_goes s root first e (later ++ past) d it.listens it.well it.spelled it.heard it.truly.0 here)

pub goes_all : (s : Setting) (root : Root) (first : State) (past : Past) → IsGiven s root first past → Goes s (client_of first) (now first past) past
goes_all s root first [] it = record { turns = []; allowed = tt; stands = starts first }
goes_all s root first (e ∷ past) it =
    goes_next (goes_all s root first past (given_before e it))
    (λ d here. event_goes s root first e past d it.listens it.well it.spelled it.heard it.truly.0 here)

-- ---- sound states

-- a client with these entries, this read time and these rows is sound where the state is
pub sound_moves : (s : Setting) (c : Client) (state : State) → ((key : Key) → c.entry key ≡ entry_at state key) → c.read ≡ tick_of state.last_read → HasRowsOf c state.rows → Sound s (started c) → Sound s (client_of state)
sound_moves s c state entry read rows sound = record {
  entries = λ key.
      subst (λ (n : ℕ). ForSome (entry_at state key) (IsSound s n key)) read
      (subst (λ o. ForSome o (IsSound s c.read key)) (entry key) (sound.entries key));
  rows = λ id row is.
      let r = sound.rows id row (rows.row id ∙ is) in
      (r.0 ∙ same_target id row (row_of state.rows id) refl is, r.1, r.2, subst (λ f. AreCovered s f row.query row.version) (λ i key. entry key i) r.3);
}
  where
    same_target : (id : Id) (row : Tuple) (o : Option Row) → row_of state.rows id ≡ o → option_and_then tuple_in o ≡ Some row → c.target id ≡ query_at state.rows id
    same_target id row None is there = absurd (none-some _ there)
    same_target id row (Some found) is there = rows.target id found ((row_is state.rows id found).1 is) ∙ sym (ap (λ (o : Option Row). option_map_or (λ (r : Row). r.target) o (Document [])) is)

rows_of : {c : Client} {state : State} {past : Past} → StandsAs c state past → HasRowsOf c state.rows
rows_of stands = record { row = stands.row; target = stands.target }

-- ---- runs

given_of : (writes : List Write) (known : List Tuple) (root : Root) (first : State) (version : List Event → ℕ) (past : Past) → IsHonestRun (setting_of writes root known) root first version past → IsGiven (setting_of writes root known) root first past
given_of writes known root first version past it = record { listens = refl; well = it.well_made; spelled = it.spelled; heard = it.heard; truly = it.honest.acknowledged }

module _ (writes : List Write) (known : List Tuple) (root : Root) (first : State) (version : List Event → ℕ) where
  abbrev s : Setting
  s = setting_of writes root known

  stand : DocumentsStand s
  stand = history_documents writes s (λ v. refl)

  starts_both : Sound s (client_of first) → Both s version (client_of first)
  starts_both sound = record { sound = sound; live = starts_live s version (client_of first) }

  -- a client that is reached, where what it heard is honest, is sound and live
  pub reached_both : (d : Client) → Reaches s (client_of first) d → Sound s (client_of first) → Follows s version d.past → AreUnique s d.past → Both s version d
  reached_both d reach sound follows unique =
      subst (Both s version) reach.is
      (run_kept s stand version (client_of first) reach.turns reach.allowed
      (subst (λ (x : Client). Follows s version x.past) (sym reach.is) follows) (subst (λ (x : Client). AreUnique s x.past) (sym reach.is) unique) (starts_both sound))

  module _ (past : Past) (it : IsHonestRun s root first version past) where
    pub goes : Goes s (client_of first) (now first past) past
    goes = goes_all s root first past (given_of writes known root first version past it)

    abbrev pub there : Client
    there = run s goes.turns (client_of first)

    pub stands_there : StandsAs there (now first past) past
    stands_there = goes.stands

    pub reach_there : Reaches s (client_of first) there
    reach_there = record { turns = goes.turns; allowed = goes.allowed; is = refl }

    pub both_there : Both s version there
    both_there = reached_both there reach_there it.sound (subst (Follows s version) (sym goes.stands.past) it.honest.follows) (subst (AreUnique s) (sym goes.stands.past) it.honest.unique)

pub snapshots_agree : SnapshotsAgree
snapshots_agree writes known root first version e past it number read_time told there flag =
    let both = both_there writes known root first version (e ∷ past) it in
    let stands = stands_there writes known root first version (e ∷ past) it in
    let listens = raised_listens root first e past it.heard number read_time told there in
    let raised = raised_synced root first e past it.heard it.spelled (moments_heard root first (e ∷ past) it.well_made.moments it.spelled it.heard) (setting_of writes root known) refl _ stands number read_time told listens.0 there flag listens.1 in
    record {
      view = listens.0;
      listens = listens.1;
      read = raised.read;
      agrees = snapshot_agrees (setting_of writes root known) version (now first (e ∷ past)) (e ∷ past) _ listens.0.target read_time told.raised (stand writes known root first version) both.sound both.live stands raised;
    }

given_over : {s : Setting} {root : Root} {first : State} (later : Past) {past : Past} → IsGiven s root first (later ++ past) → IsGiven s root first past
given_over [] it = it
given_over (e ∷ later) it = given_over later (given_before e it)

-- at the end of the first turns of a run a client was sound, with the tuples of all of it
sound_between : (s : Setting) → DocumentsStand s → (version : List Event → ℕ) (c : Client) (first_turns then_turns : List agreed.Turn) → AreAllowed s (then_turns ++ first_turns) c
    → Follows s version (run s (then_turns ++ first_turns) c).past → AreUnique s (run s (then_turns ++ first_turns) c).past → Both s version c
    → Sound (next_run s (run s (then_turns ++ first_turns) c).past) (started (run s first_turns c))
sound_between s stands version c first_turns then_turns allowed follows unique both =
    let it = moment_sound s stands version c (length then_turns) (then_turns ++ first_turns) allowed follows unique both in
    let same : run s (drop (length then_turns) (then_turns ++ first_turns)) c ≡ run s first_turns c = ap (λ ts. run s ts c) (drop-append_seam then_turns first_turns) in
    subst (λ (x : Client). Sound (next_run s (run s (then_turns ++ first_turns) c).past) (started x)) same (more_sound s _ (run s (then_turns ++ first_turns) c).past it.1 it.0.sound)

pub states_stay_sound : StatesStaySound
states_stay_sound writes known root first version later past it = sound_moves (next_run s (transcript (later ++ past))) c (now first past) one.stands.entry one.stands.read (rows_of one.stands) sound
  where
    s : Setting
    s = setting_of writes root known

    given : IsGiven s root first (later ++ past)
    given = given_of writes known root first version (later ++ past) it

    one : Goes s (client_of first) (now first past) past
    one = goes_all s root first past (given_over later given)

    c : Client
    c = run s one.turns (client_of first)

    two : Goes s c (now first (later ++ past)) (later ++ past)
    two = goes_over s root first later past c given one.stands

    heard_all : (run s (two.turns ++ one.turns) (client_of first)).past ≡ transcript (later ++ past)
    heard_all = ap (λ (x : Client). x.past) (run_append s two.turns one.turns (client_of first)) ∙ two.stands.past

    sound : Sound (next_run s (transcript (later ++ past))) (started c)
    sound = subst (λ x. Sound (next_run s x) (started c)) heard_all
        (sound_between s (stand writes known root first version) version (client_of first) one.turns two.turns (allowed_append s two.turns one.turns (client_of first) two.allowed one.allowed)
        (subst (Follows s version) (sym heard_all) it.honest.follows) (subst (AreUnique s) (sym heard_all) it.honest.unique) (starts_both writes known root first version it.sound))

-- ---- event by event

pub soundness_kept : SoundnessIsKept
soundness_kept writes known root first version e past it was =
    let s = setting_of writes root known in
    let goes = event_goes s root first e past was.client refl it.well_made it.spelled it.heard it.honest.acknowledged.0 was.stands in
    let both = run_kept s (stand writes known root first version) version was.client goes.turns goes.allowed
    (subst (Follows s version) (sym goes.stands.past) it.honest.follows) (subst (AreUnique s) (sym goes.stands.past) it.honest.unique)
    (record { sound = was.sound; live = was.live }) in
    record { client = run s goes.turns was.client; stands = goes.stands; sound = both.sound; live = both.live }
