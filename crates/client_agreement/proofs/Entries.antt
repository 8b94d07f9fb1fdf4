-- What each commit makes of the entries of documents, as the theorem of agreement has them.
use Rattle.std.proofs.Common.{◌≡◌, ◌∙◌, ◌⊎◌, inl, inr, ℕ, ◌<◌, ◌≤◌, ℤ, Bool, true, false, ◌||◌, ◌&&◌, cond, List, [], ◌∷◌, fold, Option, Some, None, refl, sym, ap, subst, arith}
use Rattle.std.specs.Prelude.{nat_lt, ◌==◌, unwrap_or}
use Rattle.std.specs.FinMap as finite
use Rattle.std.specs.List.{Contains, cons_option, filter_map, find, zip}
use Rattle.std.specs.Option.{ForSome, IfSome, option_and_then, option_map}
use Rattle.std.proofs.lemmas.Bool.{and_from, and_left, and_right, cases_lt, cond-false, cond-true, eq-eqb, le-ltb, lt-ltb, ne_eqb, or_from, or_left, or_right}
use Rattle.std.proofs.lemmas.List.Elements.{All-contains}
use Rattle.std.proofs.lemmas.Option.{same_Some}
use Rattle.acknowledgements.specs.Acked.{IsGreatest, IsVersion, acked, answered, greatest, is_below, is_earlier, latest, left_after, left_by, versions}
use Rattle.mutations.specs.Written.{written_key}
use Rattle.acknowledgements.proofs.Acks.{greatest_laws}
use Rattle.acknowledgements.proofs.Times.{contains_cases, contains_here, contains_none, contains_there, earlier_so, not_earlier}
use Rattle.agreement.specs.Backend.{Key, Keys, Setting, tick}
use Rattle.agreement.specs.Client.{cleared}
use Rattle.agreement.specs.Entries as agreed
use Rattle.agreement.specs.MessageTurns.{has}
use Rattle.agreement.specs.Sound.{IsSound}
use Rattle.document_keys.specs.KeySet.{is_key}
use Rattle.document_keys.specs.Order.{PathBefore}
use Rattle.document_keys.proofs.Exact.{key_is, key_same}
use Rattle.document_keys.proofs.Lawful.{ordered}
use Rattle.durable_state.specs.Cached.{Changed, acknowledged_keys, answered_by, cached, dropped, first_writes, seen_at, with_all, with_changed}
use Rattle.durable_state.specs.Documents.{sealed_entry_of}
use Rattle.durable_state.specs.Rising.{Replaces}
use Rattle.durable_state.specs.State.{State, committed}
use Rattle.durable_state.proofs.Changed.{get_changed}
use Rattle.listen_protocol.specs.Buffer.{buffered}
use Rattle.listen_protocol.specs.Calls.{Calls}
use Rattle.mutations.specs.Acknowledged.{acknowledged, document_in}
use Rattle.mutations.specs.Local.{holds}
use Rattle.mutations.specs.declared.results.WriteResult.{WriteResult}
use Rattle.mutations.specs.declared.write.Write.{Write}
use Rattle.mutations.specs.declared.write.Write.TheVariants.{Update, Delete}
use Rattle.mutation_queue.specs.Queue.{keys_of}
use Rattle.outcome_codec.specs.Spelling.{IsSpelledResult}
use Rattle.outcome_codec.specs.declared.parts.KeyedEntry.{KeyedEntry}
use Rattle.outcome_codec.specs.declared.parts.PointRow.{PointRow}
use Rattle.record_codec.specs.declared.commit.Commit.TheVariants.{Acknowledge, Point, Drop}
use Rattle.record_parts.specs.Spelling.{AreSpelled}
use Rattle.remote_documents.specs.Table.{EntryMap}
use Rattle.remote_documents.proofs.Maps.{turned}
use Rattle.value_model.specs.Time.{IsMoment}
use Rattle.value_model.specs.Versions.{version_of}
use Rattle.value_model.specs.declared.document.Entry.{Entry}
use Rattle.value_model.specs.declared.document.Entry.TheVariants.{Missing}
use Rattle.value_model.specs.declared.document.Seal.{Seal}
use Rattle.value_model.specs.declared.document.Seal.TheVariants.{Seen, Committed}
use Rattle.value_model.specs.declared.timestamp.Timestamp.{Timestamp}
use Rattle.watch_points.specs.PointCommit.{IsPointCommit, LacksDocument, Misses, Puts, entry_among, known_now}
use Rattle.watch_points.proofs.Listed.{KeysAscend, has_among}
use Rattle.watch_points.proofs.Lists.{first_below, rest_ascends}
use Rattle.client_agreement.specs.Durable.{entry_at, entry_of}
use Rattle.client_agreement.specs.Honest.{AreTrueResults}
use Rattle.client_agreement.proofs.Times.{earlier_less, not_earlier_le}
use Rattle.client_agreement.specs.Standing.{HasMoments, IsMomentSeal, seen_entry}

-- ---- keys that are dropped

none_either : {A : Type 0} (b c : Bool) (found : Option A) → cond c None (cond b None found) ≡ cond (b || c) None found
none_either true true found = refl
none_either true false found = refl
none_either false c found = refl

dropped_entry : (keys : List Key) (entries : EntryMap) (key : Key) → finite.get (with_all entries (dropped keys)) key ≡ cond (has keys key) None (finite.get entries key)
dropped_entry [] entries key = refl
dropped_entry (k ∷ keys) entries key =
    dropped_entry keys (with_changed entries (k, None)) key
    ∙ ap (cond (has keys key) None) (get_changed entries (k, None) key ∙ ap (λ b. cond b None (finite.get entries key)) (turned key k))
    ∙ none_either (is_key key k) (has keys key) (finite.get entries key)

mapped_none : {A B : Type 0} (f : A → B) (b : Bool) (found : Option A) → option_map f (cond b None found) ≡ cond b None (option_map f found)
mapped_none f true found = refl
mapped_none f false found = refl

pub drop_entry : (s : State) (keys : List Key) (ids : List ℕ) (key : Key) → entry_at (committed s (Drop keys ids)) key ≡ cleared (has keys) (entry_at s) key
drop_entry s keys ids key = ap (option_map entry_of) (dropped_entry keys s.entries key) ∙ mapped_none entry_of (has keys key) (finite.get s.entries key)

-- ---- what replaces what

-- what is known is of a moment
abbrev pub IsOfMoment : Entry × Seal → Type 0
IsOfMoment known = IsMoment (version_of known.0) × IsMomentSeal known.1

abbrev over : Option (Entry × Seal) → Entry → Option agreed.Entry
over known entry = agreed.replaced agreed.goes_over (option_map entry_of known) (seen_entry entry)

goes : (known entry : Entry) (seal : Seal) → agreed.goes_over (seen_entry entry) (entry_of (known, seal)) ≡ true → over (Some (known, seal)) entry ≡ Some (seen_entry entry)
goes known entry seal so = cond-true (agreed.goes_over (seen_entry entry) (entry_of (known, seal))) (Some (seen_entry entry)) (Some (entry_of (known, seal))) so

stays : (known entry : Entry) (seal : Seal) → agreed.goes_over (seen_entry entry) (entry_of (known, seal)) ≡ false → over (Some (known, seal)) entry ≡ Some (entry_of (known, seal))
stays known entry seal so = cond-false (agreed.goes_over (seen_entry entry) (entry_of (known, seal))) (Some (seen_entry entry)) (Some (entry_of (known, seal))) so

-- an entry that the backend told goes over what it replaces
pub replaced_is : (known : Option (Entry × Seal)) (entry : Entry) → ForSome known IsOfMoment → IsMoment (version_of entry) → Replaces known entry → over known entry ≡ Some (seen_entry entry)
replaced_is None entry moments moment replaces = refl
replaced_is (Some (known, Seen)) entry moments moment replaces =
    let moment_known = (moments (known, Seen) refl).0 in
    let old : ℕ = tick (version_of known) in
    let new : ℕ = tick (version_of entry) in
    goes known entry Seen (or_left (nat_lt old new) ((old == new) && false) (lt-ltb old new (earlier_less (version_of known) (version_of entry) moment_known moment replaces)))
replaced_is (Some (known, Committed at)) entry moments moment replaces =
    let moment_known = (moments (known, Committed at) refl).0 in
    let old : ℕ = tick (version_of known) in
    let new : ℕ = tick (version_of entry) in
    let reaches : old ≤ new = not_earlier_le (version_of entry) (version_of known) moment moment_known replaces in
    goes known entry (Committed at) (elim (cases_lt old new) [
      | inl below ↦ or_left (nat_lt old new) ((old == new) && true) (lt-ltb old new below)
      | inr not ↦ or_right (nat_lt old new) ((old == new) && true) (and_from (old == new) true (eq-eqb old new (omega arith)) refl)
    ])

-- and leaves what it doesn't replace
pub unreplaced_is : (known : Option (Entry × Seal)) (entry : Entry) → ForSome known IsOfMoment → IsMoment (version_of entry) → (Replaces known entry → ⊥) → over known entry ≡ option_map entry_of known
unreplaced_is None entry moments moment not = absurd (not tt)
unreplaced_is (Some (known, Seen)) entry moments moment not =
    let moment_known = (moments (known, Seen) refl).0 in
    let old : ℕ = tick (version_of known) in
    let new : ℕ = tick (version_of entry) in
    stays known entry Seen (or_from (nat_lt old new) ((old == new) && false) (le-ltb old new (not_earlier_le (version_of known) (version_of entry) moment_known moment not)) (and_right (old == new) false refl))
unreplaced_is (Some (known, Committed at)) entry moments moment not = by (is_earlier (version_of entry) (version_of known)) refl
  where
    by : (b : Bool) → is_earlier (version_of entry) (version_of known) ≡ b → over (Some (known, Committed at)) entry ≡ Some (entry_of (known, Committed at))
    by false is = absurd (not (not_earlier (version_of entry) (version_of known) is))
    by true is =
        let old : ℕ = tick (version_of known) in
        let new : ℕ = tick (version_of entry) in
        let below : new < old = earlier_less (version_of entry) (version_of known) moment (moments (known, Committed at) refl).0 (earlier_so (version_of entry) (version_of known) is) in
        stays known entry (Committed at) (or_from (nat_lt old new) ((old == new) && true) (le-ltb old new (omega arith)) (and_left (old == new) true (ne_eqb old new (λ same. omega (arith, same, below)))))

-- ---- what a point puts

-- entries by ascending keys: each key gets the one that is its own
seen_now : (es : List KeyedEntry) (entries : EntryMap) (key : Key) → KeysAscend es → finite.get (with_all entries (seen_at es)) key ≡ known_now (finite.get entries key) (entry_among es key)
seen_now [] entries key ascend = refl
seen_now (e ∷ es) entries key ascend =
    seen_now es after key (rest_ascends (λ (a b : KeyedEntry). PathBefore a.key b.key) e es ascend)
    ∙ ap (λ found. known_now found (entry_among es key)) (get_changed entries (e.key, Some (e.entry, Seen)) key ∙ ap (λ b. cond b (Some (e.entry, Seen)) (finite.get entries key)) (turned key e.key))
    ∙ by (is_key key e.key) refl
  where
    after : EntryMap
    after = with_changed entries (e.key, Some (e.entry, Seen))

    none : key ≡ e.key → entry_among es key ≡ None
    none same = found (entry_among es key) refl
      where
        found : (o : Option Entry) → entry_among es key ≡ o → entry_among es key ≡ None
        found None is = is
        found (Some x) is =
            let before : PathBefore e.key key = first_below (λ (a b : KeyedEntry). PathBefore a.key b.key) e es ascend (record { key = key; entry = x }) (has_among es key x is) in
            absurd (ordered.strict e.key (subst (PathBefore e.key) same before))

    by : (b : Bool) → is_key key e.key ≡ b
        → known_now (cond b (Some (e.entry, Seen)) (finite.get entries key)) (entry_among es key)
        ≡ known_now (finite.get entries key) (option_map (λ (x : KeyedEntry). x.entry) (cond b (Some e) (find (λ (x : KeyedEntry). is_key key x.key) es)))
    by true same = ap (known_now (Some (e.entry, Seen))) (none (key_is key e.key same))
    by false other = refl

-- what is known once the entry that waits is put is what is settled
put_settled : (known : Option (Entry × Seal)) (waits put : Option Entry) → ForSome known IsOfMoment → ForSome waits (λ e. IsMoment (version_of e)) → Puts known waits put
    → option_map entry_of (known_now known put) ≡ agreed.settled (option_map entry_of known) (option_map seen_entry waits)
put_settled known None put moments moment puts = ap (λ o. option_map entry_of (known_now known o)) puts
put_settled known (Some entry) put moments moment (inl it) = ap (λ o. option_map entry_of (known_now known o)) it.0 ∙ sym (replaced_is known entry moments (moment entry refl) it.1)
put_settled known (Some entry) put moments moment (inr it) = ap (λ o. option_map entry_of (known_now known o)) it.0 ∙ sym (unreplaced_is known entry moments (moment entry refl) it.1)

-- what is known then is of a moment too
put_moment : (known : Option (Entry × Seal)) (waits put : Option Entry) → ForSome known IsOfMoment → ForSome waits (λ e. IsMoment (version_of e)) → Puts known waits put → ForSome (known_now known put) IsOfMoment
put_moment known None put moments moment puts = subst (λ o. ForSome (known_now known o) IsOfMoment) (sym puts) moments
put_moment known (Some entry) put moments moment (inl it) =
    subst (λ o. ForSome (known_now known o) IsOfMoment) (sym it.0) (λ x is. subst IsOfMoment (same_Some (entry, Seen) x is) (moment entry refl, tt))
put_moment known (Some entry) put moments moment (inr it) = subst (λ o. ForSome (known_now known o) IsOfMoment) (sym it.0) moments

-- A point's commit, as a turn of the theorem's client has it: `missing` has the keys that get a Missing entry.
pub record IsPointTurn (s : State) (h : Calls) (at : Timestamp) (entries : List KeyedEntry) (rows : List PointRow) (missing : Keys) : Type 0 where
  pub lacked : (key : Key) → missing key ≡ true → (t : ℤ) × LacksDocument h key t
  pub entry : (key : Key) → entry_at (committed s (Point at entries rows)) key ≡ agreed.with_missing (missing key) (tick at) (agreed.settled (entry_at s key) (option_map seen_entry (buffered key h)))

-- the same of one key
abbrev KeyTurn : State → Calls → Timestamp → Key → Option Entry → Type 0
KeyTurn s h at key got = (missing : Bool) × (missing ≡ true → (t : ℤ) × LacksDocument h key t)
    × (option_map entry_of (known_now (sealed_entry_of s key) got) ≡ agreed.with_missing missing (tick at) (agreed.settled (entry_at s key) (option_map seen_entry (buffered key h))))

false_true : false ≡ true → ⊥
false_true e = cc

key_turn : (s : State) (h : Calls) (at : Timestamp) (key : Key) (got put : Option Entry) → ForSome (sealed_entry_of s key) IsOfMoment → IsMoment at → ForSome (buffered key h) (λ e. IsMoment (version_of e))
    → Puts (sealed_entry_of s key) (buffered key h) put → ((got ≡ Some (Missing at)) × Misses s h at key put) ⊎ ((got ≡ put) × ¬ (Misses s h at key put)) → KeyTurn s h at key got
key_turn s h at key got put moments moment waits puts (inl it) = (
  true,
  λ yes. it.1.lacked,
  ap (λ o. option_map entry_of (known_now (sealed_entry_of s key) o)) it.0
      ∙ sym (replaced_is (known_now (sealed_entry_of s key) put) (Missing at) (put_moment (sealed_entry_of s key) (buffered key h) put moments waits puts) moment it.1.replaced)
      ∙ ap (agreed.with_missing true (tick at)) (put_settled (sealed_entry_of s key) (buffered key h) put moments waits puts),
)
key_turn s h at key got put moments moment waits puts (inr it) = (
  false,
  λ no. absurd (false_true no),
  ap (λ o. option_map entry_of (known_now (sealed_entry_of s key) o)) it.0 ∙ put_settled (sealed_entry_of s key) (buffered key h) put moments waits puts,
)

-- the keys that get a Missing entry are those for which the engine puts one
pub point_entry : (s : State) (h : Calls) (at : Timestamp) (entries : List KeyedEntry) (rows : List PointRow) → IsPointCommit s h at entries rows → HasMoments s → IsMoment at
    → ((key : Key) → ForSome (buffered key h) (λ e. IsMoment (version_of e))) → (missing : Keys) × IsPointTurn s h at entries rows missing
point_entry s h at entries rows is moments moment waits = (
  λ key. (turn key).0,
  record {
    lacked = λ key. (turn key).1;
    entry = λ key. ap (option_map entry_of) (seen_now entries s.entries key is.keys_ascend) ∙ (turn key).2;
  },
)
  where
    turn : (key : Key) → KeyTurn s h at key (entry_among entries key)
    turn key = let it = is.gets key in key_turn s h at key (entry_among entries key) it.put (moments.entries key) moment (waits key) it.puts it.then_gets

-- ---- what an acknowledgement puts

either_version : (b : Bool) (x y : Entry) (version : Timestamp) → version_of x ≡ version → version_of y ≡ version → version_of (cond b x y) ≡ version
either_version true x y version is also = is
either_version false x y version is also = also

one_version : (entry : Option Entry) (write : Write) (result : WriteResult) (version : Timestamp) → version_of (acknowledged entry write result version) ≡ version
unfolding acknowledged
one_version entry (Delete key condition) result version = refl
one_version entry (Update key fields None transforms condition) result version = refl
one_version entry (Update key fields (Some mask) transforms condition) result version = either_version (holds condition (document_in entry)) _ _ version refl refl

left_version : (version : Timestamp) (entry : Option Entry) (pair : Write × WriteResult) (pairs : List (Write × WriteResult)) (e : Entry) → fold (left_after version) entry (pair ∷ pairs) ≡ Some e → version_of e ≡ version
left_version version entry pair [] e is = ap version_of (sym (same_Some (acknowledged entry pair.0 pair.1 version) e is)) ∙ one_version entry pair.0 pair.1 version
left_version version entry pair (next ∷ pairs) e is = left_version version (Some (acknowledged entry pair.0 pair.1 version)) next pairs e is

-- what an answer leaves has the greatest version, which what was known is below
pub record IsLeft (entry : Option Entry) (key : Key) (writes : List Write) (results : List WriteResult) (at : Timestamp) (left : Entry) : Type 0 where
  pub greatest : IsGreatest key writes results at (version_of left)
  pub below : is_below entry (version_of left) ≡ true

pub acked_left : (entry : Option Entry) (key : Key) (writes : List Write) (results : List WriteResult) (at : Timestamp) (left : Entry) → acked entry key writes results at ≡ Some left → IsLeft entry key writes results at left
acked_left entry key writes results at left is = by (greatest key writes results at) refl is
  where
    of_pairs : (version : Timestamp) → greatest key writes results at ≡ Some version → (pairs : List (Write × WriteResult)) → answered key writes results ≡ pairs → fold (left_after version) entry pairs ≡ Some left → version_of left ≡ version
    of_pairs version found [] none made = let wrong : None ≡ Some version = sym (ap (λ ps. fold latest None (versions at ps)) none) ∙ found in cc
    of_pairs version found (pair ∷ pairs) some made = left_version version entry pair pairs left made

    with_test : (version : Timestamp) → greatest key writes results at ≡ Some version → (b : Bool) → is_below entry version ≡ b → cond b (left_by key version entry writes results) None ≡ Some left → IsLeft entry key writes results at left
    with_test version found false test made = cc
    with_test version found true test made =
        let version_is : version_of left ≡ version = of_pairs version found (answered key writes results) refl made in
        record {
          greatest = subst (IsGreatest key writes results at) (sym version_is) ((greatest_laws.some key writes results at version).0 found);
          below = subst (λ v. is_below entry v ≡ true) (sym version_is) test;
        }

    by : (found : Option Timestamp) → greatest key writes results at ≡ found → option_and_then (λ version. cond (is_below entry version) (left_by key version entry writes results) None) found ≡ Some left → IsLeft entry key writes results at left
    by None none made = cc
    by (Some version) found made = with_test version found (is_below entry version) refl made

-- ---- which keys change

in_first : (writes : List Write) (results : List WriteResult) (write : Write) (result : WriteResult) → Contains (zip writes results) (write, result) → Contains writes write
in_first [] results write result has = absurd (contains_none (write, result) has)
in_first (w ∷ writes) [] write result has = absurd (contains_none (write, result) has)
in_first (w ∷ writes) (r ∷ results) write result has = elim (contains_cases (w, r) (zip writes results) (write, result) has) [
  | inl one ↦ subst (Contains (w ∷ writes)) (ap (λ (p : Write × WriteResult). p.0) one) (contains_here w writes)
  | inr later ↦ contains_there w writes write (in_first writes results write result later)
]

in_second : (writes : List Write) (results : List WriteResult) (write : Write) (result : WriteResult) → Contains (zip writes results) (write, result) → Contains results result
in_second [] results write result has = absurd (contains_none (write, result) has)
in_second (w ∷ writes) [] write result has = absurd (contains_none (write, result) has)
in_second (w ∷ writes) (r ∷ results) write result has = elim (contains_cases (w, r) (zip writes results) (write, result) has) [
  | inl one ↦ subst (Contains (r ∷ results)) (ap (λ (p : Write × WriteResult). p.1) one) (contains_here r results)
  | inr later ↦ contains_there r results result (in_second writes results write result later)
]

in_keys : (writes : List Write) (write : Write) → Contains writes write → Contains (keys_of writes) (written_key write)
in_keys [] write has = absurd (contains_none write has)
in_keys (w ∷ writes) write has = elim (contains_cases w writes write has) [
  | inl one ↦ subst (λ (x : Write). Contains (keys_of (w ∷ writes)) (written_key x)) one (contains_here (written_key w) (keys_of writes))
  | inr later ↦ contains_there (written_key w) (keys_of writes) (written_key write) (in_keys writes write later)
]

-- a version is that of a write of the key
version_key : (key : Key) (writes : List Write) (results : List WriteResult) (at version : Timestamp) → IsVersion key writes results at version → Contains (keys_of writes) key
version_key key writes results at version is =
    subst (Contains (keys_of writes)) is.of_key (in_keys writes is.write (in_first writes results is.write is.result is.both))

-- a version is of a moment where the results and the time of the commit are
pub version_moment : (key : Key) (writes : List Write) (results : List WriteResult) (at version : Timestamp) → IsMoment at → AreSpelled IsSpelledResult results → IsVersion key writes results at version → IsMoment version
version_moment key writes results at version moment spelled is =
    let one : IsSpelledResult is.result = All-contains IsSpelledResult results is.result spelled.each (in_second writes results is.write is.result is.both) in
    subst IsMoment (sym is.is) (by is.result.update_time one.time)
  where
    by : (time : Option Timestamp) → IfSome time IsMoment → IsMoment (unwrap_or time at)
    by None none = moment
    by (Some time) has = has

-- ---- one change of a key, however often

-- all changes of the key are this one
abbrev AllGive : List Changed → Key → Option (Entry × Seal) → Type 0
AllGive changes key found = (c : Changed) → Contains changes c → c.0 ≡ key → c.1 ≡ found

-- none, or one of the changes is of the key
changed_or_not : (changes : List Changed) (entries : EntryMap) (key : Key) (found : Option (Entry × Seal)) → AllGive changes key found
    → (((c : Changed) → Contains changes c → c.0 ≡ key → ⊥) × (finite.get (with_all entries changes) key ≡ finite.get entries key)) ⊎ (finite.get (with_all entries changes) key ≡ found)
changed_or_not [] entries key found all = inl (λ c has is. contains_none c has, refl)
changed_or_not (c ∷ changes) entries key found all = elim (changed_or_not changes (with_changed entries c) key found (λ d has is. all d (contains_there c changes d has) is)) [
  | inr changed ↦ inr changed
  | inl none ↦ by (is_key c.0 key) refl none
]
  where
    by : (b : Bool) → is_key c.0 key ≡ b → (((d : Changed) → Contains changes d → d.0 ≡ key → ⊥) × (finite.get (with_all (with_changed entries c) changes) key ≡ finite.get (with_changed entries c) key))
        → (((d : Changed) → Contains (c ∷ changes) d → d.0 ≡ key → ⊥) × (finite.get (with_all entries (c ∷ changes)) key ≡ finite.get entries key)) ⊎ (finite.get (with_all entries (c ∷ changes)) key ≡ found)
    by true same none = inr (none.1 ∙ get_changed entries c key ∙ ap (λ b. cond b c.1 (finite.get entries key)) same ∙ all c (contains_here c changes) (key_is c.0 key same))
    by false other none = inl (
      λ d has is. elim (contains_cases c changes d has) [
        | inl one ↦ false_true (sym other ∙ key_same c.0 key (ap (λ (x : Changed). x.0) one ∙ is))
        | inr later ↦ none.0 d later is
      ],
      none.1 ∙ get_changed entries c key ∙ ap (λ b. cond b c.1 (finite.get entries key)) other,
    )

in_filtered : (h : Key → Option Changed) (keys : List Key) (c : Changed) → Contains (filter_map h keys) c → (k : Key) × (h k ≡ Some c)
in_filtered h [] c has = absurd (contains_none c has)
in_filtered h (k ∷ keys) c has = by (h k) refl has (in_filtered h keys c)
  where
    by : (o : Option Changed) → h k ≡ o → Contains (cons_option o (filter_map h keys)) c → (Contains (filter_map h keys) c → (x : Key) × (h x ≡ Some c)) → (x : Key) × (h x ≡ Some c)
    by None is among rest = rest among
    by (Some d) is among rest = elim (contains_cases d (filter_map h keys) c among) [
      | inl one ↦ (k, is ∙ ap Some one)
      | inr later ↦ rest later
    ]

filtered_in : (h : Key → Option Changed) (keys : List Key) (k : Key) (c : Changed) → Contains keys k → h k ≡ Some c → Contains (filter_map h keys) c
filtered_in h [] k c has is = absurd (contains_none k has)
filtered_in h (x ∷ keys) k c has is = by (h x) refl (contains_cases x keys k has) (λ later. filtered_in h keys k c later is)
  where
    by : (o : Option Changed) → h x ≡ o → (x ≡ k) ⊎ Contains keys k → (Contains keys k → Contains (filter_map h keys) c) → Contains (cons_option o (filter_map h keys)) c
    by None none (inl one) rest = let wrong : None ≡ Some c = sym none ∙ ap h one ∙ is in cc
    by None none (inr later) rest = rest later
    by (Some d) some (inl one) rest = subst (Contains (d ∷ filter_map h keys)) (same_Some d c (sym some ∙ ap h one ∙ is)) (contains_here d (filter_map h keys))
    by (Some d) some (inr later) rest = contains_there d (filter_map h keys) c (rest later)

-- the entry with its seal that an answer leaves of a key, or else what is known
abbrev pub answered_or : Option Entry → Timestamp → Option (Entry × Seal) → Option (Entry × Seal)
answered_or None at known = known
answered_or (Some left) at known = Some (left, Committed at)

-- each key has what the answer leaves, or what it had
pub answered_entry : (entries : EntryMap) (writes : List Write) (results : List WriteResult) (at : Timestamp) (key : Key)
    → finite.get (with_all entries (acknowledged_keys entries writes results at)) key ≡ answered_or (acked (cached entries key) key writes results at) at (finite.get entries key)
answered_entry entries writes results at key = by (acked (cached entries key) key writes results at) refl
  where
    changes : List Changed
    changes = acknowledged_keys entries writes results at

    -- a change of the key is what its answer is
    change_is : (c : Changed) → Contains changes c → c.0 ≡ key → (left : Entry) × (acked (cached entries key) key writes results at ≡ Some left) × (c.1 ≡ Some (left, Committed at))
    change_is c has is = let from = in_filtered (answered_by entries writes results at) (keys_of writes) c has in made from.0 (acked (cached entries from.0) from.0 writes results at) refl from.1
      where
        made : (k : Key) (o : Option Entry) → acked (cached entries k) k writes results at ≡ o → option_map (λ entry. (k, Some (entry, Committed at))) o ≡ Some c → (left : Entry) × (acked (cached entries key) key writes results at ≡ Some left) × (c.1 ≡ Some (left, Committed at))
        made k None none so = cc
        made k (Some left) left_is so =
            let one = same_Some (k, Some (left, Committed at)) c so in
            let key_is_it : k ≡ key = ap (λ (x : Changed). x.0) one ∙ is in
            (left, sym (ap (λ q. acked (cached entries q) q writes results at) key_is_it) ∙ left_is, sym (ap (λ (x : Changed). x.1) one))

    by : (o : Option Entry) → acked (cached entries key) key writes results at ≡ o → finite.get (with_all entries changes) key ≡ answered_or o at (finite.get entries key)
    by None none = elim (changed_or_not changes entries key (finite.get entries key) (λ c has is. let it = change_is c has is in let wrong : None ≡ Some it.0 = sym none ∙ it.1 in cc)) [
      | inl same ↦ same.1
      | inr same ↦ same
    ]
    by (Some left) left_is = elim (changed_or_not changes entries key (Some (left, Committed at)) (λ c has is. same_change c (change_is c has is))) [
      | inl none ↦ absurd (none.0 (key, Some (left, Committed at)) there refl)
      | inr changed ↦ changed
    ]
      where
        same_change : (c : Changed) → (other : Entry) × (acked (cached entries key) key writes results at ≡ Some other) × (c.1 ≡ Some (other, Committed at)) → c.1 ≡ Some (left, Committed at)
        same_change c (other, other_is, made) = let one : other ≡ left = same_Some other left (sym other_is ∙ left_is) in made ∙ (λ i. Some (one i, Committed at))

        there : Contains changes (key, Some (left, Committed at))
        there =
            let it = acked_left (cached entries key) key writes results at left left_is in
            filtered_in (answered_by entries writes results at) (keys_of writes) key (key, Some (left, Committed at)) (version_key key writes results at (version_of left) it.greatest.one) (λ i. option_map (λ entry. (key, Some (entry, Committed at))) (left_is i))

-- ---- an acknowledgement as a turn of the theorem's client

-- what is left, as an entry of the theorem
abbrev pub left_entry : Timestamp → Entry → agreed.Entry
left_entry at left = entry_of (left, Committed at)

-- the new entries of an acknowledgement
abbrev pub new_entry : State → Timestamp → List WriteResult → Key → Option agreed.Entry
new_entry s at results key = option_map (left_entry at) (acked (cached s.entries key) key (first_writes s.batches) results at)

-- what an answer leaves goes over what was known
left_over : (known : Option (Entry × Seal)) (left : Entry) (at : Timestamp) → ForSome known IsOfMoment → IsMoment (version_of left) → is_below (option_map (λ (p : Entry × Seal). p.0) known) (version_of left) ≡ true
    → Some (left_entry at left) ≡ agreed.replaced (λ e before. nat_lt before.version e.version) (option_map entry_of known) (left_entry at left)
left_over None left at moments moment below = refl
left_over (Some (known, seal)) left at moments moment below =
    sym (cond-true (nat_lt (tick (version_of known)) (tick (version_of left))) (Some (left_entry at left)) (Some (entry_of (known, seal)))
    (lt-ltb (tick (version_of known)) (tick (version_of left)) (earlier_less (version_of known) (version_of left) (moments (known, seal) refl).0 moment (earlier_so (version_of known) (version_of left) below))))

pub ack_entry : (s : State) (id : ℕ) (at : Timestamp) (results : List WriteResult) → HasMoments s → IsMoment at → AreSpelled IsSpelledResult results → (key : Key)
    → entry_at (committed s (Acknowledge id at results)) key ≡ agreed.acked (entry_at s key) (new_entry s at results key)
ack_entry s id at results moments moment spelled key =
    ap (option_map entry_of) (answered_entry s.entries (first_writes s.batches) results at key)
    ∙ by (acked (cached s.entries key) key (first_writes s.batches) results at) refl
  where
    by : (o : Option Entry) → acked (cached s.entries key) key (first_writes s.batches) results at ≡ o → option_map entry_of (answered_or o at (finite.get s.entries key)) ≡ agreed.acked (entry_at s key) (option_map (left_entry at) o)
    by None none = refl
    by (Some left) is =
        let it = acked_left (cached s.entries key) key (first_writes s.batches) results at left is in
        left_over (finite.get s.entries key) left at (moments.entries key) (version_moment key (first_writes s.batches) results at (version_of left) moment spelled it.greatest.one) it.below

-- what an acknowledgement makes is sound
pub ack_sound : (setting : Setting) (s : State) (read : ℕ) (at : Timestamp) (results : List WriteResult) → AreTrueResults setting s at results → (key : Key)
    → ForSome (new_entry s at results key) (λ e. (agreed.is_committed e.seal ≡ true) × IsSound setting read key e)
ack_sound setting s read at results honest key e is = by (acked (cached s.entries key) key (first_writes s.batches) results at) refl is
  where
    by : (o : Option Entry) → acked (cached s.entries key) key (first_writes s.batches) results at ≡ o → option_map (left_entry at) o ≡ Some e → (agreed.is_committed e.seal ≡ true) × IsSound setting read key e
    by None none so = cc
    by (Some left) left_is so =
        let it = acked_left (cached s.entries key) key (first_writes s.batches) results at left left_is in
        subst (λ (x : agreed.Entry). (agreed.is_committed x.seal ≡ true) × IsSound setting read key x) (same_Some (left_entry at left) e so) (refl, honest key (version_of left) it.greatest)
