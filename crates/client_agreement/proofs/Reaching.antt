-- from one client of the theorem to another by allowed turns, and the turns of add requests
use Rattle.std.proofs.Common.{◌≡◌, ℤ, Bool, true, false, ◌||◌, List, [], ◌∷◌, ◌++◌, Some, None, if◌then◌else◌, refl, sym, ap, subst, ◌∙◌, arith}
use Rattle.std.specs.Prelude.{◌<ℤ◌, option_and_then}
use Rattle.std.specs.List.{AllPairs, AllZip, Contains}
use Rattle.std.specs.Ordering.{int_eq}
use Rattle.std.proofs.lemmas.Bool.{true≢false}
use Rattle.std.proofs.lemmas.Int.{ints}
use Rattle.agreement.proofs.Counting.{same_id-refl, same_id-true}
use Rattle.queries.proofs.Counting.{pairs_head, pairs_tail}
use Rattle.client_turns.proofs.Wanted.{first_among, later_among}
use Rattle.agreement.specs.Allowed.{AreAllowed, IsAllowed}
use Rattle.agreement.specs.Backend.{Id, Key, Setting}
use Rattle.agreement.specs.Client.{Aims, Asks, Client, Turn, after, run}
use Rattle.agreement.specs.Transcript.{Asked, Event, Request, is_asked}
use Rattle.durable_state.specs.State.{State}
use Rattle.limbo_resolver.specs.Limbo.{Limbo}
use Rattle.queries.specs.declared.target.Target.TheVariants.{Document}
use Rattle.target_cache.specs.Cache.{IsRow, blank}
use Rattle.target_cache.specs.declared.row.Row.{Row}
use Rattle.client_turns.specs.Asking.{IsAddLine, IsListenLine}
use Rattle.client_turns.specs.Lines.{Line, add}
use Rattle.client_agreement.specs.Durable.{is_listener, row_of, tuple_at, tuple_in}
use Rattle.client_agreement.specs.Transcript.{asked_by, asked_in, request_of}

-- some allowed turns lead from the one to the other
pub record Reaches (s : Setting) (c d : Client) : Type 0 where
  pub turns : List Turn
  pub allowed : AreAllowed s turns c
  pub is : run s turns c ≡ d

module _ (s : Setting) where
  pub reach_none : (c : Client) → Reaches s c c
  reach_none c = record { turns = []; allowed = tt; is = refl }

  pub reach_one : (c : Client) (turn : Turn) → IsAllowed s c turn → Reaches s c (after s turn c)
  reach_one c turn allowed = record { turns = turn ∷ []; allowed = (allowed, tt); is = refl }

  pub run_append : (more turns : List Turn) (c : Client) → run s (more ++ turns) c ≡ run s more (run s turns c)
  run_append [] turns c = refl
  run_append (turn ∷ more) turns c = ap (after s turn) (run_append more turns c)

  pub allowed_append : (more turns : List Turn) (c : Client) → AreAllowed s more (run s turns c) → AreAllowed s turns c → AreAllowed s (more ++ turns) c
  allowed_append [] turns c more_are are = are
  allowed_append (turn ∷ more) turns c more_are are = (
    subst (λ (d : Client). IsAllowed s d turn) (sym (run_append more turns c)) more_are.0,
    allowed_append more turns c more_are.1 are,
  )

  pub reach_then : {c d e : Client} → Reaches s c d → Reaches s d e → Reaches s c e
  reach_then {c} {d} {e} first second = record {
    turns = second.turns ++ first.turns;
    allowed = allowed_append second.turns first.turns c (subst (AreAllowed s second.turns) (sym first.is) second.allowed) first.allowed;
    is = run_append second.turns first.turns c ∙ ap (run s second.turns) first.is ∙ second.is;
  }

-- the rows of a client, and what ids with a row stand for
pub record HasRowsOf (c : Client) (rows : List Row) : Type 0 where
  pub row : (id : Id) → c.row id ≡ tuple_at rows id
  pub target : (id : Id) (row : Row) → IsRow rows id row → c.target id ≡ row.target

-- all is the same but for what was asked, and for what ids of documents in limbo stand for
pub record OnlyAsks (c d : Client) (all : List Event) : Type 0 where
  pub entry : d.entry ≡ c.entry
  pub read : d.read ≡ c.read
  pub row : d.row ≡ c.row
  pub current : d.current ≡ c.current
  pub buffer : d.buffer ≡ c.buffer
  pub target : (id : Id) → is_listener id ≡ true → d.target id ≡ c.target id
  pub past : d.past ≡ all

-- an id that no listener has, and that nothing uses
pub record IsFree (c : Client) (id : Id) : Type 0 where
  pub own : is_listener id ≡ false
  pub no_row : c.row id ≡ None
  pub not_current : c.current id ≡ None
  pub not_asked : is_asked id c.past ≡ false

-- what lies above the first of ascending ids isn't it
apart_head : (id : ℤ) (ids : List ℤ) → AllPairs ◌<ℤ◌ (id ∷ ids) → (t : ℤ) → Contains ids t → int_eq id t ≡ false
apart_head id ids ascending t here = by (int_eq id t) refl
  where
    by : (b : Bool) → int_eq id t ≡ b → int_eq id t ≡ false
    by false is = is
    by true is = let below : id <ℤ t = pairs_head ◌<ℤ◌ id ids t ascending here in let same = same_id-true id t is in absurd (omega (arith, ints, below, same))

module _ (s : Setting) (rows : List Row) (row_there : (id : Id) (row : Row) → IsRow rows id row → row_of rows id ≡ Some row) where
  request_same : (c : Client) (id : Id) (row : Row) → HasRowsOf c rows → IsRow rows id row → (record { query = c.target id; resume = c.row id }) ≡ request_of row
  request_same c id row has is =
      let query = has.target id row is in
      let resume : c.row id ≡ tuple_in row = has.row id ∙ ap (option_and_then tuple_in) (row_there id row is) in
      λ i. record { query = query i; resume = resume i }

  -- the add requests of listeners' targets
  pub adds_reach : (state : State) → state.rows ≡ rows → (ids : List ℤ) (lines : List Line) → AllZip (IsAddLine state) ids lines → (c : Client) → HasRowsOf c rows
      → (d : Client) × Reaches s c d × OnlyAsks c d (asked_in lines c.past) × HasRowsOf d rows
  adds_reach state same [] [] all c has = (c, reach_none s c, record { entry = refl; read = refl; row = refl; current = refl; buffer = refl; target = λ id own. refl; past = refl }, has)
  adds_reach state same [] (line ∷ lines) all c has = absurd all
  adds_reach state same (id ∷ ids) [] all c has = absurd all
  adds_reach state same (id ∷ ids) (line ∷ lines) all c has =
      let row = all.0.row in
      let there : IsRow rows id row = subst (λ (rs : List Row). IsRow rs id row) same all.0.of_id in
      let asked : (after s (Asks id) c).past ≡ asked_by c.past line = ap (λ (r : Request). Asked id r ∷ c.past) (request_same c id row has there) ∙ ap (asked_by c.past) (sym all.0.is) in
      let rest = adds_reach state same ids lines all.1 (after s (Asks id) c) (record { row = has.row; target = has.target }) in (
        rest.0,
        reach_then s (reach_one s c (Asks id) tt) rest.1,
        record {
          entry = rest.2.entry;
          read = rest.2.read;
          row = rest.2.row;
          current = rest.2.current;
          buffer = rest.2.buffer;
          target = rest.2.target;
          past = rest.2.past ∙ ap (asked_in lines) asked;
        },
        rest.3,
      )

-- the add requests of listens of documents in limbo
module _ (s : Setting) (limbo : Limbo) where
  -- an id is aimed at its document, and asked
  abbrev aimed : Client → Id → Key → Client
  aimed c id key = after s (Asks id) (after s (Aims id (Document key)) c)

  aimed_query : (c : Client) (id : Id) (key : Key) → (after s (Aims id (Document key)) c).target id ≡ Document key
  aimed_query c id key = ap (λ (b : Bool). if b then Document key else c.target id) (same_id-refl id)

  aimed_other : (c : Client) (id : Id) (key : Key) (other : Id) → is_listener id ≡ false → is_listener other ≡ true → (aimed c id key).target other ≡ c.target other
  aimed_other c id key other odd own = by (int_eq other id) refl
    where
      by : (b : Bool) → int_eq other id ≡ b → (if b then Document key else c.target other) ≡ c.target other
      by true is = absurd (true≢false (sym own ∙ ap is_listener (same_id-true other id is) ∙ odd))
      by false is = refl

  aimed_past : (c : Client) (id : Id) (key : Key) (line : Line) → IsFree c id → line ≡ add id (blank (Document key)) → (aimed c id key).past ≡ asked_by c.past line
  aimed_past c id key line free is =
      let query = aimed_query c id key in
      let resume : c.row id ≡ None = free.no_row in
      (λ i. Asked id (record { query = query i; resume = resume i }) ∷ c.past) ∙ ap (asked_by c.past) (sym is)

  pub listens_reach : (ids : List ℤ) (lines : List Line) → AllZip (IsListenLine limbo) ids lines → AllPairs ◌<ℤ◌ ids → (c : Client)
      → ((t : ℤ) → Contains ids t → IsFree c t) → (d : Client) × Reaches s c d × OnlyAsks c d (asked_in lines c.past)
  listens_reach [] [] all ascending c free = (c, reach_none s c, record { entry = refl; read = refl; row = refl; current = refl; buffer = refl; target = λ id own. refl; past = refl })
  listens_reach [] (line ∷ lines) all ascending c free = absurd all
  listens_reach (id ∷ ids) [] all ascending c free = absurd all
  listens_reach (id ∷ ids) (line ∷ lines) all ascending c free =
      let key = all.0.key in
      let mine = free id (first_among id ids) in
      let asked = aimed_past c id key line mine all.0.is in
      let one = reach_then s (reach_one s c (Aims id (Document key)) (mine.no_row, mine.not_current, mine.not_asked)) (reach_one s (after s (Aims id (Document key)) c) (Asks id) tt) in
      let rest = listens_reach ids lines all.1 (pairs_tail ◌<ℤ◌ id ids ascending) (aimed c id key) (λ t here.
      let its = free t (later_among id t ids here) in
      record { own = its.own; no_row = its.no_row; not_current = its.not_current; not_asked = ap (λ (b : Bool). b || is_asked t c.past) (apart_head id ids ascending t here) ∙ its.not_asked }) in (
        rest.0,
        reach_then s one rest.1,
        record {
          entry = rest.2.entry;
          read = rest.2.read;
          row = rest.2.row;
          current = rest.2.current;
          buffer = rest.2.buffer;
          target = λ other own. rest.2.target other own ∙ aimed_other c id key other mine.own own;
          past = rest.2.past ∙ ap (asked_in lines) asked;
        },
      )
