-- A client with one listener: its snapshots, documents in limbo, and requests.
use Rattle.std.proofs.Common.{◌≡◌, ◌∙◌, ⊎_elim, inl, ℕ, suc, zero, ℤ, pos, Bool, true, false, nat_eq, List, [], ◌∷◌, Option, Some, None, refl, sym, ap, subst, if◌then◌else◌, arith, ne_eqb}
use Rattle.std.specs.List.{AllPairs, Contains}
use Rattle.std.specs.Ordering.{int_eq}
use Rattle.std.proofs.lemmas.Bool.{eqb-true, eqb-false, false≢true, true≢false}
use Rattle.std.proofs.lemmas.Bool.Decides.{Decides-int_eq}
use Rattle.document_keys.specs.Names.{Root}
use Rattle.limbo_resolver.specs.Limbo.{Key}
use Rattle.listen_protocol.specs.Transcript.{is_asked_in}
use Rattle.durable_state.specs.State.{State}
use Rattle.target_cache.specs.Cache.{IsRow}
use Rattle.target_cache.specs.declared.row.Row.{Row}
use Rattle.views.specs.Viewed.{Viewed}
use Rattle.client_turns.specs.Asking.{AreJust, Asks, IsAdded, IsListenAdded, IsRemoved}
use Rattle.client_turns.specs.LimboListens.{is_running, is_sought, limbo_of}
use Rattle.client_turns.specs.Lines.{Told, add}
use Rattle.client_turns.specs.Past.{Past}
use Rattle.client_turns.specs.Settling.{AreInLimbo, IsBelow, Settles, Shows, ShowsAt, ShowsInLimbo, ShowsInLimboAt, Stance, told_to}
use Rattle.client_turns.specs.Watching.{calls_of, is_wanted}

-- nothing is in an empty list
pub none_in : {X : Type 0} (x : X) → Contains [] x → ⊥
none_in x there = omega (arith, there.1)

-- just the listener 1 is there
pub record IsAlone (listening : ℕ → Option Viewed) (view : Viewed) : Type 0 where
  pub there : listening 1 ≡ Some view
  pub others : (id : ℕ) → (1 ≡ id → ⊥) → listening id ≡ None

-- what is chosen for the listener 1 alone
pub chosen_none : {X : Type 0} (id : ℕ) (x : Option X) → (1 ≡ id → ⊥) → (if nat_eq 1 id then x else None) ≡ None
chosen_none {X} id x other = ap (λ (b : Bool). if b then x else None) (ne_eqb 1 id other)

-- ---- snapshots

pub alone_settles : (root : Root) (s : State) (stance : ℕ → Stance) (listening : ℕ → Option Viewed) (view : Viewed) (told : List Told) → IsAlone listening view → AllPairs IsBelow told
    → Shows root s (stance 1) view (told_to 1 told) → ((id : ℕ) → (1 ≡ id → ⊥) → told_to id told ≡ None) → Settles root s stance listening told
alone_settles root s stance listening view told alone ascending shows none = record { ascending = ascending; each = λ id. by id (nat_eq 1 id) refl }
  where
    first : ShowsAt root s (stance 1) (listening 1) (told_to 1 told)
    first = subst (λ (v : Option Viewed). ShowsAt root s (stance 1) v (told_to 1 told)) (sym alone.there) shows

    by : (id : ℕ) (b : Bool) → nat_eq 1 id ≡ b → ShowsAt root s (stance id) (listening id) (told_to id told)
    by id true is = subst (λ (n : ℕ). ShowsAt root s (stance n) (listening n) (told_to n told)) (eqb-true 1 id is) first
    by id false is = subst (λ (v : Option Viewed). ShowsAt root s (stance id) v (told_to id told)) (sym (alone.others id (eqb-false 1 id is))) (none id (eqb-false 1 id is))

-- ---- documents in limbo

pub alone_limbo : (root : Root) (s : State) (stance : ℕ → Stance) (listening : ℕ → Option Viewed) (view : Viewed) → IsAlone listening view → ((key : Key) → ShowsInLimbo root s (stance 1) key view → ⊥) → AreInLimbo root s stance listening []
alone_limbo root s stance listening view alone never = record {
  ascending = λ i j d less inside. absurd (omega (arith, inside));
  each = λ key. (λ there. absurd (none_in key there), λ it. absurd (by key it.0 (nat_eq 1 it.0) refl it.1));
}
  where
    first : (key : Key) → ShowsInLimboAt root s (stance 1) key (listening 1) → ⊥
    first key it = never key (subst (λ (v : Option Viewed). ShowsInLimboAt root s (stance 1) key v) alone.there it)

    by : (key : Key) (id : ℕ) (b : Bool) → nat_eq 1 id ≡ b → ShowsInLimboAt root s (stance id) key (listening id) → ⊥
    by key id true is it = first key (subst (λ (n : ℕ). ShowsInLimboAt root s (stance n) key (listening n)) (sym (eqb-true 1 id is)) it)
    by key id false is it = subst (λ (v : Option Viewed). ShowsInLimboAt root s (stance id) key v) (alone.others id (eqb-false 1 id is)) it

-- ---- requests

just_none : (P : ℤ → Type 0) → ((t : ℤ) → P t → ⊥) → AreJust P []
just_none P never = record {
  ascending = λ i j d less inside. absurd (omega (arith, inside));
  each = λ t. (λ there. absurd (none_in t there), λ it. absurd (never t it));
}

-- the asked targets are the wanted ones
pub asks_none : (s : State) (next : Past) (reset : ℤ → Bool) → ((t : ℤ) → is_asked_in t (calls_of next) ≡ is_wanted t next) → ((t : ℤ) → reset t ≡ false) → ((t : ℤ) → is_running t (limbo_of next) ≡ false) → Asks s next reset []
asks_none s next reset asked kept idle = record {
  removed = [];
  added = [];
  listens = [];
  are_removed = just_none (IsRemoved next reset) not_removed;
  are_added = just_none (IsAdded next []) not_added;
  are_listens = just_none (IsListenAdded next []) not_listened;
  adds = [];
  rows = tt;
  listen_adds = [];
  keys = tt;
  is = refl;
}
  where
    sought : (t : ℤ) → is_wanted t next ≡ true → is_sought t next (limbo_of next) ≡ true
    sought t wanted = rw wanted refl

    not_removed : (t : ℤ) → IsRemoved next reset t → ⊥
    not_removed t it = ⊎_elim (λ unsought. true≢false (sym (sought t (sym (asked t) ∙ it.asking)) ∙ unsought)) (λ was_reset. false≢true (sym (kept t) ∙ was_reset)) it.why

    not_added : (t : ℤ) → IsAdded next [] t → ⊥
    not_added t it = ⊎_elim (λ unasked. true≢false (sym it.wanted ∙ sym (asked t) ∙ unasked)) (λ there. none_in t there) it.why

    not_listened : (t : ℤ) → IsListenAdded next [] t → ⊥
    not_listened t it = false≢true (sym (idle t) ∙ it.running)

-- the target 2 is wanted, and nothing is asked yet
pub asks_first : (s : State) (next : Past) (reset : ℤ → Bool) (row : Row) → ((t : ℤ) → is_asked_in t (calls_of next) ≡ false) → ((t : ℤ) → is_wanted t next ≡ int_eq (pos 2) t) → ((t : ℤ) → is_running t (limbo_of next) ≡ false) → IsRow s.rows (pos 2) row
    → Asks s next reset (add (pos 2) row ∷ [])
asks_first s next reset row unasked wanted idle there = record {
  removed = [];
  added = pos 2 ∷ [];
  listens = [];
  are_removed = just_none (IsRemoved next reset) (λ t it. false≢true (sym (unasked t) ∙ it.asking));
  are_added = record {
    ascending = λ i j d less inside. absurd (omega (arith, less, inside));
    each = λ t. (λ has. one t has, λ it. (0, omega arith, (Decides-int_eq (pos 2) t).0 (sym (wanted t) ∙ it.wanted)));
  };
  are_listens = just_none (IsListenAdded next []) (λ t it. false≢true (sym (idle t) ∙ it.running));
  adds = add (pos 2) row ∷ [];
  rows = (record { row = row; of_id = there; is = refl }, tt);
  listen_adds = [];
  keys = tt;
  is = refl;
}
  where
    one : (t : ℤ) → Contains (pos 2 ∷ []) t → IsAdded next [] t
    one t (zero, inside, same) = record { wanted = wanted t ∙ (Decides-int_eq (pos 2) t).1 same; why = inl (unasked t) }
    one t (suc k, inside, same) = absurd (omega (arith, inside))
