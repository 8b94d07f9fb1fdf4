-- the current targets, and the sought ones
use Rattle.std.proofs.Common.{◌≡◌, ℤ, Bool, true, false, ◌&&◌, ◌||◌, not, List, [], ◌∷◌, Option, None, refl, sym, ap, subst, ◌∙◌}
use Rattle.std.proofs.lemmas.Bool.{true≢false}
use Rattle.limbo_resolver.specs.Limbo.{Limbo}
use Rattle.listen_protocol.specs.Calls.{Key}
use Rattle.client_turns.specs.LimboListens.{is_running, is_sought}
use Rattle.client_turns.specs.Past.{Past}
use Rattle.client_turns.specs.Watching.{calls_of, current_keys, if_so, is_offline, is_wanted, online_of, step_by, told_by}

-- ---- current targets

pub if_so_none : (b : Bool) → if_so b None ≡ None
if_so_none true = refl
if_so_none false = refl

pub if_so_twice : (b : Bool) (keys : Option (List Key)) → if_so b (if_so b keys) ≡ if_so b keys
if_so_twice true keys = refl
if_so_twice false keys = refl

-- a target is current only while it is wanted and the client isn't offline
pub current_held : (x : ℤ) (past : Past) → if_so (is_wanted x past && not (is_offline (online_of past))) (current_keys x past) ≡ current_keys x past
current_held x [] = if_so_none (is_wanted x [] && not (is_offline (online_of [])))
current_held x (entry ∷ past) = if_so_twice (is_wanted x (entry ∷ past) && not (is_offline (online_of (entry ∷ past)))) (told_by x (step_by entry.event entry.turn.refusal) entry.turn.commit (calls_of past) (current_keys x past))

-- what stands under a condition stands under a weaker one
pub if_so_more : (a b : Bool) (keys : Option (List Key)) → (a ≡ true → b ≡ true) → if_so a keys ≡ keys → if_so b keys ≡ keys
if_so_more true b keys more is = ap (λ c. if_so c keys) (more refl)
if_so_more false b keys more is = subst (λ (k : Option (List Key)). if_so b k ≡ k) is (if_so_none b)

pub and_more : (a b c : Bool) → (a ≡ true → b ≡ true) → (a && c) ≡ true → (b && c) ≡ true
and_more true b c more is = ap (λ x. x && c) (more refl) ∙ is
and_more false b c more is = absurd (true≢false (sym is))

-- an unwanted target isn't current
pub unwanted_current : (x : ℤ) (past : Past) → is_wanted x past ≡ false → current_keys x past ≡ None
unwanted_current x past not_wanted = sym (current_held x past) ∙ ap (λ b. if_so (b && not (is_offline (online_of past))) (current_keys x past)) not_wanted

-- nor is any while the client is offline
pub offline_current : (x : ℤ) (past : Past) → is_offline (online_of past) ≡ true → current_keys x past ≡ None
offline_current x past off = sym (current_held x past) ∙ ap (λ b. if_so (is_wanted x past && not b) (current_keys x past)) off ∙ by (is_wanted x past)
  where
    by : (b : Bool) → if_so (b && false) (current_keys x past) ≡ None
    by true = refl
    by false = refl

-- ---- what is sought, and for what a request is due

-- a target is sought as before where it is wanted as before
pub sought_still : (past next : Past) (limbo : Limbo) (x : ℤ) → is_wanted x next ≡ is_wanted x past → is_sought x next limbo ≡ is_sought x past limbo
sought_still past next limbo x same = ap (λ b. b || is_running x limbo) same
