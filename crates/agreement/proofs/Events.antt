-- What one more event does to an id, by the few roles that an event can have.
use Rattle.std.proofs.Common.{◌≡◌, ℕ, suc, pred, Bool, true, false, cond, not, List, [], ◌∷◌, Option, Some, None, refl, ap, ◌∙◌, arith}
use Rattle.std.specs.Prelude.{◌==◌, ◌&&◌, ◌||◌, unwrap_or, is_some}
use Rattle.std.specs.Option.{option_or}
use Rattle.std.specs.Ordering.{int_eq}
use Rattle.std.proofs.lemmas.Bool.{true≢false, false≢true, and_parts, eqb-true, false_from_ne_true}
use Rattle.value_model.specs.declared.message.ChangeKind.TheVariants.{NoChange, Add, Remove, Current, Reset}
use Rattle.listen_protocol.specs.Calls.{is_add, is_remove, is_reset}
use Rattle.agreement.specs.Backend.{Id}
use Rattle.agreement.specs.Transcript.{Change, Sends, Deletes, Removes, Filter, Request, Event, Cut, Asked, Unasked, Heard, News, Silent, Out, changes, open_count, is_asked, is_live, counts, request, start}

pub data Role : Type 0 where
  -- it ends all incarnations
  Cuts : Role
  -- it opens one
  Asks : Role
  -- the newest isn't wanted any more
  Unasks : Role
  -- an ADD
  Adds : Role
  -- a REMOVE: it ends the oldest open one
  Stops : Role
  -- it does nothing to them
  Passes : Role

abbrev pub message_role : (adds removes : Bool) → Role
message_role adds true = Stops
message_role true false = Adds
message_role false false = Passes

abbrev pub role : Id → Event → Role
role id Cut = Cuts
role id (Asked i opening) = cond (int_eq i id) Asks Passes
role id (Unasked ids) = cond (ids id) Unasks Passes
role id (Heard m) = message_role (changes is_add id (Heard m)) (changes is_remove id (Heard m))

abbrev pub open_by : Role → ℕ → ℕ
open_by Cuts n = 0
open_by Asks n = suc n
open_by Stops n = pred n
open_by _ n = n

abbrev pub asked_by : Role → ℕ → Bool → Bool
asked_by Cuts n b = false
asked_by Asks n b = true
asked_by Unasks n b = false
asked_by Stops n b = cond (n == 1) false b
asked_by _ n b = b

abbrev pub counts_by : Role → Bool → Bool → Bool
counts_by Adds live b = live
counts_by Passes live b = b
counts_by _ live b = false

abbrev pub request_of : Event → Option Request
request_of (Asked i opening) = Some opening
request_of _ = None

abbrev pub request_by : Role → Option Request → Option Request → Option Request
request_by Cuts here before = None
request_by Asks here before = here
request_by _ here before = before

abbrev pub start_by : Role → Bool → Bool → Option News
start_by Adds counting reset = cond counting None (Some Silent)
start_by Passes counting reset = cond reset (Some Out) None
start_by _ counting reset = None

abbrev pub news_by : Option News → Option News → News → News
news_by begins here before = unwrap_or (option_or begins here) before

abbrev pub filtered_by : Option News → Bool → List Event → Option (List Event) → Option (List Event)
filtered_by begins here past before = cond (is_some begins) None (cond here (Some past) before)

-- a message is of one kind
pub add_alone : (id : Id) (e : Event) → changes is_add id e ≡ true → (changes is_remove id e ≡ false) × (changes is_reset id e ≡ false)
add_alone id Cut h = absurd (false≢true h)
add_alone id (Asked i opening) h = absurd (false≢true h)
add_alone id (Unasked ids) h = absurd (false≢true h)
add_alone id (Heard (Change NoChange ids token time)) h = absurd (false≢true h)
add_alone id (Heard (Change Add ids token time)) h = (refl, refl)
add_alone id (Heard (Change Remove ids token time)) h = absurd (false≢true h)
add_alone id (Heard (Change Current ids token time)) h = absurd (false≢true h)
add_alone id (Heard (Change Reset ids token time)) h = absurd (false≢true h)
add_alone id (Heard (Sends key fields update puts takes)) h = absurd (false≢true h)
add_alone id (Heard (Deletes key time takes)) h = absurd (false≢true h)
add_alone id (Heard (Removes key takes)) h = absurd (false≢true h)
add_alone id (Heard (Filter of count)) h = absurd (false≢true h)

pub remove_alone : (id : Id) (e : Event) → changes is_remove id e ≡ true → changes is_reset id e ≡ false
remove_alone id Cut h = absurd (false≢true h)
remove_alone id (Asked i opening) h = absurd (false≢true h)
remove_alone id (Unasked ids) h = absurd (false≢true h)
remove_alone id (Heard (Change NoChange ids token time)) h = absurd (false≢true h)
remove_alone id (Heard (Change Add ids token time)) h = absurd (false≢true h)
remove_alone id (Heard (Change Remove ids token time)) h = refl
remove_alone id (Heard (Change Current ids token time)) h = absurd (false≢true h)
remove_alone id (Heard (Change Reset ids token time)) h = absurd (false≢true h)
remove_alone id (Heard (Sends key fields update puts takes)) h = absurd (false≢true h)
remove_alone id (Heard (Deletes key time takes)) h = absurd (false≢true h)
remove_alone id (Heard (Removes key takes)) h = absurd (false≢true h)
remove_alone id (Heard (Filter of count)) h = absurd (false≢true h)

-- open incarnations
open_asks : (b : Bool) (n : ℕ) → cond b (suc n) n ≡ open_by (cond b Asks Passes) n
open_asks true n = refl
open_asks false n = refl

open_unasks : (b : Bool) (n : ℕ) → n ≡ open_by (cond b Unasks Passes) n
open_unasks true n = refl
open_unasks false n = refl

open_hears : (add remove : Bool) (n : ℕ) → cond remove (pred n) n ≡ open_by (message_role add remove) n
open_hears add true n = refl
open_hears true false n = refl
open_hears false false n = refl

pub open_is : (id : Id) (e : Event) (past : List Event) → open_count id (e ∷ past) ≡ open_by (role id e) (open_count id past)
open_is id Cut past = refl
open_is id (Asked i opening) past = open_asks (int_eq i id) (open_count id past)
open_is id (Unasked ids) past = open_unasks (ids id) (open_count id past)
open_is id (Heard m) past = open_hears (changes is_add id (Heard m)) (changes is_remove id (Heard m)) (open_count id past)

-- what is asked
asked_asks : (b : Bool) (n : ℕ) (asked : Bool) → (b || asked) ≡ asked_by (cond b Asks Passes) n asked
asked_asks true n asked = refl
asked_asks false n asked = refl

asked_unasks : (b : Bool) (n : ℕ) (asked : Bool) → (not b && asked) ≡ asked_by (cond b Unasks Passes) n asked
asked_unasks true n asked = refl
asked_unasks false n asked = refl

unless : (b asked : Bool) → (asked && not b) ≡ cond b false asked
unless true true = refl
unless true false = refl
unless false true = refl
unless false false = refl

asked_hears : (add remove : Bool) (n : ℕ) (asked : Bool) → (asked && not (remove && (n == 1))) ≡ asked_by (message_role add remove) n asked
asked_hears add true n asked = unless (n == 1) asked
asked_hears true false n asked = unless false asked
asked_hears false false n asked = unless false asked

pub asked_is : (id : Id) (e : Event) (past : List Event) → is_asked id (e ∷ past) ≡ asked_by (role id e) (open_count id past) (is_asked id past)
asked_is id Cut past = refl
asked_is id (Asked i opening) past = asked_asks (int_eq i id) (open_count id past) (is_asked id past)
asked_is id (Unasked ids) past = asked_unasks (ids id) (open_count id past) (is_asked id past)
asked_is id (Heard m) past = asked_hears (changes is_add id (Heard m)) (changes is_remove id (Heard m)) (open_count id past) (is_asked id past)

-- an id that counts is asked, and has one open incarnation
pub counts_live : (id : Id) (past : List Event) → counts id past ≡ true → (is_asked id past ≡ true) × ((open_count id past == 1) ≡ true)
counts_live id [] h = absurd (false≢true h)
counts_live id (e ∷ past) h =
    let p = and_parts (is_live id (e ∷ past)) (counts id past || changes is_add id e) h in
    and_parts (is_asked id (e ∷ past)) (open_count id (e ∷ past) == 1) p.0

-- what counts
ne : (a b : ℕ) → (a ≡ b → ⊥) → (a == b) ≡ false
ne a b apart = false_from_ne_true (a == b) (λ yes. apart (eqb-true a b yes))

and_false : (x : Bool) → (x && false) ≡ false
and_false true = refl
and_false false = refl

IsLive : (asked one counting : Bool) → Type 0
IsLive asked one counting = counting ≡ true → (asked ≡ true) × (one ≡ true)

passes : (asked one counting : Bool) → IsLive asked one counting → ((asked && one) && (counting || false)) ≡ counting
unfolding IsLive
passes asked one false live = and_false (asked && one)
passes true true true live = refl
passes true false true live = absurd (false≢true (live refl).1)
passes false one true live = absurd (false≢true (live refl).0)

adds : (asked one counting : Bool) → ((asked && one) && (counting || true)) ≡ (asked && one)
adds true true true = refl
adds true true false = refl
adds true false counting = refl
adds false one counting = refl

-- after another request or an end it isn't the one that is open
stops : (x : Bool) (before after : ℕ) (asked counting : Bool) → IsLive asked (before == 1) counting → (before ≡ 1 → after ≡ 1 → ⊥) → ((x && (after == 1)) && (counting || false)) ≡ false
unfolding IsLive
stops x before after asked false live apart = and_false (x && (after == 1))
stops x before after asked true live apart =
    let one : before ≡ 1 = eqb-true before 1 (live refl).1 in
    rw (ne after 1 (apart one)) (by x)
  where
    by : (y : Bool) → ((y && false) && true) ≡ false
    by true = refl
    by false = refl

counts_asks : (b asked counting : Bool) (n : ℕ) → IsLive asked (n == 1) counting
    → (((b || asked) && (cond b (suc n) n == 1)) && (counting || false)) ≡ counts_by (cond b Asks Passes) (asked && (n == 1)) counting
counts_asks true asked counting n live = stops true n (suc n) asked counting live (λ one other. absurd (omega (arith, one, other)))
counts_asks false asked counting n live = passes asked (n == 1) counting live

counts_unasks : (b asked counting : Bool) (n : ℕ) → IsLive asked (n == 1) counting
    → (((not b && asked) && (n == 1)) && (counting || false)) ≡ counts_by (cond b Unasks Passes) (asked && (n == 1)) counting
counts_unasks true asked counting n live = refl
counts_unasks false asked counting n live = passes asked (n == 1) counting live

and_true : (x : Bool) → (x && true) ≡ x
and_true true = refl
and_true false = refl

counts_hears : (add remove asked counting : Bool) (n : ℕ) → (add ≡ true → remove ≡ false) → IsLive asked (n == 1) counting
    → (((asked && not (remove && (n == 1))) && (cond remove (pred n) n == 1)) && (counting || add)) ≡ counts_by (message_role add remove) (asked && (n == 1)) counting
counts_hears true true asked counting n alone live = absurd (true≢false (alone refl))
counts_hears false true asked counting n alone live = stops (asked && not (n == 1)) n (pred n) asked counting live (λ one other. absurd (omega (arith, one, other)))
counts_hears true false asked counting n alone live = ap (λ (x : Bool). (x && (n == 1)) && (counting || true)) (and_true asked) ∙ adds asked (n == 1) counting
counts_hears false false asked counting n alone live = ap (λ (x : Bool). (x && (n == 1)) && (counting || false)) (and_true asked) ∙ passes asked (n == 1) counting live

pub counts_is : (id : Id) (e : Event) (past : List Event) → counts id (e ∷ past) ≡ counts_by (role id e) (is_live id past) (counts id past)
unfolding IsLive
counts_is id Cut past = refl
counts_is id (Asked i opening) past = counts_asks (int_eq i id) (is_asked id past) (counts id past) (open_count id past) (counts_live id past)
counts_is id (Unasked ids) past = counts_unasks (ids id) (is_asked id past) (counts id past) (open_count id past) (counts_live id past)
counts_is id (Heard m) past =
    counts_hears (changes is_add id (Heard m)) (changes is_remove id (Heard m)) (is_asked id past) (counts id past) (open_count id past)
    (λ add. (add_alone id (Heard m) add).0) (counts_live id past)

-- the newest request
request_asks : (b : Bool) (opening : Request) (before : Option Request) → cond b (Some opening) before ≡ request_by (cond b Asks Passes) (Some opening) before
request_asks true opening before = refl
request_asks false opening before = refl

request_unasks : (b : Bool) (before : Option Request) → before ≡ request_by (cond b Unasks Passes) None before
request_unasks true before = refl
request_unasks false before = refl

request_hears : (add remove : Bool) (before : Option Request) → before ≡ request_by (message_role add remove) None before
request_hears add true before = refl
request_hears true false before = refl
request_hears false false before = refl

pub request_is : (id : Id) (e : Event) (past : List Event) → request id (e ∷ past) ≡ request_by (role id e) (request_of e) (request id past)
request_is id Cut past = refl
request_is id (Asked i opening) past = request_asks (int_eq i id) opening (request id past)
request_is id (Unasked ids) past = request_unasks (ids id) (request id past)
request_is id (Heard m) past = request_hears (changes is_add id (Heard m)) (changes is_remove id (Heard m)) (request id past)

-- starts
start_asks : (b counting : Bool) → None ≡ start_by (cond b Asks Passes) counting false
start_asks true counting = refl
start_asks false counting = refl

start_unasks : (b counting : Bool) → None ≡ start_by (cond b Unasks Passes) counting false
start_unasks true counting = refl
start_unasks false counting = refl

start_hears : (add remove reset counting : Bool) → (add ≡ true → (remove ≡ false) × (reset ≡ false)) → (remove ≡ true → reset ≡ false)
    → cond (add && not counting) (Some Silent) (cond reset (Some Out) None) ≡ start_by (message_role add remove) counting reset
start_hears true true reset counting alone gone = absurd (true≢false (alone refl).0)
start_hears true false true counting alone gone = absurd (true≢false (alone refl).1)
start_hears true false false true alone gone = refl
start_hears true false false false alone gone = refl
start_hears false true true counting alone gone = absurd (true≢false (gone refl))
start_hears false true false counting alone gone = refl
start_hears false false reset counting alone gone = refl

pub start_is : (id : Id) (e : Event) (past : List Event) → start id e past ≡ start_by (role id e) (counts id past) (changes is_reset id e)
start_is id Cut past = refl
start_is id (Asked i opening) past = start_asks (int_eq i id) (counts id past)
start_is id (Unasked ids) past = start_unasks (ids id) (counts id past)
start_is id (Heard m) past =
    start_hears (changes is_add id (Heard m)) (changes is_remove id (Heard m)) (changes is_reset id (Heard m)) (counts id past)
    (add_alone id (Heard m)) (remove_alone id (Heard m))
