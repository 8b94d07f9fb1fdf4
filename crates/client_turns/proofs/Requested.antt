-- the requests on the stream of listeners
use Rattle.std.proofs.Common.{◌≡◌, ◌↔◌, ◌⊎◌, ⊎_elim, inl, inr, ℕ, ℤ, ◌+◌, Bool, true, false, ◌&&◌, ◌||◌, ◌==◌, not, if◌then◌else◌, List, [], ◌∷◌, ◌++◌, map as each, Option, refl, sym, ap, subst, ◌∙◌, arith}
use Rattle.std.proofs.lemmas.Bool.{ne_eqb, true≢false}
use Rattle.std.proofs.lemmas.Bool.Decides.{Decides-int_eq}
use Rattle.std.specs.List.{AllZip, Contains, fold}
use Rattle.std.specs.Ordering.{int_eq}
use Rattle.listen_protocol.specs.Calls.{Calls, asked, unasked}
use Rattle.listen_protocol.specs.Transcript.{is_asked_in, is_wanted as is_wanted_in, open_count}
use Rattle.durable_state.specs.State.{State}
use Rattle.target_cache.specs.declared.row.Row.{Row}
use Rattle.watch_points.specs.SpelledCalls.{AreSpelledCalls}
use Rattle.limbo_resolver.specs.Limbo.{Limbo}
use Rattle.queries.specs.declared.target.Target.TheVariants.{Document as a_document}
use Rattle.target_cache.specs.Cache.{blank}
use Rattle.client_turns.specs.Asking.{IsAddLine, IsListenLine}
use Rattle.client_turns.specs.Lines.{Line, add, document, error, listening, rejected, remove, result, send, snapshot, unlistened, wrote}
use Rattle.write_pipeline.specs.Order.{Steps}
use Rattle.client_turns.specs.Past.{sent_in}
use Rattle.client_turns.specs.Watching.{unasked_all, held_keys, requested_by, requested_in, wanted_document}
use Rattle.client_turns.proofs.Wanted.{cons_cases, first_among, later_among}

-- ---- what is asked behind requests

asked_unasked : (t x : ℤ) (h : Calls) → (is_asked_in t (unasked x ∷ h) ≡ false) ↔ ((is_asked_in t h ≡ false) ⊎ (x ≡ t))
asked_unasked t x h = by (int_eq t x) refl (is_wanted_in t h) (not (open_count t h == 0))
  where
    by : (b : Bool) → int_eq t x ≡ b → (w o : Bool) → (((not b && w) && o) ≡ false) ↔ (((w && o) ≡ false) ⊎ (x ≡ t))
    by true same w o = (λ is. inr (sym ((Decides-int_eq t x).0 same)), λ it. refl)
    by false other w o = (λ is. inl is, λ it. ⊎_elim (λ is. is) (λ same. absurd (true≢false (sym ((Decides-int_eq t x).1 (sym same)) ∙ other))) it)

-- behind remove requests nothing is asked that wasn't, and none of these
pub asked_removed : (t : ℤ) (ids : List ℤ) (h : Calls) → (is_asked_in t (unasked_all ids h) ≡ false) ↔ ((is_asked_in t h ≡ false) ⊎ Contains ids t)
asked_removed t [] h = (inl, λ it. ⊎_elim (λ is. is) (λ there. absurd (omega (arith, there.1))) it)
asked_removed t (x ∷ ids) h = (down (asked_removed t ids (unasked x ∷ h)), up (asked_removed t ids (unasked x ∷ h)))
  where
    down : ((is_asked_in t (unasked_all ids (unasked x ∷ h)) ≡ false) ↔ ((is_asked_in t (unasked x ∷ h) ≡ false) ⊎ Contains ids t)) → is_asked_in t (unasked_all ids (unasked x ∷ h)) ≡ false → (is_asked_in t h ≡ false) ⊎ Contains (x ∷ ids) t
    down rest is = ⊎_elim
        (λ now. ⊎_elim inl (λ same. inr (subst (Contains (x ∷ ids)) same (first_among x ids))) ((asked_unasked t x h).0 now))
        (λ later. inr (later_among x t ids later))
        (rest.0 is)

    up : ((is_asked_in t (unasked_all ids (unasked x ∷ h)) ≡ false) ↔ ((is_asked_in t (unasked x ∷ h) ≡ false) ⊎ Contains ids t)) → (is_asked_in t h ≡ false) ⊎ Contains (x ∷ ids) t → is_asked_in t (unasked_all ids (unasked x ∷ h)) ≡ false
    up rest it = rest.1 (⊎_elim
        (λ was. inl ((asked_unasked t x h).1 (inl was)))
        (λ among. ⊎_elim (λ same. inl ((asked_unasked t x h).1 (inr same))) inr (cons_cases x t ids among))
        it)

-- the lines of remove requests are those requests
pub removes_requested : (ids : List ℤ) (h : Calls) → requested_in (each remove ids) h ≡ unasked_all ids h
removes_requested [] h = refl
removes_requested (x ∷ ids) h = removes_requested ids (unasked x ∷ h)

asked_asked : (t x : ℤ) (keys : List (List (List ℕ))) (whose : Option (List (List ℕ))) (h : Calls) → (is_asked_in t (asked x keys whose ∷ h) ≡ true) ↔ ((is_asked_in t h ≡ true) ⊎ (x ≡ t))
asked_asked t x keys whose h = by (int_eq t x) refl (is_wanted_in t h)
  where
    positive : (n : ℕ) → not ((n + 1) == 0) ≡ true
    positive n = ap not (ne_eqb (n + 1) 0 (λ same. absurd (omega (arith, same))))

    by : (b : Bool) → int_eq t x ≡ b → (w : Bool) → (((b || w) && not ((if b then open_count t h + 1 else open_count t h) == 0)) ≡ true) ↔ (((w && not (open_count t h == 0)) ≡ true) ⊎ (x ≡ t))
    by true same w = (λ is. inr (sym ((Decides-int_eq t x).0 same)), λ it. more (open_count t h))
      where
        more : (n : ℕ) → (true && not ((n + 1) == 0)) ≡ true
        more n = positive n
    by false other w = (λ is. inl is, λ it. ⊎_elim (λ is. is) (λ same. absurd (true≢false (sym ((Decides-int_eq t x).1 (sym same)) ∙ other))) it)

-- what holds of two lists and of two more, place by place, holds of them together
pub zip_append : {X Y : Type 0} (R : X → Y → Type 0) (xs : List X) (ys : List Y) (us : List X) (vs : List Y) → AllZip R xs ys → AllZip R us vs → AllZip R (xs ++ us) (ys ++ vs)
zip_append R [] [] us vs first second = second
zip_append R [] (y ∷ ys) us vs first second = absurd first
zip_append R (x ∷ xs) [] us vs first second = absurd first
zip_append R (x ∷ xs) (y ∷ ys) us vs first second = (first.0, zip_append R xs ys us vs first.1 second)

-- a line that is an add request of the target
abbrev pub IsAdd : ℤ → Line → Type 0
IsAdd t line = (row : Row) × (line ≡ add t row)

pub are_adds : (s : State) (ids : List ℤ) (lines : List Line) → AllZip (IsAddLine s) ids lines → AllZip IsAdd ids lines
are_adds s [] [] all = tt
are_adds s [] (line ∷ lines) all = absurd all
are_adds s (x ∷ ids) [] all = absurd all
are_adds s (x ∷ ids) (line ∷ lines) all = ((all.0.row, all.0.is), are_adds s ids lines all.1)

pub are_listens : (limbo : Limbo) (ids : List ℤ) (lines : List Line) → AllZip (IsListenLine limbo) ids lines → AllZip IsAdd ids lines
are_listens limbo [] [] all = tt
are_listens limbo [] (line ∷ lines) all = absurd all
are_listens limbo (x ∷ ids) [] all = absurd all
are_listens limbo (x ∷ ids) (line ∷ lines) all = ((blank (a_document all.0.key), all.0.is), are_listens limbo ids lines all.1)

-- the adds of wanted targets, and those of the listens of documents in limbo
pub all_adds : (s : State) (limbo : Limbo) (added listens : List ℤ) (lines listen_lines : List Line) → AllZip (IsAddLine s) added lines → AllZip (IsListenLine limbo) listens listen_lines → AllZip IsAdd (added ++ listens) (lines ++ listen_lines)
all_adds s limbo added listens lines listen_lines first second = zip_append IsAdd added lines listens listen_lines (are_adds s added lines first) (are_listens limbo listens listen_lines second)

-- behind add requests is asked what was, and these
pub asked_added : (t : ℤ) (ids : List ℤ) (lines : List Line) (h : Calls) → AllZip IsAdd ids lines → (is_asked_in t (requested_in lines h) ≡ true) ↔ ((is_asked_in t h ≡ true) ⊎ Contains ids t)
asked_added t [] [] h all = (inl, λ it. ⊎_elim (λ is. is) (λ there. absurd (omega (arith, there.1))) it)
asked_added t [] (line ∷ lines) h all = absurd all
asked_added t (x ∷ ids) [] h all = absurd all
asked_added t (x ∷ ids) (line ∷ lines) h all =
    subst (λ (l : Line). (is_asked_in t (requested_in (l ∷ lines) h) ≡ true) ↔ ((is_asked_in t h ≡ true) ⊎ Contains (x ∷ ids) t)) (sym all.0.1) (down (asked_added t ids lines one all.1), up (asked_added t ids lines one all.1))
  where
    one : Calls
    one = requested_by h (add x all.0.0)

    step : (is_asked_in t one ≡ true) ↔ ((is_asked_in t h ≡ true) ⊎ (x ≡ t))
    step = asked_asked t x (held_keys all.0.0.held) (wanted_document all.0.0.target) h

    down : ((is_asked_in t (requested_in lines one) ≡ true) ↔ ((is_asked_in t one ≡ true) ⊎ Contains ids t)) → is_asked_in t (requested_in lines one) ≡ true → (is_asked_in t h ≡ true) ⊎ Contains (x ∷ ids) t
    down rest is = ⊎_elim
        (λ now. ⊎_elim inl (λ same. inr (subst (Contains (x ∷ ids)) same (first_among x ids))) (step.0 now))
        (λ later. inr (later_among x t ids later))
        (rest.0 is)

    up : ((is_asked_in t (requested_in lines one) ≡ true) ↔ ((is_asked_in t one ≡ true) ⊎ Contains ids t)) → (is_asked_in t h ≡ true) ⊎ Contains (x ∷ ids) t → is_asked_in t (requested_in lines one) ≡ true
    up rest it = rest.1 (⊎_elim
        (λ was. inl (step.1 (inl was)))
        (λ among. ⊎_elim (λ same. inl (step.1 (inr same))) inr (cons_cases x t ids among))
        it)

-- ---- requests bring nothing

spelled_by : (h : Calls) (line : Line) → AreSpelledCalls h → AreSpelledCalls (requested_by h line)
spelled_by h (wrote b c) all = all
spelled_by h (listening i t c) all = all
spelled_by h (unlistened i c) all = all
spelled_by h (document k d w) all = all
spelled_by h (result b c t) all = all
spelled_by h (rejected b c t) all = all
spelled_by h (error i t) all = all
spelled_by h (snapshot c r t) all = all
spelled_by h (add t row) all = all
spelled_by h (remove t) all = all
spelled_by h (send r) all = all

pub spelled_requested : (lines : List Line) (h : Calls) → AreSpelledCalls h → AreSpelledCalls (requested_in lines h)
spelled_requested [] h all = all
spelled_requested (line ∷ lines) h all = spelled_requested lines (requested_by h line) (spelled_by h line all)

-- ---- lines that are requests

pub fold_removes : {B : Type 0} (f : B → Line → B) → ((b : B) (t : ℤ) → f b (remove t) ≡ b) → (ids : List ℤ) (b : B) → fold f b (each remove ids) ≡ b
fold_removes f plain [] b = refl
fold_removes f plain (x ∷ ids) b = ap (λ y. fold f y (each remove ids)) (plain b x) ∙ fold_removes f plain ids b

pub fold_adds : {B : Type 0} (f : B → Line → B) → ((b : B) (t : ℤ) (row : Row) → f b (add t row) ≡ b) → (ids : List ℤ) (lines : List Line) (b : B) → AllZip IsAdd ids lines → fold f b lines ≡ b
fold_adds f plain [] [] b all = refl
fold_adds f plain [] (line ∷ lines) b all = absurd all
fold_adds f plain (x ∷ ids) [] b all = absurd all
fold_adds f plain (x ∷ ids) (line ∷ lines) b all = ap (λ y. fold f y lines) (ap (f b) all.0.1 ∙ plain b x all.0.0) ∙ fold_adds f plain ids lines b all.1

-- ---- requests on the stream of listeners send no batch

pub removes_unsent : (ids : List ℤ) (g : Steps) → sent_in (each remove ids) g ≡ g
removes_unsent [] g = refl
removes_unsent (x ∷ ids) g = removes_unsent ids g

pub adds_unsent : (ids : List ℤ) (lines : List Line) (g : Steps) → AllZip IsAdd ids lines → sent_in lines g ≡ g
adds_unsent [] [] g all = refl
adds_unsent [] (line ∷ lines) g all = absurd all
adds_unsent (x ∷ ids) [] g all = absurd all
adds_unsent (x ∷ ids) (line ∷ lines) g all = ap (λ (l : Line). sent_in (l ∷ lines) g) all.0.1 ∙ adds_unsent ids lines g all.1
