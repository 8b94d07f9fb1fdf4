-- the documents that targets lack
use Rattle.std.proofs.Common.{◌≡◌, ◌∙◌, ◌↔◌, inl, inr, Bool, true, false, ◌&&◌, ◌||◌, cond, IsTrue, List, [], ◌∷◌, Option, Some, None, refl, sym, ap, subst}
use Rattle.std.specs.List.{Contains, list_any}
use Rattle.std.proofs.lemmas.Option.{same_Some}
use Rattle.document_keys.specs.KeySet.{is_key}
use Rattle.document_keys.proofs.Exact.{key_is, key_same}
use Rattle.acknowledgements.proofs.Times.{contains_cases, contains_here, contains_none, contains_there}
use Rattle.value_model.specs.declared.document.Entry.{Entry}
use Rattle.value_model.specs.declared.document.Entry.TheVariants.{Missing}
use Rattle.value_model.specs.declared.timestamp.Timestamp.{Timestamp}
use Rattle.watch_aggregator.specs.declared.point.WatchTarget.{WatchTarget}
use Rattle.listen_protocol.specs.Calls.{Key}
use Rattle.durable_state.specs.Documents.{is_among}
use Rattle.durable_state.specs.State.{State}
use Rattle.durable_state.proofs.Laid.{among_in, in_among, not_so, or_true}
use Rattle.watch_points.specs.Steps.{lacked, missed_for, missed_of, missed_over, misses, untold}

false_true : false ≡ true → ⊥
false_true e = cc

-- ---- the document of one target

-- whether a key is among the told ones
pub told_is : (told : List Key) (key : Key) (test : Bool) → IsTrue test ↔ Contains told key → is_among told key ≡ test
told_is told key true says = in_among key told (says.0 refl)
told_is told key false says = not_so (is_among told key) (λ so. let never = says.1 (among_in key told so) in cc)

pub is_untold : (told : List Key) (key : Key) (test : Bool) → is_among told key ≡ test → cond test None (Some key) ≡ untold told (Some key)
is_untold told key test is = sym (ap (λ b. cond b None (Some key)) is)

-- a lacked document is that of a target that is CURRENT, and wasn't told
pub record Lacks (target : WatchTarget) (key : Key) : Type 0 where
  pub current : target.current ≡ true
  pub document : target.document ≡ Some key
  pub untold : ¬ (Contains target.told key)

pub lacked_so : (target : WatchTarget) (key : Key) → lacked target ≡ Some key → Lacks target key
lacked_so target key is = by target.current refl target.document refl is
  where
    told_by : (d : Key) (b : Bool) → is_among target.told d ≡ b → target.current ≡ true → target.document ≡ Some d → cond b None (Some d) ≡ Some key → Lacks target key
    told_by d true told current of_it found = cc
    told_by d false told current of_it found =
        let same = same_Some d key found in
        record {
          current = current;
          document = of_it ∙ ap Some same;
          untold = λ has. false_true (sym told ∙ in_among d target.told (subst (Contains target.told) (sym same) has));
        }

    by : (c : Bool) → target.current ≡ c → (o : Option Key) → target.document ≡ o → cond c (untold target.told o) None ≡ Some key → Lacks target key
    by false current o of_it found = cc
    by true current None of_it found = cc
    by true current (Some d) of_it found = told_by d (is_among target.told d) refl current of_it found

pub so_lacked : (target : WatchTarget) (key : Key) → Lacks target key → lacked target ≡ Some key
so_lacked target key lacks =
    (λ i. cond (lacks.current i) (untold target.told (lacks.document i)) None)
    ∙ ap (λ b. cond b None (Some key)) (not_so (is_among target.told key) (λ so. lacks.untold (among_in key target.told so)))

-- ---- target by target

-- the key is the one that is lacked
abbrev pub is_lacked : Key → Option Key → Bool
is_lacked k None = false
is_lacked k (Some key) = is_key key k

-- a step leaves the table as it is, or puts that the document is missing
pub steps_none : (s : State) (at : Timestamp) (k : Key) (old : Option Entry) (target : WatchTarget) → None ≡ lacked target → old ≡ missed_over s at k old target
steps_none s at k old target none = ap (missed_for s at k old) none

pub steps_by : (s : State) (at : Timestamp) (key : Key) (target : WatchTarget) (was : Key → Option Entry) (now : Key → Option Entry) (b : Bool) → Some key ≡ lacked target → b ≡ misses s at key (was key)
    → ((k : Key) → now k ≡ cond b (cond (is_key key k) (Some (Missing at)) (was k)) (was k)) → (k : Key) → now k ≡ missed_over s at k (was k) target
steps_by s at key target was now b lacks is step k = step k ∙ go (is_key key k) refl ∙ ap (missed_for s at k (was k)) lacks
  where
    either : (c : Bool) → cond c (was k) (was k) ≡ was k
    either true = refl
    either false = refl

    go : (c : Bool) → is_key key k ≡ c → cond b (cond (is_key key k) (Some (Missing at)) (was k)) (was k) ≡ cond (is_key key k) (cond (misses s at k (was k)) (Some (Missing at)) (was k)) (was k)
    go true same =
        ap (λ d. cond b (cond d (Some (Missing at)) (was k)) (was k)) same
        ∙ ap (λ d. cond d (Some (Missing at)) (was k)) (is ∙ ap (λ q. misses s at q (was q)) (key_is key k same))
        ∙ sym (ap (λ d. cond d (cond (misses s at k (was k)) (Some (Missing at)) (was k)) (was k)) same)
    go false other =
        ap (λ d. cond b (cond d (Some (Missing at)) (was k)) (was k)) other
        ∙ either b
        ∙ sym (ap (λ d. cond d (cond (misses s at k (was k)) (Some (Missing at)) (was k)) (was k)) other)

-- ---- all targets

-- one of the targets lacks the key
abbrev pub are_lacking : List WatchTarget → Key → Bool
are_lacking targets k = list_any (λ target. is_lacked k (lacked target)) targets

no_more : (b : Bool) → (b && false) ≡ false
no_more true = refl
no_more false = refl

-- the key is missing where one of the targets lacks it and that is news
pub missed_is : (s : State) (at : Timestamp) (targets : List WatchTarget) (k : Key) (put : Option Entry) → missed_of s at targets k put ≡ cond (are_lacking targets k && misses s at k put) (Some (Missing at)) put
missed_is s at [] k put = refl
missed_is s at (target ∷ targets) k put =
    missed_is s at targets k (missed_over s at k put target) ∙ by (lacked target) refl
  where
    more : Bool
    more = are_lacking targets k

    after : Option Entry → Option Entry
    after got = cond (more && misses s at k got) (Some (Missing at)) got

    settled : (b : Bool) → misses s at k put ≡ b → after (cond b (Some (Missing at)) put) ≡ cond b (Some (Missing at)) put
    settled true is = ap (λ d. cond d (Some (Missing at)) (Some (Missing at))) (no_more more)
    settled false is = ap (λ d. cond d (Some (Missing at)) put) (ap (λ d. more && d) is ∙ no_more more)

    hit : (c : Bool) → after (cond c (cond (misses s at k put) (Some (Missing at)) put) put) ≡ cond ((c || more) && misses s at k put) (Some (Missing at)) put
    hit true = settled (misses s at k put) refl
    hit false = refl

    by : (o : Option Key) → lacked target ≡ o → after (missed_over s at k put target) ≡ cond ((is_lacked k (lacked target) || more) && misses s at k put) (Some (Missing at)) put
    by None is =
        ap (λ o. after (missed_for s at k put o)) is
        ∙ sym (ap (λ o. cond ((is_lacked k o || more) && misses s at k put) (Some (Missing at)) put) is)
    by (Some key) is =
        ap (λ o. after (missed_for s at k put o)) is ∙ hit (is_key key k)
        ∙ sym (ap (λ o. cond ((is_lacked k o || more) && misses s at k put) (Some (Missing at)) put) is)

-- one of the targets lacks the key exactly where the test says so
pub lacking_so : (targets : List WatchTarget) (k : Key) → are_lacking targets k ≡ true → (target : WatchTarget) × Contains targets target × (lacked target ≡ Some k)
lacking_so [] k so = absurd (false_true so)
lacking_so (target ∷ targets) k so = by (lacked target) refl so (lacking_so targets k)
  where
    later : (t : WatchTarget) × Contains targets t × (lacked t ≡ Some k) → (t : WatchTarget) × Contains (target ∷ targets) t × (lacked t ≡ Some k)
    later r = (r.0, contains_there target targets r.0 r.1, r.2)

    by : (o : Option Key) → lacked target ≡ o → (is_lacked k o || are_lacking targets k) ≡ true → (are_lacking targets k ≡ true → (t : WatchTarget) × Contains targets t × (lacked t ≡ Some k)) → (t : WatchTarget) × Contains (target ∷ targets) t × (lacked t ≡ Some k)
    by None is so' rest = later (rest so')
    by (Some key) is so' rest = key_by (is_key key k) refl so'
      where
        key_by : (b : Bool) → is_key key k ≡ b → (b || are_lacking targets k) ≡ true → (t : WatchTarget) × Contains (target ∷ targets) t × (lacked t ≡ Some k)
        key_by true same or = (target, contains_here target targets, is ∙ ap Some (key_is key k same))
        key_by false other or = later (rest or)

pub so_lacking : (targets : List WatchTarget) (k : Key) (target : WatchTarget) → Contains targets target → lacked target ≡ Some k → are_lacking targets k ≡ true
so_lacking [] k target has lacks = absurd (contains_none target has)
so_lacking (t ∷ ts) k target has lacks = elim (contains_cases t ts target has) [
  | inl e ↦ ap (λ b. b || are_lacking ts k) (ap (is_lacked k) (ap lacked e ∙ lacks) ∙ key_same k k refl)
  | inr later ↦ ap (λ b. is_lacked k (lacked t) || b) (so_lacking ts k target later lacks) ∙ or_true (is_lacked k (lacked t))
]
