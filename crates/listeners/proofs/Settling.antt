-- views of which nothing more is to be told
use Rattle.std.proofs.Common.{◌≡◌, ◌∙◌, inl, inr, ◌↔◌, ℕ, ◌<◌, Bool, true, false, List, ◌∷◌, length, get_or, suc, Option, Some, None, IfSome, refl, sym, ap, subst, arith}
use Rattle.std.specs.FinMap as map
use Rattle.std.specs.List.{All, Contains}
use Rattle.std.specs.Option.{IsSome, option_map}
use Rattle.std.proofs.lemmas.List.Elements.{Contains-get_or}
use Rattle.std.proofs.lemmas.List.{get_or-map, length-map}
use Rattle.document_keys.specs.Names.{Root}
use Rattle.queries.specs.Answer.{ComeBefore, Finds, IsAnswer, KeyBefore, limit_of}
use Rattle.queries.specs.declared.target.Target.{Target}
use Rattle.queries.specs.declared.target.Target.TheVariants.{Document, Collection}
use Rattle.queries.specs.Matching.{Matches}
use Rattle.value_model.specs.Data.{Entries}
use Rattle.value_model.specs.Documents.{DocumentMap}
use Rattle.views.proofs.Refreshing.{is_over}
use Rattle.views.specs.declared.raised.Raised.{Raised}
use Rattle.views.specs.declared.standing.Standing.{Standing}
use Rattle.views.specs.declared.view.Refresh.{Refresh}
use Rattle.views.specs.Limbo.{IsInLimbo}
use Rattle.views.specs.Picks.{Picks}
use Rattle.views.specs.Picks.Picks.{none, takes, leaves}
use Rattle.views.specs.Printed.{printed}
use Rattle.views.specs.Refresh.{IsOver, Raises, Refreshes, Shows}
use Rattle.views.specs.Row.{IsPrinted, Prints, Row, keys_of}
use Rattle.views.specs.Viewed.{Viewed}
use Rattle.listeners.specs.Concerns.{Concerns}
use Rattle.listeners.specs.Laws.{IsSettled, RaisedStaysSettled, RefreshSettles, SettledStays, SettledStaysTouched}

-- what shows the answer and the flag isn't raised again
shown_again : (documents : DocumentMap) (answer : List (List (List ℕ))) (from_cache may_start : Bool) (shown : Raised)
    → Shows documents answer from_cache shown → Raises documents answer from_cache may_start (Some shown) → ⊥
shown_again documents answer from_cache may_start shown shows (inl other) = other (sym shows.flag)
shown_again documents answer from_cache may_start shown shows (inr unprinted) = unprinted shows.rows

module _ (root : Root) (documents : DocumentMap) (touched : List (List (List ℕ))) (standing : Standing) (may_start : Bool) (old new : Viewed) (refresh : Refresh)
    (done : Refreshes root documents touched standing may_start old new refresh) where
  -- a refresh of the view after it has nothing to raise
  nothing_after : (last : Option Raised) → new.raised ≡ last → IfSome last (Shows documents done.answer done.from_cache) → Raises documents done.answer done.from_cache may_start last → ⊥
  nothing_after (Some shown) is shows raises = shown_again documents done.answer done.from_cache may_start shown shows raises
  nothing_after None is shows raises = by refresh.raised refl
    where
      by : (b : Bool) → refresh.raised ≡ b → ⊥
      by true e = let now = (done.raised e).is in cc
      by false e = done.unwanted e (subst (Raises documents done.answer done.from_cache may_start) (sym is ∙ done.kept e) raises)

  settles : IsSettled root documents touched standing may_start new
  settles = record {
    refresh = record { raised = false; limbo = refresh.limbo };
    refreshes = record {
      answer = done.answer;
      from_cache = done.from_cache;
      is_answer = subst (λ (t : Target). IsAnswer t root documents done.answer) (sym done.target) done.is_answer;
      limbo = done.limbo;
      flag = done.flag;
      wanted = λ never. cc;
      unwanted = λ _. nothing_after new.raised refl done.shows;
      target = refl;
      raised = λ never. cc;
      kept = λ _. refl;
      shows = done.shows;
    };
    silent = refl;
  }

pub refresh_settles : RefreshSettles
refresh_settles = settles

-- ---- where the documents that the target concerns stay

-- what matches is concerned
concerned : (target : Target) (root : Root) (key : List (List ℕ)) (fields : Entries) → Matches target root key fields → Concerns target key
concerned (Document wanted) root key fields matches = matches
concerned (Collection target) root key fields matches = matches.inside

module _ {X : Type 0} where
  -- a member of the rest is one
  later : (x : X) (xs : List X) (z : X) → Contains xs z → Contains (x ∷ xs) z
  later x xs z (k, inside, is) = (suc k, omega (arith, inside), is)

  -- the same is picked by what holds of the same
  pub picked_alike : {P Q : X → Type 0} (xs ys : List X) → ((x : X) → P x ↔ Q x) → Picks P xs ys → Picks Q xs ys
  picked_alike _ _ alike none = none
  picked_alike _ _ alike (takes x xs ys is rest) = takes x xs ys ((alike x).0 is) (picked_alike xs ys alike rest)
  picked_alike _ _ alike (leaves x xs ys never rest) = leaves x xs ys (λ is. never ((alike x).1 is)) (picked_alike xs ys alike rest)

  -- the same is picked by what holds of the same members
  pub picked_among : {P Q : X → Type 0} (xs ys : List X) → ((x : X) → Contains xs x → P x ↔ Q x) → Picks P xs ys → Picks Q xs ys
  picked_among _ _ alike none = none
  picked_among _ _ alike (takes x xs ys is rest) = takes x xs ys ((alike x (Contains-get_or (x ∷ xs) 0 x (omega arith))).0 is) (picked_among xs ys (λ z there. alike z (later x xs z there)) rest)
  picked_among _ _ alike (leaves x xs ys never rest) = leaves x xs ys (λ is. never ((alike x (Contains-get_or (x ∷ xs) 0 x (omega arith))).1 is)) (picked_among xs ys (λ z there. alike z (later x xs z there)) rest)

  all_of : (P : X → Type 0) (xs : List X) → ((x : X) → Contains xs x → P x) → All P xs
  all_of P xs each_is k d inside = each_is (get_or xs k d) (Contains-get_or xs k d inside)

module _ (target : Target) (root : Root) (before after : DocumentMap) (same : (key : List (List ℕ)) → Concerns target key → map.get after key ≡ map.get before key) where
  -- the same documents are found
  found_still : (key : List (List ℕ)) → Finds target root before key → Finds target root after key
  found_still key found = record {
    stored = found.stored;
    there = same key (concerned target root key found.stored.fields found.matches) ∙ found.there;
    matches = found.matches;
  }

  found_before : (key : List (List ℕ)) → Finds target root after key → Finds target root before key
  found_before key found = record {
    stored = found.stored;
    there = sym (same key (concerned target root key found.stored.fields found.matches)) ∙ found.there;
    matches = found.matches;
  }

  at_found : (key : List (List ℕ)) → Finds target root before key → map.get after key ≡ map.get before key
  at_found key found = same key (concerned target root key found.stored.fields found.matches)

  -- and stand in the same order
  before_still : (key other : List (List ℕ)) → Finds target root before key → Finds target root before other
      → KeyBefore target root before key other → KeyBefore target root after key other
  before_still key other one two ahead = record {
    stored = ahead.stored;
    others = ahead.others;
    there = at_found key one ∙ ahead.there;
    other_there = at_found other two ∙ ahead.other_there;
    before = ahead.before;
  }

  before_then : (key other : List (List ℕ)) → Finds target root before key → Finds target root before other
      → KeyBefore target root after key other → KeyBefore target root before key other
  before_then key other one two ahead = record {
    stored = ahead.stored;
    others = ahead.others;
    there = sym (at_found key one) ∙ ahead.there;
    other_there = sym (at_found other two) ∙ ahead.other_there;
    before = ahead.before;
  }

  -- as many come before as did
  come_still : (earlier : List (List (List ℕ))) (key : List (List ℕ)) → Finds target root before key → ComeBefore target root before earlier key → ComeBefore target root after earlier key
  come_still earlier key found come = record {
    distinct = come.distinct;
    found = λ k d inside. found_still (get_or earlier k d) (come.found k d inside);
    before = λ k d inside. before_still (get_or earlier k d) key (come.found k d inside) found (come.before k d inside);
  }

  come_then : (earlier : List (List (List ℕ))) (key : List (List ℕ)) → Finds target root before key → ComeBefore target root after earlier key → ComeBefore target root before earlier key
  come_then earlier key found come = record {
    distinct = come.distinct;
    found = λ k d inside. found_before (get_or earlier k d) (come.found k d inside);
    before = λ k d inside. before_then (get_or earlier k d) key (found_before (get_or earlier k d) (come.found k d inside)) found (come.before k d inside);
  }

  within_still : (limit : Option ℕ) (key : List (List ℕ)) → Finds target root before key
      → IfSome limit (λ n. (earlier : List (List (List ℕ))) → ComeBefore target root before earlier key → length earlier < n)
      → IfSome limit (λ n. (earlier : List (List (List ℕ))) → ComeBefore target root after earlier key → length earlier < n)
  within_still None key found within = tt
  within_still (Some n) key found within = λ earlier come. within earlier (come_then earlier key found come)

  within_then : (limit : Option ℕ) (key : List (List ℕ)) → Finds target root before key
      → IfSome limit (λ n. (earlier : List (List (List ℕ))) → ComeBefore target root after earlier key → length earlier < n)
      → IfSome limit (λ n. (earlier : List (List (List ℕ))) → ComeBefore target root before earlier key → length earlier < n)
  within_then None key found within = tt
  within_then (Some n) key found within = λ earlier come. within earlier (come_still earlier key found come)

  module _ (keys : List (List (List ℕ))) (answer : IsAnswer target root before keys) where
    answer_found : (key : List (List ℕ)) → Contains keys key → Finds target root before key
    answer_found key there = ((answer.members key).0 there).0

    -- the answer stays
    pub answer_still : IsAnswer target root after keys
    answer_still = record {
      ordered = λ i j d ahead inside. before_still (get_or keys i d) (get_or keys j d)
          (answer_found (get_or keys i d) (Contains-get_or keys i d (omega arith)))
          (answer_found (get_or keys j d) (Contains-get_or keys j d inside))
          (answer.ordered i j d ahead inside);
      members = λ key. (
        λ there. (found_still key (answer_found key there), within_still (limit_of target) key (answer_found key there) ((answer.members key).0 there).1),
        λ both. (answer.members key).1 (found_before key both.0, within_then (limit_of target) key (found_before key both.0) both.1),
      );
    }

    -- the rows of the answer are printed as before
    printed_still : (row : Row) → Contains keys row.key → IsPrinted before row → IsPrinted after row
    printed_still row there is = ap (option_map printed) (at_found row.key (answer_found row.key there)) ∙ is

    printed_then : (row : Row) → Contains keys row.key → IsPrinted after row → IsPrinted before row
    printed_then row there is = ap (option_map printed) (sym (at_found row.key (answer_found row.key there))) ∙ is

    row_key : (rows : List Row) → keys_of rows ≡ keys → (k : ℕ) (d : Row) → k < length rows → Contains keys (get_or rows k d).key
    row_key rows is k d inside =
        subst (λ ks. Contains ks (get_or rows k d).key) is
        (subst (Contains (keys_of rows)) (get_or-map (λ (r : Row). r.key) rows k d d.key inside) (Contains-get_or (keys_of rows) k d.key (omega (arith, length-map rows (λ (r : Row). r.key)))))

    pub rows_still : (rows : List Row) → Prints before keys rows → Prints after keys rows
    rows_still rows prints = record {
      keys = prints.keys;
      each_printed = λ k d inside. printed_still (get_or rows k d) (row_key rows prints.keys k d inside) (prints.each_printed k d inside);
    }

    pub rows_then : (rows : List Row) → Prints after keys rows → Prints before keys rows
    rows_then rows prints = record {
      keys = prints.keys;
      each_printed = λ k d inside. printed_then (get_or rows k d) (row_key rows prints.keys k d inside) (prints.each_printed k d inside);
    }

    shows_still : (from_cache : Bool) (last : Option Raised) → IfSome last (Shows before keys from_cache) → IfSome last (Shows after keys from_cache)
    shows_still from_cache None shows = tt
    shows_still from_cache (Some shown) shows = record { rows = rows_still shown.rows shows.rows; flag = shows.flag }

    raises_then : (from_cache may_start : Bool) (last : Option Raised) → Raises after keys from_cache may_start last → Raises before keys from_cache may_start last
    raises_then from_cache may_start None raises = raises
    raises_then from_cache may_start (Some shown) (inl other) = inl other
    raises_then from_cache may_start (Some shown) (inr unprinted) = inr (λ prints. unprinted (rows_still shown.rows prints))

-- nothing is in limbo where the target isn't current
alike_in_limbo : (standing : Standing) (touched others : List (List (List ℕ))) → standing.current ≡ false → (key : List (List ℕ)) → IsInLimbo standing touched key ↔ IsInLimbo standing others key
alike_in_limbo standing touched others never key = (λ is. let yes = is.current in cc, λ is. let yes = is.current in cc)

pub settled_stays : SettledStays
settled_stays root before after touched touched_after standing may_start view never settled same =
    let was = settled.refreshes in
    record {
      refresh = settled.refresh;
      refreshes = record {
        answer = was.answer;
        from_cache = was.from_cache;
        is_answer = answer_still view.target root before after same was.answer was.is_answer;
        limbo = picked_alike was.answer settled.refresh.limbo.items (alike_in_limbo standing touched touched_after never) was.limbo;
        flag = was.flag;
        wanted = λ yes. let no = settled.silent in cc;
        unwanted = λ no raises. was.unwanted no (raises_then view.target root before after same was.answer was.is_answer was.from_cache may_start view.raised raises);
        target = refl;
        raised = λ yes. let no = settled.silent in cc;
        kept = λ _. refl;
        shows = shows_still view.target root before after same was.answer was.is_answer was.from_cache view.raised was.shows;
      };
      silent = settled.silent;
    }

-- the same are in limbo where the same are touched
alike_touched : (standing : Standing) (touched others : List (List (List ℕ))) (key : List (List ℕ)) → Contains others key ↔ Contains touched key → IsInLimbo standing touched key ↔ IsInLimbo standing others key
alike_touched standing touched others key same = (
  λ is. record { current = is.current; not_told = is.not_told; not_touched = λ there. is.not_touched (same.0 there) },
  λ is. record { current = is.current; not_told = is.not_told; not_touched = λ there. is.not_touched (same.1 there) },
)

pub settled_stays_touched : SettledStaysTouched
settled_stays_touched root before after touched touched_after standing may_start view settled same touches =
    let was = settled.refreshes in
    let concerns = λ (key : List (List ℕ)) (there : Contains was.answer key).
    let found = answer_found view.target root before after same was.answer was.is_answer key there in
    concerned view.target root key found.stored.fields found.matches in
    record {
      refresh = settled.refresh;
      refreshes = record {
        answer = was.answer;
        from_cache = was.from_cache;
        is_answer = answer_still view.target root before after same was.answer was.is_answer;
        limbo = picked_among was.answer settled.refresh.limbo.items (λ key there. alike_touched standing touched touched_after key (touches key (concerns key there))) was.limbo;
        flag = was.flag;
        wanted = λ yes. let no = settled.silent in cc;
        unwanted = λ no raises. was.unwanted no (raises_then view.target root before after same was.answer was.is_answer was.from_cache may_start view.raised raises);
        target = refl;
        raised = λ yes. let no = settled.silent in cc;
        kept = λ _. refl;
        shows = shows_still view.target root before after same was.answer was.is_answer was.from_cache view.raised was.shows;
      };
      silent = settled.silent;
    }

-- a view that has raised a snapshot raises the next whether it may start or not
raises_other : (documents : DocumentMap) (answer : List (List (List ℕ))) (from_cache may_start other : Bool) (last : Option Raised) → IsSome last
    → Raises documents answer from_cache other last → Raises documents answer from_cache may_start last
raises_other documents answer from_cache may_start other None never raises = cc
raises_other documents answer from_cache may_start other (Some shown) there raises = raises

pub raised_stays_settled : RaisedStaysSettled
raised_stays_settled root documents touched standing may_start other view there settled =
    let was = settled.refreshes in
    record {
      refresh = settled.refresh;
      refreshes = record {
        answer = was.answer;
        from_cache = was.from_cache;
        is_answer = was.is_answer;
        limbo = was.limbo;
        flag = was.flag;
        wanted = λ yes. let no = settled.silent in cc;
        unwanted = λ no raises. was.unwanted no (raises_other documents was.answer was.from_cache may_start other view.raised there raises);
        target = refl;
        raised = λ yes. let no = settled.silent in cc;
        kept = λ _. refl;
        shows = was.shows;
      };
      silent = settled.silent;
    }

-- the last snapshot of a settled view is over the documents
pub settled_over : (root : Root) (documents : DocumentMap) (touched : List (List (List ℕ))) (standing : Standing) (may_start : Bool) (view : Viewed) → IsSettled root documents touched standing may_start view → IsOver view documents
settled_over root documents touched standing may_start view settled = is_over documents settled.refreshes.answer settled.refreshes.from_cache view.raised settled.refreshes.shows
