-- what a request makes of what is kept of one id
use Rattle.std.proofs.Common.{◌≡◌, ◌≢◌, ℕ, ◌+◌, ℤ, true, false, Option, None, List, ◌∷◌, refl, ap}
use Rattle.std.proofs.lemmas.Bool.{false≢true}
use Rattle.watch_aggregator.specs.declared.watched.Watched.{Watched}
use Rattle.listen_protocol.specs.Calls.{Key, Calls, asked, unasked}
use Rattle.listen_protocol.specs.Transcript.{open_count}
use Rattle.listen_protocol.proofs.Ids.{other_id, same_id}
use Rattle.watch_aggregator.specs.Standing.{IsWatched}

module _ {tokens : List (List ℕ)} {t : ℤ} {h : Calls} {w : Watched} (is : IsWatched tokens t h w) where
  pub other_asked : (id : ℤ) (keys : List Key) (document : Option Key) → t ≢ id → IsWatched tokens t (asked id keys document ∷ h) w
  other_asked id keys document apart = let e = other_id t id apart in record {
    settled = is.settled;
    count = rw e is.count;
    wants = rw e is.wants;
    counting = rw e is.counting;
    document = rw e is.document;
    waits = rw e is.waits;
    told = rw e is.told;
    current = rw e is.current;
    token = rw e is.token;
  }

  pub other_unasked : (id : ℤ) → t ≢ id → IsWatched tokens t (unasked id ∷ h) w
  other_unasked id apart = let e = other_id t id apart in record {
    settled = is.settled;
    count = is.count;
    wants = rw e is.wants;
    counting = rw e is.counting;
    document = is.document;
    waits = rw e is.waits;
    told = rw e is.told;
    current = rw e is.current;
    token = rw e is.token;
  }

  pub same_asked : (keys : List Key) (document : Option Key) → IsWatched tokens t (asked t keys document ∷ h) (record w { opened = w.opened + 1; wanted = true; counts = false; document = document; told = keys })
  same_asked keys document = let e = same_id t in record {
    settled = is.settled;
    count = rw e (ap (λ n. n + 1) is.count);
    wants = rw e refl;
    counting = rw e refl;
    document = rw e refl;
    waits = rw e (λ a c. refl);
    told = rw e (λ c. absurd (false≢true c));
    current = rw e (λ c. absurd (false≢true c));
    token = rw e (λ c. absurd (false≢true c));
  }

  pub same_unasked : IsWatched tokens t (unasked t ∷ h) (record w { wanted = false; counts = false })
  same_unasked = let e = same_id t in record {
    settled = is.settled;
    count = is.count;
    wants = rw e refl;
    counting = rw e refl;
    document = is.document;
    waits = rw e (λ a c. absurd (false≢true a));
    told = rw e (λ c. absurd (false≢true c));
    current = rw e (λ c. absurd (false≢true c));
    token = rw e (λ c. absurd (false≢true c));
  }

pub first_asked : (tokens : List (List ℕ)) (t : ℤ) (h : Calls) (keys : List Key) (document : Option Key) → open_count t h ≡ 0 → IsWatched tokens t (asked t keys document ∷ h) (record { id = t; opened = 1; wanted = true; counts = false; document = document; told = keys; current = false; token = None; fresh = false })
first_asked tokens t h keys document none = let e = same_id t in record {
  settled = refl;
  count = rw (e, none) refl;
  wants = rw e refl;
  counting = rw e refl;
  document = rw e refl;
  waits = rw e (λ a c. refl);
  told = rw e (λ c. absurd (false≢true c));
  current = rw e (λ c. absurd (false≢true c));
  token = rw e (λ c. absurd (false≢true c));
}
