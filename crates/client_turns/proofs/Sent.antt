-- batches that are sent, one after another
use Rattle.std.proofs.Common.{◌≡◌, ℕ, ◌+◌, suc, zero, List, [], ◌∷◌, map as each, length, refl, ap, ◌∙◌, arith}
use Rattle.mutations.specs.declared.batch.Batch.{Batch}
use Rattle.write_pipeline.specs.Order.{Steps, is_ready, latest_token, outstanding, sent}
use Rattle.client_turns.specs.Past.{sent_in}
use Rattle.client_turns.specs.Writing.{sent_times, is_open, request_of}

-- ---- what stays where batches are sent

pub sent_ready : (n : ℕ) (h : Steps) → is_ready (sent_times n h) ≡ is_ready h
sent_ready zero h = refl
sent_ready (suc n) h = sent_ready n h

pub sent_open : (n : ℕ) (h : Steps) → is_open (sent_times n h) ≡ is_open h
sent_open zero h = refl
sent_open (suc n) h = sent_open n h

pub sent_token : (n : ℕ) (h : Steps) → latest_token (sent_times n h) ≡ latest_token h
sent_token zero h = refl
sent_token (suc n) h = sent_token n h

pub sent_count : (n : ℕ) (h : Steps) → outstanding (sent_times n h) ≡ outstanding h + n
sent_count zero h = omega arith
sent_count (suc n) h = let less = sent_count n h in omega (arith, less)

-- ---- the lines of those that are sent

pub requests_sent : (token : List ℕ) (bs : List Batch) (h : Steps) → sent_in (each (request_of token) bs) h ≡ sent_times (length bs) h
requests_sent token [] h = refl
requests_sent token (b ∷ bs) h = requests_sent token bs (sent ∷ h) ∙ sent_first (length bs) h
  where
    sent_first : (n : ℕ) (g : Steps) → sent_times n (sent ∷ g) ≡ sent ∷ sent_times n g
    sent_first zero g = refl
    sent_first (suc n) g = ap (λ l. sent ∷ l) (sent_first n g)
