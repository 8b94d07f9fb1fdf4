-- What was done on a stream of writes, newest first, and what it says (the RPC reference's Write: a handshake first, then batches
-- in their order, each with the latest token, and answers in the same order).
use Rattle.std.specs.Prelude.{ℕ, ◌+◌, ◌-◌, Bool, true, false, ◌&&◌, ◌||◌, ◌==◌, nat_lt, Option, Some, None, if◌then◌else◌, List, [], ◌∷◌}

-- the stream was opened; its handshake was answered; a batch was sent; the first outstanding one was acknowledged; a token
-- came; the stream was closed
pub data Step : Type 0 where
  opened : Step
  shaken : Step
  sent : Step
  acknowledged : Step
  kept : List ℕ → Step
  closed : Step

abbrev pub Steps : Type 0
Steps = List Step

-- the handshake was answered since the stream was opened, which wasn't closed since
abbrev pub is_ready : Steps → Bool
is_ready [] = false
is_ready (opened ∷ h) = false
is_ready (shaken ∷ h) = true
is_ready (closed ∷ h) = false
is_ready (_ ∷ h) = is_ready h

-- how many batches were sent on the stream and not yet answered; a closed stream has none
abbrev pub outstanding : Steps → ℕ
outstanding [] = 0
outstanding (opened ∷ h) = 0
outstanding (sent ∷ h) = outstanding h + 1
outstanding (acknowledged ∷ h) = outstanding h - 1
outstanding (closed ∷ h) = 0
outstanding (_ ∷ h) = outstanding h

abbrev pub or_else : List ℕ → List ℕ → List ℕ
or_else [] token = token
or_else (byte ∷ bytes) token = byte ∷ bytes

-- the latest token since the stream was opened that isn't empty; empty where there is none
abbrev pub latest_token : Steps → List ℕ
latest_token [] = []
latest_token (opened ∷ h) = []
latest_token (kept token ∷ h) = or_else token (latest_token h)
latest_token (_ ∷ h) = latest_token h

-- one more batch may be sent: the handshake was done, and fewer than 10 are outstanding
abbrev pub may_send : Steps → Bool
may_send h = is_ready h && nat_lt (outstanding h) 10

-- the place in the pending list of the batch that is sent next: the outstanding ones are the first
abbrev pub next_place : Steps → ℕ → Option ℕ
next_place h pending = if may_send h && nat_lt (outstanding h) pending then Some (outstanding h) else None

-- the codes of google.rpc.Code with which a closing rejects a write, since sending it again would be no use: INVALID_ARGUMENT,
-- NOT_FOUND, ALREADY_EXISTS, PERMISSION_DENIED, FAILED_PRECONDITION, OUT_OF_RANGE, UNIMPLEMENTED and DATA_LOSS
abbrev pub rejects : ℕ → Bool
rejects code =
    (code == 3) || (code == 5) || (code == 6) || (code == 7) || (code == 9) || (code == 11) || (code == 12) || (code == 15)
