-- A law of the order of writes.
use Rattle.std.specs.Prelude.{◌≡◌, ℕ, ◌+◌, ◌≤◌, ◌<◌, true, Some, [], ◌∷◌}
use Rattle.write_pipeline.specs.Order.{Steps, acknowledged, closed, may_send, next_place, opened, outstanding, sent}

-- each batch was sent where one may be, and each acknowledged where one was outstanding
abbrev pub AreInTurn : Steps → Type 0
AreInTurn [] = Unit {0}
AreInTurn (sent ∷ h) = (may_send h ≡ true) × AreInTurn h
AreInTurn (acknowledged ∷ h) = (0 < outstanding h) × AreInTurn h
AreInTurn (_ ∷ h) = AreInTurn h

-- how many batches were sent, and how many acknowledged, since the stream was opened
abbrev pub sent_since : Steps → ℕ
sent_since [] = 0
sent_since (opened ∷ h) = 0
sent_since (closed ∷ h) = 0
sent_since (sent ∷ h) = sent_since h + 1
sent_since (_ ∷ h) = sent_since h

abbrev pub acknowledged_since : Steps → ℕ
acknowledged_since [] = 0
acknowledged_since (opened ∷ h) = 0
acknowledged_since (closed ∷ h) = 0
acknowledged_since (acknowledged ∷ h) = acknowledged_since h + 1
acknowledged_since (_ ∷ h) = acknowledged_since h

-- At most 10 batches are outstanding, and each that was sent was acknowledged or is outstanding. Those that were acknowledged
-- have left the front of the pending list, so the batch that is sent next is the one just behind the last that was sent, counted
-- from the first that was pending: the batches of a stream are consecutive.
pub record BatchesGoInOrder : Type 0 where
  pub few : (h : Steps) → AreInTurn h → outstanding h ≤ 10
  pub consecutive : (h : Steps) → AreInTurn h → acknowledged_since h + outstanding h ≡ sent_since h
  pub places : (h : Steps) (pending place : ℕ) → AreInTurn h → next_place h pending ≡ Some place → acknowledged_since h + place ≡ sent_since h
