-- batches go out in order
use Rattle.std.proofs.Common.{◌≡◌, ◌+◌, ◌≤◌, ℕ, Bool, true, false, ◌&&◌, if◌then◌else◌, Some, None, unwrap_or, [], ◌∷◌, refl, ap, arith}
use Rattle.std.proofs.lemmas.Option.{none-some}
use Rattle.std.proofs.lemmas.Bool.{and_parts, ltb-true}
use Rattle.std.specs.Prelude.{nat_lt}
use Rattle.write_pipeline.specs.Laws.{AreInTurn, BatchesGoInOrder, acknowledged_since, sent_since}
use Rattle.write_pipeline.specs.Order.{Steps, acknowledged, closed, is_ready, may_send, next_place, kept, opened, outstanding, sent, shaken}

few : (h : Steps) → AreInTurn h → outstanding h ≤ 10
few [] turn = omega arith
few (opened ∷ h) turn = omega arith
few (shaken ∷ h) turn = few h turn
few (sent ∷ h) turn = let less = ltb-true (outstanding h) 10 (and_parts (is_ready h) (nat_lt (outstanding h) 10) turn.0).1 in omega (arith, less)
few (acknowledged ∷ h) turn = let rest = few h turn.1 in omega (arith, rest)
few (kept token ∷ h) turn = few h turn
few (closed ∷ h) turn = omega arith

consecutive : (h : Steps) → AreInTurn h → acknowledged_since h + outstanding h ≡ sent_since h
consecutive [] turn = refl
consecutive (opened ∷ h) turn = refl
consecutive (shaken ∷ h) turn = consecutive h turn
consecutive (sent ∷ h) turn = let rest = consecutive h turn.1 in omega (arith, rest)
consecutive (acknowledged ∷ h) turn = let rest = consecutive h turn.1 in let some = turn.0 in omega (arith, rest, some)
consecutive (kept token ∷ h) turn = consecutive h turn
consecutive (closed ∷ h) turn = refl

-- the next place is behind the outstanding ones
place_is : (h : Steps) (pending place : ℕ) → next_place h pending ≡ Some place → outstanding h ≡ place
place_is h pending place is = go (may_send h && nat_lt (outstanding h) pending) is
  where
    go : (b : Bool) → (if b then Some (outstanding h) else None) ≡ Some place → outstanding h ≡ place
    go true same = ap (λ o. unwrap_or o 0) same
    go false same = absurd (none-some place same)

places : (h : Steps) (pending place : ℕ) → AreInTurn h → next_place h pending ≡ Some place → acknowledged_since h + place ≡ sent_since h
places h pending place turn is = let rest = consecutive h turn in let at = place_is h pending place is in omega (arith, rest, at)

pub in_order : BatchesGoInOrder
in_order = record { few = few; consecutive = consecutive; places = places }
