-- The incarnations of an id, one by one, and when the newest is live: the counts of `Transcript` say the same.
use Rattle.std.specs.Prelude.{ℤ, Bool, true, false, ◌&&◌, not, if◌then◌else◌, List, [], ◌∷◌, ◌++◌}
use Rattle.std.specs.Ordering.{int_eq}
use Rattle.listen_protocol.specs.Calls.{Calls, asked, unasked, came, applied, skipped, changes, is_remove}

-- an incarnation: no remove request was sent for it; it has ended
pub record Incarnation : Type 0 where
  pub wanted : Bool
  pub ended : Bool

-- a REMOVE ends the oldest open one
abbrev pub end_oldest : List Incarnation → List Incarnation
end_oldest [] = []
end_oldest (i ∷ is) = if i.ended then i ∷ end_oldest is else record i { ended = true } ∷ is

-- a remove request is for the newest
abbrev pub unask_newest : List Incarnation → List Incarnation
unask_newest [] = []
unask_newest (i ∷ []) = record i { wanted = false } ∷ []
unask_newest (i ∷ j ∷ is) = i ∷ unask_newest (j ∷ is)

-- the incarnations of the id, the oldest first
abbrev pub incarnations : ℤ → Calls → List Incarnation
incarnations t [] = []
incarnations t (asked id keys document ∷ h) = if int_eq t id then incarnations t h ++ (record { wanted = true; ended = false }) ∷ [] else incarnations t h
incarnations t (unasked id ∷ h) = if int_eq t id then unask_newest (incarnations t h) else incarnations t h
incarnations t (came message ∷ h) = if changes is_remove message t then end_oldest (incarnations t h) else incarnations t h
incarnations t (applied ∷ h) = incarnations t h
incarnations t (skipped ∷ h) = incarnations t h

-- the newest hasn't ended and has no remove request
abbrev pub newest_is_asked : List Incarnation → Bool
newest_is_asked [] = false
newest_is_asked (i ∷ []) = i.wanted && not i.ended
newest_is_asked (i ∷ j ∷ is) = newest_is_asked (j ∷ is)

-- and all older ones have ended
abbrev pub newest_is_live : List Incarnation → Bool
newest_is_live [] = false
newest_is_live (i ∷ []) = i.wanted && not i.ended
newest_is_live (i ∷ j ∷ is) = i.ended && newest_is_live (j ∷ is)
