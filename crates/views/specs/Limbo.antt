-- Which documents are in limbo: shown, but not known to be in the answer of the backend (the client SDK's limbo documents).
use Rattle.std.specs.Prelude.{◌≡◌, ◌↔◌, ℕ, Bool, false, true, List, []}
use Rattle.std.specs.List.{Contains}
use Rattle.views.specs.declared.standing.Standing.{Standing}

-- a shown key is in limbo where the target is current, and the key is neither among the target's nor touched by an
-- unfinished write
pub record IsInLimbo (standing : Standing) (touched : List (List (List ℕ))) (key : List (List ℕ)) : Type 0 where
  pub current : standing.current ≡ true
  pub not_told : Contains standing.keys key → ⊥
  pub not_touched : Contains touched key → ⊥

-- what is shown isn't from the cache alone exactly where the target is current and nothing is in limbo
abbrev pub IsFromCache : Standing → List (List (List ℕ)) → Bool → Type 0
IsFromCache standing limbo from_cache = (from_cache ≡ false) ↔ ((standing.current ≡ true) × (limbo ≡ []))
