use Rattle.std.proofs.Common.{◌≡◌, ◌<◌, ℕ, pos, Some, length}
use Rattle.std.specs.List.{slice_get}
use Rattle.target_cache.specs.Cache.{id_at}
use Rattle.target_cache.proofs.cache.TargetCache.ids.Given as goal

-- the ids of the rows so far
abbrev pub invariant-loop-place : goal.invariant-loop-place
invariant-loop-place l = record {
  count : length l.ids.items ≡ l.place;
  each_is : (p : ℕ) → p < l.place → slice_get l.ids.items p ≡ Some (pos (id_at p));
}
