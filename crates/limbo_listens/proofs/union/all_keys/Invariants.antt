use Rattle.std.proofs.Common.{◌≡◌, ◌++◌}
use Rattle.std.specs.List.{flat_map}
use Rattle.limbo_listens.proofs.union.all_keys.Given as goal

abbrev pub invariant-loop-keys : goal.invariant-loop-keys
invariant-loop-keys l = flat_map (λ p. p.1) l.initial.keys-iterator ≡ l.all.items ++ flat_map (λ p. p.1) l.keys-iterator
