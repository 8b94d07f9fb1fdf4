use Rattle.std.proofs.Common.{take}
use Rattle.query_engine.specs.Kept.{KeepsRows}
use Rattle.query_engine.proofs.kept.first_rows.Given as goal

-- of the keys so far the rows are kept
abbrev pub invariant-loop-key : goal.invariant-loop-key
invariant-loop-key g l = KeepsRows l.query l.root (g.D.Documents.documents l.docs) l.limit (take l.key-index l.keys) l.rows.items
