use Rattle.std.proofs.Common.{◌+◌, ◌<◌, List, get_or, length, sym, subst, arith}
use Rattle.mutations.specs.declared.write.Write.{Write}
use Rattle.keyed_writes.specs.Keyed.{AreLinked, IsNext}
use Rattle.mutations.specs.Written.{written_key}
use Rattle.keyed_writes.proofs.keyed.KeyedWrites.after.Goals as goal

pub returns-in-Some : goal.returns-in-Some
returns-in-Some c = λ write.
    let writes = c.self.inside.writes.now in
    let place = c.args.place in
    let are : AreLinked 0 writes c.in-Some.links.firsts.entries c.in-Some.links.nexts.items =
    c.self.invariant c.in-Some.links c.in-Some.is in
    let below : place < length writes = subst (λ (ws : List Write). place < length ws) (sym c.self.view_is) c.requires in
    subst (λ (ws : List Write). IsNext ws (written_key (get_or ws place write)) (place + 1) c.index.result.now) c.self.view_is
    (subst (IsNext writes (written_key (get_or writes place write)) (place + 1)) (sym c.index.ensures) (are.next place write c.index.result.now (omega arith) below))
