use Rattle.std.proofs.Common.{◌≡◌, ◌∙◌, ap, sym, arith}
use Rattle.document_keys.specs.KeySet.{is_key}
use Rattle.mutations.specs.Written.{written_key}
use Rattle.keyed_writes.proofs.Steps.{found_here, lack_more, none_found, same_test}
use Rattle.keyed_writes.proofs.keyed.scan.Goals as goal

pub returns-then-eq : goal.returns-then-eq
returns-then-eq c =
    let w = c.index-writes-place.result in
    let same : c.eq.result ≡ is_key (written_key w) c.args.key.now = rw (c.eq.ensures, c.key.ensures) (ap (λ test. test (written_key w) c.args.key.now) same_test) in
    found_here c.args.writes.now c.args.key.now c.args.from c.loop-place.place w c.loop-place.auto.place c.loop-place-test.true c.index-writes-place.is (sym same ∙ c.if-eq.true) c.loop-place.invariant

pub loop-place-preserved : goal.loop-place-preserved
loop-place-preserved c =
    let w = c.index-writes-place.result in
    let same : c.eq.result ≡ is_key (written_key w) c.args.key.now = rw (c.eq.ensures, c.key.ensures) (ap (λ test. test (written_key w) c.args.key.now) same_test) in
    lack_more c.args.writes.now c.args.key.now c.args.from c.loop-place.place w c.loop-place-test.true c.index-writes-place.is (sym same ∙ c.if-eq.false) c.loop-place.invariant

pub returns : goal.returns
returns c =
    none_found c.args.writes.now c.args.key.now c.args.from c.requires
    (λ i v behind before. c.loop-place.invariant i v behind (omega (arith, before, c.loop-place-test.false)))
