use Rattle.std.proofs.Common.{◌≡◌, length, arith}
use Rattle.value_model.proofs.Fractions.{few_digits, nine_digits}
use Rattle.value_model.proofs.timestamp.nanoseconds_of.Goals as goal

pub overflow_mul-number : goal.overflow_mul-number
overflow_mul-number c = omega (arith, few_digits _ _ _ c.loop-digit.invariant.2 c.loop-digit-test.true c.if-digits-gt9.false)

pub overflow_add-number : goal.overflow_add-number
overflow_add-number c = omega (arith, few_digits _ _ _ c.loop-digit.invariant.2 c.loop-digit-test.true c.if-digits-gt9.false, c.type_inv.digits c.loop-digit.digit-index)

pub returns-clause-bound : goal.returns-clause-bound
returns-clause-bound c =
    let all : c.loop-digit.digit-index ≡ length c.args.digits.now = omega arith in
    nine_digits _ _ _ (rw all at c.loop-digit.invariant.2) c.if-digits-gt9.false c.pow.ensures

pub overflow_mul-result : goal.overflow_mul-result
overflow_mul-result c =
    let all : c.loop-digit.digit-index ≡ length c.args.digits.now = omega arith in
    omega (arith, nine_digits _ _ _ (rw all at c.loop-digit.invariant.2) c.if-digits-gt9.false c.pow.ensures)
