use Rattle.std.proofs.Common.{◌∷◌, [], arith}
use Rattle.value_model.specs.Data as kind
use Rattle.record_parts.proofs.Values.{null_kind, value_other}
use Rattle.record_parts.proofs.Combine.{empty, kind_read, nothing}
use Rattle.record_parts.proofs.scalars.scalar_of.Goals as goal

pub returns-in-0 : goal.returns-in-0
returns-in-0 c = λ limit. rw c.in-0.is (kind_read (0 ∷ []) (λ _. kind.null) empty (null_kind limit) c.args.bytes.now tt c.args.bytes.now (nothing c.args.bytes.now))

pub returns-in-1 : goal.returns-in-1
returns-in-1 c = λ limit. rw c.in-1.is (c.boolean_of.ensures limit)

pub returns-in-2 : goal.returns-in-2
returns-in-2 c = λ limit. rw c.in-2.is (c.integer_of.ensures limit)

pub returns-in-3 : goal.returns-in-3
returns-in-3 c = λ limit. rw c.in-3.is (c.moment_of.ensures limit)

pub returns-in-5 : goal.returns-in-5
returns-in-5 c = λ limit. rw c.in-5.is (c.string_of.ensures limit)

pub returns-in-6 : goal.returns-in-6
returns-in-6 c = λ limit. rw c.in-6.is (c.bytes_of.ensures limit)

pub returns-in-7 : goal.returns-in-7
returns-in-7 c = λ limit. rw c.in-7.is (c.reference_of.ensures limit)

pub returns-in_default : goal.returns-in_default
returns-in_default c = λ limit.
    value_other limit c.args.tag (λ e. absurd (omega (arith, e))) (λ e. absurd (omega (arith, e))) (λ e. absurd (omega (arith, e))) (λ e. absurd (omega (arith, e)))
    (λ e. absurd (omega (arith, e))) (λ e. absurd (omega (arith, e))) (λ e. absurd (omega (arith, e))) c.requires.no_array c.requires.no_map c.args.bytes.now
