use Rattle.std.proofs.Common.{ℕ, List, ◌<◌, length, get_or, sym, subst, below_more, arith}
use Rattle.std.specs.Str.{IsUtf8}
use Rattle.std.proofs.lemmas.Option.{slice_get-get_or, get_or_from_slice_get}
use Rattle.json_model.proofs.texts.show_path.Goals as goal
use Rattle.json_model.proofs.texts.show_path.Goals.{in-Some, in_default}

pub loop-i-preserved : goal.loop-i-preserved
loop-i-preserved c =
    below_more (λ k. (d : List ℕ) → IsUtf8 (get_or c.args.path.now k d)) c.loop-i.i c.loop-i.invariant (λ d. elim c.match-segment.branch [
      | in-Some w ↦ subst IsUtf8 (sym (get_or_from_slice_get c.args.path.now c.loop-i.i _ d (sym w.in-Some.ensures))) w.show_text.ensures.utf8
      | in_default w ↦ let within : c.loop-i.i < length c.args.path.now = omega (arith, c.loop-i-test.true, c.len-i-end.ensures.count) in let there = slice_get-get_or c.args.path.now c.loop-i.i d within in let none = w.in_default.ensures in cc
    ])

pub returns-clause-utf8 : goal.returns-clause-utf8
returns-clause-utf8 c = λ k d within. c.loop-i.invariant k (omega (arith, c.loop-i-test.false, c.len-i-end.ensures.count, within)) d
