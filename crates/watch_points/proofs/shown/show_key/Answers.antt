use Rattle.std.proofs.Common.{ℕ, List, ◌<◌, length, get_or, sym, subst, below_more, arith, rules}
use Rattle.std.specs.Str.{IsUtf8}
use Rattle.std.proofs.lemmas.Option.{slice_get-get_or, get_or_from_slice_get}
use Rattle.watch_points.proofs.shown.show_key.Goals as goal
use Rattle.watch_points.proofs.shown.show_key.Goals.{in-Some, in_default}

pub loop-i-preserved : goal.loop-i-preserved
loop-i-preserved c =
    below_more (λ k. (d : List ℕ) → IsUtf8 (get_or c.args.key.now k d)) c.loop-i.i c.loop-i.invariant (λ d. elim c.match-segment.branch [
      | in-Some w ↦ subst IsUtf8 (sym (get_or_from_slice_get c.args.key.now c.loop-i.i _ d (sym w.in-Some.ensures))) w.show_text.ensures
      | in_default w ↦ let within : c.loop-i.i < length c.args.key.now = omega (arith, c.loop-i-test.true, c.len-i-end.ensures.count) in let there = slice_get-get_or c.args.key.now c.loop-i.i d within in let none = w.in_default.ensures in cc
    ])

pub returns : goal.returns
returns c = record {
  names = c.len-i-end.ensures.key;
  texts = λ k d within. c.loop-i.invariant k (omega (arith, c.loop-i-test.false, c.len-i-end.ensures.count, within)) d;
  many = search rules;
}
