use Rattle.std.proofs.Common.{◌≡◌, ◌∙◌, length, ap, sym, arith}
use Rattle.queries.specs.declared.rules.Mark.TheVariants as mark
use Rattle.queries.specs.Rules.{BadCursor, BadLimit, HasBadNegations, marked_count}
use Rattle.queries.proofs.Whole.{cursors_sound, before_limit, before_arrays, sound_from}
use Rattle.queries.proofs.checking.broken_rule.Goals as goal

pub returns-then-is_bad_limit : goal.returns-then-is_bad_limit
returns-then-is_bad_limit c =
    let raw = c.args.raw.now in
    let one : length raw.from ≡ 1 = ap length (sym c.as_slice.ensures) ∙ c.if-as_slice-ne1.false in
    let negations : HasBadNegations raw.filter → ⊥ = λ bad. let yes = c.has_bad_negations.ensures.1 bad in let no = c.if-has_bad_negations.false in cc (yes, no) in
    let lists : marked_count mark.BadList raw.filter ≡ 0 = omega (arith, c.tally_in.ensures, c.if-tally_in-gt0.false) in
    let start : BadCursor c.args.orders.now raw.start_at → ⊥ = λ bad. let yes = c.is_bad_cursor.ensures.1 bad in let no = c.if-is_bad_cursor.false in cc (yes, no) in
    let stop : BadCursor c.args.orders.now raw.end_at → ⊥ = λ bad. let yes = c.is_bad_cursor-else-is_bad_cursor.ensures.1 bad in let no = c.if-is_bad_cursor-2.false in cc (yes, no) in
    let cursors = cursors_sound raw c.args.orders.now c.requires start stop in
    let below = before_limit raw one negations lists cursors in
    record { breaks = c.is_bad_limit.ensures.0 c.if-is_bad_limit.true; least = below }

pub returns-then-tally_in-gt0-2 : goal.returns-then-tally_in-gt0-2
returns-then-tally_in-gt0-2 c =
    let raw = c.args.raw.now in
    let one : length raw.from ≡ 1 = ap length (sym c.as_slice.ensures) ∙ c.if-as_slice-ne1.false in
    let negations : HasBadNegations raw.filter → ⊥ = λ bad. let yes = c.has_bad_negations.ensures.1 bad in let no = c.if-has_bad_negations.false in cc (yes, no) in
    let lists : marked_count mark.BadList raw.filter ≡ 0 = omega (arith, c.tally_in.ensures, c.if-tally_in-gt0.false) in
    let start : BadCursor c.args.orders.now raw.start_at → ⊥ = λ bad. let yes = c.is_bad_cursor.ensures.1 bad in let no = c.if-is_bad_cursor.false in cc (yes, no) in
    let stop : BadCursor c.args.orders.now raw.end_at → ⊥ = λ bad. let yes = c.is_bad_cursor-else-is_bad_cursor.ensures.1 bad in let no = c.if-is_bad_cursor-2.false in cc (yes, no) in
    let cursors = cursors_sound raw c.args.orders.now c.requires start stop in
    let below = before_limit raw one negations lists cursors in
    let limit : BadLimit raw.limit → ⊥ = λ bad. let yes = c.is_bad_limit.ensures.1 bad in let no = c.if-is_bad_limit.false in cc (yes, no) in
    record { breaks = omega (arith, c.tally_in-2.ensures, c.if-tally_in-gt0-2.true); least = before_arrays raw below limit }

pub returns : goal.returns
returns c =
    let raw = c.args.raw.now in
    let one : length raw.from ≡ 1 = ap length (sym c.as_slice.ensures) ∙ c.if-as_slice-ne1.false in
    let negations : HasBadNegations raw.filter → ⊥ = λ bad. let yes = c.has_bad_negations.ensures.1 bad in let no = c.if-has_bad_negations.false in cc (yes, no) in
    let lists : marked_count mark.BadList raw.filter ≡ 0 = omega (arith, c.tally_in.ensures, c.if-tally_in-gt0.false) in
    let start : BadCursor c.args.orders.now raw.start_at → ⊥ = λ bad. let yes = c.is_bad_cursor.ensures.1 bad in let no = c.if-is_bad_cursor.false in cc (yes, no) in
    let stop : BadCursor c.args.orders.now raw.end_at → ⊥ = λ bad. let yes = c.is_bad_cursor-else-is_bad_cursor.ensures.1 bad in let no = c.if-is_bad_cursor-2.false in cc (yes, no) in
    let cursors = cursors_sound raw c.args.orders.now c.requires start stop in
    let below = before_limit raw one negations lists cursors in
    let limit : BadLimit raw.limit → ⊥ = λ bad. let yes = c.is_bad_limit.ensures.1 bad in let no = c.if-is_bad_limit.false in cc (yes, no) in
    sound_from raw (before_arrays raw below limit) (omega (arith, c.tally_in-2.ensures, c.if-tally_in-gt0-2.false))
