use Rattle.std.proofs.Common.{◌∙◌, ◌++◌, ap, append_assoc, sym}
use Rattle.std.specs.Int.{to_be_bytes, w64}
use Rattle.document_keys.proofs.relative.after_same_words.Goals as goal

pub loop-word_of_one-preserved : goal.loop-word_of_one-preserved
loop-word_of_one-preserved c =
    let held = c.loop-word_of_one.invariant in
    let word = to_be_bytes w64 c.in-Some.word_of_one in
    let same = c.if-word_of_one-word_of_other.false in (
      held.0 ++ word,
      held.1 ∙ ap (λ t. held.0 ++ t) (sym c.in-Some.ensures.word) ∙ sym (append_assoc held.0 word c.in-Some.behind.now),
      held.2 ∙ ap (λ t. held.0 ++ t) (sym c.in-Some-word.ensures.word ∙ ap (λ n. to_be_bytes w64 n ++ c.in-Some-word.beyond.now) (sym same)) ∙ sym (append_assoc held.0 word c.in-Some-word.beyond.now),
    )
