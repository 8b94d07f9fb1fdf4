use Rattle.std.proofs.Common.{◌∙◌, [], ap, append-nil, lit<, sym}
use Rattle.std.proofs.Math.Utf8.{encode}
use Rattle.std.proofs.lemmas.Bool.{cond-false, cond-true}
use Rattle.std.proofs.lemmas.Str.{encode_ascii}
use Rattle.std.specs.Str.Iter.{chars_rest}
use Rattle.std.specs.String.{string_bytes}
use Rattle.document_keys.specs.Paths.{is_escaped}
use Rattle.document_keys.proofs.Fields.{quoted_more}
use Rattle.document_keys.proofs.spelling.quote_name.Goals as goal
use Rattle.document_keys.proofs.spelling.quote_name.Goals.{then-needs_backslash+in_ok-push-2, else-needs_backslash}

pub loop-c-preserved : goal.loop-c-preserved
loop-c-preserved c =
    elim c.if-needs_backslash.branch [
      | then-needs_backslash+in_ok-push-2 w ↦
          quoted_more (string_bytes c.args.text.now) c.args.name.now (chars_rest c.loop-c.c-iterator) (chars_rest c.next.new.self) (string_bytes c.loop-c.text) (string_bytes c.if-needs_backslash.text) (string_bytes c.push-in-loop-c.new.self) (encode 92) c.in-Some.c
          c.loop-c.invariant c.in-Some.ensures.steps.0 (ap string_bytes w.text-is ∙ w.in_ok-push-2.ensures.bytes)
          (encode_ascii 92 (lit< tt) ∙ sym (cond-true (is_escaped c.in-Some.c) _ _ (sym c.needs_backslash.ensures ∙ w.if-needs_backslash.true))) c.in_ok-push-3.ensures.bytes
      | else-needs_backslash w ↦
          quoted_more (string_bytes c.args.text.now) c.args.name.now (chars_rest c.loop-c.c-iterator) (chars_rest c.next.new.self) (string_bytes c.loop-c.text) (string_bytes c.if-needs_backslash.text) (string_bytes c.push-in-loop-c.new.self) [] c.in-Some.c
          c.loop-c.invariant c.in-Some.ensures.steps.0 (ap string_bytes w.text-is ∙ sym (append-nil _))
          (sym (cond-false (is_escaped c.in-Some.c) _ _ (sym c.needs_backslash.ensures ∙ w.if-needs_backslash.false))) c.in_ok-push-3.ensures.bytes
    ]
