use Rattle.std.proofs.Common.{◌++◌, ◌∙◌, ap, arith, lit<}
use Rattle.std.proofs.lemmas.Str.{encode_ascii}
use Rattle.std.specs.String.{string_bytes}
use Rattle.document_keys.specs.Paths.{printed_name}
use Rattle.document_keys.proofs.Fields.{printed_first, printed_next}
use Rattle.document_keys.proofs.field.FieldPath.print.Goals as goal
use Rattle.document_keys.proofs.field.FieldPath.print.Goals.{then-i-gt0+in_ok-push, else-i-gt0}

pub loop-i-preserved : goal.loop-i-preserved
loop-i-preserved c =
    let more = c.in_ok-print_name.ensures ∙ ap (λ n. string_bytes c.if-i-gt0.text ++ printed_name n) c.as_str.ensures in
    elim c.if-i-gt0.branch [
      | then-i-gt0+in_ok-push w ↦
          printed_next c.deref-name-items.result.now c.loop-i.i c.name-item.result (string_bytes c.loop-i.text) (string_bytes c.if-i-gt0.text) (string_bytes c.print_name.new.text)
          (omega arith) (omega arith) c.name-item.is c.loop-i.invariant
          (ap string_bytes w.text-is ∙ w.in_ok-push.ensures.bytes ∙ ap (λ t. string_bytes c.loop-i.text ++ t) (encode_ascii 46 (lit< tt))) more
      | else-i-gt0 w ↦
          printed_first c.deref-name-items.result.now c.loop-i.i c.name-item.result (string_bytes c.if-i-gt0.text) (string_bytes c.print_name.new.text)
          (omega arith) (omega arith) c.name-item.is (ap string_bytes w.text-is ∙ c.loop-i.invariant) more
    ]
