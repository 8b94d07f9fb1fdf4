use Rattle.std.proofs.Common.{◌∙◌, ap, arith, subst, sym}
use Rattle.std.proofs.lemmas.Result.{err_from_is_err_and}
use Rattle.document_keys.specs.Names.{IsKey, name_text}
use Rattle.document_keys.proofs.Keys.{bad_part, key_of, name_of, odd_parts}
use Rattle.document_keys.proofs.key.DocumentKey.read.Goals as goal

pub returns-in_err-check_segments-clause-fault : goal.returns-in_err-check_segments-clause-fault
returns-in_err-check_segments-clause-fault c =
    let p = err_from_is_err_and c.from_residual-in_err-check_segments.result c.from_residual-in_err-check_segments.ensures.1 in
    let here = rw c.in_ok-path.ensures.ok_part at c.after_documents.ensures in
    rw (p.1, p.2) (bad_part c.args.root.now c.args.text.now c.in_ok-path.path.now _ here c.in_err-check_segments.ensures.fault)

pub returns-then-count_parts-eq1-clause-fault : goal.returns-then-count_parts-eq1-clause-fault
returns-then-count_parts-eq1-clause-fault c =
    let here = rw c.in_ok-path.ensures.ok_part at c.after_documents.ensures in
    odd_parts c.args.root.now c.args.text.now c.in_ok-path.path.now here c.in_ok-check_segments.ensures.segments (omega arith)

pub of_path-requires : goal.of_path-requires
of_path-requires c = key_of c.in_ok-path.path.now (omega arith) c.in_ok-check_segments.ensures.segments

pub returns-clause-key : goal.returns-clause-key
returns-clause-key c =
    let here = rw c.in_ok-path.ensures.ok_part at c.after_documents.ensures in
    let path = c.in_ok-of_path.ensures in
    let key = key_of c.in_ok-path.path.now (omega arith) c.in_ok-check_segments.ensures.segments in
    (subst IsKey (sym path) key, here ∙ name_of c.args.root.now c.in_ok-path.path.now ∙ ap (name_text c.args.root.now) (sym path))
