use Rattle.std.proofs.Common.{[]}
use Rattle.std.proofs.lemmas.Result.{err_from_is_err_and}
use Rattle.record_parts.proofs.Wide.{fails_also}
use Rattle.record_parts.proofs.Basics.{segment, document_key, from_database, name_parts, name_of_parts, name_kind}
use Rattle.record_parts.proofs.Combine.{no_first, no_second, pair_read, kind_read, kind_none}
use Rattle.record_parts.proofs.scalars.name_parts_of.Goals as goal

pub returns-in_err-project : goal.returns-in_err-project
returns-in_err-project c =
    let p = err_from_is_err_and c.from_residual.result c.from_residual.ensures.1 in
    rw (p.1, p.2) (fails_also c.in_err-project.field-0.0 (λ none. kind_none [] name_of_parts name_parts name_kind c.args.bytes.now (no_first segment (λ _. from_database) c.args.bytes.now none)) c.in_err-project.ensures)

pub returns-in_err-database : goal.returns-in_err-database
returns-in_err-database c =
    let p = err_from_is_err_and c.from_residual-in_err-database.result c.from_residual-in_err-database.ensures.1 in
    rw (p.1, p.2) (fails_also c.in_err-database.field-0.0 (λ none. kind_none [] name_of_parts name_parts name_kind c.args.bytes.now (no_second segment (λ _. from_database) c.args.bytes.now c.in_ok-project.project c.in_ok-project.rest.now c.in_ok-project.ensures (no_first segment (λ _. document_key) c.in_ok-project.rest.now none))) c.in_err-database.ensures)

pub returns-in_err-key : goal.returns-in_err-key
returns-in_err-key c =
    let p = err_from_is_err_and c.from_residual-in_err-key.result c.from_residual-in_err-key.ensures.1 in
    rw (p.1, p.2) (fails_also c.in_err-key.field-0.0 (λ none. kind_none [] name_of_parts name_parts name_kind c.args.bytes.now (no_second segment (λ _. from_database) c.args.bytes.now c.in_ok-project.project c.in_ok-project.rest.now c.in_ok-project.ensures (no_second segment (λ _. document_key) c.in_ok-project.rest.now c.in_ok-database.database c.in_ok-database.rest.now c.in_ok-database.ensures (none)))) c.in_err-key.ensures)

pub returns : goal.returns
returns c = kind_read [] name_of_parts name_parts name_kind c.args.bytes.now (c.in_ok-project.project, (c.in_ok-database.database, c.in_ok-key.key)) c.in_ok-key.rest.now (pair_read segment (λ _. from_database) c.args.bytes.now c.in_ok-project.project c.in_ok-project.rest.now (c.in_ok-database.database, c.in_ok-key.key) c.in_ok-key.rest.now c.in_ok-project.ensures (pair_read segment (λ _. document_key) c.in_ok-project.rest.now c.in_ok-database.database c.in_ok-database.rest.now c.in_ok-key.key c.in_ok-key.rest.now c.in_ok-database.ensures (c.in_ok-key.ensures)))
