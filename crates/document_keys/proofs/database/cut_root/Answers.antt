use Rattle.std.proofs.Common.{lit<, rules}
use Rattle.std.proofs.lemmas.Str.Pattern.{split_parts}
use Rattle.document_keys.proofs.Roots.{no_databases, no_name, no_project, no_projects, root_from}
use Rattle.document_keys.proofs.database.cut_root.Goals as goal

pub returns-in_err-rest : goal.returns-in_err-rest
returns-in_err-rest c = rw c.from_residual.ensures (no_projects c.args.text.now c.in_err-rest.ensures)

pub returns-in_err-project : goal.returns-in_err-project
returns-in_err-project c =
    let cut = split_parts 47 c.in_ok-rest.rest.now c.split_once.result c.split_once.ensures.cases (lit< tt) in
    let none = rw c.in_err-project.was at cut in
    rw c.from_residual-in_err-project.ensures (no_project c.args.text.now c.in_ok-rest.rest.now c.in_ok-rest.ensures none)

pub returns-in_err-name : goal.returns-in_err-name
returns-in_err-name c =
    let cut = split_parts 47 c.in_ok-rest.rest.now c.split_once.result c.split_once.ensures.cases (lit< tt) in
    let parts = rw c.in_ok-project.was at cut in
    rw c.from_residual-in_err-name.ensures (no_databases c.args.text.now c.in_ok-rest.rest.now c.in_ok-project.project.now c.in_ok-project.rest.now c.in_ok-rest.ensures parts.0 parts.1 c.in_err-name.ensures)

pub returns-then-not-is_part : goal.returns-then-not-is_part
returns-then-not-is_part c =
    let cut = split_parts 47 c.in_ok-rest.rest.now c.split_once.result c.split_once.ensures.cases (lit< tt) in
    let parts = rw c.in_ok-project.was at cut in
    no_name c.args.text.now c.in_ok-rest.rest.now c.in_ok-project.project.now c.in_ok-project.rest.now c.in_ok-name.name.now c.in_ok-rest.ensures parts.0 parts.1 c.in_ok-name.ensures (search rules)

pub returns : goal.returns
returns c =
    let cut = split_parts 47 c.in_ok-rest.rest.now c.split_once.result c.split_once.ensures.cases (lit< tt) in
    let parts = rw c.in_ok-project.was at cut in
    root_from c.args.text.now c.in_ok-rest.rest.now c.in_ok-project.project.now c.in_ok-project.rest.now c.in_ok-name.name.now c.in_ok-rest.ensures parts.0 parts.1 c.in_ok-name.ensures (search rules)
