use Rattle.std.proofs.Common.{◌≡◌, ◌∙◌, ap, sym, option_map}
use Rattle.queries.specs.Holding.{name_path}
use Rattle.queries.proofs.Candidates.{elsewhere}
use Rattle.queries.proofs.candidate.Candidate.at.Goals as goal

pub returns-in-Some : goal.returns-in-Some
returns-in-Some c =
    let other : c.args.path.now ≡ name_path → ⊥ = λ e. let yes = c.is_document_name.ensures.1 e in let no = c.if-is_document_name.false in cc in
    sym (ap (option_map (λ value. value.now)) c.in-Some.is) ∙ c.at.ensures ∙ sym (elsewhere c.args.self.now.root.now c.args.self.now.key.now c.args.self.now.fields.now c.args.path.now other)

pub returns-in-None : goal.returns-in-None
returns-in-None c =
    let other : c.args.path.now ≡ name_path → ⊥ = λ e. let yes = c.is_document_name.ensures.1 e in let no = c.if-is_document_name.false in cc in
    sym (ap (option_map (λ value. value.now)) c.in-None.is) ∙ c.at.ensures ∙ sym (elsewhere c.args.self.now.root.now c.args.self.now.key.now c.args.self.now.fields.now c.args.path.now other)
