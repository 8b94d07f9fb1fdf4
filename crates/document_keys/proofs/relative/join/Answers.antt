use Rattle.std.proofs.Common.{◌∙◌, ◌++◌, ap, sym}
use Rattle.document_keys.specs.Names.{path_text, relative_path}
use Rattle.document_keys.proofs.PathTexts.{joined_path}
use Rattle.document_keys.proofs.relative.join.Goals as goal

pub returns : goal.returns
returns c =
    c.in_ok-push_segments.ensures ∙ ap (λ t. t ++ path_text c.in-Some.others.now) (c.in_ok-text.ensures.ok ∙ c.as_str.ensures.text)
    ∙ joined_path c.in-Some.first.now c.in-Some.others.now ∙ ap relative_path (sym c.in-Some.ensures.cases.0)
