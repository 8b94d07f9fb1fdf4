use Rattle.std.proofs.Common.{◌≡◌, ◌∙◌, ◌∷◌, ◌++◌, [], Vec, Global, sym, ap, subst}
use Rattle.std.specs.FinMap as map
use Rattle.document_keys.specs.declared.key.DocumentKey.{DocumentKey}
use Rattle.queries.specs.Answer.{IsAnswer}
use Rattle.queries.specs.declared.target.Target.TheVariants.{Document}
use Rattle.queries.proofs.Answers.{document_answer}
use Rattle.query_engine.proofs.Keeping.{listed, unlisted}
use Rattle.query_engine.proofs.answer.document_rows.Goals as goal
use Rattle.query_engine.proofs.answer.document_rows.Goals.{then-has_document+in_ok-copy+in_ok-push, else-has_document}

pub returns : goal.returns
returns g c = λ root.
    let documents = g.D.Documents.documents c.args.docs.now in
    let answer = document_answer c.args.key.now root documents in
    elim c.if-has_document.branch [
      | then-has_document+in_ok-copy+in_ok-push w ↦
          let keys : c.if-has_document.keys.items ≡ c.args.key.now ∷ [] = ap (λ (v : Vec DocumentKey Global). v.items) w.keys-is ∙ w.in_ok-push.ensures.items
          ∙ ap (λ ks. ks ++ w.in_ok-copy.field-0 ∷ []) c.new-keys.ensures.items ∙ ap (λ k. k ∷ []) w.in_ok-copy.ensures in
          subst (IsAnswer (Document c.args.key.now) root documents) (listed (map.get documents c.args.key.now) c.args.key.now (sym c.has_document.ensures ∙ w.if-has_document.true) ∙ sym keys) answer
      | else-has_document w ↦
          let keys : c.if-has_document.keys.items ≡ [] = ap (λ (v : Vec DocumentKey Global). v.items) w.keys-is ∙ c.new-keys.ensures.items in
          subst (IsAnswer (Document c.args.key.now) root documents) (unlisted (map.get documents c.args.key.now) c.args.key.now (sym c.has_document.ensures ∙ w.if-has_document.false) ∙ sym keys) answer
    ]
