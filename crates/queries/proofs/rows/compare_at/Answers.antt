use Rattle.std.proofs.Common.{◌≡◌, ◌∙◌, ap, sym, subst}
use Rattle.std.specs.Prelude.{unwrap_or}
use Rattle.value_model.specs.Data.{Data, null}
use Rattle.value_model.specs.Order.{RanksValues}
use Rattle.value_model.proofs.UnderRoot.{under_root}
use Rattle.queries.specs.Holding.{name_path, reference_to, standing}
use Rattle.queries.proofs.Candidates.{elsewhere}
use Rattle.queries.proofs.rows.compare_at.Goals as goal

-- what is ranked, under other names
under_names : (r : _) (a b x y : Data) → a ≡ x → b ≡ y → RanksValues r a b → RanksValues r x y
under_names r a b x y a_is b_is ranks = subst (λ d. RanksValues r d y) a_is (subst (λ d. RanksValues r a d) b_is ranks)

pub returns-then-is_document_name : goal.returns-then-is_document_name
returns-then-is_document_name c = λ root.
    let is = c.is_document_name.ensures.0 c.if-is_document_name.true in
    let left = ap (λ p. unwrap_or (standing root c.args.left.key.now c.args.left.fields.now p) null) (sym is) in
    let right = ap (λ p. unwrap_or (standing root c.args.right.key.now c.args.right.fields.now p) null) (sym is) in
    under_names c.compare.result (reference_to root c.args.left.key.now) (reference_to root c.args.right.key.now) _ _ left right
    (under_root root.project root.name c.args.left.key.now c.args.right.key.now c.compare.result c.compare.ensures)

pub returns : goal.returns
returns c = λ root.
    let other : c.args.path.now ≡ name_path → ⊥ = λ e. let yes = c.is_document_name.ensures.1 e in let no = c.if-is_document_name.false in cc in
    let left = c.or_null.ensures ∙ ap (λ o. unwrap_or o null) (c.at.ensures ∙ sym (elsewhere root c.args.left.key.now c.args.left.fields.now c.args.path.now other)) in
    let right = c.or_null-2.ensures ∙ ap (λ o. unwrap_or o null) (c.at-2.ensures ∙ sym (elsewhere root c.args.right.key.now c.args.right.fields.now c.args.path.now other)) in
    under_names _ _ _ _ _ left right c.compare-2.ensures
