use Rattle.std.proofs.Common.{◌∷◌, ◌++◌, ◌∙◌, List, [], ap, subst, sym}
use Rattle.std.specs.List.{Contains}
use Rattle.views.specs.Row.{Row, row, keys_of}
use Rattle.views.specs.Index.{IsIndexOf}
use Rattle.views.proofs.Indexing.{pushed}
use Rattle.views.proofs.rows.Rows.push.Goals as goal

pub invariant_of-self-2 : goal.invariant_of-self-2
invariant_of-self-2 c =
    let rows = c.self.inside.rows.items in
    let old = c.self.inside.by_key.entries in
    let new = c.insert.new.self.entries in
    let key = c.in_ok-place.place in
    let is = pushed rows old new key c.in_ok-lent.lent (λ there. c.requires (subst (λ k. Contains (keys_of c.args.self.now) k) c.in_ok-place.ensures (subst (λ (rs : List Row). Contains (keys_of rs) key) c.self.view_is there))) c.self.invariant c.in_ok-insert.ensures.updates.0 c.args.document.value c.in_ok-lent.ensures.cases in
    let items = c.push_reserved.ensures.items ∙ ap (λ (rs : List Row). rs ++ row c.args.key c.args.document.value ∷ []) c.reserve.ensures.items in
    subst (λ (rs : List Row). IsIndexOf rs new) (ap (λ k. rows ++ row k c.args.document.value ∷ []) c.in_ok-place.ensures ∙ sym items) is
