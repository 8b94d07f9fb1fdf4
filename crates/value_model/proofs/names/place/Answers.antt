use Rattle.std.proofs.Common.{rules}
use Rattle.std.specs.Cmp.Lexicographic.{slice_cmp}
use Rattle.std.specs.Ordering.{nat_cmp}
use Rattle.std.proofs.lemmas.Fn.{always_returns_same}
use Rattle.value_model.proofs.Places.{found, missed}
use Rattle.value_model.proofs.names.place.Goals as goal

pub returns-clause-found : goal.returns-clause-found
returns-clause-found c =
    let search_result = c.binary_search_by.ensures.position (λ f. slice_cmp nat_cmp f.name c.args.name.now) (always_returns_same _ _ _ (λ a r f called. search rules)) in
    found c.args.fields.now c.args.name.now c.requires c.binary_search_by.result c.binary_search_by.ensures.bound search_result

pub returns-clause-gap : goal.returns-clause-gap
returns-clause-gap c =
    let search_result = c.binary_search_by.ensures.position (λ f. slice_cmp nat_cmp f.name c.args.name.now) (always_returns_same _ _ _ (λ a r f called. search rules)) in
    missed c.args.fields.now c.args.name.now c.requires c.binary_search_by.result c.binary_search_by.ensures.bound search_result
