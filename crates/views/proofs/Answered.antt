-- each key of an answer has a document, and they are different
use Rattle.std.proofs.Common.{◌≢◌, ℕ, List, get_or, IsSome, refl, sym, subst}
use Rattle.std.specs.FinMap as map
use Rattle.std.specs.List.{All, AllPairs}
use Rattle.std.proofs.lemmas.List.Elements.{Contains-get_or}
use Rattle.document_keys.specs.Names.{Root}
use Rattle.value_model.specs.Documents.{DocumentMap}
use Rattle.queries.specs.declared.target.Target.{Target}
use Rattle.queries.specs.Answer.{IsAnswer, KeyBefore}
use Rattle.queries.proofs.Answers.{one_way}
use Rattle.queries.proofs.Counting.{in_order_apart}

module _ (target : Target) (root : Root) (documents : DocumentMap) where
  pub answered : (keys : List (List (List ℕ))) → IsAnswer target root documents keys → All (λ key. IsSome (map.get documents key)) keys
  answered keys answer k d inside =
      let finds = ((answer.members (get_or keys k d)).0 (Contains-get_or keys k d inside)).0 in
      subst IsSome (sym finds.there) refl

  pub apart : (keys : List (List (List ℕ))) → IsAnswer target root documents keys → AllPairs ◌≢◌ keys
  apart keys answer = in_order_apart (KeyBefore target root documents) (one_way target root documents) keys answer.ordered
