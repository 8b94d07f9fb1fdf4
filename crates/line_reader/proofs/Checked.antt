-- a query that was read is one target once it is checked, or breaks one rule first
use Rattle.std.proofs.Common.{◌≡◌, inl, inr, ℕ, ℤ, pos, List, [], ◌∷◌, ◌++◌, Option, Some, None, refl, sym, ap, ◌∙◌, if◌then◌else◌, arith}
use Rattle.std.specs.Prelude.{nat_eq}
use Rattle.std.proofs.lemmas.Bool.{cases_lt}
use Rattle.document_keys.specs.Names.{parent_path}
use Rattle.queries.specs.declared.raw.QueryFault.TheVariants.{BadQuery}
use Rattle.queries.specs.declared.raw.QueryRule.{QueryRule}
use Rattle.queries.specs.declared.raw.QueryRule.TheVariants as rule
use Rattle.queries.specs.declared.raw.RawCollection.{RawCollection}
use Rattle.queries.specs.declared.raw.RawQuery.{RawQuery}
use Rattle.queries.specs.declared.raw.RawQuery.TheVariants as raw
use Rattle.queries.specs.declared.target.CollectionTarget.{CollectionTarget}
use Rattle.queries.specs.declared.target.Target.{Target}
use Rattle.queries.specs.declared.target.Target.TheVariants.{Document, Collection}
use Rattle.queries.specs.Queried.{IsSameLimit, IsTargetOf, IsQueryOf, HasQueryFault}
use Rattle.queries.specs.Rules.{BreaksFirst, number_of}
use Rattle.queries.proofs.Whole.{whole_once}

limit_once : (given : Option ℤ) (a b : Option ℕ) → IsSameLimit given a → IsSameLimit given b → a ≡ b
limit_once None a b first second = first ∙ sym second
limit_once (Some z) None b first second = absurd first
limit_once (Some z) (Some a) None first second = absurd second
limit_once (Some z) (Some a) (Some b) first second = let e : pos a ≡ pos b = sym first ∙ second in cc

collection_once : (given : RawCollection) (a b : CollectionTarget) → IsTargetOf given a → IsTargetOf given b → a ≡ b
collection_once given a b first second =
    let ids : first.id ∷ [] ≡ second.id ∷ [] = sym first.from ∙ second.from in
    let collections : a.collection ≡ b.collection = first.collection ∙ ap (λ (l : List (List ℕ)). parent_path given.parent ++ l) ids ∙ sym second.collection in
    let filters = first.filter ∙ sym second.filter in
    let orders = whole_once given.orders given.filter a.orders b.orders first.orders second.orders in
    let starts = first.start_at ∙ sym second.start_at in
    let ends = first.end_at ∙ sym second.end_at in
    let limits = limit_once given.limit a.limit b.limit first.limit second.limit in
    λ i. record { collection = collections i; filter = filters i; orders = orders i; start_at = starts i; end_at = ends i; limit = limits i }

pub target_once : (query : RawQuery) (a b : Target) → IsQueryOf query a → IsQueryOf query b → a ≡ b
target_once (raw.Document key) a b first second = first ∙ sym second
target_once (raw.Collection given) (Document key) b first second = absurd first
target_once (raw.Collection given) (Collection a) (Document key) first second = absurd second
target_once (raw.Collection given) (Collection a) (Collection b) first second = ap Collection (collection_once given a b first second)

-- ---- rules

-- the rule of a number
abbrev rule_of : ℕ → QueryRule
rule_of n =
    if nat_eq n 1 then rule.OneCollection
    else if nat_eq n 2 then rule.Negations
    else if nat_eq n 3 then rule.Lists
    else if nat_eq n 4 then rule.Cursors
    else if nat_eq n 5 then rule.Limit
    else rule.ArrayFilters

rule_back : (r : QueryRule) → rule_of (number_of r) ≡ r
rule_back rule.OneCollection = refl
rule_back rule.Negations = refl
rule_back rule.Lists = refl
rule_back rule.Cursors = refl
rule_back rule.Limit = refl
rule_back rule.ArrayFilters = refl

first_once : (given : RawCollection) (r q : QueryRule) → BreaksFirst given r → BreaksFirst given q → r ≡ q
first_once given r q first second =
    elim (cases_lt (number_of r) (number_of q)) [
      | inl less ↦ absurd (second.least r less first.breaks)
      | inr not_less ↦ elim (cases_lt (number_of q) (number_of r)) [
        | inl more ↦ absurd (first.least q more second.breaks)
        | inr not_more ↦ let numbers : number_of r ≡ number_of q = omega arith in sym (rule_back r) ∙ ap rule_of numbers ∙ rule_back q
      ]
    ]

pub rule_once : (query : RawQuery) (r q : QueryRule) → HasQueryFault query (BadQuery r) → HasQueryFault query (BadQuery q) → r ≡ q
rule_once (raw.Document key) r q first second = absurd first
rule_once (raw.Collection given) r q first second = first_once given r q first second

-- what has a target breaks no rule
pub no_rule : (query : RawQuery) (target : Target) (r : QueryRule) → IsQueryOf query target → HasQueryFault query (BadQuery r) → ⊥
no_rule (raw.Document key) target r of broken = broken
no_rule (raw.Collection given) (Document key) r of broken = of
no_rule (raw.Collection given) (Collection target) r of broken = of.sound r broken.breaks
