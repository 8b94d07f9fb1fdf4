-- What is put into a writer of JSON: the tokens of trees, of their items and of their members.
use Rattle.std.specs.Prelude.{◌≡◌, List, ◌++◌, Result, OnOk}
use Rattle.json.specs.Token.{Token}
use Rattle.json.specs.Tree.{json_tokens, items_tokens, members_tokens}
use Rattle.json.specs.Written.{Written}
use Rattle.serde_json.specs.Data.{Data, object, Items, Members, no_members}
use Rattle.serde_json.specs.Written.{outline, items_outline, members_outline}

-- the tokens of a tree
abbrev pub tokens_of : Data → List Token
tokens_of d = json_tokens (outline d)

-- the tokens of the items of a list, with the closing bracket
abbrev pub tokens_of_items : Items → List Token
tokens_of_items ds = items_tokens (items_outline ds)

-- the tokens of the members of an object, with the closing brace
abbrev pub tokens_of_members : Members → List Token
tokens_of_members ms = members_tokens (members_outline ms)

-- the members of an object; what is none has none
abbrev pub members_in : Data → Members
members_in (object ms) = ms
members_in _ = no_members

-- these tokens come after what was written
pub record Adds (old new : Written) (ts : List Token) : Type 0 where
  pub before : new.before ≡ old.before
  pub tokens : new.tokens ≡ old.tokens ++ ts

-- the tree is put there, where there is memory
abbrev pub Puts : {E : Type 0} → Result (Unit {0}) E → Written → Written → Data → Type 0
Puts result old new d = OnOk result (Adds old new (tokens_of d))

-- the items are, with the closing bracket
abbrev pub PutsItems : {E : Type 0} → Result (Unit {0}) E → Written → Written → Items → Type 0
PutsItems result old new ds = OnOk result (Adds old new (tokens_of_items ds))

-- the members are, with the closing brace
abbrev pub PutsMembers : {E : Type 0} → Result (Unit {0}) E → Written → Written → Members → Type 0
PutsMembers result old new ms = OnOk result (Adds old new (tokens_of_members ms))
