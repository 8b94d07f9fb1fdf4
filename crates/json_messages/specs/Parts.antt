-- Where the members of an object stand.
use Rattle.std.specs.Prelude.{◌≡◌, ℕ, List}
use Rattle.serde_json.specs.Data.{Members}
use Rattle.json_model.specs.declared.place.Object.{Object}
use Rattle.json_model.specs.declared.place.Place.{Place}
use Rattle.json_model.specs.Members.{refined}
use Rattle.json_model.specs.Places.{member_place}

-- in an object of these members the name has that place
abbrev pub HasPlace : Object → Members → List ℕ → Place → Type 0
HasPlace kind ms name place = member_place (refined kind ms) name ≡ place
