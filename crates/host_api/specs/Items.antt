-- The lines of a stream of bytes.
use Rattle.std.specs.Prelude.{◌≡◌, ℕ, ◌==◌, List, [], ◌∷◌, ◌++◌, length, nat_lt, if◌then◌else◌}
use Rattle.host_api.specs.declared.source.Line.{Line}
use Rattle.host_api.specs.declared.source.Line.TheVariants.{Text, TooLong, End}

-- the most bytes that a line may have
abbrev pub limit : ℕ
limit = 4194304

-- One thing that a source gives: a line without its newline, a line that is too long to be kept, or nothing any more.
pub data Item : Type 0 where
  Bytes : List ℕ → Item
  Overlong : Item
  Ended : Item

-- what a line of these bytes is
abbrev pub item_in : List ℕ → Item
item_in text = if nat_lt limit (length text) then Overlong else Bytes text

-- the items of these bytes, where `text` is what the first line begins with
abbrev pub split_on : List ℕ → List ℕ → List Item
split_on text [] = if length text == 0 then [] else item_in text ∷ []
split_on text (byte ∷ rest) = if byte == 10 then item_in text ∷ split_on [] rest else split_on (text ++ byte ∷ []) rest

-- The items of a stream: what stands before each newline, and what stands behind the last one where that isn't empty.
unfoldable pub split : List ℕ → List Item
split bytes = split_on [] bytes

-- the item that a call answered
abbrev pub item_of : Line → List ℕ → Item
item_of Text text = Bytes text
item_of TooLong text = Overlong
item_of End text = Ended

-- the call took the first item of the old ones, or there was none
abbrev pub Next : Item → List Item → List Item → Type 0
Next (Bytes text) old new = old ≡ Bytes text ∷ new
Next Overlong old new = old ≡ Overlong ∷ new
Next Ended old new = (old ≡ []) × (new ≡ [])

-- the new bytes are the end of the old ones
abbrev pub IsSuffix : List ℕ → List ℕ → Type 0
IsSuffix old new = (front : List ℕ) × (old ≡ front ++ new)
