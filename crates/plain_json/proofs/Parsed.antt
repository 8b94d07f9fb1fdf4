-- A text that is read to its end.
use Rattle.std.proofs.Common.{◌≡◌, ℕ, List, []}
use Rattle.std.specs.Prelude.{Some}
use Rattle.json.specs.Json.{Json, value}
use Rattle.json.specs.Lex.{tokens}
use Rattle.serde_json.specs.Data.{Data}
use Rattle.serde_json.specs.Read.{of_json, read}

pub whole : (content : List ℕ) (tree : Json) (d : Data) → value 127 (tokens content) ≡ Some (tree, []) → of_json tree ≡ Some d → read content ≡ Some d
whole content tree d is seen = rw is seen
