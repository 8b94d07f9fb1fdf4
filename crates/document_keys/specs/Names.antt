-- How databases, documents and collections are named.
--
-- A document name is `projects/{project}/databases/{database}/documents/{path}`, whose path has collection ids and
-- document ids in turn. Here names are written from their parts; the code cuts them.
use Rattle.std.specs.Prelude.{◌≡◌, ◌≢◌, ℕ, ◌<◌, ◌≤◌, ◌%◌, List, [], ◌∷◌, ◌++◌, length, codes, Option, Some, None}
use Rattle.std.specs.Bool.{◌==◌}
use Rattle.std.specs.List.{All, join_with_byte, slice_split}

-- the text is of the form `__.*__`: at least four bytes that begin and end with `__`
abbrev pub IsReserved : List ℕ → Type 0
IsReserved text = (inner : List ℕ) × (text ≡ codes "__" ++ (inner ++ codes "__"))

-- the text has 1 to 1,500 bytes
pub record HasNameLength (text : List ℕ) : Type 0 where
  pub some : 0 < length text
  pub most : length text ≤ 1500

-- the text has no `/`
abbrev pub IsPart : List ℕ → Type 0
IsPart text = All (λ byte. byte ≢ 47) text

-- a segment: a text of 1 to 1,500 bytes without `/`, other than `.` and `..`, and not reserved
pub record IsSegment (text : List ℕ) : Type 0 where
  pub long : HasNameLength text
  pub part : IsPart text
  pub not_dot : text ≢ codes "."
  pub not_dots : text ≢ codes ".."
  pub free : ¬ (IsReserved text)

-- a database: the project that has it, and its own name
pub record Root : Type 0 where
  pub project : List ℕ
  pub name : List ℕ

-- both are segments
pub record IsRoot (root : Root) : Type 0 where
  pub project : IsSegment root.project
  pub name : IsSegment root.name

-- `projects/{project}/databases/{name}`
unfoldable pub root_text : Root → List ℕ
root_text root = codes "projects/" ++ (root.project ++ (codes "/databases/" ++ root.name))

-- `{root}/documents`
unfoldable pub documents_text : Root → List ℕ
documents_text root = root_text root ++ codes "/documents"

-- for each segment a `/` and the segment
abbrev pub path_text : List (List ℕ) → List ℕ
path_text [] = []
path_text (segment ∷ path) = 47 ∷ (segment ++ path_text path)

-- the parts of a text, cut at each `/`
abbrev pub parts_of : List ℕ → List (List ℕ)
parts_of text = slice_split (λ byte. byte == 47) text

-- the segments in such a text: none where it is empty
abbrev pub segments_in : List ℕ → List (List ℕ)
segments_in [] = []
segments_in (byte ∷ text) = parts_of (byte ∷ text)

-- the text of a path below the root's `documents`: its segments, with a `/` between each two
abbrev pub relative_path : List (List ℕ) → List ℕ
relative_path path = join_with_byte 47 path

-- the name of a path under a root: the root, `/documents`, and per segment `/` and the segment
abbrev pub name_text : Root → List (List ℕ) → List ℕ
name_text root path = documents_text root ++ path_text path

-- a document key: segments of even and positive number, collection ids and document ids in turn
pub record IsKey (path : List (List ℕ)) : Type 0 where
  pub some : 0 < length path
  pub even : length path % 2 ≡ 0
  pub segments : All IsSegment path

-- the path of a collection: an odd number of segments
pub record IsCollection (path : List (List ℕ)) : Type 0 where
  pub odd : length path % 2 ≡ 1
  pub segments : All IsSegment path

-- the path of a collection's parent: the key of its document, or the empty path, which is the root's `documents`
abbrev pub parent_path : Option (List (List ℕ)) → List (List ℕ)
parent_path None = []
parent_path (Some key) = key
