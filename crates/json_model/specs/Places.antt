-- The tables: what is to stand under which name of which object, as google.firestore.v1 spells it in proto3 JSON.
use Rattle.std.specs.Prelude.{ℕ, List, [], ◌∷◌, Bool, true, false, not, ◌&&◌, ◌||◌, codes, if◌then◌else◌}
use Rattle.std.specs.Str.{bytes_eq}
use Rattle.json_model.specs.declared.place.Place.{Place}
use Rattle.json_model.specs.declared.place.Place.TheVariants.{Leaf as a_leaf, Object as an_object, Series as a_series, Unsupported, Unknown, Ignored}
use Rattle.json_model.specs.declared.place.Object.{Object}
use Rattle.json_model.specs.declared.place.Object.TheVariants as object
use Rattle.json_model.specs.declared.place.Series.{Series}
use Rattle.json_model.specs.declared.place.Series.TheVariants as series
use Rattle.json_model.specs.declared.place.Leaf.TheVariants as leaf
use Rattle.json_model.specs.declared.place.Constants.TheVariants as constants

-- a name, and what is to stand under it
abbrev pub Row : Type 0
Row = List ℕ × Place

-- the place of a name in a table
abbrev pub placed : List Row → List ℕ → Place
placed [] name = Unknown
placed (row ∷ rows) name = if bytes_eq name row.0 then row.1 else placed rows name

-- the kinds of a value
unfoldable pub value_rows : List Row
value_rows =
    (codes "arrayValue", an_object object.Array) ∷
    (codes "booleanValue", a_leaf leaf.Boolean) ∷
    (codes "bytesValue", a_leaf leaf.Bytes) ∷
    (codes "doubleValue", Unsupported) ∷
    (codes "geoPointValue", Unsupported) ∷
    (codes "integerValue", a_leaf leaf.Integer) ∷
    (codes "mapValue", an_object object.Map) ∷
    (codes "nullValue", a_leaf leaf.Null) ∷
    (codes "referenceValue", a_leaf leaf.Reference) ∷
    (codes "stringValue", a_leaf leaf.Text) ∷
    (codes "timestampValue", a_leaf leaf.Time) ∷
    []

-- The lines, by the name of their only member. What the messages `watch` and `written` hold is read by the backend's side, and
-- not with the line.
unfoldable pub line_rows : List Row
line_rows =
    (codes "close", an_object object.CloseLine) ∷
    (codes "get", an_object object.GetLine) ∷
    (codes "listen", an_object object.ListenLine) ∷
    (codes "open", an_object object.OpenLine) ∷
    (codes "timer", an_object object.TimerLine) ∷
    (codes "unlisten", an_object object.UnlistenLine) ∷
    (codes "watch", Ignored) ∷
    (codes "write", an_object object.WriteLine) ∷
    (codes "written", Ignored) ∷
    []

-- what `write` holds
unfoldable pub write_line_rows : List Row
write_line_rows =
    (codes "at", a_leaf leaf.Time) ∷
    (codes "writes", a_series series.Writes) ∷
    []

-- what `listen` holds
unfoldable pub listen_line_rows : List Row
listen_line_rows =
    (codes "id", a_leaf leaf.ListenerId) ∷
    (codes "target", an_object object.Target) ∷
    []

-- what `close` holds
unfoldable pub close_line_rows : List Row
close_line_rows =
    (codes "status", an_object object.Status) ∷
    (codes "stream", a_leaf (leaf.Constant constants.StreamName)) ∷
    []

-- a write
unfoldable pub write_rows : List Row
write_rows =
    (codes "currentDocument", an_object object.Condition) ∷
    (codes "delete", a_leaf leaf.Name) ∷
    (codes "transform", Unsupported) ∷
    (codes "update", an_object object.Update) ∷
    (codes "updateMask", an_object object.Mask) ∷
    (codes "updateTransforms", a_series series.Transforms) ∷
    []

-- a write whose alternative is `delete`: it has no mask and no transforms
unfoldable pub delete_write_rows : List Row
delete_write_rows =
    (codes "currentDocument", an_object object.Condition) ∷
    (codes "delete", a_leaf leaf.Name) ∷
    []

-- the alternatives of a write
unfoldable pub is_write_choice : List ℕ → Bool
is_write_choice name = bytes_eq name (codes "delete") || (bytes_eq name (codes "transform") || bytes_eq name (codes "update"))

-- what `update` holds
unfoldable pub update_rows : List Row
update_rows =
    (codes "fields", an_object object.Fields) ∷
    (codes "name", a_leaf leaf.Name) ∷
    []

-- what `updateMask` holds
unfoldable pub mask_rows : List Row
mask_rows =
    (codes "fieldPaths", a_series series.Paths) ∷
    []

-- what `currentDocument` holds
unfoldable pub condition_rows : List Row
condition_rows =
    (codes "exists", a_leaf leaf.Boolean) ∷
    (codes "updateTime", a_leaf leaf.Time) ∷
    []

-- a transform
unfoldable pub transform_rows : List Row
transform_rows =
    (codes "appendMissingElements", an_object object.Elements) ∷
    (codes "fieldPath", a_leaf leaf.Path) ∷
    (codes "increment", an_object object.Operand) ∷
    (codes "maximum", an_object object.Operand) ∷
    (codes "minimum", an_object object.Operand) ∷
    (codes "removeAllFromArray", an_object object.Elements) ∷
    (codes "setToServerValue", a_leaf leaf.ServerTime) ∷
    []

-- the operand of an arithmetic transform: a value that is a whole number
unfoldable pub operand_rows : List Row
operand_rows =
    (codes "doubleValue", Unsupported) ∷
    (codes "integerValue", a_leaf leaf.Integer) ∷
    []

-- a target: a document, or a query
unfoldable pub target_rows : List Row
target_rows =
    (codes "documents", an_object object.Documents) ∷
    (codes "query", an_object object.Query) ∷
    []

-- what `query` of a target holds
unfoldable pub query_rows : List Row
query_rows =
    (codes "parent", a_leaf leaf.Parent) ∷
    (codes "structuredQuery", an_object object.StructuredQuery) ∷
    []

-- what `structuredQuery` holds
unfoldable pub structured_query_rows : List Row
structured_query_rows =
    (codes "endAt", an_object object.Cursor) ∷
    (codes "findNearest", Unsupported) ∷
    (codes "from", a_series series.Selectors) ∷
    (codes "limit", a_leaf leaf.Limit) ∷
    (codes "offset", Unsupported) ∷
    (codes "orderBy", a_series series.Orders) ∷
    (codes "select", Unsupported) ∷
    (codes "startAt", an_object object.Cursor) ∷
    (codes "where", an_object object.Filter) ∷
    []

-- an item of `from`
unfoldable pub selector_rows : List Row
selector_rows =
    (codes "allDescendants", a_leaf leaf.Descendants) ∷
    (codes "collectionId", a_leaf leaf.Id) ∷
    []

-- an item of `orderBy`
unfoldable pub order_rows : List Row
order_rows =
    (codes "direction", a_leaf (leaf.Constant constants.Direction)) ∷
    (codes "field", an_object object.Field) ∷
    []

-- what `startAt` and `endAt` hold
unfoldable pub cursor_rows : List Row
cursor_rows =
    (codes "before", a_leaf leaf.Boolean) ∷
    (codes "values", a_series series.Values) ∷
    []

-- a filter
unfoldable pub filter_rows : List Row
filter_rows =
    (codes "compositeFilter", an_object object.CompositeFilter) ∷
    (codes "fieldFilter", an_object object.FieldFilter) ∷
    (codes "unaryFilter", an_object object.UnaryFilter) ∷
    []

-- what `compositeFilter` holds
unfoldable pub composite_filter_rows : List Row
composite_filter_rows =
    (codes "filters", a_series series.Filters) ∷
    (codes "op", a_leaf (leaf.Constant constants.Junction)) ∷
    []

-- what `fieldFilter` holds
unfoldable pub field_filter_rows : List Row
field_filter_rows =
    (codes "field", an_object object.Field) ∷
    (codes "op", a_leaf (leaf.Constant constants.Operator)) ∷
    (codes "value", an_object object.Value) ∷
    []

-- a filter of a field whose operand is a list of operands
unfoldable pub list_filter_rows : List Row
list_filter_rows =
    (codes "field", an_object object.Field) ∷
    (codes "op", a_leaf (leaf.Constant constants.Operator)) ∷
    (codes "value", an_object object.ListOperand) ∷
    []

-- what `unaryFilter` holds
unfoldable pub unary_filter_rows : List Row
unary_filter_rows =
    (codes "field", an_object object.Field) ∷
    (codes "op", a_leaf (leaf.Constant constants.Test)) ∷
    []

-- a message of a watch stream
unfoldable pub listen_response_rows : List Row
listen_response_rows =
    (codes "documentChange", an_object object.DocumentChange) ∷
    (codes "documentDelete", an_object object.DocumentDelete) ∷
    (codes "documentRemove", an_object object.DocumentDelete) ∷
    (codes "filter", an_object object.ExistenceFilter) ∷
    (codes "targetChange", an_object object.TargetChange) ∷
    []

-- what `targetChange` holds
unfoldable pub target_change_rows : List Row
target_change_rows =
    (codes "cause", an_object object.Status) ∷
    (codes "readTime", a_leaf leaf.Time) ∷
    (codes "resumeToken", a_leaf leaf.Bytes) ∷
    (codes "targetChangeType", a_leaf (leaf.Constant constants.ChangeType)) ∷
    (codes "targetIds", a_series series.TargetIds) ∷
    []

-- what `documentChange` holds
unfoldable pub document_change_rows : List Row
document_change_rows =
    (codes "document", an_object object.Document) ∷
    (codes "removedTargetIds", a_series series.TargetIds) ∷
    (codes "targetIds", a_series series.TargetIds) ∷
    []

-- what `document` of a changed one holds
unfoldable pub document_rows : List Row
document_rows =
    (codes "createTime", Ignored) ∷
    (codes "fields", an_object object.Fields) ∷
    (codes "name", a_leaf leaf.Name) ∷
    (codes "updateTime", a_leaf leaf.Time) ∷
    []

-- what `documentDelete` and `documentRemove` hold
unfoldable pub document_delete_rows : List Row
document_delete_rows =
    (codes "document", a_leaf leaf.Name) ∷
    (codes "readTime", a_leaf leaf.Time) ∷
    (codes "removedTargetIds", a_series series.TargetIds) ∷
    []

-- what `filter` of a message holds
unfoldable pub existence_filter_rows : List Row
existence_filter_rows =
    (codes "count", a_leaf leaf.Count) ∷
    (codes "targetId", a_leaf leaf.TargetId) ∷
    (codes "unchangedNames", Ignored) ∷
    []

-- a message of a write stream
unfoldable pub write_response_rows : List Row
write_response_rows =
    (codes "commitTime", a_leaf leaf.Time) ∷
    (codes "streamId", Ignored) ∷
    (codes "streamToken", a_leaf leaf.Bytes) ∷
    (codes "writeResults", a_series series.Results) ∷
    []

-- an item of `writeResults`
unfoldable pub write_result_rows : List Row
write_result_rows =
    (codes "transformResults", a_series series.Values) ∷
    (codes "updateTime", a_leaf leaf.Time) ∷
    []

-- the kind of a value, by its name
abbrev pub value_member : List ℕ → Place
value_member name = placed value_rows name

-- an object of one member, which no rows name
abbrev pub has_one_member : Object → Bool
has_one_member object.Array = true
has_one_member object.Map = true
has_one_member object.GetLine = true
has_one_member object.UnlistenLine = true
has_one_member object.OpenLine = true
has_one_member object.TimerLine = true
has_one_member object.Elements = true
has_one_member object.Documents = true
has_one_member object.Field = true
has_one_member _ = false

-- what is to stand under a name in an object
abbrev pub member_place : Object → List ℕ → Place
member_place object.Value name = placed value_rows name
member_place object.Array name = if bytes_eq name (codes "values") then a_series series.Values else Unknown
member_place object.Map name = if bytes_eq name (codes "fields") then an_object object.Fields else Unknown
member_place object.Fields name = an_object object.Value
member_place object.Line name = placed line_rows name
member_place object.WriteLine name = placed write_line_rows name
member_place object.GetLine name = if bytes_eq name (codes "name") then a_leaf leaf.Name else Unknown
member_place object.ListenLine name = placed listen_line_rows name
member_place object.UnlistenLine name = if bytes_eq name (codes "id") then a_leaf leaf.ListenerId else Unknown
member_place object.OpenLine name = if bytes_eq name (codes "stream") then a_leaf (leaf.Constant constants.StreamName) else Unknown
member_place object.CloseLine name = placed close_line_rows name
member_place object.TimerLine name = if bytes_eq name (codes "name") then a_leaf (leaf.Constant constants.TimerName) else Unknown
member_place object.Write name = placed write_rows name
member_place object.DeleteWrite name = placed delete_write_rows name
member_place object.Update name = placed update_rows name
member_place object.Mask name = placed mask_rows name
member_place object.Condition name = placed condition_rows name
member_place object.Transform name = placed transform_rows name
member_place object.ArrayTransform name = placed transform_rows name
member_place object.Operand name = placed operand_rows name
member_place object.Elements name = if bytes_eq name (codes "values") then a_series series.Values else Unknown
member_place object.Documents name = if bytes_eq name (codes "documents") then a_series series.Names else Unknown
member_place object.Target name = placed target_rows name
member_place object.Query name = placed query_rows name
member_place object.StructuredQuery name = placed structured_query_rows name
member_place object.Selector name = placed selector_rows name
member_place object.Order name = placed order_rows name
member_place object.Cursor name = placed cursor_rows name
member_place object.Filter name = placed filter_rows name
member_place object.CompositeFilter name = placed composite_filter_rows name
member_place object.FieldFilter name = placed field_filter_rows name
member_place object.ListFilter name = placed list_filter_rows name
member_place object.UnaryFilter name = placed unary_filter_rows name
member_place object.Field name = if bytes_eq name (codes "fieldPath") then a_leaf leaf.QueryPath else Unknown
member_place object.ListOperand name = Unknown
member_place object.ListenResponse name = placed listen_response_rows name
member_place object.TargetChange name = placed target_change_rows name
-- what else a status has is read over, whoever wrote it
member_place object.Status name = if bytes_eq name (codes "code") then a_leaf leaf.Code else if bytes_eq name (codes "message") then a_leaf leaf.Text else Ignored
member_place object.DocumentChange name = placed document_change_rows name
member_place object.Document name = placed document_rows name
member_place object.DocumentDelete name = placed document_delete_rows name
member_place object.ExistenceFilter name = placed existence_filter_rows name
member_place object.WriteResponse name = placed write_response_rows name
member_place object.WriteResult name = placed write_result_rows name

-- what is to stand in a list
abbrev pub item_place : Series → Place
item_place series.Values = an_object object.Value
item_place series.Writes = an_object object.Write
item_place series.Paths = a_leaf leaf.Path
item_place series.Transforms = an_object object.Transform
item_place series.Names = a_leaf leaf.Name
item_place series.Selectors = an_object object.Selector
item_place series.Orders = an_object object.Order
item_place series.Filters = an_object object.Filter
item_place series.TargetIds = a_leaf leaf.TargetId
item_place series.Results = an_object object.WriteResult

abbrev pub is_unknown : Place → Bool
is_unknown Unknown = true
is_unknown _ = false

-- the members that an object must have, ascending
abbrev pub required : Object → List (List ℕ)
required object.WriteLine = codes "at" ∷ []
required object.GetLine = codes "name" ∷ []
required object.ListenLine = codes "target" ∷ []
required object.OpenLine = codes "stream" ∷ []
required object.CloseLine = codes "stream" ∷ []
required object.TimerLine = codes "name" ∷ []
required object.Update = codes "name" ∷ []
required object.Transform = codes "fieldPath" ∷ []
required object.ArrayTransform = codes "fieldPath" ∷ []
required object.Documents = codes "documents" ∷ []
required object.Query = codes "parent" ∷ codes "structuredQuery" ∷ []
required object.Selector = codes "collectionId" ∷ []
required object.Order = codes "field" ∷ []
required object.Field = codes "fieldPath" ∷ []
required object.CompositeFilter = codes "op" ∷ []
required object.FieldFilter = codes "field" ∷ codes "op" ∷ codes "value" ∷ []
required object.ListFilter = codes "field" ∷ codes "op" ∷ codes "value" ∷ []
required object.UnaryFilter = codes "field" ∷ codes "op" ∷ []
required object.DocumentChange = codes "document" ∷ []
required object.Document = codes "name" ∷ codes "updateTime" ∷ []
required object.DocumentDelete = codes "document" ∷ []
required _ = []

-- the name is one of these
abbrev pub is_among : List ℕ → List (List ℕ) → Bool
is_among name [] = false
is_among name (one ∷ others) = bytes_eq one name || is_among name others

-- the objects that have exactly one of several members
abbrev pub chooses : Object → Bool
chooses object.Value = true
chooses object.Line = true
chooses object.Write = true
chooses object.Condition = true
chooses object.Transform = true
chooses object.Operand = true
chooses object.Target = true
chooses object.Filter = true
chooses object.ListenResponse = true
chooses _ = false

-- the member is one of them. What isn't supported counts, and in a line and an operand any that would be one elsewhere
abbrev pub is_choice : Object → List ℕ → Bool
is_choice object.Value name = not (is_unknown (placed value_rows name))
is_choice object.Line name = true
is_choice object.Write name = is_write_choice name
is_choice object.Condition name = not (is_unknown (placed condition_rows name))
is_choice object.Transform name = not (is_unknown (placed transform_rows name)) && not (bytes_eq name (codes "fieldPath"))
is_choice object.Operand name = not (is_unknown (placed value_rows name))
is_choice object.Target name = not (is_unknown (placed target_rows name))
is_choice object.Filter name = not (is_unknown (placed filter_rows name))
is_choice object.ListenResponse name = not (is_unknown (placed listen_response_rows name))
is_choice _ name = false
