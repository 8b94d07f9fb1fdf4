-- Texts that stand as constants, as google.firestore.v1 spells them in proto3 JSON, and those of the lines.
use Rattle.std.specs.Prelude.{ℕ, List, Bool, false, ◌||◌, codes}
use Rattle.std.specs.Str.{bytes_eq}
use Rattle.json_model.specs.declared.place.Constants.{Constants}
use Rattle.json_model.specs.declared.place.Constants.TheVariants as constants

-- filters are joined by it
unfoldable pub is_junction : List ℕ → Bool
is_junction text = bytes_eq text (codes "AND") || bytes_eq text (codes "OR")

-- a field stands so to an operand
unfoldable pub is_operator : List ℕ → Bool
is_operator text = bytes_eq text (codes "ARRAY_CONTAINS") || (bytes_eq text (codes "ARRAY_CONTAINS_ANY") || (bytes_eq text (codes "EQUAL") || (bytes_eq text (codes "GREATER_THAN") || (bytes_eq text (codes "GREATER_THAN_OR_EQUAL") || (bytes_eq text (codes "IN") || (bytes_eq text (codes "LESS_THAN") || (bytes_eq text (codes "LESS_THAN_OR_EQUAL") || (bytes_eq text (codes "NOT_EQUAL") || bytes_eq text (codes "NOT_IN")))))))))

-- a field is tested by it
unfoldable pub is_test : List ℕ → Bool
is_test text = bytes_eq text (codes "IS_NOT_NULL") || bytes_eq text (codes "IS_NULL")

-- the direction of an order
unfoldable pub is_direction : List ℕ → Bool
is_direction text = bytes_eq text (codes "ASCENDING") || (bytes_eq text (codes "DESCENDING") || bytes_eq text (codes "DIRECTION_UNSPECIFIED"))

-- what became of targets
unfoldable pub is_change_type : List ℕ → Bool
is_change_type text = bytes_eq text (codes "ADD") || (bytes_eq text (codes "CURRENT") || (bytes_eq text (codes "NO_CHANGE") || (bytes_eq text (codes "REMOVE") || bytes_eq text (codes "RESET"))))

-- the name of a stream of the backend
unfoldable pub is_stream_name : List ℕ → Bool
is_stream_name text = bytes_eq text (codes "watch") || bytes_eq text (codes "write")

-- the name of a timer
unfoldable pub is_timer_name : List ℕ → Bool
is_timer_name text = bytes_eq text (codes "online")

-- a test that isn't supported
unfoldable pub is_untaken_test : List ℕ → Bool
is_untaken_test text = bytes_eq text (codes "IS_NAN") || bytes_eq text (codes "IS_NOT_NAN")

-- the operand is a list of operands
unfoldable pub is_list_operator : List ℕ → Bool
is_list_operator text = bytes_eq text (codes "ARRAY_CONTAINS_ANY") || (bytes_eq text (codes "IN") || bytes_eq text (codes "NOT_IN"))

-- the text may stand as such a constant
abbrev pub is_constant : Constants → List ℕ → Bool
is_constant constants.Junction text = is_junction text
is_constant constants.Operator text = is_operator text
is_constant constants.Test text = is_test text
is_constant constants.Direction text = is_direction text
is_constant constants.ChangeType text = is_change_type text
is_constant constants.StreamName text = is_stream_name text
is_constant constants.TimerName text = is_timer_name text

-- it is one that isn't supported
abbrev pub is_untaken : Constants → List ℕ → Bool
is_untaken constants.Test text = is_untaken_test text
is_untaken _ text = false
