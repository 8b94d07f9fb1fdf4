-- Writing one part after another.
use Rattle.std.proofs.Common.{◌≡◌, ◌<◌, ℕ, ◌+◌, List, [], ◌∷◌, ◌++◌, length, take, get_or, Some, None, sym, ap, ◌∙◌, append_assoc, FitsSigned}
use Rattle.std.specs.Int.{w32, w64, to_be_bytes, cast_unsigned, cast_signed}
use Rattle.std.specs.List.{flat_map, slice_get}
use Rattle.std.proofs.lemmas.Int.{to_z-of_z}
use Rattle.std.proofs.lemmas.List.{take_more, flat_map_more}
use Rattle.std.proofs.lemmas.Option.{slice_get_within, get_or_from_slice_get, slice_get-get_or, none-some}
use Rattle.value_model.specs.declared.timestamp.Timestamp.{Timestamp}
use Rattle.record_parts.specs.Spelling.{number, text, time}

pub segment_put : (start before after : List ℕ) (k : List (List ℕ)) (i : ℕ) (s : List ℕ) → slice_get k i ≡ Some s → before ≡ start ++ flat_map text (take i k) → after ≡ before ++ text s
    → after ≡ start ++ flat_map text (take (i + 1) k)
segment_put start before after k i s at so_far added =
    let longer : take (i + 1) k ≡ take i k ++ s ∷ [] = take_more k i s (slice_get_within k i s at) ∙ ap (λ (x : List ℕ). take i k ++ x ∷ []) (get_or_from_slice_get k i s s at) in
    added ∙ ap (λ (b : List ℕ). b ++ text s) so_far ∙ flat_map_more text start (take i k) s ∙ ap (λ (xs : List (List ℕ)). start ++ flat_map text xs) (sym longer)

pub segment_there : (k : List (List ℕ)) (i : ℕ) → i < length k → slice_get k i ≡ None → ⊥
segment_there k i below none = none-some (get_or k i []) (sym none ∙ slice_get-get_or k i [] below)

pub time_put : (old one two bytes : List ℕ) (t : Timestamp) → FitsSigned w64 t.seconds → one ≡ old ++ number (cast_unsigned w64 (cast_signed w64 (cast_unsigned w64 t.seconds))) → two ≡ one ++ bytes → bytes ≡ to_be_bytes w32 t.nanos → two ≡ old ++ time t
unfolding time
time_put old one two bytes t fits first second is =
    second ∙ (λ i. first i ++ is i) ∙ ap (λ (z : _). (old ++ number (cast_unsigned w64 z)) ++ to_be_bytes w32 t.nanos) (to_z-of_z w64 t.seconds fits)
    ∙ append_assoc old (number (cast_unsigned w64 t.seconds)) (to_be_bytes w32 t.nanos)

-- a byte, and then what stands behind it
pub byte_put : (old one two body whole : List ℕ) (tag : ℕ) → one ≡ old ++ tag ∷ [] → two ≡ one ++ body → whole ≡ tag ∷ body → two ≡ old ++ whole
byte_put old one two body whole tag first second is = second ∙ ap (λ (r : List ℕ). r ++ body) first ∙ append_assoc old (tag ∷ []) body ∙ ap (λ (r : List ℕ). old ++ r) (sym is)
