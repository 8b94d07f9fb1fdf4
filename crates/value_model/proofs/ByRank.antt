-- values of two kinds, which go by the ranks of their kinds
use Rattle.std.proofs.Common.{◌≡◌, ◌≢◌, ℕ, ℤ, Bool, List, Box, Global, refl, sym, subst}
use Rattle.std.specs.Ordering.{nat_cmp}
use Rattle.value_model.specs.declared.reference.RefName.{RefName}
use Rattle.value_model.specs.declared.timestamp.Timestamp.{Timestamp}
use Rattle.value_model.specs.declared.value.Kind.{Kind}
use Rattle.value_model.specs.declared.value.Kind.TheVariants.{Null, Boolean, Integer, Time, Pending, Text, Bytes, Reference, Array, Map}
use Rattle.value_model.specs.Data.{Data, Entries, reference}
use Rattle.value_model.specs.Order.{rank}
use Rattle.value_model.specs.View.{kind_data}
use Rattle.value_model.proofs.Exact.{cmp}

abbrev GoesByRank : Kind → Kind → Type 0
GoesByRank k l = cmp (kind_data k) (kind_data l) ≡ nat_cmp (rank (kind_data k)) (rank (kind_data l))

null_apart : (l : Kind) → l ≢ Null → GoesByRank Null l
null_apart Null other = absurd (other refl)
null_apart l other = refl

pub not_null : (k l : Kind) → k ≡ Null → l ≢ Null → GoesByRank k l
not_null k l is other = subst (λ z. GoesByRank z l) (sym is) (null_apart l other)

boolean_apart : (x : Bool) (l : Kind) → ((y : Bool) → l ≢ Boolean y) → GoesByRank (Boolean x) l
boolean_apart x (Boolean y) other = absurd (other y refl)
boolean_apart x l other = refl

pub not_boolean : (k l : Kind) (x : Bool) → k ≡ Boolean x → ((y : Bool) → l ≢ Boolean y) → GoesByRank k l
not_boolean k l x is other = subst (λ z. GoesByRank z l) (sym is) (boolean_apart x l other)

integer_apart : (x : ℤ) (l : Kind) → ((y : ℤ) → l ≢ Integer y) → GoesByRank (Integer x) l
integer_apart x (Integer y) other = absurd (other y refl)
integer_apart x l other = refl

pub not_integer : (k l : Kind) (x : ℤ) → k ≡ Integer x → ((y : ℤ) → l ≢ Integer y) → GoesByRank k l
not_integer k l x is other = subst (λ z. GoesByRank z l) (sym is) (integer_apart x l other)

time_apart : (x : Timestamp) (l : Kind) → ((y : Timestamp) → l ≢ Time y) → GoesByRank (Time x) l
time_apart x (Time y) other = absurd (other y refl)
time_apart x l other = refl

pub not_time : (k l : Kind) (x : Timestamp) → k ≡ Time x → ((y : Timestamp) → l ≢ Time y) → GoesByRank k l
not_time k l x is other = subst (λ z. GoesByRank z l) (sym is) (time_apart x l other)

pending_apart : (x : Timestamp) (l : Kind) → ((y : Timestamp) → l ≢ Pending y) → GoesByRank (Pending x) l
pending_apart x (Pending y) other = absurd (other y refl)
pending_apart x l other = refl

pub not_pending : (k l : Kind) (x : Timestamp) → k ≡ Pending x → ((y : Timestamp) → l ≢ Pending y) → GoesByRank k l
not_pending k l x is other = subst (λ z. GoesByRank z l) (sym is) (pending_apart x l other)

text_apart : (x : List ℕ) (l : Kind) → ((y : List ℕ) → l ≢ Text y) → GoesByRank (Text x) l
text_apart x (Text y) other = absurd (other y refl)
text_apart x l other = refl

pub not_text : (k l : Kind) (x : List ℕ) → k ≡ Text x → ((y : List ℕ) → l ≢ Text y) → GoesByRank k l
not_text k l x is other = subst (λ z. GoesByRank z l) (sym is) (text_apart x l other)

bytes_apart : (x : List ℕ) (l : Kind) → ((y : List ℕ) → l ≢ Bytes y) → GoesByRank (Bytes x) l
bytes_apart x (Bytes y) other = absurd (other y refl)
bytes_apart x l other = refl

pub not_bytes : (k l : Kind) (x : List ℕ) → k ≡ Bytes x → ((y : List ℕ) → l ≢ Bytes y) → GoesByRank k l
not_bytes k l x is other = subst (λ z. GoesByRank z l) (sym is) (bytes_apart x l other)

pub reference_apart : (x : RefName) (l : Kind) → ((y : Box RefName Global) → l ≢ Reference y) → cmp (reference x) (kind_data l) ≡ nat_cmp 7 (rank (kind_data l))
reference_apart x (Reference y) other = absurd (other y refl)
reference_apart x l other = refl

pub not_reference : (k l : Kind) (x : Box RefName Global) → k ≡ Reference x → ((y : Box RefName Global) → l ≢ Reference y) → GoesByRank k l
not_reference k l x is other = subst (λ z. GoesByRank z l) (sym is) (reference_apart x.value l other)

array_apart : (x : List Data) (l : Kind) → ((y : List Data) → l ≢ Array y) → GoesByRank (Array x) l
array_apart x (Array y) other = absurd (other y refl)
array_apart x l other = refl

pub not_array : (k l : Kind) (x : List Data) → k ≡ Array x → ((y : List Data) → l ≢ Array y) → GoesByRank k l
not_array k l x is other = subst (λ z. GoesByRank z l) (sym is) (array_apart x l other)

map_apart : (x : Entries) (l : Kind) → ((y : Entries) → l ≢ Map y) → GoesByRank (Map x) l
map_apart x (Map y) other = absurd (other y refl)
map_apart x l other = refl

pub not_map : (k l : Kind) (x : Entries) → k ≡ Map x → ((y : Entries) → l ≢ Map y) → GoesByRank k l
not_map k l x is other = subst (λ z. GoesByRank z l) (sym is) (map_apart x l other)
