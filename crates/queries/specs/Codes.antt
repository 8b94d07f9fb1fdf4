-- How deep proofs go into a filter, and the code by which they tell filters apart. No meaning stands here.
use Rattle.std.specs.Prelude.{◌≡◌, refl, ℕ, zero, suc, max}
use Rattle.std.specs.Coded.{Coded, code_by}
use base.Stored.{Gv, gnil, gnum, gcons}
use denote.Struct.Codes.{itself}
use Rattle.value_model.specs.Codes.{number, left, right, from_texts, to_texts, texts_back, encode as encode_data, decode as decode_data, data_back}
use Rattle.queries.specs.declared.filter.Junction.{Junction}
use Rattle.queries.specs.declared.filter.Junction.TheVariants.{And, Or}
use Rattle.queries.specs.declared.filter.Operator.{Operator}
use Rattle.queries.specs.declared.filter.Operator.TheVariants.{Equal, LessThan, LessThanOrEqual, GreaterThan, GreaterThanOrEqual, NotEqual, IsIn, IsNotIn, ArrayContains, ArrayContainsAny}
use Rattle.queries.specs.declared.filter.UnaryOp.{UnaryOp}
use Rattle.queries.specs.declared.filter.UnaryOp.TheVariants.{IsNull, IsNotNull}
use Rattle.queries.specs.Filters.{FilterData, composite, field, unary, FilterItems, no_filters, filter_item}

-- how many steps lead from a filter to its innermost one
abbrev mutual
  pub filter_size : FilterData → ℕ
  filter_size (composite op fs) = filters_size fs
  filter_size (field path op operand) = 0
  filter_size (unary path op) = 0

  pub filters_size : FilterItems → ℕ
  filters_size no_filters = 0
  filters_size (filter_item f fs) = max (suc (filter_size f)) (filters_size fs)

abbrev pub from_junction : Junction → ℕ
from_junction And = 0
from_junction Or = 1

abbrev pub to_junction : ℕ → Junction
to_junction zero = And
to_junction (suc n) = Or

pub junction_back : (op : Junction) → to_junction (from_junction op) ≡ op
junction_back And = refl
junction_back Or = refl

abbrev pub from_test : UnaryOp → ℕ
from_test IsNull = 0
from_test IsNotNull = 1

abbrev pub to_test : ℕ → UnaryOp
to_test zero = IsNull
to_test (suc n) = IsNotNull

pub test_back : (op : UnaryOp) → to_test (from_test op) ≡ op
test_back IsNull = refl
test_back IsNotNull = refl

abbrev pub from_operator : Operator → ℕ
from_operator Equal = 0
from_operator LessThan = 1
from_operator LessThanOrEqual = 2
from_operator GreaterThan = 3
from_operator GreaterThanOrEqual = 4
from_operator NotEqual = 5
from_operator IsIn = 6
from_operator IsNotIn = 7
from_operator ArrayContains = 8
from_operator ArrayContainsAny = 9

abbrev pub to_operator : ℕ → Operator
to_operator zero = Equal
to_operator (suc zero) = LessThan
to_operator (suc (suc zero)) = LessThanOrEqual
to_operator (suc (suc (suc zero))) = GreaterThan
to_operator (suc (suc (suc (suc zero)))) = GreaterThanOrEqual
to_operator (suc (suc (suc (suc (suc zero))))) = NotEqual
to_operator (suc (suc (suc (suc (suc (suc zero)))))) = IsIn
to_operator (suc (suc (suc (suc (suc (suc (suc zero))))))) = IsNotIn
to_operator (suc (suc (suc (suc (suc (suc (suc (suc zero)))))))) = ArrayContains
to_operator (suc (suc (suc (suc (suc (suc (suc (suc (suc n))))))))) = ArrayContainsAny

pub operator_back : (op : Operator) → to_operator (from_operator op) ≡ op
operator_back Equal = refl
operator_back LessThan = refl
operator_back LessThanOrEqual = refl
operator_back GreaterThan = refl
operator_back GreaterThanOrEqual = refl
operator_back NotEqual = refl
operator_back IsIn = refl
operator_back IsNotIn = refl
operator_back ArrayContains = refl
operator_back ArrayContainsAny = refl

abbrev mutual
  pub encode : FilterData → Gv
  encode (composite op fs) = gcons (gnum 0) (gcons (gnum (from_junction op)) (encode_filters fs))
  encode (field path op operand) = gcons (gnum 1) (gcons (from_texts path) (gcons (gnum (from_operator op)) (encode_data operand)))
  encode (unary path op) = gcons (gnum 2) (gcons (from_texts path) (gnum (from_test op)))

  pub encode_filters : FilterItems → Gv
  encode_filters no_filters = gnil
  encode_filters (filter_item f fs) = gcons (encode f) (encode_filters fs)

abbrev mutual
  pub decode : Gv → FilterData
  decode gnil = composite And no_filters
  decode (gnum n) = composite And no_filters
  decode (gcons gnil g) = composite And no_filters
  decode (gcons (gcons a b) g) = composite And no_filters
  decode (gcons (gnum zero) gnil) = composite And no_filters
  decode (gcons (gnum zero) (gnum n)) = composite And no_filters
  decode (gcons (gnum zero) (gcons op fs)) = composite (to_junction (number op)) (decode_filters fs)
  decode (gcons (gnum (suc zero)) g) = field (to_texts (left g)) (to_operator (number (left (right g)))) (decode_data (right (right g)))
  decode (gcons (gnum (suc (suc n))) g) = unary (to_texts (left g)) (to_test (number (right g)))

  pub decode_filters : Gv → FilterItems
  decode_filters gnil = no_filters
  decode_filters (gnum n) = no_filters
  decode_filters (gcons a b) = filter_item (decode a) (decode_filters b)

mutual
  pub filter_back : (f : FilterData) → decode (encode f) ≡ f
  filter_back (composite op fs) = λ i. composite (junction_back op i) (filters_back fs i)
  filter_back (field path op operand) = λ i. field (texts_back path i) (operator_back op i) (data_back operand i)
  filter_back (unary path op) = λ i. unary (texts_back path i) (test_back op i)

  pub filters_back : (fs : FilterItems) → decode_filters (encode_filters fs) ≡ fs
  filters_back no_filters = refl
  filters_back (filter_item f fs) = λ i. filter_item (filter_back f i) (filters_back fs i)

abbrev pub filter_code : Coded FilterData
filter_code = code_by Gv itself encode decode filter_back
