-- JSON trees as whole numbers.
use Rattle.std.proofs.Common.{◌≡◌, ℕ, ◌^◌, ◌≤◌, Bool, true, false, cond, ℤ, pos, List, Option, Some, None, MatchOption, FitsSigned, w64, nat_lt, refl, sym, ap, subst, inl, inr, ◌∙◌, arith}
use Rattle.std.proofs.lemmas.Int.{ints}
use Rattle.std.specs.Option.{option_and_then}
use borrow.Author.Tests.{ltb-false}
use Rattle.serde_json.specs.Data.{Data as Json, null, boolean, number, string, array, object}
use Rattle.serde_json.specs.Find.{as_number, as_str, as_i64}
use Rattle.json_model.specs.Numbers.{SpellsInteger, SpellsWhole, as_number as by_number, as_text as by_text}

-- a text is a whole number where it spells one
pub text_whole : (d : Json) (text : List ℕ) (found : Option ℤ) → Some text ≡ as_str d → MatchOption found ((z : ℤ) → SpellsInteger text z → ⊥) (λ z. SpellsInteger text z)
    → MatchOption found ((z : ℤ) → SpellsWhole d z → ⊥) (λ z. SpellsWhole d z)
text_whole (string t) text None is none = λ z s. elim s [
  | by_number fits n ↦ elim n [ inl u ↦ cc (u.1) | inr m ↦ cc m ]
  | by_text u e spelled ↦ let same : u ≡ text = cc in none z (subst (λ x. SpellsInteger x z) same spelled)
]
text_whole (string t) text (Some z) is some = by_text text (let e : t ≡ text = cc in ap string e) some
text_whole null text found is r = cc
text_whole (boolean b) text found is r = cc
text_whole (number n) text found is r = cc
text_whole (array ds) text found is r = cc
text_whole (object ms) text found is r = cc

unpicked : (b : Bool) (n : ℕ) → b ≡ nat_lt n (2 ^ 63) → cond b (Some (pos n)) None ≡ None → FitsSigned w64 (pos n) → ⊥
unpicked true n is none fits = cc
unpicked false n is none fits = let h : 2 ^ 63 ≤ n = ltb-false n (2 ^ 63) (sym is) in omega (arith, ints, fits)

-- and anything else isn't one
pub no_whole : (d : Json) → None ≡ as_str d → None ≡ option_and_then as_i64 (as_number d) → (z : ℤ) → SpellsWhole d z → ⊥
no_whole d text none z (by_text t e s) = let g : as_str d ≡ Some t = ap as_str e in cc
no_whole d text none z (by_number fits (inl (n, e, v))) =
    unpicked (nat_lt n (2 ^ 63)) n refl (sym (none ∙ ap (λ x. option_and_then as_i64 (as_number x)) e)) (subst (λ x. FitsSigned w64 x) v fits)
no_whole d text none z (by_number fits (inr e)) = let g : option_and_then as_i64 (as_number d) ≡ Some z = ap (λ x. option_and_then as_i64 (as_number x)) e in cc
