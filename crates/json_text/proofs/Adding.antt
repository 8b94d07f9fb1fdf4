-- What is put in steps is put as a whole.
use Rattle.std.proofs.Common.{◌≡◌, ◌∙◌, List, [], ◌∷◌, ◌++◌, Result, Ok, Err, OnOk, sym, ap, subst, append_assoc}
use Rattle.json.specs.Token.{Token}
use Rattle.json.specs.Written.{Written, Writes}
use Rattle.json_text.specs.Puts.{Adds}

-- a step after others
pub onto : {a b c : Written} {ts us : List Token} → Adds a b ts → Adds b c us → Adds a c (ts ++ us)
onto {a} {b} {c} {ts} {us} done next = record {
  before = next.before ∙ done.before;
  tokens = next.tokens ∙ ap (λ l. l ++ us) done.tokens ∙ append_assoc a.tokens ts us;
}

-- a token
pub one_token : {E : Type 0} {x : Unit {0}} {a b : Written} {t : Token} → Writes {E = E} (Ok x) a b t → Adds a b (t ∷ [])
one_token writes = record { before = writes.room.0; tokens = writes.ok }

-- a token after others
pub then_token : {E : Type 0} {x : Unit {0}} {a b c : Written} {ts : List Token} {t : Token} → Adds a b ts → Writes {E = E} (Ok x) b c t → Adds a c (ts ++ t ∷ [])
then_token done writes = onto done (one_token writes)

-- the same where it may have failed
pub last_token : {E : Type 0} {r : Result (Unit {0}) E} {a b c : Written} {ts : List Token} {t : Token} → Adds a b ts → Writes r b c t → OnOk r (Adds a c (ts ++ t ∷ []))
last_token {r = Ok x} done writes = then_token done writes
last_token {r = Err e} done writes = tt

-- a step after others that may have failed
pub onto_last : {E : Type 0} {a b : Written} {ts : List Token} (r : Result (Unit {0}) E) (c : Written) (us : List Token) → Adds a b ts → OnOk r (Adds b c us) → OnOk r (Adds a c (ts ++ us))
onto_last (Ok x) c us done next = onto done next
onto_last (Err e) c us done next = tt

-- the same tokens
pub same : {a b : Written} {ts us : List Token} → ts ≡ us → Adds a b ts → Adds a b us
same {a} {b} is done = subst (λ l. Adds a b l) is done

-- a list or an object of which a part was put: with what is left, the tokens are those of the whole
pub record IsPartOf (first now : Written) (left whole : List Token) : Type 0 where
  pub before : now.before ≡ first.before
  pub tokens : now.tokens ++ left ≡ first.tokens ++ whole

-- one more was put
pub one_less : {a b c : Written} {ts left more whole : List Token} → IsPartOf a b more whole → Adds b c ts → more ≡ ts ++ left → IsPartOf a c left whole
one_less {a} {b} {c} {ts} {left} {more} {whole} part next is = record {
  before = next.before ∙ part.before;
  tokens = ap (λ l. l ++ left) next.tokens ∙ append_assoc b.tokens ts left ∙ ap (λ l. b.tokens ++ l) (sym is) ∙ part.tokens;
}
