-- the ids beside their keys
use Rattle.std.proofs.Common.{◌≡◌, ◌∙◌, zero, suc, ℕ, ◌+◌, ◌≤◌, ◌<◌, ℤ, Bool, true, false, not, cond, List, [], ◌∷◌, ◌++◌, length, get_or, take, drop, zip, add-one, refl, sym, ap, arith}
use Rattle.std.specs.List.{filter}
use Rattle.std.proofs.lemmas.List.{map-append}
use Rattle.std.proofs.lemmas.List.Elements.{filter-append}
use Rattle.limbo_resolver.specs.Limbo.{Key, ended, has, ids_of, kept, keys_of}

pub ids_zip : (ids : List ℤ) (keys : List Key) → length ids ≤ length keys → ids_of (zip ids keys) ≡ ids
ids_zip [] keys few = refl
ids_zip (id ∷ ids) [] few = absurd (omega (arith, few))
ids_zip (id ∷ ids) (key ∷ keys) few = ap (λ l. id ∷ l) (ids_zip ids keys (omega (arith, few)))

pub keys_zip : (ids : List ℤ) (keys : List Key) → length ids ≤ length keys → keys_of (zip ids keys) ++ drop (length ids) keys ≡ keys
keys_zip [] keys few = refl
keys_zip (id ∷ ids) [] few = absurd (omega (arith, few))
keys_zip (id ∷ ids) (key ∷ keys) few = ap (λ l. key ∷ l) (keys_zip ids keys (omega (arith, few)))

-- what is behind the keys of the ids doesn't change their listens
pub zip_more : (ids : List ℤ) (keys more : List Key) → length ids ≤ length keys → zip ids (keys ++ more) ≡ zip ids keys
zip_more [] keys more few = refl
zip_more (id ∷ ids) [] more few = absurd (omega (arith, few))
zip_more (id ∷ ids) (key ∷ keys) more few = ap (λ l. (id, key) ∷ l) (zip_more ids keys more (omega (arith, few)))

pub zip_back : (listens : List (ℤ × Key)) (rest : List Key) → zip (ids_of listens) (keys_of listens ++ rest) ≡ listens
zip_back [] rest = refl
zip_back (p ∷ listens) rest = ap (λ l. p ∷ l) (zip_back listens rest)

pub drop_back : (listens : List (ℤ × Key)) (rest : List Key) → drop (length (ids_of listens)) (keys_of listens ++ rest) ≡ rest
drop_back [] rest = refl
drop_back (p ∷ listens) rest = drop_back listens rest

pub few_back : (listens : List (ℤ × Key)) (rest : List Key) → length (ids_of listens) ≤ length (keys_of listens ++ rest)
few_back [] rest = omega arith
few_back (p ∷ listens) rest = let some = few_back listens rest in omega (arith, some)

-- the keys of a part of the listens
pub keys_kept : (wanted : List Key) (listens : List (ℤ × Key)) → filter (has wanted) (keys_of listens) ≡ keys_of (kept wanted listens)
keys_kept wanted [] = refl
keys_kept wanted (p ∷ listens) = go (has wanted p.1) (keys_kept wanted listens)
  where
    go : (b : Bool) → filter (has wanted) (keys_of listens) ≡ keys_of (kept wanted listens) → cond b (p.1 ∷ filter (has wanted) (keys_of listens)) (filter (has wanted) (keys_of listens)) ≡ keys_of (cond b (p ∷ kept wanted listens) (kept wanted listens))
    go true same = ap (λ l. p.1 ∷ l) same
    go false same = same

pair_more : (ids : List ℤ) (keys : List Key) (i : ℕ) (d : ℤ) (e : Key) → i < length ids → length ids ≤ length keys → take (suc i) (zip ids keys) ≡ take i (zip ids keys) ++ (get_or ids i d, get_or keys i e) ∷ []
pair_more [] keys i d e inside few = absurd (omega (arith, inside))
pair_more (id ∷ ids) [] i d e inside few = absurd (omega (arith, few))
pair_more (id ∷ ids) (key ∷ keys) zero d e inside few = refl
pair_more (id ∷ ids) (key ∷ keys) (suc i) d e inside few = ap (λ l. (id, key) ∷ l) (pair_more ids keys i d e (omega (arith, inside)) (omega (arith, few)))

-- a step over the listens of the ids: the listen at the place passes the test, or it doesn't
passed_more : (p : ℤ × Key → Bool) (ids : List ℤ) (keys : List Key) (i : ℕ) (d : ℤ) (e : Key) (b : Bool) → i < length ids → length ids ≤ length keys → p (get_or ids i d, get_or keys i e) ≡ b → ids_of (filter p (take (i + 1) (zip ids keys))) ≡ ids_of (filter p (take i (zip ids keys))) ++ cond b (get_or ids i d ∷ []) []
passed_more p ids keys i d e b inside few is =
    ap (λ n. ids_of (filter p (take n (zip ids keys)))) (add-one i)
    ∙ ap (λ l. ids_of (filter p l)) (pair_more ids keys i d e inside few)
    ∙ ap ids_of (filter-append p (take i (zip ids keys)) ((get_or ids i d, get_or keys i e) ∷ []))
    ∙ map-append (λ p. p.0) (filter p (take i (zip ids keys))) (filter p ((get_or ids i d, get_or keys i e) ∷ []))
    ∙ ap (λ l. ids_of (filter p (take i (zip ids keys))) ++ l) (one b is)
  where
    one : (b : Bool) → p (get_or ids i d, get_or keys i e) ≡ b → ids_of (cond (p (get_or ids i d, get_or keys i e)) ((get_or ids i d, get_or keys i e) ∷ []) []) ≡ cond b (get_or ids i d ∷ []) []
    one true is = rw is refl
    one false is = rw is refl

pub kept_more : (wanted : List Key) (ids : List ℤ) (keys : List Key) (i : ℕ) (d : ℤ) (e : Key) (b : Bool) → i < length ids → length ids ≤ length keys → e ≡ get_or keys i e → b ≡ has wanted e → ids_of (kept wanted (take (i + 1) (zip ids keys))) ≡ ids_of (kept wanted (take i (zip ids keys))) ++ cond b (get_or ids i d ∷ []) []
kept_more wanted ids keys i d e b inside few at is = passed_more (λ p. has wanted p.1) ids keys i d e b inside few (ap (has wanted) (sym at) ∙ sym is)

pub ended_more : (wanted : List Key) (ids : List ℤ) (keys : List Key) (i : ℕ) (d : ℤ) (e : Key) (b : Bool) → i < length ids → length ids ≤ length keys → e ≡ get_or keys i e → b ≡ has wanted e → ended wanted (take (i + 1) (zip ids keys)) ≡ ended wanted (take i (zip ids keys)) ++ cond (not b) (get_or ids i d ∷ []) []
ended_more wanted ids keys i d e b inside few at is = passed_more (λ p. not (has wanted p.1)) ids keys i d e (not b) inside few (ap (λ k. not (has wanted k)) (sym at) ∙ ap not (sym is))

pub all_pairs : (ids : List ℤ) (keys : List Key) → length ids ≤ length keys → take (length ids) (zip ids keys) ≡ zip ids keys
all_pairs [] keys few = refl
all_pairs (id ∷ ids) [] few = absurd (omega (arith, few))
all_pairs (id ∷ ids) (key ∷ keys) few = ap (λ l. (id, key) ∷ l) (all_pairs ids keys (omega (arith, few)))
