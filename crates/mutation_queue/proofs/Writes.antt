-- what is done for the key of each write in turn
use Rattle.std.proofs.Common.{◌≡◌, ◌∙◌, ◌<◌, ◌+◌, ◌||◌, ℕ, Bool, true, false, cond, IsTrue, List, [], ◌∷◌, ◌++◌, length, take, get_or, refl, sym, ap, subst, append-nil}
use Rattle.std.specs.List.{All}
use Rattle.std.specs.Option.{is_some}
use Rattle.std.proofs.lemmas.List.{map-append, take_more}
use Rattle.std.proofs.lemmas.List.Elements.{All-more}
use Rattle.document_keys.specs.KeySet.{is_key}
use Rattle.mutations.specs.declared.write.Write.{Write}
use Rattle.mutation_queue.specs.Places.{Table, ends_in, has_key, has_room, is_among, listed, listed_in, room_in, value_at, with_place}
use Rattle.mutation_queue.specs.Queue.{HaveRoom, keys_of}
use Rattle.mutations.specs.Written.{written_key}
use Rattle.mutation_queue.proofs.Placing.{among-append, ends_after, placed, placed_again}
use Rattle.mutation_queue.proofs.Tables.{one_key}

or_false : (a : Bool) → (a || false) ≡ a
or_false true = refl
or_false false = refl

-- the keys of one write more
pub among_more : (q : List (List ℕ)) (ws : List Write) (i : ℕ) (w : Write) → i < length ws → w ≡ get_or ws i w → is_among (keys_of (take (i + 1) ws)) q ≡ (is_among (keys_of (take i ws)) q || is_key (written_key w) q)
among_more q ws i w below is =
    ap (λ l. is_among (keys_of l) q) (take_more ws i w below) ∙ ap (λ l. is_among l q) (map-append written_key (take i ws) (get_or ws i w ∷ [])) ∙ among-append (keys_of (take i ws)) (written_key (get_or ws i w) ∷ []) q ∙ ap (λ b. is_among (keys_of (take i ws)) q || b) (or_false (is_key (written_key (get_or ws i w)) q) ∙ ap (λ v. is_key (written_key v) q) (sym is))

-- the room for the keys of one write more
pub room_more : (old new : Table) (ws : List Write) (i : ℕ) (w : Write) → i < length ws → w ≡ get_or ws i w → ((q : List (List ℕ)) → IsTrue (has_room old q) → IsTrue (has_room new q)) → HaveRoom old (take i ws) → IsTrue (has_room new (written_key w)) → HaveRoom new (take (i + 1) ws)
room_more old new ws i w below is still had here =
    All-more (λ v. IsTrue (has_room new (written_key v))) ws i w below (λ k d within. still _ (had k d within)) (subst (λ v. IsTrue (has_room new (written_key v))) is here)

pub room_at : (a b : Table) (v w : List Write) → a ≡ b → v ≡ w → HaveRoom b w → HaveRoom a v
room_at a b v w tables writes had = subst (λ x. HaveRoom x v) (sym tables) (subst (λ x. HaveRoom b x) (sym writes) had)

-- a change of lists at the keys of the writes so far, and at that of one more: made twice it is made once
pub listed_more : (g : List ℕ → List ℕ) (was before now : List ℕ) (had here : Bool) → before ≡ cond had (g was) was → now ≡ cond here (g before) before → g (g was) ≡ g was → now ≡ cond (had || here) (g was) was
listed_more g was before now true true first second once = second ∙ ap g first ∙ once
listed_more g was before now true false first second once = second ∙ first
listed_more g was before now false true first second once = second ∙ ap g first
listed_more g was before now false false first second once = second ∙ first

-- room of other keys stays
pub other_room : (q k : List (List ℕ)) (old before now : Table) (had : Bool) → (had ≡ false → IsTrue (has_room old q) → IsTrue (has_room before q)) → (is_key k q ≡ false → value_at now q ≡ value_at before q) → (had || is_key k q) ≡ false → IsTrue (has_room old q) → IsTrue (has_room now q)
other_room q k old before now true kept others none room = cc
other_room q k old before now false kept others none room = subst (λ o. IsTrue (room_in o)) (sym (others none)) (kept refl room)

-- a place may be put behind those of a key, unless it is there
pub push_ready : (place : ℕ) (q : List (List ℕ)) (old now : Table) (had : Bool) → listed now q ≡ cond had (with_place place (listed old q)) (listed old q) → (had ≡ false → IsTrue (has_room old q) → IsTrue (has_room now q)) → All (λ p. p < place) (listed old q) → IsTrue (has_room old q) → ends_in place (listed now q) ≡ false → IsTrue (has_room now q)
push_ready place q old now true is kept before room ends = let there : ends_in place (listed now q) ≡ true = ap (ends_in place) (is ∙ placed place (listed old q) before) ∙ ends_after place (listed old q) in cc
push_ready place q old now false is kept before room ends = kept refl room

pub pushed_twice : (place : ℕ) (ps : List ℕ) → All (λ p. p < place) ps → with_place place (with_place place ps) ≡ with_place place ps
pushed_twice place ps before = ap (with_place place) (placed place ps before) ∙ placed_again place ps ∙ sym (placed place ps before)

pub pushed_all : (place : ℕ) (ps now : List ℕ) (had : Bool) → All (λ p. p < place) ps → now ≡ cond had (with_place place ps) ps → now ≡ ps ++ cond had (place ∷ []) []
pushed_all place ps now true before is = is ∙ placed place ps before
pushed_all place ps now false before is = is ∙ sym (append-nil ps)

-- a key that has no place left is not in the table
pub gone_more : (q k : List (List ℕ)) (before now : Table) (had : Bool) → (had ≡ true → listed before q ≡ [] → has_key before q ≡ false) → (is_key k q ≡ false → value_at now q ≡ value_at before q) → (listed now k ≡ [] → has_key now k ≡ false) → (had || is_key k q) ≡ true → listed now q ≡ [] → has_key now q ≡ false
gone_more q k before now had was others here among empty = by (is_key k q) refl among
  where
    by : (b : Bool) → is_key k q ≡ b → (had || b) ≡ true → has_key now q ≡ false
    by true e told = let same = one_key k q e in subst (λ x. listed now x ≡ [] → has_key now x ≡ false) same here empty
    by false e told = ap is_some (others e) ∙ was (sym (or_false had) ∙ told) (ap listed_in (sym (others e)) ∙ empty)
