-- a table that lists the places of the pending batches
use Rattle.std.proofs.Common.{◌≡◌, ◌∙◌, ◌+◌, ◌-◌, ◌<◌, ◌≤◌, ℕ, false, cond, List, [], ◌∷◌, ◌++◌, length, take, drop, get_or, Option, None, Some, nat_lt, refl, sym, ap, subst, append-nil, length-append, arith}
use Rattle.std.specs.List.{All, cons_option, filter_map, slice_get}
use Rattle.std.specs.Option.{is_some, option_and_then, option_map_or, option_to_list}
use Rattle.std.proofs.lemmas.Bool.{le-ltb, lt-ltb}
use Rattle.std.proofs.lemmas.List.{take_more}
use Rattle.std.proofs.lemmas.List.Elements.{filter_map-append}
use Rattle.std.proofs.lemmas.Option.{slice_get-get_or}
use Rattle.mutations.specs.declared.batch.Batch.{Batch}
use Rattle.mutations.specs.declared.write.Write.{Write}
use Rattle.mutation_queue.specs.Places.{SameListed, Table, is_among, last_of, listed, without_place}
use Rattle.mutation_queue.specs.Queue.{AreListed, Queue, batch_past, keys_of, named_keys, naming, places_of}
use Rattle.mutation_queue.proofs.Placing.{has_places, last_behind, later, left, none_past, picks, places-more}

pub listed_still : (bs cs : List Batch) (old new : Table) (n : ℕ) → cs ≡ bs → SameListed old new → AreListed bs old n → AreListed cs new n
listed_still bs cs old new n same still are = record {
  each = λ q. still q ∙ are.each q ∙ ap (λ l. places_of (n - length l) l q) (sym same);
  within = subst (λ (l : List Batch). length l ≤ n) (sym same) are.within;
}

-- one batch more
pub listed_push : (bs cs : List Batch) (b : Batch) (ws : List Write) (old new : Table) (n : ℕ) → ws ≡ b.writes → cs ≡ bs ++ b ∷ [] → ((q : List (List ℕ)) → listed new q ≡ listed old q ++ cond (is_among (keys_of ws) q) (n ∷ []) []) → AreListed bs old n → AreListed cs new (n + 1)
listed_push bs cs b ws old new n writes pushed put are = record {
  each = λ q.
      let more : places_of (n - length bs) (bs ++ b ∷ []) q ≡ places_of (n - length bs) bs q ++ cond (is_among (keys_of b.writes) q) (n ∷ []) [] = places-more (n - length bs) bs b q n (let within = are.within in omega (arith, within)) in
      let at : n - length bs ≡ (n + 1) - length cs = omega (arith, many) in
      put q ∙ ap (λ l. l ++ cond (is_among (keys_of ws) q) (n ∷ []) []) (are.each q) ∙ ap (λ l. places_of (n - length bs) bs q ++ cond (is_among (keys_of l) q) (n ∷ []) []) writes ∙ sym more ∙ ap (λ l. places_of (n - length bs) l q) (sym pushed) ∙ ap (λ m. places_of m cs q) at;
  within = let within = are.within in omega (arith, many, within);
}
  where
    many : length cs ≡ length bs + 1
    many = ap length pushed ∙ length-append bs (b ∷ [])

-- no key has a place past the last batch
pub listed_before : (bs : List Batch) (table : Table) (n : ℕ) → AreListed bs table n → (q : List (List ℕ)) → All (λ p. p < n) (listed table q)
listed_before bs table n are q = subst (All (λ p. p < n)) (sym (are.each q)) (none_past (n - length bs) bs q n (let within = are.within in omega (arith, within)))

-- behind its first place a key has only places past the first batch
pub listed_later : (bs : List Batch) (table : Table) (n at : ℕ) → at ≡ n - length bs → AreListed bs table n → (q : List (List ℕ)) → All (λ p. at < p) (drop 1 (listed table q))
listed_later bs table n at is are q = subst (λ m. All (λ p. m < p) (drop 1 (listed table q))) (sym is) (subst (λ l. All (λ p. n - length bs < p) (drop 1 l)) (sym (are.each q)) (later (n - length bs) bs q))

-- the first batch less
pub listed_pop : (bs cs : List Batch) (b : Batch) (ws : List Write) (old new : Table) (n at : ℕ) → ws ≡ b.writes → bs ≡ b ∷ cs → at ≡ n - length bs → ((q : List (List ℕ)) → listed new q ≡ cond (is_among (keys_of ws) q) (without_place at (listed old q)) (listed old q)) → AreListed bs old n → AreListed cs new n
listed_pop bs cs b ws old new n at writes first is taken are = record {
  each = λ q.
      let was : listed old q ≡ places_of at (b ∷ cs) q = are.each q ∙ ap (λ m. places_of m bs q) (sym is) ∙ ap (λ l. places_of at l q) first in
      let next : at + 1 ≡ n - length cs = omega (arith, is, many, within) in
      taken q ∙ ap (λ l. cond (is_among (keys_of l) q) (without_place at (listed old q)) (listed old q)) writes ∙ ap (λ l. cond (is_among (keys_of b.writes) q) (without_place at l) l) was ∙ left at b cs q ∙ ap (λ m. places_of m cs q) next;
  within = omega (arith, many, within);
}
  where
    within : length bs ≤ n
    within = are.within

    many : length bs ≡ length cs + 1
    many = ap length first ∙ (let one : length (b ∷ cs) ≡ length cs + 1 = omega arith in one)

pub first_keys : (bs cs : List Batch) (b : Batch) (ws : List Write) → ws ≡ b.writes → bs ≡ b ∷ cs → keys_of ws ≡ named_keys (take 1 bs)
first_keys bs cs b ws writes first = ap keys_of writes ∙ sym (append-nil (keys_of b.writes)) ∙ ap (λ l. named_keys (take 1 l)) (sym first)

-- the queue's own table tells which keys are named
pub listed_named : (s : Queue) (q : List (List ℕ)) → AreListed s.batches s.places s.pushed → is_some (last_of (listed s.places q)) ≡ is_among (named_keys s.batches) q
listed_named s q are = ap (λ l. is_some (last_of l)) (are.each q) ∙ has_places (s.pushed - length s.batches) s.batches q

pub listed_behind : (s : Queue) (q : List (List ℕ)) (at : ℕ) → at ≡ s.pushed - length s.batches → AreListed s.batches s.places s.pushed → option_map_or (λ p. nat_lt at p) (last_of (listed s.places q)) false ≡ is_among (named_keys (drop 1 s.batches)) q
listed_behind s q at is are =
    ap (λ m. option_map_or (λ p. nat_lt m p) (last_of (listed s.places q)) false) is ∙ ap (λ l. option_map_or (λ p. nat_lt (s.pushed - length s.batches) p) (last_of l) false) (are.each q) ∙ last_behind (s.pushed - length s.batches) s.batches q

-- the batches at a key's places
pub listed_naming : (s : Queue) (q : List (List ℕ)) (past : ℕ) → AreListed s.batches s.places s.pushed → filter_map (batch_past past s) (listed s.places q) ≡ naming q (drop past s.batches)
listed_naming s q past are =
    ap (filter_map (batch_past past s)) (are.each q) ∙ picks (batch_past past s) at s.batches q past
    (λ k below within. ap lend (index k) ∙ ap (λ b. cond b None (slice_get s.batches k)) (lt-ltb k past below))
    (λ k from within. ap lend (index k) ∙ ap (λ b. cond b None (slice_get s.batches k)) (le-ltb k past from))
  where
    at : ℕ
    at = s.pushed - length s.batches

    lend : ℕ → Option Batch
    lend k = cond (nat_lt k past) None (slice_get s.batches k)

    index : (k : ℕ) → (at + k) - at ≡ k
    index k = omega arith

-- one place of a key more
pub lent_more : (pick : ℕ → Option Batch) (ps : List ℕ) (i : ℕ) (found : List Batch) (o : Option Batch) → i < length ps → o ≡ option_and_then pick (slice_get ps i) → found ≡ filter_map pick (take i ps) → found ++ option_to_list o ≡ filter_map pick (take (i + 1) ps)
lent_more pick ps i found o below is before =
    let here : pick (get_or ps i 0) ≡ o = sym (is ∙ ap (option_and_then pick) (slice_get-get_or ps i 0 below)) in
    ap (λ l. l ++ option_to_list o) before ∙ ap (λ l. filter_map pick (take i ps) ++ l) (listed_option o ∙ ap (λ p. cons_option p []) (sym here)) ∙ sym (ap (filter_map pick) (take_more ps i 0 below) ∙ filter_map-append pick (take i ps) (get_or ps i 0 ∷ []))
  where
    listed_option : (o : Option Batch) → option_to_list o ≡ cons_option o []
    listed_option None = refl
    listed_option (Some b) = refl
