-- what is gathered of the documents in limbo that go
use Rattle.std.proofs.Common.{◌≡◌, ⊎_elim, inl, inr, ◌⊎◌, ℕ, ◌+◌, ◌<◌, ◌≤◌, ◌^◌, ℤ, pos, ◌<ℤ◌, Bool, false, IsTrue, ◌↔◌, List, [], ◌∷◌, ◌++◌, take, length, get_or, map as each, Option, Some, None, nat_abs, SFits, w32, refl, sym, ap, subst, ◌∙◌, arith}
use Rattle.std.specs.List.{All, AllPairs, Contains, slice_get}
use Rattle.std.proofs.lemmas.Bool.{true≢false}
use Rattle.std.proofs.lemmas.Int.{ints}
use Rattle.std.proofs.lemmas.Option.{get_or_from_slice_get, none-some, same_Some, slice_get-get_or, slice_get_within}
use Rattle.std.proofs.lemmas.List.{get_or-map, get_or-take, length-map, length-take-le, map-append}
use Rattle.std.proofs.lemmas.List.Quantifiers.{all_pairs_push}
use Rattle.std.proofs.lemmas.List.Elements.{All-from_get_or, All-weaker, Contains-append_left, Contains-get_or, Contains-push, Contains-push_cases}
use Rattle.document_keys.specs.KeySet.{Inserts, IsAscending}
use Rattle.durable_state.specs.Rows.{HasRow}
use Rattle.limbo_resolver.specs.Limbo.{Key, Limbo, key_in}
use Rattle.listen_protocol.specs.Calls.{Calls}
use Rattle.outcome_codec.specs.Spelling.{AreSpelledIds}
use Rattle.target_cache.specs.Cache.{IsRow, id_at}
use Rattle.target_cache.specs.Kept.{AreIds}
use Rattle.target_cache.specs.declared.row.Held.{Held}
use Rattle.target_cache.specs.declared.row.Row.{Row}
use Rattle.sync_engine.specs.Dropping.{AreBlankedIn, HoldsOne, RowHoldsOne, ShareOne}
use Rattle.client_turns.specs.Hearing.{AreDropped}
use Rattle.sync_engine.specs.Requesting.{Picked}
use Rattle.sync_engine.specs.Standing.{Kept}
use Rattle.sync_engine.proofs.Blanked.{more_cases, more_here, more_left}
use Rattle.sync_engine.proofs.Picking.{item_at, taken_more}
use Rattle.client_turns.proofs.HeardOnes.{row_one}

-- ---- keys among others

-- one key more that isn't among the others
pub share_more : (keys others : List Key) (i : ℕ) (key : Key) → i < length keys → key ≡ get_or keys i key → (ShareOne (take i keys) others → ⊥) → (Contains others key → ⊥) → ShareOne (take (i + 1) keys) others → ⊥
share_more keys others i key inside is none not_here share = ⊎_elim
    (λ before. none (record { key = share.key; one = before; other = share.other }))
    (λ same. not_here (subst (Contains others) (sym (is ∙ same)) share.other))
    (more_cases keys i key share.key inside share.one)

-- ---- the row of a target

-- a target without a row holds nothing
pub no_row_holds : (client : Kept) (told : List Row) (t z : ℤ) (keys : List Key) → told ≡ client.store.state.rows → z ≡ t → ((row : Row) → IsRow told z row → ⊥) → IsTrue false ↔ RowHoldsOne client t keys
no_row_holds client told t z keys same at none =
    (λ so. absurd (true≢false (sym so)), λ it. absurd (none it.row (subst (λ (y : ℤ). IsRow told y it.row) (sym at) (subst (λ (l : List Row). IsRow l t it.row) (sym same) it.of_id))))

-- a row holds a key where it is among its keys
pub row_shares : (client : Kept) (told : List Row) (t z : ℤ) (keys : List Key) (row : Row) (held : Held) (is : Bool) → told ≡ client.store.state.rows → z ≡ t → IsRow told z row → row.held ≡ Some held → IsTrue is ↔ ShareOne keys held.keys → IsTrue is ↔ RowHoldsOne client t keys
row_shares client told t z keys row held is same at of_id holds share = (
  λ so. record { row = row; held = held; of_id = here; holds = holds; share = share.0 so },
  λ it.
      let kept : it.held ≡ held = same_Some it.held held (sym it.holds ∙ ap (λ (r : Row). r.held) (row_one client.store.state.rows t it.row row it.of_id here) ∙ holds) in
      share.1 (subst (λ (h : Held). ShareOne keys h.keys) kept it.share),
)
  where
    here : IsRow client.store.state.rows t row
    here = subst (λ (y : ℤ). IsRow client.store.state.rows y row) at (subst (λ (l : List Row). IsRow l z row) same of_id)

-- ---- the keys that go

-- one id more, which has a key
pub dropped_one : (limbo : Limbo) (ids : List ℤ) (i : ℕ) (x : ℤ) (key : Key) (old new : List Key) → i < length ids → x ≡ get_or ids i (pos 0) → AreDropped limbo (take i ids) old → key_in limbo.running x ≡ Some key → Inserts key old new → IsAscending new → AreDropped limbo (take (i + 1) ids) new
dropped_one limbo ids i x key old new inside at are is inserts ascending = record {
  ascending = ascending;
  each = λ k. (
    λ there. ⊎_elim
        (λ same. (get_or ids i (pos 0), more_here ids i (pos 0) inside, subst (λ (t : ℤ). key_in limbo.running t ≡ Some k) at (is ∙ ap Some (sym same))))
        (λ was. let it = (are.each k).0 was in (it.0, more_left ids i (pos 0) it.0 inside it.1, it.2))
        ((inserts k).0 there),
    λ it. (inserts k).1 (⊎_elim
        (λ before. inr ((are.each k).1 (it.0, before, it.2)))
        (λ here. inl (same_Some k key (sym it.2 ∙ subst (λ (t : ℤ). key_in limbo.running t ≡ Some key) (at ∙ here) is)))
        (more_cases ids i (pos 0) it.0 inside it.1)),
  );
}

-- one id more, which has none
pub dropped_less : (limbo : Limbo) (ids : List ℤ) (i : ℕ) (x : ℤ) (keys : List Key) → i < length ids → x ≡ get_or ids i (pos 0) → AreDropped limbo (take i ids) keys → key_in limbo.running x ≡ None → AreDropped limbo (take (i + 1) ids) keys
dropped_less limbo ids i x keys inside at are is = record {
  ascending = are.ascending;
  each = λ k. (
    λ there. let it = (are.each k).0 there in (it.0, more_left ids i (pos 0) it.0 inside it.1, it.2),
    λ it. ⊎_elim
        (λ before. (are.each k).1 (it.0, before, it.2))
        (λ here. absurd (none-some k (sym is ∙ ap (key_in limbo.running) (at ∙ here) ∙ it.2)))
        (more_cases ids i (pos 0) it.0 inside it.1),
  );
}

-- ---- ids among ascending ones

-- ascending, some of the ids
pub record IsPart (ids those : List ℤ) : Type 0 where
  pub ascending : AllPairs ◌<ℤ◌ those
  pub part : (t : ℤ) → Contains those t → Contains ids t

-- one id more
module _ (ids those : List ℤ) (n : ℕ) (x : ℤ) (ascending : AllPairs ◌<ℤ◌ ids) (inside : n < length ids) (at : x ≡ get_or ids n x) (it : IsPart (take n ids) those) where
  -- those in front are lower
  lower : (t : ℤ) → Contains (take n ids) t → t <ℤ x
  lower t (i, within, is) =
      let few : n ≤ length ids = omega (arith, inside) in
      let short : i < n = omega (arith, within, length-take-le n ids few) in
      subst (λ (y : ℤ). y <ℤ x) (sym (get_or-take n ids i t short) ∙ is)
      (subst (λ (y : ℤ). y <ℤ x) (item_at ids i x t (omega (arith, short, inside)))
      (subst (λ (y : ℤ). get_or ids i x <ℤ y) (sym at) (ascending i n x short inside)))

  grown : (t : ℤ) → Contains (take n ids) t → Contains (take (n + 1) ids) t
  grown t there = subst (λ (l : List ℤ). Contains l t) (sym (taken_more ids n x inside at)) (Contains-append_left (take n ids) (x ∷ []) t there)

  pub part_less : IsPart (take (n + 1) ids) those
  part_less = record { ascending = it.ascending; part = λ t there. grown t (it.part t there) }

  pub part_one : IsPart (take (n + 1) ids) (those ++ x ∷ [])
  part_one = record {
    ascending = all_pairs_push ◌<ℤ◌ those x it.ascending (λ k d within. lower (get_or those k d) (it.part (get_or those k d) (Contains-get_or those k d within)));
    part = λ t there. ⊎_elim
        (λ was. grown t (it.part t was))
        (λ (same : x ≡ t). subst (Contains (take (n + 1) ids)) same (subst (λ (l : List ℤ). Contains l x) (sym (taken_more ids n x inside at)) (Contains-push (take n ids) x)))
        (Contains-push_cases those x t there);
  }

-- ---- the ids of rows

pos_less : (a b : ℕ) → a < b → pos a <ℤ pos b
pos_less a b less = grind (arith, ints)

less_pos : (a b : ℕ) → pos a <ℤ pos b → a < b
less_pos a b less = grind (arith, ints)

pub id_of : (rows : List Row) (ids : List ℤ) → AreIds rows ids → (i : ℕ) (d : ℤ) → i < length ids → get_or ids i d ≡ pos (id_at i)
id_of rows ids are i d inside = get_or_from_slice_get ids i (pos (id_at i)) d (are.each i (omega (arith, inside, are.count)))

pub ids_ascend_of : (rows : List Row) (ids : List ℤ) → AreIds rows ids → AllPairs ◌<ℤ◌ ids
ids_ascend_of rows ids are i j d less inside =
    subst (λ (y : ℤ). y <ℤ get_or ids j d) (sym (id_of rows ids are i d (omega (arith, less, inside))))
    (subst (λ (y : ℤ). pos (id_at i) <ℤ y) (sym (id_of rows ids are j d inside)) (pos_less (id_at i) (id_at j) (omega (arith, less))))

pub ids_are_rows : (rows : List Row) (ids : List ℤ) → AreIds rows ids → (n : ℕ) → Contains ids (pos n) ↔ HasRow rows n
ids_are_rows rows ids are n = (forth, back)
  where
    forth : Contains ids (pos n) → HasRow rows n
    forth (i, within, is) = by (slice_get rows i) refl
      where
        inside : i < length rows
        inside = omega (arith, within, are.count)

        by : (o : Option Row) → slice_get rows i ≡ o → HasRow rows n
        by (Some row) there = (row, record { place = i; is = sym is ∙ id_of rows ids are i (pos n) within; there = there })
        by None none = absurd (never rows i inside none)
          where
            never : (rows : List Row) (i : ℕ) → i < length rows → slice_get rows i ≡ None → ⊥
            never [] i inside none = absurd (omega (arith, inside))
            never (row ∷ rows) i inside none = none-some (get_or (row ∷ rows) i row) (sym none ∙ slice_get-get_or (row ∷ rows) i row inside)

    back : HasRow rows n → Contains ids (pos n)
    back (row, of_id) =
        let within : of_id.place < length ids = omega (arith, slice_get_within rows of_id.place row of_id.there, are.count) in
        (of_id.place, within, id_of rows ids are of_id.place (pos n) within ∙ sym of_id.is)

-- ---- numbers as ids

pos_in : (those : List ℕ) (n : ℕ) → Contains those n → Contains (each pos those) (pos n)
pos_in those n (i, within, is) = (i, subst (λ l. i < l) (sym (length-map those pos)) within, get_or-map pos those i n (pos n) within ∙ ap pos is)

in_pos : (those : List ℕ) (n : ℕ) → Contains (each pos those) (pos n) → Contains those n
in_pos those n (i, within, is) =
    let inside : i < length those = subst (λ l. i < l) (length-map those pos) within in
    let same : pos (get_or those i n) ≡ pos n = sym (get_or-map pos those i n (pos n) inside) ∙ is in
    (i, inside, one (get_or those i n) n same)
  where
    one : (a b : ℕ) → pos a ≡ pos b → a ≡ b
    one a b same = cc

ascend_back : (those : List ℕ) → AllPairs ◌<ℤ◌ (each pos those) → AllPairs (λ a b. a < b) those
ascend_back those up i j d less inside =
    let before : i < length those = omega (arith, less, inside) in
    let it = up i j (pos d) less (subst (λ l. j < l) (sym (length-map those pos)) inside) in
    let it : pos (get_or those i d) <ℤ get_or (each pos those) j (pos d) = subst (λ (y : ℤ). y <ℤ get_or (each pos those) j (pos d)) (get_or-map pos those i d (pos d) before) it in
    let it : pos (get_or those i d) <ℤ pos (get_or those j d) = subst (λ (y : ℤ). pos (get_or those i d) <ℤ y) (get_or-map pos those j d (pos d) inside) it in
    less_pos (get_or those i d) (get_or those j d) it

-- an id that is a number is its absolute value, and fits 31 bits
pub abs_is : (x z : ℤ) (n : ℕ) → z ≡ x → x ≡ pos n → x ≡ pos (nat_abs z)
abs_is x z n same is = is ∙ ap pos (sym (ap nat_abs (same ∙ is)))

pub pos_low : (n : ℕ) → SFits w32 (pos n) → n < 2147483648
pos_low n fits = let low = fits.sfits in omega (arith, low)

-- one number more
pub pos_more : (those : List ℕ) (n : ℕ) (x : ℤ) → x ≡ pos n → each pos those ++ x ∷ [] ≡ each pos (those ++ n ∷ [])
pos_more those n x is = ap (λ (y : ℤ). each pos those ++ y ∷ []) is ∙ sym (map-append pos those (n ∷ []))

-- ---- the rows that are made blank

-- they are the picked ids
pub are_blanked : (client : Kept) (h : Calls) (ended ids : List ℤ) (keys : List Key) (those : List ℕ) → AreIds client.store.state.rows ids → Picked (λ t. Contains ended t ⊎ HoldsOne client h t keys) ids (each pos those) → AreBlankedIn client h ended keys those
are_blanked client h ended ids keys those are it = record {
  ascending = ascend_back those it.ascending;
  each = λ n. (
    λ there. let both = (it.each (pos n)).0 (pos_in those n there) in ((ids_are_rows client.store.state.rows ids are n).0 both.0, both.1),
    λ both. in_pos those n ((it.each (pos n)).1 ((ids_are_rows client.store.state.rows ids are n).1 both.0, both.1)),
  );
}

-- each has a row
pub are_known : (rows : List Row) (ids : List ℤ) (those : List ℕ) → AreIds rows ids → IsPart ids (each pos those) → All (HasRow rows) those
are_known rows ids those are it = All-from_get_or (HasRow rows) those 0 (λ k within.
    let n = get_or those k 0 in
    (ids_are_rows rows ids are n).0 (it.part (pos n) (pos_in those n (Contains-get_or those k 0 within))))

-- they have a spelling
pub are_spelled : (ids : List ℤ) (those : List ℕ) → length those < 2 ^ 64 → All (λ n. n < 2147483648) those → IsPart ids (each pos those) → AreSpelledIds those
are_spelled ids those count low it = record {
  each = record { count = count; each = All-weaker (λ n. n < 2147483648) (λ n. n < 2 ^ 32) (λ n less. omega (arith, less)) those low };
  ascending = ascend_back those it.ascending;
}
