-- what an update leaves of the stored lists
use Rattle.std.proofs.Common.{◌≡◌, ◌∙◌, ℕ, ◌+◌, ◌-◌, ◌*◌, ◌≤◌, ℤ, pos, List, ◌++◌, length, drop, zip, refl, sym, ap, subst, append_assoc}
use Rattle.std.specs.List.{filter}
use Rattle.std.proofs.lemmas.List.{drop-append-le, map-append}
use Rattle.std.proofs.lemmas.List.Elements.{filter-append}
use Rattle.std.proofs.Math.Seq.{drop-append_seam}
use Rattle.document_keys.specs.KeySet.{IsAscending}
use Rattle.limbo_resolver.specs.Held.{Ascend, IsInOrder, firsts, joined, seen}
use Rattle.limbo_resolver.specs.Limbo.{Key, Limbo, has, held, ids_of, kept, keys_of, queue, started, updated}
use Rattle.limbo_resolver.proofs.Filling.{apart, fills, firsts_front, joins, news, news_wanted}
use Rattle.limbo_resolver.proofs.Members.{held_is}
use Rattle.limbo_resolver.proofs.Order.{kept_ascend, started_ascend}
use Rattle.limbo_resolver.proofs.Pairs.{drop_back, few_back, keys_kept, keys_zip, zip_back, zip_more}

module _ (wanted : List Key) (ids : List ℤ) (keys : List Key) (next : ℕ) (ascending : IsAscending wanted) (few : length ids ≤ length keys) where
  abbrev pub all : List Key
  all = joined keys wanted

  abbrev pub rest : List (ℤ × Key)
  rest = kept wanted (zip ids keys)

  abbrev pub line : List Key
  line = queue wanted (seen ids keys next)

  all_is : joined keys wanted ≡ keys ++ news keys wanted
  all_is = joins keys wanted (apart wanted ascending)

  -- the listens stay those that they were
  pub same_zip : zip ids (joined keys wanted) ≡ zip ids keys
  same_zip = ap (zip ids) all_is ∙ zip_more ids keys (news keys wanted) few

  line_is : filter (has wanted) (drop (length ids) keys) ++ news keys wanted ≡ queue wanted (seen ids keys next)
  line_is = ap (λ l. filter (has wanted) (drop (length ids) keys) ++ news l wanted) (sym (keys_zip ids keys few))

  -- the queue is what waits of them
  pub line_waits : filter (has wanted) (drop (length ids) (joined keys wanted)) ≡ queue wanted (seen ids keys next)
  line_waits =
      ap (λ l. filter (has wanted) (drop (length ids) l)) all_is
      ∙ ap (filter (has wanted)) (drop-append-le (length ids) keys (news keys wanted) few)
      ∙ filter-append (has wanted) (drop (length ids) keys) (news keys wanted)
      ∙ ap (λ l. filter (has wanted) (drop (length ids) keys) ++ l) (news_wanted keys wanted)
      ∙ line_is

  -- the keys of those that stay, and the queue behind them
  pub keys_left : filter (has wanted) (joined keys wanted) ≡ keys_of (kept wanted (zip ids keys)) ++ queue wanted (seen ids keys next)
  keys_left =
      ap (filter (has wanted)) (all_is ∙ ap (λ l. l ++ news keys wanted) (sym (keys_zip ids keys few)))
      ∙ filter-append (has wanted) (keys_of (zip ids keys) ++ drop (length ids) keys) (news keys wanted)
      ∙ ap (λ l. l ++ filter (has wanted) (news keys wanted)) (filter-append (has wanted) (keys_of (zip ids keys)) (drop (length ids) keys))
      ∙ append_assoc (filter (has wanted) (keys_of (zip ids keys))) (filter (has wanted) (drop (length ids) keys)) (filter (has wanted) (news keys wanted))
      ∙ ap (λ l. l ++ (filter (has wanted) (drop (length ids) keys) ++ filter (has wanted) (news keys wanted))) (keys_kept wanted (zip ids keys))
      ∙ ap (λ l. keys_of rest ++ (filter (has wanted) (drop (length ids) keys) ++ l)) (news_wanted keys wanted)
      ∙ ap (λ l. keys_of rest ++ l) line_is

  abbrev pub new : List (ℤ × Key)
  new = firsts (100 - length rest) next line

  abbrev pub left : List Key
  left = drop (length new) line

  whole : keys_of rest ++ line ≡ keys_of (rest ++ new) ++ left
  whole =
      ap (λ l. keys_of rest ++ l) (sym (firsts_front (100 - length rest) next line))
      ∙ sym (append_assoc (keys_of rest) (keys_of new) left)
      ∙ ap (λ l. l ++ left) (sym (map-append (λ (p : ℤ × Key). p.1) rest new))

  both : ids_of rest ++ ids_of new ≡ ids_of (rest ++ new)
  both = sym (map-append (λ (p : ℤ × Key). p.0) rest new)

  fills_line : updated wanted (seen ids keys next) ≡ record { running = rest ++ new; waiting = left; next = next + 2 * length new }
  fills_line = fills rest line next (100 - length rest) refl

  -- the stored lists after an update
  pub stored : seen (ids_of rest ++ ids_of new) (filter (has wanted) all) (next + 2 * length new) ≡ updated wanted (seen ids keys next)
  stored =
      (λ i. seen (both i) ((keys_left ∙ whole) i) (next + 2 * length new))
      ∙ (λ i. record { running = zip_back (rest ++ new) left i; waiting = drop_back (rest ++ new) left i; next = next + 2 * length new })
      ∙ sym fills_line

  -- the listens that started
  pub started_is : new ≡ started wanted (seen ids keys next)
  started_is = sym (ap (λ (s : Limbo). drop (length rest) s.running) fills_line ∙ drop-append_seam rest new)

  pub in_order : Ascend (pos 0) ids (pos next) → IsInOrder (ids_of rest ++ ids_of new) (filter (has wanted) all) (next + 2 * length new)
  in_order up = record {
    few = subst (λ l. length l ≤ length (filter (has wanted) all)) (sym both) (subst (λ l. length (ids_of (rest ++ new)) ≤ length l) (sym (keys_left ∙ whole)) (few_back (rest ++ new) left));
    ascending = started_ascend (pos 0) (ids_of rest) (100 - length rest) next line (kept_ascend wanted (pos 0) ids keys (pos next) few up);
  }

  -- exactly the wanted keys run or wait
  pub same_held : (key : Key) → has (held (updated wanted (seen ids keys next))) key ≡ has wanted key
  same_held key =
      ap (λ l. has l key) (ap held fills_line ∙ sym whole ∙ sym keys_left ∙ ap (filter (has wanted)) all_is ∙ filter-append (has wanted) keys (news keys wanted) ∙ ap (λ l. filter (has wanted) keys ++ l) (news_wanted keys wanted))
      ∙ held_is wanted keys key

  -- what the functions of an update gave
  module _ (slice : List ℤ) (keys1 keys2 : List Key) (ids2 : List ℤ) (first : List (ℤ × Key)) (next2 : ℕ)
      (e0 : slice ≡ ids) (e1 : keys1 ≡ joined keys wanted) (e2 : first ≡ firsts (100 - length (kept wanted (zip slice keys1))) next (filter (has wanted) (drop (length slice) keys1)))
      (e3 : ids2 ≡ ids_of (kept wanted (zip slice keys1)) ++ ids_of first) (e4 : keys2 ≡ filter (has wanted) keys1) (e5 : next2 ≡ next + 2 * length first) where
    pub listens_are : zip slice keys1 ≡ zip ids keys
    listens_are = (λ i. zip (e0 i) (e1 i)) ∙ same_zip

    pub first_is : first ≡ new
    first_is = e2 ∙ (λ i. firsts (100 - length (kept wanted (listens_are i))) next (((λ j. filter (has wanted) (drop (length (e0 j)) (e1 j))) ∙ line_waits) i))

    ids_are : ids2 ≡ ids_of rest ++ ids_of new
    ids_are = e3 ∙ (λ i. ids_of (kept wanted (listens_are i)) ++ ids_of (first_is i))

    keys_are : keys2 ≡ filter (has wanted) all
    keys_are = e4 ∙ ap (filter (has wanted)) e1

    next_is : next2 ≡ next + 2 * length new
    next_is = e5 ∙ ap (λ l. next + 2 * length l) first_is

    pub done_is : seen ids2 keys2 next2 ≡ updated wanted (seen ids keys next)
    done_is = (λ i. seen (ids_are i) (keys_are i) (next_is i)) ∙ stored

    pub order_is : Ascend (pos 0) ids (pos next) → IsInOrder ids2 keys2 next2
    order_is up = subst (λ l. IsInOrder l keys2 next2) (sym ids_are) (subst (λ l. IsInOrder (ids_of rest ++ ids_of new) l next2) (sym keys_are) (subst (λ n. IsInOrder (ids_of rest ++ ids_of new) (filter (has wanted) all) n) (sym next_is) (in_order up)))
