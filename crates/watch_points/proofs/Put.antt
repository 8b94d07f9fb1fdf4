-- which of the entries that wait are put
use Rattle.std.proofs.Common.{◌≡◌, ◌∙◌, ◌↔◌, ◌⊎◌, inl, inr, Bool, true, false, not, cond, if◌then◌else◌, IsTrue, List, [], ◌∷◌, fold, Less, Option, Some, None, refl, sym, ap, subst}
use Rattle.std.specs.Map.{keys_of, lookup}
use Rattle.std.specs.List.{AllByRecursion}
use Rattle.std.specs.List.Sorted.{IsStrictlySortedBy}
use Rattle.std.specs.Ordering.{is_eq}
use Rattle.document_keys.specs.KeySet.{is_key}
use Rattle.document_keys.proofs.Exact.{key_is}
use Rattle.acknowledgements.specs.Acked.{is_earlier}
use Rattle.acknowledgements.proofs.Times.{earlier_so, not_earlier}
use Rattle.remote_documents.proofs.Maps.{turned}
use Rattle.value_model.specs.Versions.{version_of}
use Rattle.value_model.specs.declared.document.Entry.{Entry}
use Rattle.value_model.specs.declared.document.Seal.{Seal}
use Rattle.value_model.specs.declared.document.Seal.TheVariants.{Seen, Committed}
use Rattle.listen_protocol.specs.Calls.{Key, key_cmp}
use Rattle.durable_state.specs.Documents.{sealed_entry_of}
use Rattle.durable_state.specs.Rising.{Replaces}
use Rattle.durable_state.specs.State.{State}
use Rattle.watch_points.specs.PointCommit.{Puts}
use Rattle.watch_points.specs.Steps.{put_of, put_over, replaces}

-- ---- the test

not_true : (b : Bool) → not b ≡ true → b ≡ false
not_true true e = cc
not_true false e = refl

not_false : (b : Bool) → not b ≡ false → b ≡ true
not_false true e = refl
not_false false e = cc

pub replaces_so : (known : Option (Entry × Seal)) (entry : Entry) → replaces known entry ≡ true → Replaces known entry
replaces_so None entry is = tt
replaces_so (Some (known, Seen)) entry is = earlier_so (version_of known) (version_of entry) is
replaces_so (Some (known, Committed at)) entry is = not_earlier (version_of entry) (version_of known) (not_true (is_earlier (version_of entry) (version_of known)) is)

pub replaces_not : (known : Option (Entry × Seal)) (entry : Entry) → replaces known entry ≡ false → ¬ (Replaces known entry)
replaces_not None entry is so = cc
replaces_not (Some (known, Seen)) entry is so = not_earlier (version_of known) (version_of entry) is so
replaces_not (Some (known, Committed at)) entry is so = so (earlier_so (version_of entry) (version_of known) (not_false (is_earlier (version_of entry) (version_of known)) is))

pub replaces_is : (known : Option (Entry × Seal)) (entry : Entry) → Replaces known entry → replaces known entry ≡ true
replaces_is known entry so = by (replaces known entry) refl
  where
    by : (b : Bool) → replaces known entry ≡ b → b ≡ true
    by true is = refl
    by false is = absurd (replaces_not known entry is so)

pub test_is : (known : Option (Entry × Seal)) (entry : Entry) (test : Bool) → IsTrue test ↔ Replaces known entry → test ≡ replaces known entry
test_is known entry true says = sym (replaces_is known entry (says.0 refl))
test_is known entry false says = sym (by (replaces known entry) refl)
  where
    by : (b : Bool) → replaces known entry ≡ b → b ≡ false
    by true is = absurd (let never = says.1 (replaces_so known entry is) in cc)
    by false is = refl

-- ---- entry by entry

-- a step puts the entry into the table, or leaves the table as it is
steps_put : (s : State) (key k : Key) (entry : Entry) (old new : Option Entry) → replaces (sealed_entry_of s key) entry ≡ true → new ≡ cond (is_key key k) (Some entry) old → new ≡ put_over s k old (key, entry)
steps_put s key k entry old new so is = is ∙ sym (ap (λ b. cond b (cond (is_key key k) (Some entry) old) old) so)

steps_over : (s : State) (key k : Key) (entry : Entry) (old : Option Entry) → replaces (sealed_entry_of s key) entry ≡ false → old ≡ put_over s k old (key, entry)
steps_over s key k entry old not = sym (ap (λ b. cond b (cond (is_key key k) (Some entry) old) old) not)

-- a step of the loop over what is left
pub put_step : (s : State) (key k : Key) (entry : Entry) (old new : Option Entry) (items rest : List (Key × Entry)) (whole : Option Entry) → replaces (sealed_entry_of s key) entry ≡ true → new ≡ cond (is_key key k) (Some entry) old → items ≡ (key, entry) ∷ rest → fold (put_over s k) old items ≡ whole → fold (put_over s k) new rest ≡ whole
put_step s key k entry old new items rest whole so is left all = ap (λ o. fold (put_over s k) o rest) (steps_put s key k entry old new so is) ∙ ap (fold (put_over s k) old) (sym left) ∙ all

pub over_step : (s : State) (key k : Key) (entry : Entry) (old : Option Entry) (items rest : List (Key × Entry)) (whole : Option Entry) → replaces (sealed_entry_of s key) entry ≡ false → items ≡ (key, entry) ∷ rest → fold (put_over s k) old items ≡ whole → fold (put_over s k) old rest ≡ whole
over_step s key k entry old items rest whole not left all = ap (λ o. fold (put_over s k) o rest) (steps_over s key k entry old not) ∙ ap (fold (put_over s k) old) (sym left) ∙ all

-- ---- all entries

-- what is put of the entry that waits
abbrev pub put_by : Option (Entry × Seal) → Option Entry → Option Entry → Option Entry
put_by known old None = old
put_by known old (Some entry) = if replaces known entry then Some entry else old

none_below : (q : Key) (es : List (Key × Entry)) → AllByRecursion (λ y. key_cmp q y ≡ Less) (keys_of es) → lookup (is_key q) es ≡ None
none_below q [] below = refl
none_below q (e ∷ es) below = ap (λ o. cond (is_eq o) (Some e.1) (lookup (is_key q) es)) below.0 ∙ none_below q es below.1

put_is : (s : State) (k : Key) (old : Option Entry) (waiting : List (Key × Entry)) → IsStrictlySortedBy key_cmp (keys_of waiting) → fold (put_over s k) old waiting ≡ put_by (sealed_entry_of s k) old (lookup (is_key k) waiting)
unfolding IsStrictlySortedBy
put_is s k old [] sorted = refl
put_is s k old (e ∷ es) sorted = put_is s k (put_over s k old e) es sorted.1 ∙ by (is_key k e.0) refl
  where
    known : Option (Entry × Seal)
    known = sealed_entry_of s k

    hit : (b : Bool) → is_key e.0 k ≡ b → put_over s k old e ≡ cond (replaces (sealed_entry_of s e.0) e.1) (cond b (Some e.1) old) old
    hit b is = ap (λ c. cond (replaces (sealed_entry_of s e.0) e.1) (cond c (Some e.1) old) old) is

    neither : (b : Bool) → cond b old old ≡ old
    neither true = refl
    neither false = refl

    by : (b : Bool) → is_key k e.0 ≡ b → put_by known (put_over s k old e) (lookup (is_key k) es) ≡ put_by known old (cond b (Some e.1) (lookup (is_key k) es))
    by true same =
        let key_is' : k ≡ e.0 = key_is k e.0 same in
        ap (put_by known (put_over s k old e)) (none_below k es (subst (λ q. AllByRecursion (λ y. key_cmp q y ≡ Less) (keys_of es)) (sym key_is') sorted.0))
        ∙ hit true (turned k e.0 ∙ same)
        ∙ ap (λ q. cond (replaces (sealed_entry_of s q) e.1) (Some e.1) old) (sym key_is')
    by false other = ap (λ o. put_by known o (lookup (is_key k) es)) (hit false (turned k e.0 ∙ other) ∙ neither (replaces (sealed_entry_of s e.0) e.1))

puts_by : (known : Option (Entry × Seal)) (waits : Option Entry) → Puts known waits (put_by known None waits)
puts_by known None = refl
puts_by known (Some entry) = by (replaces known entry) refl
  where
    by : (b : Bool) → replaces known entry ≡ b → ((cond b (Some entry) None ≡ Some entry) × Replaces known entry) ⊎ ((cond b (Some entry) None ≡ None) × ¬ (Replaces known entry))
    by true is = inl (refl, replaces_so known entry is)
    by false is = inr (refl, replaces_not known entry is)

-- what is put of the entries that wait, in whatever way it is told which entry waits for the key
pub puts_of : (s : State) (waiting : List (Key × Entry)) (k : Key) (waits : Option Entry) → IsStrictlySortedBy key_cmp (keys_of waiting) → lookup (is_key k) waiting ≡ waits → Puts (sealed_entry_of s k) waits (put_of s waiting k)
puts_of s waiting k waits sorted is =
    subst (λ o. Puts (sealed_entry_of s k) o (put_of s waiting k)) is
    (subst (Puts (sealed_entry_of s k) (lookup (is_key k) waiting)) (sym (put_is s k None waiting sorted)) (puts_by (sealed_entry_of s k) (lookup (is_key k) waiting)))

-- it is just one
pub puts_once : (known : Option (Entry × Seal)) (waits one two : Option Entry) → Puts known waits one → Puts known waits two → one ≡ two
puts_once known None one two first second = first ∙ sym second
puts_once known (Some entry) one two (inl first) (inl second) = first.0 ∙ sym second.0
puts_once known (Some entry) one two (inl first) (inr second) = absurd (second.1 first.1)
puts_once known (Some entry) one two (inr first) (inl second) = absurd (first.1 second.1)
puts_once known (Some entry) one two (inr first) (inr second) = first.0 ∙ sym second.0

-- and it waited
pub put_waits : (known : Option (Entry × Seal)) (waits : Option Entry) (entry : Entry) → Puts known waits (Some entry) → waits ≡ Some entry
put_waits known None entry puts = absurd (let never = puts in cc)
put_waits known (Some waiting) entry (inl puts) = sym puts.0
put_waits known (Some waiting) entry (inr puts) = absurd (let never = puts.0 in cc)
