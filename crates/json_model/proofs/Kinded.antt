-- The faults of trees that aren't looked into, as they are found.
use Rattle.std.proofs.Common.{rules, ◌≡◌, ◌≢◌, ℕ, List, [], ◌∷◌, Vec, Global, Bool, true, false, cond, Option, Some, None, is_some, MatchOption, Result, Ok, Err, IfOk, refl, sym, ap, subst, inl, inr, ◌∙◌}
use Rattle.serde_json.specs.Data.{Data as Json, boolean, string}
use Rattle.document_keys.specs.Names.{Root, IsSegment}
use Rattle.serde_json.specs.Find.{as_str, as_bool}
use Rattle.value_model.specs.declared.timestamp.Timestamp.{Timestamp}
use Rattle.value_model.specs.Time.{time_of}
use Rattle.json_model.specs.declared.place.Leaf.{Leaf}
use Rattle.json_model.specs.declared.place.Leaf.TheVariants as leaf
use Rattle.json_model.specs.declared.fault.JsonFault.{JsonFault}
use Rattle.json_model.specs.declared.fault.JsonFault.TheVariants as json_fault
use Rattle.json_model.specs.Bytes.{SpellsBytes}
use Rattle.json_model.specs.declared.fault.NamingFault.{NamingFault}
use Rattle.json_model.specs.Faults.{FirstOf, IsFault}
use Rattle.json_model.specs.Leaves.{Unless, InText, in_text, in_other, IsText, IsTimeText, IsBytesText, IsNameFault, NamingFaults, TextFaults, is_of_text, LeafFaults}
use Rattle.json_model.specs.Ranks.{first_of_least}
use Rattle.json_model.proofs.Naming.{only, none}

pub unless_none : (Fact : Type 0) (fault : JsonFault) → Fact → FirstOf (Unless Fact fault) None
unless_none Fact fault fact = none (Unless Fact fault) (inl (fact, refl))

pub unless_some : (Fact : Type 0) (fault f : JsonFault) → (Fact → ⊥) → f ≡ fault → FirstOf (Unless Fact fault) (Some f)
unless_some Fact fault f never is = only (Unless Fact fault) f (inr (never, ap (λ x. x ∷ []) is))

by_test : (Fact : Type 0) (fault : JsonFault) (holds : Bool) (found : Option JsonFault) → (holds ≡ true → Fact) → (Fact → holds ≡ true) → found ≡ cond holds None (Some fault) → FirstOf (Unless Fact fault) found
by_test Fact fault true found yes_then then_yes is = subst (FirstOf (Unless Fact fault)) (sym is) (unless_none Fact fault (yes_then refl))
by_test Fact fault false found yes_then then_yes is = subst (FirstOf (Unless Fact fault)) (sym is) (unless_some Fact fault fault (λ fact. let e = then_yes fact in cc) refl)

-- a test for a fact
pub unless_test : {E : Type 0} (Fact : Type 0) (fault : JsonFault) (holds : Bool) (r : Result (Option JsonFault) E) → (holds ≡ true → Fact) → (Fact → holds ≡ true) → IfOk r (λ found. found ≡ cond holds None (Some fault)) → IfOk r (FirstOf (Unless Fact fault))
unless_test Fact fault holds (Ok found) yes_then then_yes is = by_test Fact fault holds found yes_then then_yes is
unless_test Fact fault holds (Err e) yes_then then_yes is = is

pub text_at : (d : Json) (text : List ℕ) → Some text ≡ as_str d → d ≡ string text
text_at (string t) text same = let q : t ≡ text = cc in ap string q
text_at _ text same = cc

-- two readings of one text
pub same_text : (d : Json) (a b : List ℕ) → Some a ≡ as_str d → d ≡ string b → a ≡ b
same_text d a b is at = let e : Some a ≡ Some b = is ∙ ap as_str at in cc

pub is_boolean : (d : Json) → is_some (as_bool d) ≡ true → (is : Bool) × (d ≡ boolean is)
is_boolean (boolean b) yes_is = (b, refl)
is_boolean _ yes_is = cc

pub is_text : (d : Json) → is_some (as_str d) ≡ true → IsText d
is_text (string t) yes_is = (t, refl)
is_text _ yes_is = cc

-- what a reader found, or that there is nothing to find
pub unless_found : {A E : Type 0} (Fact : A → Type 0) (fault : JsonFault) (found : Option A) (is : Bool) (r : Result (Option JsonFault) E) → MatchOption found ((a : A) → Fact a → ⊥) Fact → is ≡ is_some found
    → IfOk r (λ f. f ≡ cond is None (Some fault)) → IfOk r (FirstOf (Unless ((a : A) × Fact a) fault))
unless_found {A} Fact fault (Some a) is r fact some = unless_test ((b : A) × Fact b) fault is r (λ e. (a, fact)) (λ h. some)
unless_found {A} Fact fault None is r none some = unless_test ((b : A) × Fact b) fault is r (λ e. let f = sym some ∙ e in cc) (λ h. absurd (none h.0 h.1))

pub bytes_then : (text : List ℕ) (found : Option (Vec ℕ Global)) → MatchOption found ((bytes : List ℕ) → SpellsBytes text bytes → ⊥) (λ v. SpellsBytes text v.items) → is_some found ≡ true → IsBytesText text
bytes_then text (Some v) match_is is = (v.items, match_is)
bytes_then text None match_is is = cc

pub no_bytes : (text : List ℕ) (found : Option (Vec ℕ Global)) → MatchOption found ((bytes : List ℕ) → SpellsBytes text bytes → ⊥) (λ v. SpellsBytes text v.items) → is_some found ≡ false → IsBytesText text → ⊥
no_bytes text (Some v) match_is is has = cc
no_bytes text None match_is is has = match_is has.0 has.1

pub no_time : (text : List ℕ) (found : Option Timestamp) → found ≡ time_of text → is_some found ≡ false → IsTimeText text → ⊥
no_time text found is none has = let e : is_some found ≡ true = ap is_some (is ∙ has.1) in cc

-- a text's faults are the tree's
pub text_faults : {E : Type 0} (d : Json) (name : List ℕ) (Faults : List ℕ → List JsonFault → Type 0) (text : List ℕ) (r : Result (Option JsonFault) E) → Some text ≡ as_str d → IfOk r (FirstOf (Faults text)) → IfOk r (FirstOf (InText d name Faults))
text_faults d name Faults text (Ok found) is first = record { faults = first.faults; are = in_text text first.faults (text_at d text is) first.are; first = first.first }
text_faults d name Faults text (Err e) is first = first

pub no_text : {E : Type 0} (d : Json) (name : List ℕ) (Faults : List ℕ → List JsonFault → Type 0) (r : Result (Option JsonFault) E) → None ≡ as_str d → IfOk r (λ found. found ≡ Some (json_fault.BadShape name)) → IfOk r (FirstOf (InText d name Faults))
no_text d name Faults (Ok found) is shape = subst (FirstOf (InText d name Faults)) (sym shape) (only (InText d name Faults) (json_fault.BadShape name) (in_other (λ has. let e = is ∙ ap as_str has.1 in cc)))
no_text d name Faults (Err e) is shape = shape

-- the fault of a text that is to be a name
naming_is : (Fact : Type 0) (Has : NamingFault → Type 0) (text : List ℕ) (f : JsonFault) → IsNameFault Has text f → f ≢ json_fault.NoMemory → NamingFaults Fact Has text (f ∷ [])
naming_is Fact Has text f (inl memory) other = absurd (other memory)
naming_is Fact Has text f (inr (why, has, is_named)) other = inr (why, has, ap (λ x. x ∷ []) is_named)

pub naming_fault : {E : Type 0} (Fact : Type 0) (Has : NamingFault → Type 0) (text : List ℕ) (f : JsonFault) (r : Result (Option JsonFault) E) → IsNameFault Has text f → IfOk r (λ found. (found ≡ Some f) × (f ≢ json_fault.NoMemory)) → IfOk r (FirstOf (NamingFaults Fact Has text))
naming_fault Fact Has text f (Ok found) why is = subst (FirstOf (NamingFaults Fact Has text)) (sym is.0) (only (NamingFaults Fact Has text) f (naming_is Fact Has text f why is.1))
naming_fault Fact Has text f (Err e) why is = is

-- any fault but want of memory
pub found_fault : {E : Type 0} (Faults : List JsonFault → Type 0) (f : JsonFault) (r : Result (Option JsonFault) E) → IsFault Faults f → IfOk r (λ found. (found ≡ Some f) × (f ≢ json_fault.NoMemory)) → IfOk r (FirstOf Faults)
found_fault Faults f (Ok found) (inl memory) is = absurd (is.1 memory)
found_fault Faults f (Ok found) (inr first) is = subst (FirstOf Faults) (sym is.0) first
found_fault Faults f (Err e) why is = is

-- one fault and no other
pub lone_fault : {E : Type 0} (fault : JsonFault) (r : Result (Option JsonFault) E) → IfOk r (λ found. found ≡ Some fault) → IfOk r (FirstOf (λ faults. faults ≡ fault ∷ []))
lone_fault fault (Ok found) is = subst (FirstOf (λ faults. faults ≡ fault ∷ [])) (sym is) (only (λ faults. faults ≡ fault ∷ []) fault refl)
lone_fault fault (Err e) is = is

-- faults that are told
pub first_told : {E : Type 0} (faults : List JsonFault) (r : Result (Option JsonFault) E) → IfOk r (λ found. found ≡ first_of_least faults) → IfOk r (FirstOf (λ those. those ≡ faults))
first_told faults (Ok found) is = record { faults = faults; are = refl; first = is }
first_told faults (Err e) is = is

pub no_segment : (text : List ℕ) (found : Option (List ℕ)) → MatchOption found (¬ (IsSegment text)) (λ segment. (segment ≡ text) × IsSegment text) → is_some found ≡ false → IsSegment text → ⊥
no_segment text None is none has = is has
no_segment text (Some segment) is none has = cc

-- the faults of the kinds that go by their text
pub by_text : {E : Type 0} (root : Root) (kind : Leaf) (name : List ℕ) (d : Json) (r : Result (Option JsonFault) E) → is_of_text kind ≡ true
    → IfOk r (FirstOf (InText d name (TextFaults root kind name))) → IfOk r (FirstOf (LeafFaults root kind name d))
by_text root leaf.Time name d (Ok found) is first = first
by_text root leaf.Time name d (Err e) is first = first
by_text root _ name d r is first = search rules
