-- What the query of a first sync answers where its document is the only one, and where there is none; and its spelling.
use Rattle.std.proofs.Common.{◌≡◌, ◌∙◌, ⊎_elim, ℕ, ◌<◌, suc, zero, false, List, [], ◌∷◌, Some, None, IsUtf8, refl, sym, ap, subst, arith, lit<}
use Rattle.std.specs.FinMap as finite
use Rattle.std.specs.List.{All, Contains}
use Rattle.std.specs.Prelude.{codes, slice_index}
use Rattle.std.proofs.lemmas.List.Elements.{All-cons, All-nil}
use Rattle.std.proofs.lemmas.Option.{none-some}
use Rattle.std.proofs.lemmas.Str.{IsUtf8-from_ascii}
use Rattle.document_keys.specs.Names.{HasNameLength, IsSegment}
use Rattle.listen_protocol.specs.Calls.{Key}
use Rattle.queries.specs.Answer.{Finds, IsAnswer, IsWithinLimit}
use Rattle.queries.specs.Holding.{name_path, reference_to}
use Rattle.queries.specs.Orders.{AreWhole}
use Rattle.queries.specs.Queried.{IsTargetOf}
use Rattle.queries.specs.Rules.{IsSound}
use Rattle.queries.specs.declared.raw.QueryRule.TheVariants as rule
use Rattle.queries.specs.declared.raw.RawCollection.{RawCollection}
use Rattle.target_codec.specs.Spelling.{IsSpelledOrder, IsSpelledQueryPath, IsSpelledTarget}
use Rattle.value_model.specs.Documents.{DocumentMap, Stored}
use Rattle.client_agreement.proofs.FirstSyncAlone.{none_in}
use Rattle.client_agreement.proofs.FirstSyncRun.{key_a, of_rooms, query, root, stored_a}

-- ---- answers

pub none_answered : (documents : DocumentMap) → ((key : Key) → finite.get documents key ≡ None) → IsAnswer query root documents []
none_answered documents none = record {
  ordered = λ i j d less inside. absurd (omega (arith, inside));
  members = λ key. (λ there. absurd (none_in key there), λ it. absurd (none-some it.0.stored (sym (none key) ∙ it.0.there)));
}

pub finds_a : (documents : DocumentMap) → finite.get documents key_a ≡ Some stored_a → Finds query root documents key_a
finds_a documents there = record {
  stored = stored_a;
  there = there;
  matches = record { inside = (97 ∷ [], refl); meets = tt; values = reference_to root key_a ∷ []; ordered = (refl, tt); from_start = tt; to_end = tt };
}

pub one_answered : (documents : DocumentMap) → finite.get documents key_a ≡ Some stored_a → ((key : Key) (stored : Stored) → finite.get documents key ≡ Some stored → key ≡ key_a) → IsAnswer query root documents (key_a ∷ [])
one_answered documents there only = record {
  ordered = λ i j d less inside. absurd (omega (arith, less, inside));
  members = λ key. (λ has. subst (λ (k : Key). Finds query root documents k × IsWithinLimit query root documents k) (listed key has) (finds_a documents there, tt), λ it. (0, omega arith, sym (only key it.0.stored it.0.there)));
}
  where
    listed : (key : Key) → Contains (key_a ∷ []) key → key_a ≡ key
    listed key (zero, inside, is) = is
    listed key (suc k, inside, is) = absurd (omega (arith, inside))

-- ---- spelling

one_of : {X : Type 0} (P : X → Type 0) (x : X) → P x → All P (x ∷ [])
one_of P x is = All-cons P x [] is (All-nil P)

one_ascii : (byte : ℕ) → byte < 128 → (i : ℕ) → slice_index (byte ∷ []) i < 128
one_ascii byte low zero = low
one_ascii byte low (suc i) = omega arith

pub byte_utf8 : (byte : ℕ) → byte < 128 → IsUtf8 (byte ∷ [])
byte_utf8 byte low = IsUtf8-from_ascii (byte ∷ []) (one_ascii byte low)

-- a segment of one byte that isn't `_`, `.` or `/`
pub segment : (byte : ℕ) → (byte ≡ 95 → ⊥) → (byte ≡ 46 → ⊥) → (byte ≡ 47 → ⊥) → IsSegment (byte ∷ [])
segment byte not_mark not_dot not_slash = record {
  long = record { some = omega arith; most = omega arith };
  part = one_of (λ b. b ≡ 47 → ⊥) byte not_slash;
  not_dot = λ same. not_dot (ap (λ (t : List ℕ). slice_index t 0) same);
  not_dots = λ same. not_dot (ap (λ (t : List ℕ). slice_index t 0) same);
  free = λ it. not_mark (ap (λ (t : List ℕ). slice_index t 0) it.1);
}

pub segment_r : IsSegment (114 ∷ [])
segment_r = segment 114 (λ is. omega (arith, is)) (λ is. omega (arith, is)) (λ is. omega (arith, is))

-- the path of the document's own name
name_utf8 : IsUtf8 (codes "__name__")
unfolding lib.Utf8.encode
name_utf8 = (codes "__name__", (refl, refl))

name_spelled : IsSpelledQueryPath name_path
name_spelled = record {
  most = lit< tt;
  names = record {
    some = lit< tt;
    long = one_of HasNameLength (codes "__name__") (record { some = lit< tt; most = lit< tt });
    free = λ reserved. reserved.not_key refl;
  };
  texts = one_of IsUtf8 (codes "__name__") name_utf8;
}

-- the query as it was read
abbrev read : RawCollection
read = record { parent = None; from = (114 ∷ []) ∷ []; filter = None; orders = []; start_at = None; end_at = None; limit = None }

whole : AreWhole [] None of_rooms.orders
whole = record {
  added = [];
  ascending = λ i j d less inside. absurd (omega (arith, inside));
  members = λ path. (λ there. absurd (none_in path there), λ it. absurd (none_in it.filter it.there));
  last = of_rooms.orders;
  named = λ there. absurd (none_in name_path there);
  unnamed = λ never. refl;
  are = refl;
}

sound : IsSound read
sound rule.OneCollection broken = broken refl
sound rule.Negations broken = ⊎_elim (λ more. omega (arith, more)) (λ both. omega (arith, both.0)) broken
sound rule.Lists broken = omega (arith, broken)
sound rule.Cursors broken = ⊎_elim (λ never. never) (λ never. never) broken.bad
sound rule.Limit broken = broken
sound rule.ArrayFilters broken = omega (arith, broken)

checked : IsTargetOf read of_rooms
checked = record { sound = sound; id = 114 ∷ []; from = refl; collection = refl; filter = refl; orders = whole; start_at = refl; end_at = refl; limit = refl }

pub spelled_query : IsSpelledTarget query
spelled_query = record {
  parts = record {
    collection = record { names = record { odd = refl; segments = one_of IsSegment (114 ∷ []) segment_r }; texts = one_of IsUtf8 (114 ∷ []) (byte_utf8 114 (omega arith)); many = omega arith };
    filter = tt;
    orders = record { count = omega arith; each = one_of IsSpelledOrder (record { path = name_path; descending = false }) (record { path = name_spelled }) };
    start_at = tt;
    end_at = tt;
    limit = tt;
  };
  checked = (read, checked);
}
