-- the laws of what an answer leaves
use Rattle.std.proofs.Common.{◌≡◌, ◌∙◌, inl, inr, ℕ, Bool, true, false, cond, Option, Some, None, List, refl, sym, ap, subst}
use Rattle.std.specs.List.{Contains}
use Rattle.value_model.specs.Versions.{version_of}
use Rattle.value_model.specs.declared.document.Entry.{Entry}
use Rattle.value_model.specs.declared.timestamp.Timestamp.{Timestamp}
use Rattle.mutations.specs.declared.results.WriteResult.{WriteResult}
use Rattle.mutations.specs.declared.write.Write.{Write}
use Rattle.acknowledgements.specs.Laws.{AcksHold, GreatestHolds}
use Rattle.acknowledgements.specs.Acked.{IsAcked, IsBelow, IsGreatest, IsVersion, Leaves, acked, answered, greatest, is_below, left_by, versions}
use Rattle.acknowledgements.proofs.Pairs.{from_version, leaves_one, leaves_right, left_there, version_from}
use Rattle.acknowledgements.proofs.Times.{IsLast, contains_none, earlier_is, earlier_so, latest_of, not_earlier, one_time}

below_so : (entry : Option Entry) (time : Timestamp) → is_below entry time ≡ true → IsBelow entry time
below_so None time is = tt
below_so (Some entry) time is = earlier_so (version_of entry) time is

below_is : (entry : Option Entry) (time : Timestamp) → IsBelow entry time → is_below entry time ≡ true
below_is None time below = refl
below_is (Some entry) time below = earlier_is (version_of entry) time below

not_below : (entry : Option Entry) (time : Timestamp) → is_below entry time ≡ false → ¬ (IsBelow entry time)
not_below None time is below = let e : true ≡ false = is in cc
not_below (Some entry) time is below = not_earlier (version_of entry) time is below

module _ (key : List (List ℕ)) (writes : List Write) (results : List WriteResult) (commit : Timestamp) where
  greatest_by : (version : Timestamp) → IsLast (versions commit (answered key writes results)) version → IsGreatest key writes results commit version
  greatest_by version last = record {
    one = version_from key writes results commit version last.one;
    last = λ other of before. last.last other (from_version key writes results commit other of) before;
  }

  greatest_so : (version : Timestamp) → greatest key writes results commit ≡ Some version → IsGreatest key writes results commit version
  greatest_so version is = elim (latest_of (versions commit (answered key writes results))) [
    | inl none ↦ (let e = sym none.0 ∙ is in cc)
    | inr found ↦ (let e : found.0 ≡ version = (let s = sym found.1 ∙ is in cc) in greatest_by version (subst (IsLast (versions commit (answered key writes results))) e found.2))
  ]

  greatest_is : (version : Timestamp) → IsGreatest key writes results commit version → greatest key writes results commit ≡ Some version
  greatest_is version top = elim (latest_of (versions commit (answered key writes results))) [
    | inl none ↦ absurd (contains_none version (subst (λ times. Contains times version) none.1 (from_version key writes results commit version top.one)))
    | inr found ↦ found.1 ∙ ap Some (one_time found.0 version (found.2.last version (from_version key writes results commit version top.one)) (top.last found.0 (version_from key writes results commit found.0 found.2.one)))
  ]

  none_so : greatest key writes results commit ≡ None → (version : Timestamp) → ¬ (IsVersion key writes results commit version)
  none_so is version of = elim (latest_of (versions commit (answered key writes results))) [
    | inl none ↦ contains_none version (subst (λ times. Contains times version) none.1 (from_version key writes results commit version of))
    | inr found ↦ (let e = sym found.1 ∙ is in cc)
  ]

  module _ (entry : Option Entry) where
    at : Option Timestamp → Option Entry
    at None = None
    at (Some version) = cond (is_below entry version) (left_by key version entry writes results) None

    -- what is left, by the greatest version
    none_left : greatest key writes results commit ≡ None → acked entry key writes results commit ≡ None
    none_left is = rw is refl

    left : (version : Timestamp) → greatest key writes results commit ≡ Some version → is_below entry version ≡ true → acked entry key writes results commit ≡ left_by key version entry writes results
    left version is below = rw (is, below) refl

    kept : (version : Timestamp) → greatest key writes results commit ≡ Some version → is_below entry version ≡ false → acked entry key writes results commit ≡ None
    kept version is below = rw (is, below) refl

    right : IsAcked entry key writes results commit (acked entry key writes results commit)
    right = record {
      replaced = λ version top below. subst (Leaves key version entry _) (sym (left version (greatest_is version top) (below_is entry version below))) (leaves_right key version entry writes results);
      kept = λ version top not. stays_there version top not (is_below entry version) refl;
      unnamed = λ none. unnamed none (greatest key writes results commit) refl;
    }
      where
        stays_there : (version : Timestamp) → IsGreatest key writes results commit version → ¬ (IsBelow entry version) → (b : Bool) → is_below entry version ≡ b → acked entry key writes results commit ≡ None
        stays_there version top not true is = absurd (not (below_so entry version is))
        stays_there version top not false is = kept version (greatest_is version top) is

        unnamed : ((version : Timestamp) → ¬ (IsVersion key writes results commit version)) → (found : Option Timestamp) → greatest key writes results commit ≡ found → acked entry key writes results commit ≡ None
        unnamed none None is = none_left is
        unnamed none (Some version) is = absurd (none version (greatest_so version is).one)

    acked_is : (new : Option Entry) → IsAcked entry key writes results commit new → new ≡ acked entry key writes results commit
    acked_is new it = by (greatest key writes results commit) refl
      where
        placed : (version : Timestamp) → greatest key writes results commit ≡ Some version → (b : Bool) → is_below entry version ≡ b → new ≡ acked entry key writes results commit
        placed version is true below = leaves_one key version entry new writes results (it.replaced version (greatest_so version is) (below_so entry version below)) ∙ sym (left version is below)
        placed version is false below = it.kept version (greatest_so version is) (not_below entry version below) ∙ sym (kept version is below)

        by : (found : Option Timestamp) → greatest key writes results commit ≡ found → new ≡ acked entry key writes results commit
        by None is = it.unnamed (none_so is) ∙ sym (none_left is)
        by (Some version) is = placed version is (is_below entry version) refl

    stays : (acked entry key writes results commit ≡ None) → (version : Timestamp) → IsGreatest key writes results commit version → ¬ (IsBelow entry version)
    stays none version top below =
        left_there version commit version entry (answered key writes results) (from_version key writes results commit version top.one)
        (sym (left version (greatest_is version top) (below_is entry version below)) ∙ none)

    stays_so : ((version : Timestamp) → IsGreatest key writes results commit version → ¬ (IsBelow entry version)) → acked entry key writes results commit ≡ None
    stays_so not = by (greatest key writes results commit) refl
      where
        placed : (version : Timestamp) → greatest key writes results commit ≡ Some version → (b : Bool) → is_below entry version ≡ b → acked entry key writes results commit ≡ None
        placed version is true below = absurd (not version (greatest_so version is) (below_so entry version below))
        placed version is false below = kept version is below

        by : (found : Option Timestamp) → greatest key writes results commit ≡ found → acked entry key writes results commit ≡ None
        by None is = none_left is
        by (Some version) is = placed version is (is_below entry version) refl

pub greatest_laws : GreatestHolds
greatest_laws = record {
  some = λ key writes results commit version. (greatest_so key writes results commit version, greatest_is key writes results commit version);
  none = none_so;
}

pub ack_laws : AcksHold
ack_laws = record {
  right = λ entry key writes results commit. right key writes results commit entry;
  one = λ entry key writes results commit new other is so. acked_is key writes results commit entry new is ∙ sym (acked_is key writes results commit entry other so);
  stays = λ entry key writes results commit. (stays key writes results commit entry, stays_so key writes results commit entry);
}
