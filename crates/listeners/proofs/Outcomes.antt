-- a refresh has one outcome
use Rattle.std.proofs.Common.{◌≡◌, ◌∙◌, ◌↔◌, ℕ, Bool, true, false, List, [], ◌∷◌, Some, IfSome, refl, sym, ap, subst}
use Rattle.std.specs.List.{All}
use Rattle.std.proofs.lemmas.List.Elements.{All-head, All-tail}
use Rattle.document_keys.specs.Names.{Root}
use Rattle.queries.proofs.Answers.{answers_once}
use Rattle.value_model.specs.Documents.{DocumentMap}
use Rattle.views.proofs.Following.{changes_are_one}
use Rattle.views.proofs.Picking.{picked_once}
use Rattle.views.specs.Changes.{HasChanges}
use Rattle.views.specs.declared.raised.Raised.{Raised}
use Rattle.views.specs.declared.standing.Standing.{Standing}
use Rattle.views.specs.declared.view.Refresh.{Refresh}
use Rattle.views.specs.Limbo.{IsFromCache, IsInLimbo}
use Rattle.views.specs.Picks.{Picks}
use Rattle.views.specs.Refresh.{Raises, Refreshes, Shows, last_rows}
use Rattle.views.specs.Row.{IsPrinted, Row, keys_of}
use Rattle.views.specs.Viewed.{Viewed}
use Rattle.listeners.specs.Laws.{AreOneOutcome, RefreshIsOne}

-- two tests of one fact are the same
one_test : {P : Type 0} (b c : Bool) → (b ≡ false) ↔ P → (c ≡ false) ↔ P → b ≡ c
one_test false c one two = sym (two.1 (one.0 refl))
one_test true false one two = one.1 (two.0 refl)
one_test true true one two = refl

-- two answers of whether something is wanted are the same
one_answer : {P : Type 0} (b c : Bool) → (b ≡ true → P) → (b ≡ false → P → ⊥) → (c ≡ true → P) → (c ≡ false → P → ⊥) → b ≡ c
one_answer true true = λ wanted unwanted also neither. refl
one_answer false false = λ wanted unwanted also neither. refl
one_answer true false = λ wanted unwanted also neither. absurd (neither refl (wanted refl))
one_answer false true = λ wanted unwanted also neither. absurd (unwanted refl (also refl))

-- rows of the same keys over the same documents are the same
one_print : (documents : DocumentMap) (rows others : List Row) → keys_of rows ≡ keys_of others → All (IsPrinted documents) rows → All (IsPrinted documents) others → rows ≡ others
one_print documents [] [] keys one two = refl
one_print documents [] (s ∷ others) keys one two = cc
one_print documents (r ∷ rows) [] keys one two = cc
one_print documents (r ∷ rows) (s ∷ others) keys one two =
    let same_key : r.key ≡ s.key = cc in
    let same_rest : keys_of rows ≡ keys_of others = cc in
    let first : IsPrinted documents r = All-head (IsPrinted documents) r rows one in
    let second : IsPrinted documents s = All-head (IsPrinted documents) s others two in
    let both : Some r.document ≡ Some s.document = sym first ∙ subst (λ k. IsPrinted documents (record { key = k; document = s.document })) (sym same_key) second in
    let same : r.document ≡ s.document = cc in
    let rest = one_print documents rows others same_rest (All-tail (IsPrinted documents) r rows one) (All-tail (IsPrinted documents) s others two) in
    let row_is : r ≡ s = (λ i. record { key = same_key i; document = same i }) in
    λ i. row_is i ∷ rest i

module _ (root : Root) (documents : DocumentMap) (touched : List (List (List ℕ))) (standing : Standing) (may_start : Bool) (old new other : Viewed) (refresh another : Refresh)
    (one : Refreshes root documents touched standing may_start old new refresh) (two : Refreshes root documents touched standing may_start old other another) where
  one_answer_is : one.answer ≡ two.answer
  one_answer_is = answers_once old.target root documents one.answer two.answer one.is_answer two.is_answer

  one_limbo : refresh.limbo.items ≡ another.limbo.items
  one_limbo = picked_once two.answer refresh.limbo.items another.limbo.items (subst (λ xs. Picks (IsInLimbo standing touched) xs refresh.limbo.items) one_answer_is one.limbo) two.limbo

  one_flag : one.from_cache ≡ two.from_cache
  one_flag = one_test one.from_cache two.from_cache (subst (λ ks. IsFromCache standing ks one.from_cache) one_limbo one.flag) two.flag

  -- what the second is to raise, over the answer of the first
  raises_first : Raises documents two.answer two.from_cache may_start old.raised → Raises documents one.answer one.from_cache may_start old.raised
  raises_first raises =
      subst (λ b. Raises documents one.answer b may_start old.raised) (sym one_flag)
      (subst (λ keys. Raises documents keys two.from_cache may_start old.raised) (sym one_answer_is) raises)

  raises_second : Raises documents one.answer one.from_cache may_start old.raised → Raises documents two.answer two.from_cache may_start old.raised
  raises_second raises =
      subst (λ b. Raises documents two.answer b may_start old.raised) one_flag
      (subst (λ keys. Raises documents keys one.from_cache may_start old.raised) one_answer_is raises)

  one_raised : refresh.raised ≡ another.raised
  one_raised = one_answer refresh.raised another.raised one.wanted one.unwanted
      (λ yes. raises_first (two.wanted yes))
      (λ no raises. two.unwanted no (raises_second raises))

  -- what both have raised
  one_snapshot : (a b : Raised) → Shows documents one.answer one.from_cache a → Shows documents two.answer two.from_cache b
      → HasChanges (last_rows old.raised) a.rows a.changes → HasChanges (last_rows old.raised) b.rows b.changes → a ≡ b
  one_snapshot a b first second changes others =
      let rows_are : a.rows ≡ b.rows = one_print documents a.rows b.rows (first.rows.keys ∙ one_answer_is ∙ sym second.rows.keys) first.rows.each_printed second.rows.each_printed in
      let flags_are : a.from_cache ≡ b.from_cache = first.flag ∙ one_flag ∙ sym second.flag in
      let changes_same : a.changes ≡ b.changes = changes_are_one (last_rows old.raised) b.rows a.changes b.changes (subst (λ rows. HasChanges (last_rows old.raised) rows a.changes) rows_are changes) others in
      λ i. record { rows = rows_are i; from_cache = flags_are i; changes = changes_same i }

  one_last : (b : Bool) → refresh.raised ≡ b → new.raised ≡ other.raised
  one_last true e =
      let first = one.raised e in
      let second = two.raised (sym one_raised ∙ e) in
      let shows = subst (λ last. IfSome last (Shows documents one.answer one.from_cache)) first.is one.shows in
      let also = subst (λ last. IfSome last (Shows documents two.answer two.from_cache)) second.is two.shows in
      first.is ∙ ap Some (one_snapshot first.raised second.raised shows also first.changes second.changes) ∙ sym second.is
  one_last false e = one.kept e ∙ sym (two.kept (sym one_raised ∙ e))

  one_outcome : AreOneOutcome new other refresh another
  one_outcome = record {
    raised = one_raised;
    limbo = one_limbo;
    view = λ i. record { target = (one.target ∙ sym two.target) i; raised = one_last refresh.raised refl i };
  }

pub refresh_is_one : RefreshIsOne
refresh_is_one = one_outcome
