-- What isn't honest, or isn't allowed, and snapshots that don't agree, at the history of one document.
use Rattle.std.specs.Prelude.{IfSome}
use Rattle.std.proofs.Common.{subst, ◌≡◌, ◌∙◌, inl, inr, false, cond, [], ◌∷◌, Option, Some, None, option_map, refl, sym, ap, arith}
use Rattle.std.specs.FinMap as finite
use Rattle.std.proofs.lemmas.Bool.{false≢true}
use Rattle.document_keys.proofs.Order.{paths_compute}
use Rattle.value_model.specs.Documents.{DocumentMap, Stored}
use Rattle.value_model.specs.declared.document.DocState.TheVariants.{Synced}
use Rattle.queries.specs.declared.target.Target.TheVariants.{Document}
use Rattle.agreement.specs.Backend.{Key, is_key, Written, written, IsInAnswer, document_at}
use Rattle.agreement.specs.Transcript.{Change, Sends, Filter, Heard, Asked, Cut}
use Rattle.agreement.specs.Follows.{Follows}
use Rattle.agreement.specs.Entries.{Unknown, Committed, Entry}
use Rattle.agreement.specs.Client.{Resets, Acks}
use Rattle.agreement.specs.Allowed.{IsAllowed}
use Rattle.agreement.specs.Agrees.{IsTouched, Agrees}
use Rattle.agreement.proofs.Answered.{documents_answered}
use Rattle.agreement.proofs.Examples.{two, four, a, some_fields, add, point, plain}
use Rattle.agreement.proofs.Whole.{given, written_a, first_moment, no_version, none_pending, at_end, local, stands_at_one, stands_at_two, stands_at_three}
use Rattle.value_model.specs.declared.message.ChangeKind.TheVariants.{Remove, Current}

in_answer : IsInAnswer given (Document a) 3 a
in_answer = documents_answered (Document a) given.root (given.world 3) a written_a refl stands_at_three

-- a point that is CURRENT with nothing told, though the answer has a document
pub silent_point : Follows given no_version (point [] 3 ∷ Heard (Change Current (two ∷ []) (1 ∷ []) 3) ∷ add two ∷ Asked two plain ∷ Cut ∷ []) → ⊥
silent_point follows = false≢true (((follows.0 (omega arith)).1 two plain refl refl refl).answer_told a in_answer)

-- a document that was never written so
pub invented_document : Follows given no_version (Heard (Sends a [] 1 (two ∷ []) []) ∷ add two ∷ Asked two plain ∷ Cut ∷ []) → ⊥
invented_document follows =
    let same : Some (record { fields = []; update = 1 }) ≡ Some written_a = sym follows.0 ∙ stands_at_one in
    let written_so : record { fields = []; update = 1 } ≡ written_a = cc in
    let fields : [] ≡ some_fields = ap (λ (w : Written). w.fields) written_so in
    cc

-- a filter that counts one document less
pub false_count : Follows given (λ past. 3) (Heard (Filter two 0) ∷ Heard (Sends a some_fields 1 (two ∷ []) []) ∷ add two ∷ Asked two plain ∷ Cut ∷ []) → ⊥
false_count follows =
    let honest = follows.0 plain refl refl in
    let there = (honest.answer.members a).1 in_answer in
    let size = honest.size in
    let inside = there.1 in
    absurd (omega arith)

-- a drop that leaves a row with the dropped key
pub row_left : IsAllowed given at_end (Resets (Change Remove (four ∷ []) [] 0) (is_key a) (λ id. false)) → ⊥
row_left allowed = false≢true (allowed.1 a two refl (inl refl))

-- an acknowledgement with a version that was none
abbrev false_entry : Key → Option Entry
false_entry key = cond (is_key a key) (Some (record { what = Unknown; version = 2; seal = Committed 2 })) None

pub false_version : IsAllowed given at_end (Acks false_entry) → ⊥
false_version allowed =
    let is_true = (allowed a (record { what = Unknown; version = 2; seal = Committed 2 }) refl).1.0 in
    let updates : 1 ≡ 2 = subst (λ (o : Option Written). IfSome o (λ d. d.update ≡ 2)) stands_at_two is_true in
    absurd (omega (arith, updates))

untouched : IsTouched none_pending at_end a → ⊥
untouched touched = elim touched [ inl waits ↦ false≢true waits | inr ahead ↦ ahead ]

-- a snapshot that shows other fields
abbrev other_stored : Stored
other_stored = record { fields = []; update_time = Some first_moment; state = Synced }

abbrev other_fields : DocumentMap
other_fields = finite.insert finite.empty a other_stored

pub wrong_fields : Agrees given none_pending at_end other_fields (Document a) (a ∷ []) → ⊥
wrong_fields agrees =
    let here : document_at other_fields a ≡ Some (written other_stored) = ap (option_map written) (finite.get-insert paths_compute.total finite.empty a other_stored a) in
    let both : Some (written other_stored) ≡ Some written_a = sym here ∙ (agrees.true_shown a (0, omega arith, refl) untouched).1 ∙ stands_at_three in
    let same : written other_stored ≡ written_a = cc in
    let fields : [] ≡ some_fields = ap (λ (w : Written). w.fields) same in
    cc

-- a snapshot that shows nothing
pub nothing_shown : Agrees given none_pending at_end local (Document a) [] → ⊥
nothing_shown agrees = elim (agrees.all_shown a in_answer untouched) [ inl shown ↦ absurd (let inside = shown.1 in omega arith) | inr past ↦ (let none = past.1 in cc) ]
