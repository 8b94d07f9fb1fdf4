-- What is heard in a first sync is honest: the backend's documents are those of one write.
use Rattle.std.proofs.Common.{◌≡◌, ◌∙◌, inl, ℕ, ◌<◌, suc, zero, pos, Bool, true, false, cond, List, [], ◌∷◌, Some, None, refl, sym, ap, subst, arith}
use Rattle.std.specs.FinMap as finite
use Rattle.std.specs.List.{Contains}
use Rattle.std.specs.Ordering.{int_eq}
use Rattle.std.proofs.lemmas.Bool.{false≢true}
use Rattle.std.proofs.lemmas.Option.{none-some}
use Rattle.document_keys.proofs.Order.{paths_compute}
use Rattle.agreement.proofs.Counting.{is_key-decides, is_key-true, same_id-true}
use Rattle.agreement.proofs.Histories.{made, ties}
use Rattle.agreement.specs.Backend.{Id, Key, Setting, Tuple, Written, IsInAnswer, is_key, standing, tick}
use Rattle.agreement.specs.Follows.{AreUnique, Follows, HonestPoint, Known, tuples}
use Rattle.agreement.specs.Streams.{message_of}
use Rattle.agreement.specs.Transcript.{Event, Heard, Request, Sent, counts, news, request, told}
use Rattle.remote_documents.proofs.Maps.{order}
use Rattle.value_model.specs.Documents.{DocumentMap, Stored}
use Rattle.client_agreement.specs.Durable.{setting_of}
use Rattle.client_agreement.specs.Honest.{AreAcknowledgedTruly, IsHonest}
use Rattle.client_agreement.specs.Transcript.{transcript}
use Rattle.client_agreement.proofs.FirstSyncAnswers.{finds_a}
use Rattle.client_agreement.proofs.FirstSyncRun.{key_a, past_current, past_synced, point, query, root, stored_a, writes}

-- the backend
abbrev pub given : Setting
given = setting_of writes root []

abbrev written_a : Written
written_a = record { fields = []; update = 1 }

stands_at_one : standing given 1 key_a ≡ Some written_a
unfolding tick
stands_at_one = made writes 1 key_a

stands_at_two : standing given 2 key_a ≡ Some written_a
unfolding tick
stands_at_two = made writes 2 key_a

-- ---- the point

-- what was done, up to the point
abbrev to_point : List Event
to_point = Heard (message_of point) ∷ transcript past_current

abbrev asked : Request
asked = record { query = query; resume = None }

got_a : finite.get (given.world 2) key_a ≡ Some stored_a
unfolding tick
got_a = finite.get-insert paths_compute.total finite.empty key_a stored_a key_a

in_answer : IsInAnswer given query 2 key_a
in_answer = (finds_a (given.world 2) got_a, tt)

abbrev no_documents : DocumentMap
no_documents = finite.empty

tied_only : (key : Key) (stored : Stored) (b : Bool) → ties key_a key ≡ b → cond b (Some stored_a) (finite.get no_documents key) ≡ Some stored → key ≡ key_a
tied_only key stored true ties is = (is_key-decides key key_a).0 ties
tied_only key stored false other is = absurd (none-some stored (sym (finite.get-empty order key) ∙ is))

-- no other document is there
only_a : (key : Key) (stored : Stored) → finite.get (given.world 2) key ≡ Some stored → key ≡ key_a
unfolding tick
only_a key stored there = tied_only key stored (ties key_a key) refl (sym (finite.get-insert paths_compute.total no_documents key_a stored_a key) ∙ there)

is_two : (id : Id) → counts id to_point ≡ true → pos 2 ≡ id
is_two id h = by (int_eq (pos 2) id) refl h
  where
    by : (b : Bool) → int_eq (pos 2) id ≡ b → counts id to_point ≡ true → pos 2 ≡ id
    by true e h = same_id-true (pos 2) id e
    by false e h = absurd (false≢true (rw e at h))

told_a : (key : Key) → told (pos 2) to_point key ≡ true → key ≡ key_a
told_a key h = by (is_key key_a key) refl h
  where
    by : (b : Bool) → is_key key_a key ≡ b → told (pos 2) to_point key ≡ true → key ≡ key_a
    by true e h = sym (is_key-true key_a key e)
    by false e h = absurd (false≢true (rw e at h))

sent_a : news (pos 2) key_a to_point ≡ Sent 1
unfolding tick
sent_a = refl

some_written : (a b : Written) → Some a ≡ Some b → a ≡ b
some_written a b same = cc

sent : (key : Key) (update : ℕ) → key ≡ key_a → (d : Written) → standing given 2 key ≡ Some d → d.update ≡ update → news (pos 2) key to_point ≡ Sent update
sent key update is d there same =
    let here : Some written_a ≡ Some d = sym stands_at_two ∙ ap (standing given 2) (sym is) ∙ there in
    ap (λ (k : Key). news (pos 2) k to_point) is ∙ sent_a ∙ ap Sent (ap (λ (x : Written). x.update) (some_written written_a d here) ∙ same)

-- no filter comes
pub version : List Event → ℕ
version past = 0

point_two : HonestPoint given version to_point 2 (pos 2) asked
point_two = record {
  answer_told = λ key h. subst (λ (k : Key). told (pos 2) to_point k ≡ true) (sym (only_a key h.0.stored h.0.there)) refl;
  delivered = λ key update h. inl (sent key update (only_a key h.0.0.stored h.0.0.there) h.1 h.2 h.3);
  stale = λ key h. inl (subst (λ (k : Key). IsInAnswer given query 2 k) (sym (told_a key h)) in_answer);
}

same_request : (a b : Request) → Some a ≡ Some b → a ≡ b
same_request a b same = cc

honest_point : (id : Id) (opening : Request) → counts id to_point ≡ true → request id to_point ≡ Some opening → HonestPoint given version to_point 2 id opening
honest_point id opening counting requested =
    let is = is_two id counting in
    let there : Some asked ≡ Some opening = ap (λ (i : Id). request i to_point) is ∙ requested in
    subst (λ (i : Id). HonestPoint given version to_point 2 i opening) is (subst (λ (r : Request). HonestPoint given version to_point 2 (pos 2) r) (same_request asked opening there) point_two)

-- ---- all that was done

never : {P : Type 0} → 0 < 0 → P
never above = absurd (omega (arith, above))

follows : Follows given version (transcript past_synced)
unfolding tick
follows = (
  never,
  (
    never,
    (
      (λ above. (omega arith, λ id opening counting current requested. honest_point id opening counting requested)),
      (
        never,
        (
          never,
          (
            never,
            (
              never,
              (
                never,
                (
                  stands_at_one,
                  (
                    never,
                    (
                      never,
                      (
                        never,
                        (
                          never,
                          (
                            never,
                            (
                              never,
                              (never, tt),
                            ),
                          ),
                        ),
                      ),
                    ),
                  ),
                ),
              ),
            ),
          ),
        ),
      ),
    ),
  ),
)

-- ---- its tokens

one_tuple : Tuple
one_tuple = record { token = 1 ∷ []; query = query; version = 2; keys = told (pos 2) to_point }

one_known : tuples given (transcript past_synced) ≡ one_tuple ∷ []
unfolding tick one_tuple
one_known = refl

unique : AreUnique given (transcript past_synced)
unique a b in_a in_b token of_query = (ap (λ (t : Tuple). t.version) same, λ key. ap (λ (t : Tuple). t.keys key) same)
  where
    one : (t : Tuple) → Contains (one_tuple ∷ []) t → one_tuple ≡ t
    one t (zero, inside, is) = is
    one t (suc k, inside, is) = absurd (omega (arith, inside))

    is_one : (t : Tuple) → Known given (transcript past_synced) t → one_tuple ≡ t
    is_one t known = one t (subst (λ (ts : List Tuple). Contains ts t) one_known known)

    same : a ≡ b
    same = sym (is_one a in_a) ∙ is_one b in_b

pub acknowledged : AreAcknowledgedTruly given past_synced
acknowledged = (tt, (tt, (tt, (tt, (tt, (tt, tt))))))

pub honest : IsHonest given version past_synced
honest = record { follows = follows; unique = unique; acknowledged = acknowledged }
