-- lines have one history
use Rattle.std.proofs.Common.{◌≡◌, List, [], ◌∷◌, ◌++◌, length, refl, sym, ap, subst, ◌∙◌, arith, length-append}
use Rattle.document_keys.specs.Names.{Root}
use Rattle.line_reader.specs.declared.reading.Reading.{Reading}
use Rattle.line_reader.specs.declared.reading.Reading.TheVariants.{Line as an_event, Refused}
use Rattle.local_store.specs.State.{State}
use Rattle.client_turns.specs.Past.{Past}
use Rattle.client_turns.proofs.Ones.{a_turn_is_one}
use Rattle.client_run.specs.History.{Handled, History, heard, now, readings_of}
use Rattle.client_run.specs.Laws.{AHistoryIsOne}
use Rattle.client_run.specs.Turn.{LineTurn, IsLineTurn, of_event}

line_turn_one : (root : Root) (s : State) (past : Past) (reading : Reading) (t u : LineTurn) → IsLineTurn root s past reading t → IsLineTurn root s past reading u → t ≡ u
line_turn_one root s past (Refused refusal) t u first second = first ∙ sym second
line_turn_one root s past (an_event e) t u first second = first.is ∙ ap of_event (a_turn_is_one root s past e first.turn second.turn first.is_turn second.is_turn) ∙ sym second.is

-- two lists that end in one more item each
last_same : {X : Type 0} (xs ys : List X) (x y : X) → xs ++ x ∷ [] ≡ ys ++ y ∷ [] → (xs ≡ ys) × (x ≡ y)
last_same [] [] x y is = (refl, cc)
last_same [] (b ∷ ys) x y is = let long : 1 ≡ length (b ∷ (ys ++ y ∷ [])) = ap length is in absurd (omega (arith, long, length-append ys (y ∷ [])))
last_same (a ∷ xs) [] x y is = let long : length (a ∷ (xs ++ x ∷ [])) ≡ 1 = ap length is in absurd (omega (arith, long, length-append xs (x ∷ [])))
last_same (a ∷ xs) (b ∷ ys) x y is =
    let heads : a ≡ b = cc in
    let tails : xs ++ x ∷ [] ≡ ys ++ y ∷ [] = cc in
    let rest = last_same xs ys x y tails in
    ((λ i. heads i ∷ rest.0 i), rest.1)

handled_same : (a b : Handled) → a.state ≡ b.state → a.reading ≡ b.reading → a.turn ≡ b.turn → a ≡ b
handled_same a b states readings turns = λ i. record { state = states i; reading = readings i; turn = turns i }

pub a_history_is_one : AHistoryIsOne
a_history_is_one root first [] [] one two same = refl
a_history_is_one root first [] (b ∷ other) one two same = let long : 0 ≡ length (readings_of other ++ b.reading ∷ []) = ap length same in absurd (omega (arith, long, length-append (readings_of other) (b.reading ∷ [])))
a_history_is_one root first (a ∷ history) [] one two same = let long : length (readings_of history ++ a.reading ∷ []) ≡ 0 = ap length same in absurd (omega (arith, long, length-append (readings_of history) (a.reading ∷ [])))
a_history_is_one root first (a ∷ history) (b ∷ other) one two same =
    let split = last_same (readings_of history) (readings_of other) a.reading b.reading same in
    let rest : history ≡ other = a_history_is_one root first history other one.0 two.0 split.0 in
    let states : a.state ≡ b.state = one.1.state ∙ ap (now first) rest ∙ sym two.1.state in
    let as_b : IsLineTurn root b.state (heard other) b.reading a.turn =
    subst (λ (r : Reading). IsLineTurn root b.state (heard other) r a.turn) split.1
    (subst (λ (h : History). IsLineTurn root b.state (heard h) a.reading a.turn) rest
    (subst (λ (s : State). IsLineTurn root s (heard history) a.reading a.turn) states one.1.turn)) in
    let turns : a.turn ≡ b.turn = line_turn_one root b.state (heard other) b.reading a.turn b.turn as_b two.1.turn in
    let line = handled_same a b states split.1 turns in
    λ i. line i ∷ rest i
