-- The text of a line that was put piece by piece.
use Rattle.std.proofs.Common.{◌≡◌, ◌∙◌, ℕ, List, [], ◌∷◌, ◌++◌, String, Result, Ok, Err, IfOk, refl, ap}
use Rattle.std.specs.String.{string_bytes}
use Rattle.std.specs.declared.alloc.Global.{Global}
use Rattle.json.specs.Token.{end_object}
use Rattle.json.specs.Print.{print}
use Rattle.json.specs.Written.{Written}
use Rattle.serde_json.specs.Data.{Data}
use Rattle.serde_json.proofs.Texts.{print-outline}
use Rattle.json_text.specs.Puts.{Adds, tokens_of}
use Rattle.line_printer.specs.Begun.{IsBegun}
use Rattle.line_printer.specs.Lines.{line_of}
use Rattle.line_printer.specs.Trees.{one}

pub ended : {E : Type 0} (r : Result (String Global) E) (start out : Written) (name : List ℕ) (d : Data) → IsBegun name start → Adds start out (tokens_of d)
    → IfOk r (λ line. string_bytes line ≡ print (out.tokens ++ end_object ∷ []) ++ 10 ∷ []) → IfOk r (λ line. string_bytes line ≡ line_of (one name d))
unfolding line_of
ended (Err e) start out name d begun puts is = tt
ended (Ok line) start out name d begun puts is =
    let whole : out.tokens ++ end_object ∷ [] ≡ tokens_of (one name d) = rw (puts.tokens, begun.tokens) refl in
    is ∙ ap (λ ts. print ts ++ 10 ∷ []) whole ∙ ap (λ s. s ++ 10 ∷ []) (print-outline (one name d))
