-- The words of a call.
use Rattle.std.proofs.Common.{◌≡◌, ℕ, List, [], ◌∷◌, ◌++◌, codes, refl, sym, ap, subst, ◌∙◌}
use Rattle.document_keys.specs.Names.{Root, IsPart, IsRoot, root_text, documents_text}
use Rattle.document_keys.specs.Faults.{IsRootOfParts}
use Rattle.json_model.proofs.Cuts.{one_root}
use Rattle.client_run.specs.Words.{AsksRun, NamesRoot}

-- a text is the name of one database at most
roots_one : (a b : Root) → IsPart a.project → IsPart a.name → IsPart b.project → IsPart b.name → root_text a ≡ root_text b → a ≡ b
unfolding documents_text
roots_one a b one two three four same =
    let both = one_root (documents_text a ++ 47 ∷ []) a b one two three four ([], refl) ([], ap (λ (t : List ℕ). (t ++ codes "/documents") ++ 47 ∷ []) same) in
    λ i. record { project = both.0 i; name = both.1 i }

pub named_one : (text : List ℕ) (a b : Root) → IsRootOfParts text a → IsRoot b → text ≡ root_text b → a ≡ b
named_one text a b parts sound is = roots_one a b parts.project parts.name sound.project.part sound.name.part (sym parts.text_is ∙ is)

-- the words ask for one database
pub asked_once : (words : List (List ℕ)) (a b : Root) → AsksRun words a → AsksRun words b → a ≡ b
asked_once words a b first second =
    let both = behind first.folder second.folder first.rest second.rest (sym first.are ∙ second.are) in
    rest_one second.rest (subst (λ (rest : List (List ℕ)). NamesRoot rest a) both first.names) second.names
  where
    behind : (f g : List ℕ) (xs ys : List (List ℕ)) → codes "run" ∷ f ∷ xs ≡ codes "run" ∷ g ∷ ys → xs ≡ ys
    behind f g xs ys same = cc

    rest_one : (rest : List (List ℕ)) → NamesRoot rest a → NamesRoot rest b → a ≡ b
    rest_one [] one other = one ∙ sym other
    rest_one (text ∷ []) one other = roots_one a b one.0.project.part one.0.name.part other.0.project.part other.0.name.part (sym one.1 ∙ other.1)
    rest_one (text ∷ (more ∷ rest)) one other = absurd one
