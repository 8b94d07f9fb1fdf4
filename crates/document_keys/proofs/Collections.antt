-- the last segment of a path, the path of a collection, and its faults
use Rattle.std.proofs.Common.{◌≡◌, ◌≢◌, ◌∙◌, ◌↔◌, ℕ, ◌+◌, ◌-◌, ◌<◌, Bool, false, IsTrue, nat_eq, List, [], ◌∷◌, ◌++◌, length, get_or, take, codes, sym, ap, subst, arith}
use Rattle.std.specs.List.{All}
use Rattle.std.specs.Cmp.Lexicographic.{pointwise, pointwise_decides, bytes_decides}
use Rattle.std.proofs.lemmas.List.{append_cancel_left, length-append, same_from_push, take_all, take_more}
use Rattle.document_keys.specs.Names.{IsSegment, IsCollection, Root, root_text, documents_text}
use Rattle.document_keys.specs.Faults.{HasCollectionFault, of_id, of_memory, IsParent}
use Rattle.document_keys.specs.declared.faults.NameFault.{NameFault}
use Rattle.document_keys.specs.declared.faults.NameFault.TheVariants.{WrongRoot, BadSegment, OddLength, NoMemory}
use Rattle.document_keys.proofs.Parts.{All_segments-push}

pub last_split : (path : List (List ℕ)) (count : ℕ) → count ≡ length path → 0 < length path → path ≡ take (count - 1) path ++ get_or path (count - 1) [] ∷ []
last_split path count is some = sym (take_all (count - 1 + 1) path (omega arith)) ∙ take_more path (count - 1) [] (omega arith)

-- a path is one of a collection and one segment more exactly where its front is that of the collection
pub is_in_from : (path front collection : List (List ℕ)) (last : List ℕ) (same : Bool) → path ≡ front ++ last ∷ [] → same ≡ pointwise (pointwise nat_eq) front collection → IsTrue same ↔ ((id : List ℕ) × (path ≡ collection ++ id ∷ []))
is_in_from path front collection last same split test =
    let decides = pointwise_decides bytes_decides front collection in
    (λ yes. (last, split ∙ ap (λ f. f ++ last ∷ []) (decides.0 (sym test ∙ yes))), λ in_it. test ∙ decides.1 (same_from_push front collection last in_it.0 (sym split ∙ in_it.1)).0)

-- the text of the parent without segments
pub is_documents-after : (root : Root) (front text rest : List ℕ) (same : Bool) → front ≡ root_text root → text ≡ front ++ rest → same ≡ pointwise nat_eq rest (codes "/documents") → IsTrue same ↔ (text ≡ documents_text root)
unfolding documents_text
is_documents-after root front text rest same is begins test =
    let decides = bytes_decides rest (codes "/documents") in
    (λ yes. begins ∙ (λ i. is i ++ decides.0 (sym test ∙ yes) i), λ e. test ∙ decides.1 (append_cancel_left front rest (codes "/documents") (sym begins ∙ e ∙ ap (λ f. f ++ codes "/documents") (sym is))))

pub is_documents-not : (root : Root) (front text : List ℕ) → front ≡ root_text root → ((rest : List ℕ) → text ≢ front ++ rest) → IsTrue false ↔ (text ≡ documents_text root)
unfolding documents_text
is_documents-not root front text is none = (λ no. cc, λ e. absurd (none (codes "/documents") (e ∙ ap (λ f. f ++ codes "/documents") (sym is))))

-- the parent's path and the id make a collection's path
pub is_collection-from : (root : Root) (parent : List ℕ) (front path : List (List ℕ)) (segment id : List ℕ) → IsParent root parent front → path ≡ front ++ segment ∷ [] → segment ≡ id → IsSegment id → IsCollection path
is_collection-from root parent front path segment id of pushed is one =
    let size : length path ≡ length front + 1 = ap length pushed ∙ length-append front (segment ∷ []) in
    record {
      odd = let even = of.even in omega arith;
      segments = subst (All IsSegment) (sym pushed) (All_segments-push front segment id is of.segments one);
    }

pub fault_of_id : (root : Root) (parent id : List ℕ) (front : List (List ℕ)) (fault : NameFault) → IsParent root parent front → (fault ≢ NoMemory → (fault ≡ BadSegment) × ¬ (IsSegment id)) → HasCollectionFault root parent id fault
fault_of_id root parent id front WrongRoot of why = let bad = why (λ e. cc) in cc
fault_of_id root parent id front BadSegment of why = of_id front of (why (λ e. cc)).1
fault_of_id root parent id front OddLength of why = let bad = why (λ e. cc) in cc
fault_of_id root parent id front NoMemory of why = of_memory
