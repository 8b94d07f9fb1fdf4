-- the laws of names, paths and their order
use Rattle.std.proofs.Common.{◌≡◌, ◌≢◌, ◌∙◌, ◌⊎◌, inl, inr, ℕ, ◌%◌, Ordering, Less, Equal, Greater, List, [], ◌∷◌, ◌++◌, length, append-nil, refl, sym, ap, subst, arith}
use Rattle.std.specs.Cmp.{tied_itself}
use Rattle.std.specs.Cmp.Lexicographic.{slice_cmp}
use Rattle.std.specs.List.{All}
use Rattle.std.specs.Ordering.{nat_cmp}
use Rattle.std.proofs.lemmas.List.{append_cancel_left}
use Rattle.std.proofs.lemmas.List.Elements.{All-head, All-tail, All-weaker}
use Rattle.document_keys.specs.declared.faults.FieldFault.{FieldFault}
use Rattle.document_keys.specs.declared.faults.FieldFault.TheVariants as field
use Rattle.document_keys.specs.declared.faults.NameFault.{NameFault}
use Rattle.document_keys.specs.declared.faults.NameFault.TheVariants.{WrongRoot, BadSegment, OddLength, NoMemory}
use Rattle.document_keys.specs.Faults.{HasCollectionFault, of_parent, of_id, of_memory, HasKeyFault, HasRootFault, IsNameOfParts, IsParent}
use Rattle.document_keys.specs.Laws.{FaultsExclude, KeyFaultsExclude, NamesOnePath, PathsAreOrdered, PathsReadBack}
use Rattle.document_keys.specs.Names.{IsKey, IsPart, IsSegment, Root, documents_text, name_text, path_text}
use Rattle.document_keys.specs.Order.{PathBefore}
use Rattle.document_keys.specs.Paths.{HasPathFault}
use Rattle.document_keys.proofs.Fields.{printed_spells}
use Rattle.document_keys.proofs.Order.{paths_compute, ranks_from}
use Rattle.document_keys.proofs.Spelled.{spells_one}

-- ---- the order

total_by : (p q : List (List ℕ)) (order : Ordering) → order ≡ slice_cmp (slice_cmp nat_cmp) p q → PathBefore p q ⊎ ((p ≡ q) ⊎ PathBefore q p)
total_by p q Less is = inl ((ranks_from p q Less is).less.0 refl)
total_by p q Equal is = inr (inl ((ranks_from p q Equal is).equal.0 refl))
total_by p q Greater is = inr (inr ((ranks_from p q Greater is).greater.0 refl))

pub ordered : PathsAreOrdered
ordered = record {
  transitive = λ p q r pq qr. paths_compute.below p r (paths_compute.total.trans p q r (paths_compute.less p q pq) (paths_compute.less q r qr));
  strict = λ p before. let less = paths_compute.less p p before in let same = tied_itself paths_compute.total p in cc (less, same);
  total = λ p q. total_by p q (slice_cmp (slice_cmp nat_cmp) p q) refl;
}

-- ---- names

front_same : (a b : List ℕ) (p q : List (List ℕ)) → IsPart a → IsPart b → a ++ path_text p ≡ b ++ path_text q → (a ≡ b) × (path_text p ≡ path_text q)
front_same [] [] p q one two e = (refl, e)
front_same [] (h ∷ b) [] q one two e = cc
front_same [] (h ∷ b) (s ∷ p) q one two e = absurd (All-head (λ byte. byte ≢ 47) h b two cc)
front_same (h ∷ a) [] p [] one two e = cc
front_same (h ∷ a) [] p (s ∷ q) one two e = absurd (All-head (λ byte. byte ≢ 47) h a one cc)
front_same (h ∷ a) (g ∷ b) p q one two e =
    let tails = front_same a b p q (All-tail (λ byte. byte ≢ 47) h a one) (All-tail (λ byte. byte ≢ 47) g b two) cc in
    let heads : h ≡ g = cc in
    (λ i. heads i ∷ tails.0 i, tails.1)

pub path_same : (p q : List (List ℕ)) → All IsPart p → All IsPart q → path_text p ≡ path_text q → p ≡ q
path_same [] [] one two e = refl
path_same [] (t ∷ q) one two e = cc
path_same (s ∷ p) [] one two e = cc
path_same (s ∷ p) (t ∷ q) one two e =
    let parts = front_same s t p q (All-head IsPart s p one) (All-head IsPart t q two) cc in
    let rest = path_same p q (All-tail IsPart s p one) (All-tail IsPart t q two) parts.1 in
    λ i. parts.0 i ∷ rest i

pub named_once : NamesOnePath
named_once root p q one two e = path_same p q one two (append_cancel_left (documents_text root) (path_text p) (path_text q) e)

parts_same : (root : Root) (text : List ℕ) (p q : List (List ℕ)) → IsNameOfParts root text p → IsNameOfParts root text q → p ≡ q
parts_same root text p q one two = named_once root p q one.cut two.cut (sym one.text_is ∙ two.text_is)

begins : (root : Root) (text : List ℕ) (parts : List (List ℕ)) → IsNameOfParts root text parts → ((rest : List ℕ) → text ≢ documents_text root ++ 47 ∷ rest) → ⊥
begins root text [] is none = let some = is.some in absurd (omega arith)
begins root text (s ∷ parts) is none = none (s ++ path_text parts) is.text_is

only : (root : Root) (text : List ℕ) (e f : NameFault) → e ≢ NoMemory → f ≢ NoMemory → HasKeyFault root text e → HasKeyFault root text f → e ≡ f
only root text WrongRoot WrongRoot a b x y = refl
only root text WrongRoot BadSegment a b x y = absurd (begins root text y.0 y.1 x)
only root text WrongRoot OddLength a b x y = absurd (begins root text y.0 y.1 x)
only root text WrongRoot NoMemory a b x y = absurd (b refl)
only root text BadSegment WrongRoot a b x y = absurd (begins root text x.0 x.1 y)
only root text BadSegment BadSegment a b x y = refl
only root text BadSegment OddLength a b x y = absurd (x.2 (subst (All IsSegment) (parts_same root text y.0 x.0 y.1 x.1) y.2))
only root text BadSegment NoMemory a b x y = absurd (b refl)
only root text OddLength WrongRoot a b x y = absurd (begins root text x.0 x.1 y)
only root text OddLength BadSegment a b x y = absurd (y.2 (subst (All IsSegment) (parts_same root text x.0 y.0 x.1 y.1) x.2))
only root text OddLength OddLength a b x y = refl
only root text OddLength NoMemory a b x y = absurd (b refl)
only root text NoMemory f a b x y = absurd (a refl)

of_key : (root : Root) (key : List (List ℕ)) → IsKey key → IsNameOfParts root (name_text root key) key
of_key root key is = record { some = is.some; cut = All-weaker IsSegment IsPart (λ s one. one.part) key is.segments; text_is = refl }

none : (root : Root) (key : List (List ℕ)) (e : NameFault) → IsKey key → HasKeyFault root (name_text root key) e → e ≡ NoMemory
none root key WrongRoot is x = absurd (begins root (name_text root key) key (of_key root key is) x)
none root key BadSegment is x = absurd (x.2 (subst (All IsSegment) (parts_same root (name_text root key) key x.0 (of_key root key is) x.1) is.segments))
none root key OddLength is x =
    let same = ap length (parts_same root (name_text root key) key x.0 (of_key root key is) x.1) in
    let odd : length key % 2 ≡ 1 = ap (λ n. n % 2) same ∙ x.3 in
    let even = is.even in absurd (omega arith)
none root key NoMemory is x = refl

pub excluded : KeyFaultsExclude
excluded = record { one = only; none = none }

pub read_back : PathsReadBack
read_back = record { one = spells_one; printed = printed_spells }

-- ---- databases, collections and field paths

root_once : (text : List ℕ) (e f : NameFault) → e ≢ NoMemory → f ≢ NoMemory → HasRootFault text e → HasRootFault text f → e ≡ f
root_once text NoMemory f a b x y = absurd (a refl)
root_once text OddLength f a b x y = absurd x
root_once text WrongRoot WrongRoot a b x y = refl
root_once text WrongRoot BadSegment a b x y = absurd (x y.0 y.1)
root_once text WrongRoot OddLength a b x y = absurd y
root_once text WrongRoot NoMemory a b x y = absurd (b refl)
root_once text BadSegment WrongRoot a b x y = absurd (y x.0 x.1)
root_once text BadSegment BadSegment a b x y = refl
root_once text BadSegment OddLength a b x y = absurd y
root_once text BadSegment NoMemory a b x y = absurd (b refl)

-- a parent is the root's `documents`, or has no fault as a document name
parent_clean : (root : Root) (parent : List ℕ) (path : List (List ℕ)) (e : NameFault) → IsParent root parent path → parent ≢ documents_text root → HasKeyFault root parent e → e ≡ NoMemory
parent_clean root parent [] e is apart x = absurd (apart (is.text_is ∙ append-nil (documents_text root)))
parent_clean root parent (s ∷ path) e is apart x =
    none root (s ∷ path) e (record { some = omega arith; even = is.even; segments = is.segments }) (subst (λ t. HasKeyFault root t e) is.text_is x)

collection_once : (root : Root) (parent id : List ℕ) (e f : NameFault) → e ≢ NoMemory → f ≢ NoMemory → HasCollectionFault root parent id e → HasCollectionFault root parent id f → e ≡ f
collection_once root parent id e f a b (of_memory) y = absurd (a refl)
collection_once root parent id e f a b (of_parent apart x) (of_memory) = absurd (b refl)
collection_once root parent id e f a b (of_parent apart x) (of_parent also y) = only root parent e f a b x y
collection_once root parent id e f a b (of_parent apart x) (of_id path is not) = absurd (a (parent_clean root parent path e is apart x))
collection_once root parent id e f a b (of_id path is not) (of_memory) = absurd (b refl)
collection_once root parent id e f a b (of_id path is not) (of_parent apart y) = absurd (b (parent_clean root parent path f is apart y))
collection_once root parent id e f a b (of_id path is not) (of_id other also none) = refl

path_once : (text : List ℕ) (e f : FieldFault) → e ≢ field.NoMemory → f ≢ field.NoMemory → HasPathFault text e → HasPathFault text f → e ≡ f
path_once text field.NoMemory f a b x y = absurd (a refl)
path_once text field.BadPath field.BadPath a b x y = refl
path_once text field.BadPath field.ReservedField a b x y = absurd (x y.0 y.1 y.2)
path_once text field.BadPath field.NoMemory a b x y = absurd (b refl)
path_once text field.ReservedField field.BadPath a b x y = absurd (y x.0 x.1 x.2)
path_once text field.ReservedField field.ReservedField a b x y = refl
path_once text field.ReservedField field.NoMemory a b x y = absurd (b refl)

pub one_fault : FaultsExclude
one_fault = record { root = root_once; collection = collection_once; path = path_once }
