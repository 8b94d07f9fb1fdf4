-- A text that is the name of a document of any database has no fault as one, and the database is one; and a name has one fault.
use Rattle.std.proofs.Common.{◌≡◌, ◌≢◌, ◌∙◌, ℕ, ◌<◌, List, [], ◌∷◌, ◌++◌, length, refl, sym, ap, subst, arith}
use Rattle.document_keys.specs.Names.{Root, IsRoot, IsKey, path_text, name_text}
use Rattle.document_keys.specs.Faults.{HasKeyFault}
use Rattle.document_keys.specs.declared.faults.NameFault.{NameFault}
use Rattle.document_keys.specs.declared.faults.NameFault.TheVariants as name_fault
use Rattle.document_keys.proofs.Lawful.{excluded}
use Rattle.value_model.specs.declared.reference.RefName.{RefName}
use Rattle.json_model.specs.declared.fault.NamingFault.{NamingFault}
use Rattle.json_model.specs.declared.fault.NamingFault.TheVariants.{WrongRoot, BadSegment, OddLength}
use Rattle.json_model.specs.References.{SpellsReference, IsUnder, HasDocumentFault, HasReferenceFault, root_of}
use Rattle.json_model.proofs.Cuts.{one_root}

-- ---- a name under a root

-- what a fault of a key is as one of a name
abbrev naming : NameFault → NamingFault
naming name_fault.WrongRoot = WrongRoot
naming name_fault.BadSegment = BadSegment
naming _ = OddLength

-- the fault of a document's name is one of its key
record KeyFault (root : Root) (text : List ℕ) (f : NamingFault) : Type 0 where
  kind : NameFault
  has : HasKeyFault root text kind
  other : kind ≢ name_fault.NoMemory
  is : f ≡ naming kind

key_fault : (root : Root) (text : List ℕ) (f : NamingFault) → HasDocumentFault root text f → KeyFault root text f
key_fault root text WrongRoot has = record { kind = name_fault.WrongRoot; has = has; other = λ e. cc; is = refl }
key_fault root text BadSegment has = record { kind = name_fault.BadSegment; has = has; other = λ e. cc; is = refl }
key_fault root text OddLength has = record { kind = name_fault.OddLength; has = has; other = λ e. cc; is = refl }
key_fault root text _ has = absurd has

pub document_fault_one : (root : Root) (text : List ℕ) (f g : NamingFault) → HasDocumentFault root text f → HasDocumentFault root text g → f ≡ g
document_fault_one root text f g x y =
    let a = key_fault root text f x in
    let b = key_fault root text g y in
    a.is ∙ ap naming (excluded.one root text a.kind b.kind a.other b.other a.has b.has) ∙ sym b.is

pub document_none : (root : Root) (key : List (List ℕ)) (f : NamingFault) → IsKey key → HasDocumentFault root (name_text root key) f → ⊥
document_none root key f names has = let a = key_fault root (name_text root key) f has in a.other (excluded.none root key a.kind names a.has)

-- ---- the root of a name

pub under_name : (root : Root) (text : List ℕ) (path : List (List ℕ)) → 0 < length path → text ≡ name_text root path → IsUnder root text
under_name root text [] some is = absurd (omega arith)
under_name root text (k ∷ path) some is = (k ++ path_text path, is)

-- the database under which a text begins is one
pub one_database : (text : List ℕ) (root other : Root) → IsRoot root → IsRoot other → IsUnder root text → IsUnder other text → root ≡ other
one_database text root other sound also under beside =
    let parts = one_root text root other sound.project.part sound.name.part also.project.part also.name.part under beside in
    λ i. record { project = parts.0 i; name = parts.1 i }

-- a fault that the text has under its database
record Under (text : List ℕ) (f : NamingFault) : Type 0 where
  root : Root
  sound : IsRoot root
  under : IsUnder root text
  has : HasDocumentFault root text f

reference_under : (text : List ℕ) (f : NamingFault) → HasReferenceFault text f → f ≢ WrongRoot → Under text f
reference_under text WrongRoot has other = absurd (other refl)
reference_under text BadSegment (root, sound, has) other = record { root = root; sound = sound; under = under_name root text has.0 has.1.some has.1.text_is; has = has }
reference_under text OddLength (root, sound, has) other = record { root = root; sound = sound; under = under_name root text has.0 has.1.some has.1.text_is; has = has }
reference_under text _ has other = absurd has

pub reference_no : (text : List ℕ) (name : RefName) (f : NamingFault) → SpellsReference text name → HasReferenceFault text f → ⊥
reference_no text name WrongRoot s has = has (root_of name) s.database (under_name (root_of name) text name.key s.names.some s.is)
reference_no text name f s has =
    let at = reference_under text f has (λ e. cc) in
    let same = one_database text at.root (root_of name) at.sound s.database at.under (under_name (root_of name) text name.key s.names.some s.is) in
    document_none (root_of name) name.key f s.names (subst (λ (t : List ℕ). HasDocumentFault (root_of name) t f) s.is (subst (λ (r : Root). HasDocumentFault r text f) same at.has))

pub reference_fault_one : (text : List ℕ) (f g : NamingFault) → HasReferenceFault text f → HasReferenceFault text g → f ≡ g
reference_fault_one text WrongRoot WrongRoot x y = refl
reference_fault_one text WrongRoot g x y = let at = reference_under text g y (λ e. cc) in absurd (x at.root at.sound at.under)
reference_fault_one text f WrongRoot x y = let at = reference_under text f x (λ e. cc) in absurd (y at.root at.sound at.under)
reference_fault_one text f g x y =
    let a = reference_under text f x (λ e. cc) in
    let b = reference_under text g y (λ e. cc) in
    document_fault_one b.root text f g (subst (λ (r : Root). HasDocumentFault r text f) (one_database text a.root b.root a.sound b.sound a.under b.under) a.has) b.has
