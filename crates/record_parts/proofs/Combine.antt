-- Forms of parts make the form of a whole: one part after another, lists with their number, and kinds behind their bytes.
use Rattle.std.proofs.Common.{◌≡◌, ◌≢◌, ℕ, ◌^◌, ◌<◌, List, [], ◌∷◌, ◌++◌, length, drop, get_or, refl, sym, ap, subst, ◌∙◌, append_assoc, arith, Result, Ok, Err}
use Rattle.std.specs.List.{flat_map}
use Rattle.std.proofs.lemmas.List.{append_cancel_left}
use Rattle.std.proofs.lemmas.List.Elements.{All-from_recursion, recursion_from_All}
use Rattle.record_parts.specs.declared.fault.ReadError.{ReadError}
use Rattle.record_parts.specs.Spelling.{number, many, AreSpelled}
use Rattle.record_parts.specs.Reading.{Begins, BeginsNone, Reads, AreMany}
use Rattle.record_parts.proofs.Wide.{IsUnique, unique_number, fails_also}
use Rattle.record_parts.proofs.Forms.{next, many_none, unique_many, unique_narrower}

-- values that are spelled so, where they fit, and of which no spelling is a front of another's
pub record Form (X : Type 0) : Type 1 where
  pub spell : X → List ℕ
  pub Fits : X → Type 0
  pub unique : IsUnique spell Fits

abbrev IsWord : ℕ → Type 0
IsWord n = n < 2 ^ 64

-- fewer values of the same spelling
abbrev pub narrow : {X : Type 0} → (f : Form X) (Narrow : X → Type 0) → ((x : X) → Narrow x → f.Fits x) → Form X
narrow f Narrow wider = record { spell = f.spell; Fits = Narrow; unique = unique_narrower f.spell f.Fits Narrow wider f.unique }

-- nothing, in no bytes
abbrev pub empty : Form (Unit {0})
empty = record { spell = λ _. []; Fits = λ _. Unit {0}; unique = λ a b s t fits_a fits_b e. (refl, e) }

-- ---- one part, and then another, which may depend on it

same_second : {A B : Type 0} (g : A → Form B) (x y : A) → x ≡ y → (u v : B) (s t : List ℕ) → (g x).Fits u → (g y).Fits v → (g x).spell u ++ s ≡ (g y).spell v ++ t → (u ≡ v) × (s ≡ t)
same_second g x y same u v s t fits_u fits_v e = (g y).unique u v s t (subst (λ z. (g z).Fits u) same fits_u) fits_v (subst (λ z. (g z).spell u ++ s ≡ (g y).spell v ++ t) same e)

pub unique_pair : {A B : Type 0} (f : Form A) (g : A → Form B) → IsUnique (λ (p : A × B). f.spell p.0 ++ (g p.0).spell p.1) (λ p. f.Fits p.0 × (g p.0).Fits p.1)
unique_pair f g a b s t fits_a fits_b e =
    let first = f.unique a.0 b.0 ((g a.0).spell a.1 ++ s) ((g b.0).spell b.1 ++ t) fits_a.0 fits_b.0
    (sym (append_assoc (f.spell a.0) ((g a.0).spell a.1) s) ∙ e ∙ append_assoc (f.spell b.0) ((g b.0).spell b.1) t) in
    let second = same_second g a.0 b.0 first.0 a.1 b.1 s t fits_a.1 fits_b.1 first.1 in
    ((λ i. (first.0 i, second.0 i)), second.1)

abbrev pub pair : {A B : Type 0} → Form A → (A → Form B) → Form (A × B)
pair {A} {B} f g = record {
  spell = λ (p : A × B). f.spell p.0 ++ (g p.0).spell p.1;
  Fits = λ p. f.Fits p.0 × (g p.0).Fits p.1;
  unique = unique_pair f g;
}

-- the second is the same whatever the first
abbrev pub both : {A B : Type 0} → Form A → Form B → Form (A × B)
both f g = pair f (λ _. g)

pub no_first : {A B : Type 0} (f : Form A) (g : A → Form B) (bytes : List ℕ) → BeginsNone f.spell f.Fits bytes → BeginsNone (pair f g).spell (pair f g).Fits bytes
no_first f g bytes none p more b = none p.0 ((g p.0).spell p.1 ++ more) (record { parts = b.parts ∙ append_assoc (f.spell p.0) ((g p.0).spell p.1) more; fits = b.fits.0 })

pub no_second : {A B : Type 0} (f : Form A) (g : A → Form B) (bytes : List ℕ) (a : A) (rest : List ℕ) → Begins f.spell f.Fits bytes a rest → BeginsNone (g a).spell (g a).Fits rest
    → BeginsNone (pair f g).spell (pair f g).Fits bytes
no_second f g bytes a rest first none p more b =
    let is = next f.spell f.Fits f.unique bytes a rest first p.0 ((g p.0).spell p.1 ++ more) b.fits.0 (b.parts ∙ append_assoc (f.spell p.0) ((g p.0).spell p.1) more) in
    none p.1 more (record { parts = subst (λ z. rest ≡ (g z).spell p.1 ++ more) (sym is.0) is.1; fits = subst (λ z. (g z).Fits p.1) (sym is.0) b.fits.1 })

pub pair_read : {A B : Type 0} (f : Form A) (g : A → Form B) (bytes : List ℕ) (a : A) (rest : List ℕ) (x : B) (more : List ℕ) → Begins f.spell f.Fits bytes a rest → Begins (g a).spell (g a).Fits rest x more
    → Begins (pair f g).spell (pair f g).Fits bytes (a, x) more
pair_read f g bytes a rest x more first second = record {
  parts = first.parts ∙ ap (λ (r : List ℕ). f.spell a ++ r) second.parts ∙ sym (append_assoc (f.spell a) ((g a).spell x) more);
  fits = (first.fits, second.fits);
}

-- ---- lists

pub unique_list : {X : Type 0} (f : Form X) → IsUnique (many f.spell) (AreSpelled f.Fits)
unique_list f a b s t fits_a fits_b e =
    let n = unique_number (length a) (length b) (flat_map f.spell a ++ s) (flat_map f.spell b ++ t) fits_a.count fits_b.count
    (sym (append_assoc (number (length a)) (flat_map f.spell a) s) ∙ e ∙ append_assoc (number (length b)) (flat_map f.spell b) t) in
    unique_many f.spell f.Fits f.unique a b s t n.0 (recursion_from_All f.Fits a fits_a.each) (recursion_from_All f.Fits b fits_b.each) n.1

abbrev pub list : {X : Type 0} → Form X → Form (List X)
list f = record { spell = many f.spell; Fits = AreSpelled f.Fits; unique = unique_list f }

pub no_count : {X : Type 0} (f : Form X) (bytes : List ℕ) → BeginsNone number IsWord bytes → BeginsNone (many f.spell) (AreSpelled f.Fits) bytes
no_count f bytes none xs more b = none (length xs) (flat_map f.spell xs ++ more) (record { parts = b.parts ∙ append_assoc (number (length xs)) (flat_map f.spell xs) more; fits = b.fits.count })

pub no_items : {X : Type 0} (f : Form X) (bytes : List ℕ) (n : ℕ) (rest : List ℕ) → Begins number IsWord bytes n rest → BeginsNone (flat_map f.spell) (AreMany f.Fits n) rest → BeginsNone (many f.spell) (AreSpelled f.Fits) bytes
no_items f bytes n rest first none xs more b =
    let is = next number IsWord unique_number bytes n rest first (length xs) (flat_map f.spell xs ++ more) b.fits.count (b.parts ∙ append_assoc (number (length xs)) (flat_map f.spell xs) more) in
    none xs more (record { parts = is.1; fits = record { len = sym is.0; each = recursion_from_All f.Fits xs b.fits.each } })

-- after some items were read there is no next one
pub no_item : {X : Type 0} (f : Form X) (bytes : List ℕ) (n : ℕ) (start : List ℕ) (i : ℕ) (xs : List X) (rest : List ℕ) → Begins number IsWord bytes n start → i < n → Begins (flat_map f.spell) (AreMany f.Fits i) start xs rest
    → BeginsNone f.spell f.Fits rest → BeginsNone (many f.spell) (AreSpelled f.Fits) bytes
no_item f bytes n start i xs rest first less before none = no_items f bytes n start first (many_none f.spell f.Fits f.unique start n i xs rest less before none)

pub list_read : {X : Type 0} (f : Form X) (bytes : List ℕ) (n : ℕ) (start : List ℕ) (i : ℕ) (xs : List X) (rest : List ℕ) → Begins number IsWord bytes n start → n ≡ i → Begins (flat_map f.spell) (AreMany f.Fits i) start xs rest
    → Begins (many f.spell) (AreSpelled f.Fits) bytes xs rest
list_read f bytes n start i xs rest first done each = record {
  parts = first.parts ∙ ap (λ (r : List ℕ). number n ++ r) each.parts ∙ ap (λ (j : ℕ). number j ++ (flat_map f.spell xs ++ rest)) (done ∙ sym each.fits.len) ∙ sym (append_assoc (number (length xs)) (flat_map f.spell xs) rest);
  fits = record { count = omega (arith, done, each.fits.len, first.fits); each = All-from_recursion f.Fits xs each.fits.each };
}

-- ---- kinds of a value, each behind the bytes that tell it

-- a value of the kind, and what it is made of
pub record Made {W X : Type 0} (make : X → W) (f : Form X) (w : W) : Type 0 where
  pub content : X
  pub is : w ≡ make content
  pub fits : f.Fits content

-- what is spelled behind the bytes of a kind is the content of its values
pub record IsKind {W X : Type 0} (spell : W → List ℕ) (Fits : W → Type 0) (front : List ℕ) (make : X → W) (f : Form X) : Type 0 where
  pub on : (x : X) → spell (make x) ≡ front ++ f.spell x
  pub fits : (x : X) → f.Fits x → Fits (make x)
  pub back : (w : W) (rest bytes : List ℕ) → spell w ++ rest ≡ front ++ bytes → Fits w → Made make f w

pub kind_read : {W X : Type 0} {spell : W → List ℕ} {Fits : W → Type 0} (front : List ℕ) (make : X → W) (f : Form X) → IsKind spell Fits front make f → (bytes : List ℕ) (x : X) (rest : List ℕ) → Begins f.spell f.Fits bytes x rest
    → Begins spell Fits (front ++ bytes) (make x) rest
kind_read front make f k bytes x rest b = record {
  parts = ap (λ (r : List ℕ). front ++ r) b.parts ∙ sym (append_assoc front (f.spell x) rest) ∙ ap (λ (r : List ℕ). r ++ rest) (sym (k.on x));
  fits = k.fits x b.fits;
}

made_on : {W X : Type 0} {spell : W → List ℕ} {Fits : W → Type 0} (front : List ℕ) (make : X → W) (f : Form X) → IsKind spell Fits front make f → (w : W) (m : Made make f w) (rest : List ℕ) → spell w ++ rest ≡ front ++ (f.spell m.content ++ rest)
made_on {W} {X} {spell} {Fits} front make f k w m rest = ap (λ (v : W). spell v ++ rest) m.is ∙ ap (λ (r : List ℕ). r ++ rest) (k.on m.content) ∙ append_assoc front (f.spell m.content) rest

pub kind_none : {W X : Type 0} {spell : W → List ℕ} {Fits : W → Type 0} (front : List ℕ) (make : X → W) (f : Form X) → IsKind spell Fits front make f → (bytes : List ℕ) → BeginsNone f.spell f.Fits bytes → BeginsNone spell Fits (front ++ bytes)
kind_none front make f k bytes none w more b =
    let m = k.back w more bytes (sym b.parts) b.fits in
    none m.content more (record { parts = append_cancel_left front bytes (f.spell m.content ++ more) (b.parts ∙ made_on front make f k w m more); fits = m.fits })

-- what reads the content reads the value, where they are the same
pub same_reads : {W Y : Type 0} {spell : W → List ℕ} {Fits : W → Type 0} {front : List ℕ} {f : Form W} → IsKind spell Fits front (λ w. w) f → (bytes : List ℕ) (view : Y → W × List ℕ) (result : Result Y ReadError)
    → Reads f.spell f.Fits bytes view result → Reads spell Fits (front ++ bytes) view result
same_reads {W} {Y} {spell} {Fits} {front} {f} kind bytes view (Ok y) b = kind_read front (λ w. w) f kind bytes (view y).0 (view y).1 b
same_reads {W} {Y} {spell} {Fits} {front} {f} kind bytes view (Err e) failed = fails_also e (kind_none front (λ w. w) f kind bytes) failed

-- where all values are of one kind, its bytes begin each spelling
pub no_kind : {W X : Type 0} {spell : W → List ℕ} {Fits : W → Type 0} {front : List ℕ} {make : X → W} {f : Form X} → IsKind spell Fits front make f → ((w : W) → Fits w → Made make f w) → (bytes : List ℕ)
    → ((rest : List ℕ) → bytes ≢ front ++ rest) → BeginsNone spell Fits bytes
no_kind {W} {X} {spell} {Fits} {front} {make} {f} kind made bytes not w more b =
    let m = made w b.fits in
    not (f.spell m.content ++ more) (b.parts ∙ made_on front make f kind w m more)

-- the kind of a value
pub record HasKind {W : Type 0} (spell : W → List ℕ) (Fits : W → Type 0) (w : W) : Type 1 where
  pub X : Type 0
  pub front : List ℕ
  pub make : X → W
  pub f : Form X
  pub kind : IsKind spell Fits front make f
  pub made : Made make f w

pub has_kind : {W X : Type 0} {spell : W → List ℕ} {Fits : W → Type 0} {front : List ℕ} {make : X → W} {f : Form X} → IsKind spell Fits front make f → (w : W) → Made make f w → HasKind spell Fits w
has_kind {W} {X} {spell} {Fits} {front} {make} {f} kind w made = record { X = X; front = front; make = make; f = f; kind = kind; made = made }

-- where each value has a kind, no spelling is a front of another's
pub unique_kinds : {W : Type 0} (spell : W → List ℕ) (Fits : W → Type 0) → ((w : W) → Fits w → HasKind spell Fits w) → IsUnique spell Fits
unique_kinds spell Fits kinds a b s t fits_a fits_b e =
    let h = kinds a fits_a in
    let x = h.made.content in
    let on_a = made_on h.front h.make h.f h.kind a h.made s in
    let m = h.kind.back b t (h.f.spell x ++ s) (sym e ∙ on_a) fits_b in
    let u = h.f.unique x m.content s t h.made.fits m.fits (append_cancel_left h.front (h.f.spell x ++ s) (h.f.spell m.content ++ t) (sym on_a ∙ e ∙ made_on h.front h.make h.f h.kind b m t)) in
    (h.made.is ∙ ap h.make u.0 ∙ sym m.is, u.1)

-- the first byte of a spelling
abbrev pub IsTagged : {W : Type 0} → (W → List ℕ) → (W → ℕ) → Type 0
IsTagged {W} spell tag = (w : W) → spell w ≡ tag w ∷ drop 1 (spell w)

pub tag_first : {W : Type 0} {spell : W → List ℕ} {tag : W → ℕ} → IsTagged spell tag → (w : W) (s bytes : List ℕ) (byte : ℕ) → spell w ++ s ≡ byte ∷ bytes → tag w ≡ byte
tag_first {W} {spell} {tag} on w s bytes byte e = ap (λ (l : List ℕ). get_or l 0 0) (ap (λ (l : List ℕ). l ++ s) (sym (on w)) ∙ e)

pub no_tag : {W : Type 0} {spell : W → List ℕ} {tag : W → ℕ} {Fits : W → Type 0} → IsTagged spell tag → (bytes : List ℕ) → bytes ≡ [] → BeginsNone spell Fits bytes
no_tag {W} {spell} {tag} on bytes is w more b = cc (sym is ∙ b.parts, ap (λ (l : List ℕ). l ++ more) (on w))

pub other_tag : {W : Type 0} {spell : W → List ℕ} {tag : W → ℕ} {Fits : W → Type 0} → IsTagged spell tag → (bytes : List ℕ) (byte : ℕ) (rest : List ℕ) → bytes ≡ byte ∷ rest → ((w : W) → Fits w → tag w ≢ byte) → BeginsNone spell Fits bytes
other_tag on bytes byte rest is not w more b = not w b.fits (tag_first on w more rest byte (sym b.parts ∙ is))

-- behind the byte that was read
pub tag_read : {W X : Type 0} {spell : W → List ℕ} {Fits : W → Type 0} {tag : ℕ} {make : X → W} {f : Form X} → IsKind spell Fits (tag ∷ []) make f → (bytes : List ℕ) (byte : ℕ) (rest : List ℕ) → bytes ≡ byte ∷ rest → byte ≡ tag
    → (x : X) (more : List ℕ) → Begins f.spell f.Fits rest x more → Begins spell Fits bytes (make x) more
tag_read {W} {X} {spell} {Fits} {tag} {make} {f} kind bytes byte rest is same x more b = rw (is, same) (kind_read (tag ∷ []) make f kind rest x more b)

pub tag_none : {W X : Type 0} {spell : W → List ℕ} {Fits : W → Type 0} {tag : ℕ} {make : X → W} {f : Form X} → IsKind spell Fits (tag ∷ []) make f → (bytes : List ℕ) (byte : ℕ) (rest : List ℕ) → bytes ≡ byte ∷ rest → byte ≡ tag
    → BeginsNone f.spell f.Fits rest → BeginsNone spell Fits bytes
tag_none {W} {X} {spell} {Fits} {tag} {make} {f} kind bytes byte rest is same none = rw (is, same) (kind_none (tag ∷ []) make f kind rest none)

-- nothing is always read
pub nothing : (bytes : List ℕ) → Begins empty.spell empty.Fits bytes tt bytes
nothing bytes = record { parts = refl; fits = tt }
