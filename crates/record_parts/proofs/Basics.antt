-- The forms of numbers, flags, texts, keys, times and names of documents.
use Rattle.std.proofs.Common.{◌≡◌, ◌⊎◌, ℕ, zero, suc, ◌+◌, ◌%◌, ◌^◌, ◌<◌, ◌≤◌, Bool, true, false, List, [], ◌∷◌, ◌++◌, length, take, drop, get_or, refl, sym, ap, subst, ◌∙◌, append_assoc, arith, inl, inr, ℤ, FitsSigned, w64}
use Rattle.std.specs.Int.{w32, to_be_bytes}
use Rattle.std.specs.Str.{IsUtf8}
use Rattle.std.proofs.lemmas.Int.{ints}
use Rattle.std.proofs.lemmas.List.{take-append-drop, length-append, length-take, get_or-append-add}
use Rattle.document_keys.specs.Names.{IsSegment, IsKey}
use Rattle.document_keys.specs.Paths.{IsFieldName, HasNameFault}
use Rattle.document_keys.specs.declared.faults.FieldFault.{FieldFault}
use Rattle.document_keys.specs.declared.faults.FieldFault.TheVariants.{BadPath, ReservedField, NoMemory}
use Rattle.value_model.specs.Storable.{IsCountable, AreStorableBytes, IsStorableName}
use Rattle.value_model.specs.Time.{IsMoment}
use Rattle.value_model.specs.declared.timestamp.Timestamp.{Timestamp}
use Rattle.value_model.specs.declared.reference.RefName.{RefName}
use Rattle.record_parts.specs.Spelling.{number, signed, boolean, text, many, key, time, name, AreSpelled, IsText, IsNameText, IsSegmentText, IsSpelledKey}
use Rattle.record_parts.specs.Reading.{Begins, BeginsNone}
use Rattle.record_parts.proofs.Wide.{IsUnique, IsBytes, fronts, unique_wide, wide32, unique_number, unique_signed}
use Rattle.record_parts.proofs.Forms.{next, narrower_none, narrower_other, unique_narrower}
use Rattle.record_parts.proofs.Combine.{Form, Made, IsKind, has_kind, kind_read, kind_none, narrow, both, list, unique_kinds}

-- ---- numbers and flags

abbrev pub word : Form ℕ
word = record { spell = number; Fits = λ n. n < 2 ^ 64; unique = unique_number }

abbrev pub half : Form ℕ
half = record { spell = to_be_bytes w32; Fits = λ n. n < 2 ^ 32; unique = unique_wide w32 (2 ^ 32) wide32 }

abbrev pub whole_number : Form ℤ
whole_number = record { spell = signed; Fits = FitsSigned w64; unique = unique_signed }

behind : (x y : ℕ) (s t : List ℕ) → x ∷ s ≡ y ∷ t → s ≡ t
behind x y s t e = cc

pub same_flag : (a b : Bool) (s t : List ℕ) → boolean a ++ s ≡ boolean b ++ t → (a ≡ b) × (s ≡ t)
same_flag true true s t e = (refl, behind 1 1 s t e)
same_flag true false s t e = absurd (omega (arith, ap (λ (l : List ℕ). get_or l 0 0) e))
same_flag false true s t e = absurd (omega (arith, ap (λ (l : List ℕ). get_or l 0 0) e))
same_flag false false s t e = (refl, behind 0 0 s t e)

abbrev pub flag : Form Bool
flag = record { spell = boolean; Fits = λ _. Unit {0}; unique = λ a b s t fits_a fits_b e. same_flag a b s t e }

-- ---- texts and bytes: a length, and as many bytes

text_on : (t s : List ℕ) → text t ++ s ≡ number (length t) ++ (t ++ s)
unfolding text
text_on t s = append_assoc (number (length t)) t s

pub unique_bytes : IsUnique text IsCountable
unique_bytes a b s t short_a short_b e =
    let n = unique_number (length a) (length b) (a ++ s) (b ++ t) short_a short_b (sym (text_on a s) ∙ e ∙ text_on b t) in
    fronts a b s t n.0 n.1

abbrev pub counted_bytes : Form (List ℕ)
counted_bytes = record { spell = text; Fits = IsCountable; unique = unique_bytes }

pub bytes_no_length : (bytes : List ℕ) → BeginsNone number (λ n. n < 2 ^ 64) bytes → BeginsNone text IsCountable bytes
bytes_no_length bytes none t more b = none (length t) (t ++ more) (record { parts = b.parts ∙ text_on t more; fits = b.fits })

pub bytes_short : (bytes : List ℕ) (n : ℕ) (rest : List ℕ) → Begins number (λ n. n < 2 ^ 64) bytes n rest → length rest < n → BeginsNone text IsCountable bytes
bytes_short bytes n rest first short t more b =
    let is = next number (λ n. n < 2 ^ 64) unique_number bytes n rest first (length t) (t ++ more) b.fits (b.parts ∙ text_on t more) in
    omega (arith, short, is.0, ap length is.1, length-append t more)

pub bytes_read : (bytes : List ℕ) (n : ℕ) (rest front after : List ℕ) → Begins number (λ n. n < 2 ^ 64) bytes n rest → front ≡ take n rest → after ≡ drop n rest → n ≤ length rest → Begins text IsCountable bytes front after
bytes_read bytes n rest front after first front-is after-is long =
    let len : n ≡ length front = rw front-is (omega (arith, long, length-take n rest)) in
    let whole : rest ≡ front ++ after = rw (front-is, after-is) (sym (take-append-drop n rest)) in
    record {
      parts = first.parts ∙ ap (λ (r : List ℕ). number n ++ r) whole ∙ ap (λ (k : ℕ). number k ++ (front ++ after)) len ∙ sym (text_on front after);
      fits = omega (arith, len, first.fits);
    }

pub text_counted : (t : List ℕ) → IsText t → IsCountable t
text_counted t fits = fits.many

pub segment_counted : (t : List ℕ) → IsSegmentText t → IsCountable t
segment_counted t fits = omega (arith, fits.segment.long.most)

pub name_counted : (t : List ℕ) → IsNameText t → IsCountable t
name_counted t fits = omega (arith, fits.field.long.most)

pub bytes_counted : (t : List ℕ) → AreStorableBytes t → IsCountable t
bytes_counted t fits = fits.count

abbrev pub text_form : Form (List ℕ)
text_form = narrow counted_bytes IsText text_counted

abbrev pub segment : Form (List ℕ)
segment = narrow counted_bytes IsSegmentText segment_counted

abbrev pub field_name : Form (List ℕ)
field_name = narrow counted_bytes IsNameText name_counted

abbrev pub plain_bytes : Form (List ℕ)
plain_bytes = narrow counted_bytes AreStorableBytes bytes_counted

segment_text : (t : List ℕ) → IsSegmentText t → IsText t
segment_text t fits = record { utf8 = fits.utf8; many = segment_counted t fits }

name_text : (t : List ℕ) → IsNameText t → IsText t
name_text t fits = record { utf8 = fits.utf8; many = name_counted t fits }

pub text_other : (bytes t rest : List ℕ) → Begins text IsCountable bytes t rest → ¬ (IsUtf8 t) → BeginsNone text IsText bytes
text_other bytes t rest first not = narrower_other text IsCountable IsText text_counted unique_bytes bytes t rest first (λ fits. not fits.utf8)

pub segment_other : (bytes t rest : List ℕ) → Begins text IsText bytes t rest → ¬ (IsSegment t) → BeginsNone text IsSegmentText bytes
segment_other bytes t rest first not = narrower_other text IsText IsSegmentText segment_text text_form.unique bytes t rest first (λ fits. not fits.segment)

not_named : (t : List ℕ) (fault : FieldFault) → HasNameFault t fault → ¬ (IsFieldName t)
not_named t BadPath not fits = not fits.long
not_named t ReservedField is fits = fits.free is.1
not_named t NoMemory never fits = never

pub name_other : (bytes t rest : List ℕ) (fault : FieldFault) → Begins text IsText bytes t rest → HasNameFault t fault → BeginsNone text IsNameText bytes
name_other bytes t rest fault first why = narrower_other text IsText IsNameText name_text text_form.unique bytes t rest first (λ fits. not_named t fault why fits.field)

front_byte : (front rest : List ℕ) (i d : ℕ) → i < length front → get_or (front ++ rest) i 0 ≡ get_or front i d
front_byte [] rest i d below = absurd (omega (arith, below))
front_byte (x ∷ front) rest zero d below = refl
front_byte (x ∷ front) rest (suc i) d below = front_byte front rest i d (omega (arith, below))

-- bytes that were read from bytes are bytes
pub bytes_each : (bytes t rest : List ℕ) → IsBytes bytes → Begins text IsCountable bytes t rest → AreStorableBytes t
bytes_each bytes t rest holds b = record {
  each = λ i d below. subst (λ (n : ℕ). n < 256) (ap (λ (l : List ℕ). get_or l (length (number (length t)) + i) 0) (b.parts ∙ text_on t rest) ∙ get_or-append-add (number (length t)) (t ++ rest) i 0 ∙ front_byte t rest i d below) (holds (length (number (length t)) + i));
  count = b.fits;
}

-- ---- keys

key_texts : (k : List (List ℕ)) → IsSpelledKey k → AreSpelled IsSegmentText k
key_texts k fits = record { count = fits.many; each = λ i d below. record { utf8 = fits.texts i d below; segment = fits.names.segments i d below } }

pub unique_key : IsUnique key IsSpelledKey
unfolding key
unique_key = unique_narrower (many text) (AreSpelled IsSegmentText) IsSpelledKey key_texts (list segment).unique

abbrev pub document_key : Form (List (List ℕ))
document_key = record { spell = key; Fits = IsSpelledKey; unique = unique_key }

pub key_none : (bytes : List ℕ) → BeginsNone (many text) (AreSpelled IsSegmentText) bytes → BeginsNone key IsSpelledKey bytes
unfolding key
key_none bytes none = narrower_none (many text) (AreSpelled IsSegmentText) IsSpelledKey key_texts bytes none

not_key : (k : List (List ℕ)) → (length k ≡ 0) ⊎ (length k % 2 ≡ 1) → ¬ (IsSpelledKey k)
not_key k (inl none) fits = omega (arith, fits.names.some, none)
not_key k (inr one) fits = omega (arith, one, fits.names.even)

pub key_odd : (bytes : List ℕ) (k : List (List ℕ)) (rest : List ℕ) → Begins (many text) (AreSpelled IsSegmentText) bytes k rest → (length k ≡ 0) ⊎ (length k % 2 ≡ 1) → BeginsNone key IsSpelledKey bytes
unfolding key
key_odd bytes k rest first odd = narrower_other (many text) (AreSpelled IsSegmentText) IsSpelledKey key_texts (list segment).unique bytes k rest first (not_key k odd)

pub key_read : (bytes : List ℕ) (k is : List (List ℕ)) (rest : List ℕ) → Begins (many text) (AreSpelled IsSegmentText) bytes k rest → is ≡ k → IsKey k → Begins key IsSpelledKey bytes is rest
unfolding key
key_read bytes k is rest first same names = rw same (record { parts = first.parts; fits = record { names = names; texts = λ i d below. (first.fits.each i d below).utf8; many = first.fits.count } })

-- ---- times

-- a time whose parts fit their bytes
pub record HasParts (t : Timestamp) : Type 0 where
  pub seconds : FitsSigned w64 t.seconds
  pub nanos : t.nanos < 2 ^ 32

abbrev pub time_parts : Form (ℤ × ℕ)
time_parts = both whole_number half

abbrev time_of_parts : ℤ × ℕ → Timestamp
time_of_parts p = record { seconds = p.0; nanos = p.1 }

time_made : (t : Timestamp) → HasParts t → Made time_of_parts time_parts t
time_made t fits = record { content = (t.seconds, t.nanos); is = refl; fits = (fits.seconds, fits.nanos) }

time_kind : IsKind time HasParts [] time_of_parts time_parts
unfolding time
time_kind = record { on = λ x. refl; fits = λ x fits. record { seconds = fits.0; nanos = fits.1 }; back = λ t rest bytes e fits. time_made t fits }

pub unique_time : IsUnique time HasParts
unique_time = unique_kinds time HasParts (λ t fits. has_kind time_kind t (time_made t fits))

pub moment_parts : (t : Timestamp) → IsMoment t → HasParts t
moment_parts t m = record { seconds = omega (arith, ints, m.seconds.0, m.seconds.1); nanos = omega (arith, m.nanos) }

abbrev pub moment : Form Timestamp
moment = record { spell = time; Fits = IsMoment; unique = unique_narrower time HasParts IsMoment moment_parts unique_time }

pub time_none : (bytes : List ℕ) → BeginsNone time_parts.spell time_parts.Fits bytes → BeginsNone time IsMoment bytes
time_none bytes none = narrower_none time HasParts IsMoment moment_parts bytes (kind_none [] time_of_parts time_parts time_kind bytes none)

time_begins : (bytes : List ℕ) (t : Timestamp) (rest : List ℕ) → Begins time_parts.spell time_parts.Fits bytes (t.seconds, t.nanos) rest → Begins time HasParts bytes t rest
time_begins bytes t rest first = kind_read [] time_of_parts time_parts time_kind bytes (t.seconds, t.nanos) rest first

pub time_read : (bytes : List ℕ) (t : Timestamp) (rest : List ℕ) → Begins time_parts.spell time_parts.Fits bytes (t.seconds, t.nanos) rest → IsMoment t → Begins time IsMoment bytes t rest
time_read bytes t rest first is = record { parts = (time_begins bytes t rest first).parts; fits = is }

pub time_other : (bytes : List ℕ) (t : Timestamp) (rest : List ℕ) → Begins time_parts.spell time_parts.Fits bytes (t.seconds, t.nanos) rest → ¬ (IsMoment t) → BeginsNone time IsMoment bytes
time_other bytes t rest first not = narrower_other time HasParts IsMoment moment_parts unique_time bytes t rest (time_begins bytes t rest first) not

-- ---- names of documents

abbrev pub from_database : Form (List ℕ × List (List ℕ))
from_database = both segment document_key

abbrev pub name_parts : Form (List ℕ × (List ℕ × List (List ℕ)))
name_parts = both segment from_database

abbrev pub name_of_parts : List ℕ × (List ℕ × List (List ℕ)) → RefName
name_of_parts p = record { project = p.0; database = p.1.0; key = p.1.1 }

name_made : (r : RefName) → IsStorableName r → Made name_of_parts name_parts r
name_made r fits = record {
  content = (r.project, (r.database, r.key));
  is = refl;
  fits = (
    record { utf8 = fits.project.utf8; segment = fits.project.sound },
    (record { utf8 = fits.database.utf8; segment = fits.database.sound }, record { names = fits.key.sound; texts = fits.key.utf8; many = fits.key.count }),
  );
}

pub name_kind : IsKind name IsStorableName [] name_of_parts name_parts
unfolding name
name_kind = record {
  on = λ x. refl;
  fits = λ x fits. record {
    project = record { sound = fits.0.segment; utf8 = fits.0.utf8 };
    database = record { sound = fits.1.0.segment; utf8 = fits.1.0.utf8 };
    key = record { sound = fits.1.1.names; utf8 = fits.1.1.texts; count = fits.1.1.many };
  };
  back = λ r rest bytes e fits. name_made r fits;
}

pub unique_name : IsUnique name IsStorableName
unique_name = unique_kinds name IsStorableName (λ r fits. has_kind name_kind r (name_made r fits))

abbrev pub document_name : Form RefName
document_name = record { spell = name; Fits = IsStorableName; unique = unique_name }
