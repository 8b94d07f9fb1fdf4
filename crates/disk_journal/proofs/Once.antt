-- The open records of a file, one after another.
use Rattle.std.proofs.Common.{◌≡◌, ◌≢◌, ℕ, ◌+◌, ◌-◌, ◌^◌, ◌≤◌, ◌<◌, List, [], ◌∷◌, ◌++◌, length, drop, get_or, ⊎_elim, refl, ap, sym, ◌∙◌, subst, arith, append_assoc, length-append, append-nil}
use Rattle.std.specs.Prelude.{All, flat_map}
use Rattle.std.proofs.lemmas.List.Elements.{All-append, All-cons, All-nil}
use Rattle.std.proofs.lemmas.Grind.{flat_map-append}
use Rattle.std.proofs.Math.Seq.{drop-append_seam}
use Rattle.disk_journal.specs.File.{header_of, record_of, IsBlank, IsFile}
use Rattle.disk_journal.specs.Parts.{IsShut, IsRecords}
use Rattle.disk_journal.proofs.Parts.{headers_same, HasFront, open_front, shut_none}
use Rattle.disk_journal.proofs.Files.{length-header_of, length-record_of}

-- open records of these payloads were read, and the rest is left
pub record HasRead (payloads : List (List ℕ)) (bytes rest : List ℕ) : Type 0 where
  pub short : All (λ p. length p < 2 ^ 64) payloads
  pub split : bytes ≡ flat_map record_of payloads ++ rest

pub reads_none : (bytes : List ℕ) → HasRead [] bytes bytes
reads_none bytes = record { short = All-nil (λ (l : List ℕ). length l < 2 ^ 64); split = refl }

pub reads_one : {ps : List (List ℕ)} {bytes rest : List ℕ} (p behind : List ℕ) → HasRead ps bytes rest → length p < 2 ^ 64 → rest ≡ record_of p ++ behind → HasRead (ps ++ p ∷ []) bytes behind
reads_one {ps} p behind has short first = record {
  short = All-append (λ (l : List ℕ). length l < 2 ^ 64) ps (p ∷ []) has.short (All-cons (λ (l : List ℕ). length l < 2 ^ 64) p [] short (All-nil (λ (l : List ℕ). length l < 2 ^ 64)));
  split = has.split ∙ ap (λ (l : List ℕ). flat_map record_of ps ++ l) first ∙ sym (append_assoc (flat_map record_of ps) (record_of p) behind) ∙ ap (λ (l : List ℕ). l ++ behind) (sym more);
}
  where
    more : flat_map record_of (ps ++ p ∷ []) ≡ flat_map record_of ps ++ record_of p
    more = flat_map-append record_of ps (p ∷ []) ∙ ap (λ (l : List ℕ). flat_map record_of ps ++ l) (append-nil (record_of p))

pub fewer : (rest p behind : List ℕ) → rest ≡ record_of p ++ behind → length behind < length rest
fewer rest p behind e = omega (arith, ap length e, length-append (record_of p) behind, length-record_of p)

pub ends_shut : {ps : List (List ℕ)} {bytes rest : List ℕ} → HasRead ps bytes rest → IsShut rest → IsRecords ps bytes
ends_shut {ps} {bytes} {rest} has shut = record { short = has.short; behind = rest; shut = shut; split = has.split }

pub ends_broken : {ps : List (List ℕ)} {bytes rest : List ℕ} → HasRead ps bytes rest → ((others : List (List ℕ)) → ¬ IsRecords others rest) → (all : List (List ℕ)) → ¬ IsRecords all bytes
ends_broken {ps} {bytes} {rest} has none all is =
    let front = open_front ps all rest has.short (subst (λ (l : List ℕ). IsRecords all l) has.split is) in
    none front.others front.records

-- ---- whole files

-- a file behind its header
pub record HasHeader (g : ℕ) (ps : List (List ℕ)) (file : List ℕ) : Type 0 where
  pub behind : List ℕ
  pub records : IsRecords ps behind
  pub split : file ≡ header_of g ++ behind

pub has_header : {g : ℕ} {ps : List (List ℕ)} {e : ℕ} {file : List ℕ} → IsFile g ps e file → HasHeader g ps file
has_header {g} {ps} {e} {file} is = record {
  behind = flat_map record_of ps ++ is.gate ∷ is.rest;
  records = record { short = is.short; behind = is.gate ∷ is.rest; shut = record { gate = is.gate; shut = is.shut; rest = is.rest; split = refl }; split = refl };
  split = is.split ∙ append_assoc (header_of g) (flat_map record_of ps) (is.gate ∷ is.rest);
}

pub is_file : {g : ℕ} {ps : List (List ℕ)} {file behind : List ℕ} (end : ℕ) → 1 ≤ g → g < 2 ^ 64 → file ≡ header_of g ++ behind → IsRecords ps behind → 16 + length (flat_map record_of ps) ≡ end → IsFile g ps end file
is_file {g} {ps} {file} {behind} end least fits split records ends = record {
  at_least_one = least;
  fits = fits;
  short = records.short;
  gate = records.shut.gate;
  shut = records.shut.shut;
  rest = records.shut.rest;
  split = split
      ∙ ap (λ (l : List ℕ). header_of g ++ l) (records.split ∙ ap (λ (l : List ℕ). flat_map record_of ps ++ l) records.shut.split)
      ∙ sym (append_assoc (header_of g) (flat_map record_of ps) (records.shut.gate ∷ records.shut.rest));
  ends = length-append (header_of g) (flat_map record_of ps) ∙ ap (λ (n : ℕ). n + length (flat_map record_of ps)) (length-header_of g) ∙ ends;
}

-- ---- one way to read a file

-- what two readings of a file agree in
pub record IsSame (g : ℕ) (ps : List (List ℕ)) (e : ℕ) (h : ℕ) (qs : List (List ℕ)) (f : ℕ) : Type 0 where
  pub generation : g ≡ h
  pub payloads : ps ≡ qs
  pub end : e ≡ f

pub file_once : {g : ℕ} {ps : List (List ℕ)} {e : ℕ} {h : ℕ} {qs : List (List ℕ)} {f : ℕ} {file : List ℕ} → IsFile g ps e file → IsFile h qs f file → IsSame g ps e h qs f
unfolding has_header
file_once {g} {ps} {e} {h} {qs} {f} {file} first second = record {
  generation = headers.0;
  payloads = same;
  end = sym first.ends ∙ ap length (ap (λ (n : ℕ). header_of n ++ flat_map record_of ps) headers.0 ∙ ap (λ (l : List (List ℕ)). header_of h ++ flat_map record_of l) same) ∙ second.ends;
}
  where
    one : HasHeader g ps file
    one = has_header first

    two : HasHeader h qs file
    two = has_header second

    headers : (g ≡ h) × (one.behind ≡ two.behind)
    headers = headers_same g h one.behind two.behind first.fits second.fits (sym one.split ∙ two.split)

    front : HasFront ps (first.gate ∷ first.rest) qs
    front = open_front ps qs (first.gate ∷ first.rest) first.short (subst (λ (l : List ℕ). IsRecords qs l) (sym headers.1) two.records)

    none : front.others ≡ []
    none = shut_none front.others (first.gate ∷ first.rest) (record { gate = first.gate; shut = first.shut; rest = first.rest; split = refl }) front.records

    same : ps ≡ qs
    same = sym (front.are ∙ ap (λ (l : List (List ℕ)). ps ++ l) none ∙ append-nil ps)

pub file_begins : {g : ℕ} {ps : List (List ℕ)} {e : ℕ} {file : List ℕ} → IsFile g ps e file → (16 ≤ length file) × (get_or file 0 0 ≡ 1)
unfolding header_of
file_begins {g} {ps} {e} {file} is =
    let parts = has_header is in
    (omega (arith, ap length parts.split, length-append (header_of g) parts.behind, length-header_of g), ap (λ (l : List ℕ). get_or l 0 0) parts.split)

-- a file of the grammar isn't blank
pub file_not_blank : {g : ℕ} {ps : List (List ℕ)} {e : ℕ} {file : List ℕ} → IsFile g ps e file → ¬ IsBlank file
file_not_blank is blank = ⊎_elim (λ few. omega (arith, few, (file_begins is).0)) (λ closed. closed (file_begins is).1) blank

-- ---- what is foreign

pub not_blank : (file : List ℕ) → 16 ≤ length file → get_or file 0 0 ≡ 1 → ¬ IsBlank file
not_blank file long opened blank = ⊎_elim (λ few. omega (arith, few)) (λ closed. closed opened) blank

pub no_header_at : (file : List ℕ) → ((g : ℕ) (rest : List ℕ) → 1 ≤ g → g < 2 ^ 64 → file ≢ header_of g ++ rest) → (g : ℕ) (ps : List (List ℕ)) (e : ℕ) → ¬ IsFile g ps e file
no_header_at file none g ps e is = let parts = has_header is in none g parts.behind is.at_least_one is.fits parts.split

pub no_records_at : (file behind : List ℕ) (h : ℕ) → h < 2 ^ 64 → file ≡ header_of h ++ behind → ((ps : List (List ℕ)) → ¬ IsRecords ps behind) → (g : ℕ) (ps : List (List ℕ)) (e : ℕ) → ¬ IsFile g ps e file
no_records_at file behind h fits split none g ps e is =
    let parts = has_header is in
    let same = headers_same g h parts.behind behind is.fits fits (sym parts.split ∙ split) in
    none ps (subst (λ (l : List ℕ). IsRecords ps l) same.1 parts.records)

-- ---- sizes

pub records_many : (ps : List (List ℕ)) → length ps ≤ length (flat_map record_of ps)
records_many [] = omega arith
records_many (p ∷ ps) = omega (arith, records_many ps, length-append (record_of p) (flat_map record_of ps), length-record_of p)

pub header_size : (g : ℕ) (bytes rest : List ℕ) → bytes ≡ header_of g ++ rest → length bytes ≡ 16 + length rest
header_size g bytes rest e = ap length e ∙ length-append (header_of g) rest ∙ ap (λ (n : ℕ). n + length rest) (length-header_of g)

-- what stands behind the header
pub behind_header : (g : ℕ) (bytes rest : List ℕ) (size : ℕ) → bytes ≡ header_of g ++ rest → size ≡ length bytes → drop (size - length rest) bytes ≡ rest
behind_header g bytes rest size e is =
    ap (λ (n : ℕ). drop n bytes) (omega (arith, header_size g bytes rest e, length-header_of g)) ∙ ap (λ (l : List ℕ). drop (length (header_of g)) l) e ∙ drop-append_seam (header_of g) rest
