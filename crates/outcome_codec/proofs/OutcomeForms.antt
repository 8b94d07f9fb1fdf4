-- The forms of results, entries, ids, sets of keys and rows.
use Rattle.std.proofs.Common.{◌≡◌, ◌≢◌, ℕ, ◌<◌, List, [], ◌∷◌, Option, refl, sym, arith}
use Rattle.std.specs.List.{AllPairs}
use Rattle.document_keys.specs.Order.{PathBefore}
use Rattle.value_model.specs.Data.{Data, Entries}
use Rattle.value_model.specs.Storable.{IsCountable, AreStorableBytes}
use Rattle.value_model.specs.declared.document.Entry.{Entry}
use Rattle.value_model.specs.declared.document.Entry.TheVariants.{Found, Missing, Unknown}
use Rattle.value_model.specs.declared.timestamp.Timestamp.{Timestamp}
use Rattle.mutations.specs.declared.results.WriteResult.{WriteResult}
use Rattle.record_parts.specs.Reading.{Begins, BeginsNone}
use Rattle.record_parts.specs.Spelling.{text, key, many, AreSpelled, IsSpelledKey}
use Rattle.record_parts.proofs.Wide.{IsUnique, IsBytes}
use Rattle.record_parts.proofs.Forms.{narrower_none, narrower_other, unique_narrower}
use Rattle.record_parts.proofs.Basics.{half, moment, plain_bytes, document_key, bytes_counted, bytes_each}
use Rattle.record_parts.proofs.Options.{optional}
use Rattle.record_parts.proofs.Values.{value_within, fields_within}
use Rattle.record_parts.proofs.Combine.{Form, Made, IsKind, HasKind, has_kind, IsTagged, both, list, unique_kinds, tag_first}
use Rattle.outcome_codec.specs.declared.parts.KeyedEntry.{KeyedEntry}
use Rattle.outcome_codec.specs.declared.parts.PointRow.{PointRow}
use Rattle.outcome_codec.specs.Spelling.{result, seen, keyed, target_id, row, IsSpelledResult, IsSpelledSeen, IsSpelledKeyed, AreSpelledEntries, AreSpelledKeys, IsSpelledId, AreSpelledIds, IsSpelledRow, AreSpelledRows}

-- ---- results

abbrev pub result_parts : Form (Option Timestamp × List Data)
result_parts = both (optional moment) (list (value_within 20))

abbrev pub result_of_parts : Option Timestamp × List Data → WriteResult
result_of_parts p = record { update_time = p.0; transforms = p.1 }

pub result_made : (r : WriteResult) → IsSpelledResult r → Made result_of_parts result_parts r
result_made r fits = record { content = (r.update_time, r.transforms); is = refl; fits = (fits.time, fits.values) }

pub result_kind : IsKind result IsSpelledResult [] result_of_parts result_parts
unfolding result
result_kind = record { on = λ x. refl; fits = λ x fits. record { time = fits.0; values = fits.1 }; back = λ r rest bytes e fits. result_made r fits }

abbrev pub result_form : Form WriteResult
result_form = record { spell = result; Fits = IsSpelledResult; unique = unique_kinds result IsSpelledResult (λ r fits. has_kind result_kind r (result_made r fits)) }

-- ---- entries

abbrev pub seen_tag : Entry → ℕ
seen_tag (Found fs version) = 1
seen_tag (Missing version) = 2
seen_tag (Unknown version) = 3

pub seen_tagged : IsTagged seen seen_tag
unfolding seen
seen_tagged (Found fs version) = refl
seen_tagged (Missing version) = refl
seen_tagged (Unknown version) = refl

abbrev pub found_parts : Form (Entries × Timestamp)
found_parts = both (fields_within 20) moment

abbrev pub found_of_parts : Entries × Timestamp → Entry
found_of_parts p = Found p.0 p.1

found_made : (e : Entry) → seen_tag e ≡ 1 → IsSpelledSeen e → Made found_of_parts found_parts e
found_made (Found fs version) is fits = record { content = (fs, version); is = refl; fits = fits }
found_made e is fits = absurd (omega (arith, is))

missing_made : (e : Entry) → seen_tag e ≡ 2 → IsSpelledSeen e → Made Missing moment e
missing_made (Missing version) is fits = record { content = version; is = refl; fits = fits }
missing_made e is fits = absurd (omega (arith, is))

pub found_kind : IsKind seen IsSpelledSeen (1 ∷ []) found_of_parts found_parts
unfolding seen
found_kind = record { on = λ x. refl; fits = λ x fits. fits; back = λ e rest bytes is fits. found_made e (tag_first seen_tagged e rest bytes 1 is) fits }

pub missing_kind : IsKind seen IsSpelledSeen (2 ∷ []) Missing moment
unfolding seen
missing_kind = record { on = λ x. refl; fits = λ x fits. fits; back = λ e rest bytes is fits. missing_made e (tag_first seen_tagged e rest bytes 2 is) fits }

pub seen_kinds : (e : Entry) → IsSpelledSeen e → HasKind seen IsSpelledSeen e
seen_kinds (Found fs version) fits = has_kind found_kind (Found fs version) (found_made (Found fs version) refl fits)
seen_kinds (Missing version) fits = has_kind missing_kind (Missing version) (missing_made (Missing version) refl fits)
seen_kinds (Unknown version) fits = absurd fits

abbrev pub seen_form : Form Entry
seen_form = record { spell = seen; Fits = IsSpelledSeen; unique = unique_kinds seen IsSpelledSeen seen_kinds }

pub seen_other : (byte : ℕ) → byte ≢ 1 → byte ≢ 2 → (e : Entry) → IsSpelledSeen e → seen_tag e ≢ byte
seen_other byte a b (Found fs version) fits is = a (sym is)
seen_other byte a b (Missing version) fits is = b (sym is)
seen_other byte a b (Unknown version) fits is = fits

abbrev pub keyed_parts : Form (List (List ℕ) × Entry)
keyed_parts = both document_key seen_form

abbrev pub keyed_of_parts : List (List ℕ) × Entry → KeyedEntry
keyed_of_parts p = record { key = p.0; entry = p.1 }

pub keyed_made : (e : KeyedEntry) → IsSpelledKeyed e → Made keyed_of_parts keyed_parts e
keyed_made e fits = record { content = (e.key, e.entry); is = refl; fits = (fits.name, fits.content) }

pub keyed_kind : IsKind keyed IsSpelledKeyed [] keyed_of_parts keyed_parts
unfolding keyed
keyed_kind = record { on = λ x. refl; fits = λ x fits. record { name = fits.0; content = fits.1 }; back = λ e rest bytes is fits. keyed_made e fits }

abbrev pub keyed_form : Form KeyedEntry
keyed_form = record { spell = keyed; Fits = IsSpelledKeyed; unique = unique_kinds keyed IsSpelledKeyed (λ e fits. has_kind keyed_kind e (keyed_made e fits)) }

-- ---- lists that ascend

-- of lists only those that ascend have a spelling
pub record Ascends {X : Type 0} (f : Form X) (R : X → X → Type 0) (Fits : List X → Type 0) : Type 0 where
  pub each : (xs : List X) → Fits xs → AreSpelled f.Fits xs
  pub order : (xs : List X) → Fits xs → AllPairs R xs
  pub from : (xs : List X) → AreSpelled f.Fits xs → AllPairs R xs → Fits xs

pub ascending_none : {X : Type 0} {f : Form X} {R : X → X → Type 0} {Fits : List X → Type 0} → Ascends f R Fits → (bytes : List ℕ) → BeginsNone (many f.spell) (AreSpelled f.Fits) bytes → BeginsNone (many f.spell) Fits bytes
ascending_none {X} {f} {R} {Fits} ascends bytes none = narrower_none (many f.spell) (AreSpelled f.Fits) Fits ascends.each bytes none

pub ascending_other : {X : Type 0} {f : Form X} {R : X → X → Type 0} {Fits : List X → Type 0} → Ascends f R Fits → (bytes : List ℕ) (xs : List X) (rest : List ℕ) → Begins (many f.spell) (AreSpelled f.Fits) bytes xs rest → ¬ (AllPairs R xs) → BeginsNone (many f.spell) Fits bytes
ascending_other {X} {f} {R} {Fits} ascends bytes xs rest first not =
    narrower_other (many f.spell) (AreSpelled f.Fits) Fits ascends.each (list f).unique bytes xs rest first (λ fits. not (ascends.order xs fits))

pub ascending_read : {X : Type 0} {f : Form X} {R : X → X → Type 0} {Fits : List X → Type 0} → Ascends f R Fits → (bytes : List ℕ) (xs : List X) (rest : List ℕ) → Begins (many f.spell) (AreSpelled f.Fits) bytes xs rest → AllPairs R xs → Begins (many f.spell) Fits bytes xs rest
ascending_read ascends bytes xs rest first order = record { parts = first.parts; fits = ascends.from xs first.fits order }

abbrev pub id_form : Form ℕ
id_form = half

pub ids_ascend : Ascends id_form ◌<◌ AreSpelledIds
ids_ascend = record { each = λ xs fits. fits.each; order = λ xs fits. fits.ascending; from = λ xs each order. record { each = each; ascending = order } }

pub keys_ascend : Ascends document_key PathBefore AreSpelledKeys
keys_ascend = record { each = λ xs fits. fits.each; order = λ xs fits. fits.ascending; from = λ xs each order. record { each = each; ascending = order } }

pub entries_ascend : Ascends keyed_form (λ a b. PathBefore a.key b.key) AreSpelledEntries
entries_ascend = record { each = λ xs fits. fits.each; order = λ xs fits. fits.ascending; from = λ xs each order. record { each = each; ascending = order } }

pub unique_keys : IsUnique (many key) AreSpelledKeys
unique_keys = unique_narrower (many key) (AreSpelled IsSpelledKey) AreSpelledKeys keys_ascend.each (list document_key).unique

abbrev pub keys_form : Form (List (List (List ℕ)))
keys_form = record { spell = many key; Fits = AreSpelledKeys; unique = unique_keys }

pub unique_entries : IsUnique (many keyed) AreSpelledEntries
unique_entries = unique_narrower (many keyed) (AreSpelled IsSpelledKeyed) AreSpelledEntries entries_ascend.each (list keyed_form).unique

abbrev pub entries_form : Form (List KeyedEntry)
entries_form = record { spell = many keyed; Fits = AreSpelledEntries; unique = unique_entries }

pub unique_ids : IsUnique (many target_id) AreSpelledIds
unique_ids = unique_narrower (many target_id) (AreSpelled IsSpelledId) AreSpelledIds ids_ascend.each (list id_form).unique

abbrev pub ids_form : Form (List ℕ)
ids_form = record { spell = many target_id; Fits = AreSpelledIds; unique = unique_ids }

-- ---- rows

abbrev pub from_token : Form (List ℕ × List (List (List ℕ)))
from_token = both plain_bytes keys_form

abbrev pub row_parts : Form (ℕ × (List ℕ × List (List (List ℕ))))
row_parts = both id_form from_token

abbrev pub row_of_parts : ℕ × (List ℕ × List (List (List ℕ))) → PointRow
row_of_parts p = record { id = p.0; token = p.1.0; keys = p.1.1 }

pub row_made : (r : PointRow) → IsSpelledRow r → Made row_of_parts row_parts r
row_made r fits = record { content = (r.id, (r.token, r.keys)); is = refl; fits = (fits.number, (fits.bytes, fits.members)) }

pub row_kind : IsKind row IsSpelledRow [] row_of_parts row_parts
unfolding row
row_kind = record { on = λ x. refl; fits = λ x fits. record { number = fits.0; bytes = fits.1.0; members = fits.1.1 }; back = λ r rest bytes is fits. row_made r fits }

abbrev pub row_form : Form PointRow
row_form = record { spell = row; Fits = IsSpelledRow; unique = unique_kinds row IsSpelledRow (λ r fits. has_kind row_kind r (row_made r fits)) }

pub rows_ascend : Ascends row_form (λ a b. a.id < b.id) AreSpelledRows
rows_ascend = record { each = λ xs fits. fits.each; order = λ xs fits. fits.ascending; from = λ xs each order. record { each = each; ascending = order } }

pub unique_rows : IsUnique (many row) AreSpelledRows
unique_rows = unique_narrower (many row) (AreSpelled IsSpelledRow) AreSpelledRows rows_ascend.each (list row_form).unique

abbrev pub rows_form : Form (List PointRow)
rows_form = record { spell = many row; Fits = AreSpelledRows; unique = unique_rows }

-- ---- tokens

pub token_none : (bytes : List ℕ) → BeginsNone text IsCountable bytes → BeginsNone text AreStorableBytes bytes
token_none bytes none = narrower_none text IsCountable AreStorableBytes bytes_counted bytes none

pub token_read : (bytes t is rest : List ℕ) → IsBytes bytes → Begins text IsCountable bytes t rest → is ≡ t → Begins text AreStorableBytes bytes is rest
token_read bytes t is rest each first same = rw same (record { parts = first.parts; fits = bytes_each bytes t rest each first })
