-- What came of writes and listens, as bytes: the results of a batch's writes, and the entries and rows of a point.
use Rattle.std.specs.Prelude.{ℕ, ◌<◌, ◌^◌, List, ◌∷◌, ◌++◌, IfSome}
use Rattle.std.specs.List.{AllPairs}
use Rattle.std.specs.Int.{w32, to_be_bytes}
use Rattle.document_keys.specs.Order.{PathBefore}
use Rattle.value_model.specs.Storable.{AreStorableBytes}
use Rattle.value_model.specs.Time.{IsMoment}
use Rattle.value_model.specs.declared.document.Entry.{Entry}
use Rattle.value_model.specs.declared.document.Entry.TheVariants.{Found, Missing, Unknown}
use Rattle.mutations.specs.declared.results.WriteResult.{WriteResult}
use Rattle.record_parts.specs.Spelling.{many, opt, text, key, time, value, fields, AreSpelled, IsSpelledKey, IsSpelledValue, AreSpelledFields}
use Rattle.outcome_codec.specs.declared.parts.KeyedEntry.{KeyedEntry}
use Rattle.outcome_codec.specs.declared.parts.PointRow.{PointRow}

-- the update time, where there is one, and the results of the transforms
unfoldable pub result : WriteResult → List ℕ
result r = opt time r.update_time ++ many value r.transforms

-- 1, the fields and the version; or 2 and the version since which there is no document. An entry whose fields aren't known was
-- not seen, and is in no point.
unfoldable pub seen : Entry → List ℕ
seen (Found fs version) = 1 ∷ (fields fs ++ time version)
seen (Missing version) = 2 ∷ time version
seen (Unknown version) = 3 ∷ time version

-- the key, and what was seen of it
unfoldable pub keyed : KeyedEntry → List ℕ
keyed e = key e.key ++ seen e.entry

-- four bytes
abbrev pub target_id : ℕ → List ℕ
target_id n = to_be_bytes w32 n

-- the id of a target, its token, and the keys that it has
unfoldable pub row : PointRow → List ℕ
row r = target_id r.id ++ (text r.token ++ many key r.keys)

-- ---- what has a spelling

pub record IsSpelledResult (r : WriteResult) : Type 0 where
  pub time : IfSome r.update_time IsMoment
  pub values : AreSpelled (IsSpelledValue 20) r.transforms

-- fields and versions that can be stored
abbrev pub IsSpelledSeen : Entry → Type 0
IsSpelledSeen (Found fs version) = AreSpelledFields 20 fs × IsMoment version
IsSpelledSeen (Missing version) = IsMoment version
IsSpelledSeen (Unknown version) = ⊥

pub record IsSpelledKeyed (e : KeyedEntry) : Type 0 where
  pub name : IsSpelledKey e.key
  pub content : IsSpelledSeen e.entry

-- entries whose keys strictly ascend
pub record AreSpelledEntries (es : List KeyedEntry) : Type 0 where
  pub each : AreSpelled IsSpelledKeyed es
  pub ascending : AllPairs (λ a b. PathBefore a.key b.key) es

-- keys that strictly ascend
pub record AreSpelledKeys (ks : List (List (List ℕ))) : Type 0 where
  pub each : AreSpelled IsSpelledKey ks
  pub ascending : AllPairs PathBefore ks

abbrev pub IsSpelledId : ℕ → Type 0
IsSpelledId n = n < 2 ^ 32

-- ids that strictly ascend
pub record AreSpelledIds (ids : List ℕ) : Type 0 where
  pub each : AreSpelled IsSpelledId ids
  pub ascending : AllPairs ◌<◌ ids

pub record IsSpelledRow (r : PointRow) : Type 0 where
  pub number : IsSpelledId r.id
  pub bytes : AreStorableBytes r.token
  pub members : AreSpelledKeys r.keys

-- rows whose ids strictly ascend
pub record AreSpelledRows (rs : List PointRow) : Type 0 where
  pub each : AreSpelled IsSpelledRow rs
  pub ascending : AllPairs (λ a b. a.id < b.id) rs
