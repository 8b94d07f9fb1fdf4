-- What JSON and the journal can hold of values.
use Rattle.std.specs.Prelude.{ℕ, ◌<◌, ◌^◌, List, length, FitsSigned, IsUtf8}
use Rattle.std.specs.Int.{w64}
use Rattle.std.specs.List.{All}
use Rattle.std.specs.Map.{keys_of}
use Rattle.document_keys.specs.Names.{IsSegment, IsKey}
use Rattle.value_model.specs.declared.reference.RefName.{RefName}
use Rattle.value_model.specs.Data.{Data, null, boolean, integer, time, pending, text, bytes, reference, array, map, Items, no_items, item, Members, no_members, member, Entries, list_of, entries_of, members_of}
use Rattle.value_model.specs.Fields.{AreFields}
use Rattle.value_model.specs.Time.{IsMoment}

-- a list whose length a count of 64 bits without sign can spell
abbrev pub IsCountable : {A : Type 0} → List A → Type 0
IsCountable items = length items < 2 ^ 64

-- a text: UTF-8
pub record IsStorableText (content : List ℕ) : Type 0 where
  pub utf8 : IsUtf8 content
  pub count : IsCountable content

-- bytes: numbers below 256
pub record AreStorableBytes (content : List ℕ) : Type 0 where
  pub each : All (λ byte. byte < 256) content
  pub count : IsCountable content

-- a segment of a name, in UTF-8
pub record IsStorableSegment (segment : List ℕ) : Type 0 where
  pub sound : IsSegment segment
  pub utf8 : IsUtf8 segment

-- the key of a document, whose segments are in UTF-8
pub record IsStorableKey (key : List (List ℕ)) : Type 0 where
  pub sound : IsKey key
  pub utf8 : All IsUtf8 key
  pub count : IsCountable key

-- the name of a document
pub record IsStorableName (name : RefName) : Type 0 where
  pub project : IsStorableSegment name.project
  pub database : IsStorableSegment name.database
  pub key : IsStorableKey name.key

-- the names of fields: in UTF-8, each a field's name, strictly ascending
pub record HasStorableNames (fields : Entries) : Type 0 where
  pub sound : AreFields fields
  pub utf8 : All IsUtf8 (keys_of fields)
  pub count : IsCountable fields

-- a value that can be stored: no part of it is a time that isn't known yet
abbrev mutual
  pub IsStorable : Data → Type 0
  IsStorable null = Unit {0}
  IsStorable (boolean b) = Unit {0}
  IsStorable (integer n) = FitsSigned w64 n
  IsStorable (time t) = IsMoment t
  IsStorable (pending t) = ⊥
  IsStorable (text s) = IsStorableText s
  IsStorable (bytes s) = AreStorableBytes s
  IsStorable (reference r) = IsStorableName r
  IsStorable (array ds) = AreStorableItems ds × IsCountable (list_of ds)
  IsStorable (map ms) = HasStorableNames (entries_of ms) × AreStorableMembers ms

  -- each item can be stored
  pub AreStorableItems : Items → Type 0
  AreStorableItems no_items = Unit {0}
  AreStorableItems (item d ds) = IsStorable d × AreStorableItems ds

  -- each member's value can be stored
  pub AreStorableMembers : Members → Type 0
  AreStorableMembers no_members = Unit {0}
  AreStorableMembers (member n d ms) = IsStorable d × AreStorableMembers ms

-- fields that can be stored
abbrev pub AreStorable : Entries → Type 0
AreStorable fields = HasStorableNames fields × AreStorableMembers (members_of fields)
