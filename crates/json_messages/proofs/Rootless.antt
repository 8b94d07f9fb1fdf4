-- A status names no document: its faults are the same under any root.
use Rattle.std.proofs.Common.{ℕ, ◌-◌, List, [], Bool, true, false, codes, Result, Ok, Err, IfOk, IfErr, inl, inr}
use Rattle.std.specs.Bool.{if◌then◌else◌}
use Rattle.std.specs.Str.{bytes_eq}
use Rattle.document_keys.specs.Names.{Root}
use Rattle.serde_json.specs.Data.{Data as Json, null, boolean, number, string, array, object as an_object, Members, no_members, member}
use Rattle.value_model.specs.declared.document.RpcStatus.{RpcStatus}
use Rattle.json_model.specs.declared.side.Side.{Side}
use Rattle.json_model.specs.declared.place.Place.TheVariants as place
use Rattle.json_model.specs.declared.place.Object.TheVariants as object
use Rattle.json_model.specs.declared.place.Leaf.TheVariants as leaf
use Rattle.json_model.specs.declared.fault.JsonFault.{JsonFault}
use Rattle.json_model.specs.Faults.{FaultsAt, MembersFaults, AtMember, IsFault}
use Rattle.json_model.specs.Members.{later}
use Rattle.json_model.specs.Origin.{Origin}
use Rattle.json_model.specs.Places.{member_place}
use Rattle.json_messages.specs.Faults.{StatusFaults}

module _ (side : Side) (root other : Root) where
  abbrev Under : Root → Origin
  Under r = record { side = side; root = r }

  code_moved : (limit : ℕ) (name : List ℕ) (d : Json) (faults : List JsonFault) → FaultsAt (Under root) limit (place.Leaf leaf.Code) name d faults → FaultsAt (Under other) limit (place.Leaf leaf.Code) name d faults
  unfolding FaultsAt
  code_moved limit name null faults h = h
  code_moved limit name (boolean b) faults h = h
  code_moved limit name (number n) faults h = h
  code_moved limit name (string t) faults h = h
  code_moved limit name (array ds) faults h = h
  code_moved limit name (an_object ms) faults h = h

  text_moved : (limit : ℕ) (name : List ℕ) (d : Json) (faults : List JsonFault) → FaultsAt (Under root) limit (place.Leaf leaf.Text) name d faults → FaultsAt (Under other) limit (place.Leaf leaf.Text) name d faults
  unfolding FaultsAt
  text_moved limit name null faults h = h
  text_moved limit name (boolean b) faults h = h
  text_moved limit name (number n) faults h = h
  text_moved limit name (string t) faults h = h
  text_moved limit name (array ds) faults h = h
  text_moved limit name (an_object ms) faults h = h

  ignored_moved : (limit : ℕ) (name : List ℕ) (d : Json) (faults : List JsonFault) → FaultsAt (Under root) limit place.Ignored name d faults → FaultsAt (Under other) limit place.Ignored name d faults
  unfolding FaultsAt
  ignored_moved limit name null faults h = h
  ignored_moved limit name (boolean b) faults h = h
  ignored_moved limit name (number n) faults h = h
  ignored_moved limit name (string t) faults h = h
  ignored_moved limit name (array ds) faults h = h
  ignored_moved limit name (an_object ms) faults h = h

  -- a place of a status, by whether the name is `code`, or `message`
  abbrev At : Root → ℕ → List ℕ → Json → List JsonFault → Bool → Bool → Type 0
  At r limit name d faults a b = FaultsAt (Under r) limit (if a then place.Leaf leaf.Code else if b then place.Leaf leaf.Text else place.Ignored) name d faults

  member_moved : (limit : ℕ) (name : List ℕ) (d : Json) (faults : List JsonFault) → FaultsAt (Under root) limit (member_place object.Status name) name d faults → FaultsAt (Under other) limit (member_place object.Status name) name d faults
  member_moved limit name d faults h = by (bytes_eq name (codes "code")) (bytes_eq name (codes "message")) h
    where
      by : (a b : Bool) → At root limit name d faults a b → At other limit name d faults a b
      by true b h = code_moved limit name d faults h
      by false true h = text_moved limit name d faults h
      by false false h = ignored_moved limit name d faults h

  at_moved : (limit : ℕ) (name : List ℕ) (d : Json) (faults : List JsonFault) → AtMember object.Status name d (FaultsAt (Under root) limit (member_place object.Status name) name d) faults
      → AtMember object.Status name d (FaultsAt (Under other) limit (member_place object.Status name) name d) faults
  at_moved limit name d faults (inl out) = inl out
  at_moved limit name d faults (inr (here, (own, inside, own_are, inside_are, is))) = inr (here, (own, inside, own_are, member_moved limit name d inside inside_are, is))

  members_moved : (limit : ℕ) (names : List (List ℕ)) (ms : Members) (faults : List JsonFault) → MembersFaults (Under root) limit object.Status names ms faults → MembersFaults (Under other) limit object.Status names ms faults
  unfolding FaultsAt
  members_moved limit names no_members faults h = h
  members_moved limit names (member name d ms) faults (first, rest, at, more, is) = (first, rest, at_moved limit name d first at, members_moved limit (later name names) ms rest more, is)

  status_moved : (limit : ℕ) (name : List ℕ) (d : Json) (faults : List JsonFault) → FaultsAt (Under root) limit (place.Object object.Status) name d faults → FaultsAt (Under other) limit (place.Object object.Status) name d faults
  unfolding FaultsAt
  status_moved limit name null faults h = h
  status_moved limit name (boolean b) faults h = h
  status_moved limit name (number n) faults h = h
  status_moved limit name (string t) faults h = h
  status_moved limit name (array ds) faults h = h
  status_moved limit name (an_object ms) faults h = record { levels = h.levels; takes = h.takes; inside = h.inside; are = members_moved (limit - h.levels) [] ms h.inside h.are; is = h.is }

-- what is read under one root is read under each
module _ (side : Side) (root : Root) (d : Json) where
  abbrev Here : List JsonFault → Type 0
  Here faults = FaultsAt (record { side = side; root = root }) 20 (place.Object object.Status) (codes "status") d faults

  moved : (faults : List JsonFault) → Here faults → StatusFaults side d faults
  moved faults h = λ other. status_moved side root other 20 (codes "status") d faults h

  pub clean_moved : (r : Result RpcStatus JsonFault) → IfOk r (λ _. Here []) → IfOk r (λ _. StatusFaults side d [])
  clean_moved (Ok status) h = moved [] h
  clean_moved (Err fault) h = h

  pub fault_moved : (r : Result RpcStatus JsonFault) → IfErr r (IsFault Here) → IfErr r (IsFault (StatusFaults side d))
  fault_moved (Ok status) h = h
  fault_moved (Err fault) (inl memory) = inl memory
  fault_moved (Err fault) (inr first) = inr (record { faults = first.faults; are = moved first.faults first.are; first = first.first })
