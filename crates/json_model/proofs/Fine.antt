-- Leaves without faults are what is to stand there, and the other way round.
use Rattle.std.proofs.Common.{rules, ◌≡◌, ◌≢◌, ℕ, ◌<◌, ◌≤◌, List, [], ◌∷◌, length, Bool, true, false, refl, sym, ap, inl, inr, ◌∙◌, arith}
use Rattle.std.proofs.lemmas.List.{length-append}
use Rattle.std.specs.Bool.{if◌then◌else◌}
use Rattle.document_keys.specs.Names.{Root, path_text, name_text, documents_text}
use Rattle.document_keys.specs.Paths.{SpellsPath}
use Rattle.document_keys.proofs.Spelled.{spells_one}
use Rattle.serde_json.specs.Data.{Data as Json, null, boolean}
use Rattle.json_model.specs.declared.place.Place.TheVariants as place
use Rattle.json_model.specs.declared.place.Leaf.{Leaf}
use Rattle.json_model.specs.declared.place.Leaf.TheVariants as leaf
use Rattle.json_model.specs.declared.place.Constants.{Constants}
use Rattle.json_model.specs.declared.fault.JsonFault.{JsonFault}
use Rattle.json_model.specs.declared.fault.JsonFault.TheVariants as json_fault
use Rattle.json_model.specs.declared.fault.NamingFault.{NamingFault}
use Rattle.json_model.specs.Clean.{IsClean}
use Rattle.json_model.specs.Constants.{is_constant, is_untaken}
use Rattle.json_model.specs.Faults.{FaultsAt}
use Rattle.json_model.specs.Leaves.{Unless, NamingFaults, InText, in_text, PathFaults, QueryPathFaults, ParentFaults, IsParentText, IsQueryPathText, few, HasManyNames, max_names, IsTextOf, IsFieldPathText, constant_faults, descendants_faults, FitsLeaf, is_of_text, FitsText, LeafFaults}
use Rattle.json_model.specs.Origin.{Origin}

-- the faults of a leaf are those of the tree
pub leaf_faults : (o : Origin) (limit : ℕ) (kind : Leaf) (name : List ℕ) (d : Json) (faults : List JsonFault) → FaultsAt o limit (place.Leaf kind) name d faults → LeafFaults o.root kind name d faults
unfolding FaultsAt
leaf_faults o limit kind name null faults h = h
leaf_faults o limit kind name _ faults h = h

pub fine : (Fact : Type 0) (fault : JsonFault) → Unless Fact fault [] → Fact
fine Fact fault (inl yes_is) = yes_is.0
fine Fact fault (inr bad) = cc (bad.1)

pub named : (Fact : Type 0) (Has : NamingFault → Type 0) (text : List ℕ) → NamingFaults Fact Has text [] → Fact
named Fact Has text (inl yes_is) = yes_is.0
named Fact Has text (inr bad) = cc (bad.2)

path_fine : (text : List ℕ) → PathFaults text [] → IsFieldPathText text
path_fine text (few many h) = named _ _ text h

query_fine : (text : List ℕ) → QueryPathFaults text [] → IsQueryPathText text
query_fine text (few many h) = named _ _ text h

parent_fine : (root : Root) (text : List ℕ) → ParentFaults root text [] → IsParentText root text
parent_fine root text (inl is) = inl is.0
parent_fine root text (inr other) = inr (named _ _ text other.1)

constant_fine : (which : Constants) (name text : List ℕ) → [] ≡ constant_faults which name text → is_constant which text ≡ true
constant_fine which name text none = by (is_constant which text) (is_untaken which text) none
  where
    by : (b c : Bool) → [] ≡ (if b then [] else if c then json_fault.Unsupported text ∷ [] else json_fault.BadShape name ∷ []) → b ≡ true
    by true c e = refl
    by false true e = cc
    by false false e = cc

descendants_fine : (name : List ℕ) (d : Json) → [] ≡ descendants_faults name d → d ≡ boolean false
descendants_fine name (boolean false) e = refl
descendants_fine name _ e = cc

text_fine : (Fact : List ℕ → Type 0) (Faults : List ℕ → List JsonFault → Type 0) (d : Json) (name : List ℕ) → ((text : List ℕ) → Faults text [] → Fact text) → InText d name Faults [] → IsTextOf Fact d
text_fine Fact Faults d name holds (in_text text _ is h) = (text, (is, holds text h))

pub leaf_fits : (root : Root) (kind : Leaf) (name : List ℕ) (d : Json) → LeafFaults root kind name d [] → FitsLeaf root kind d
leaf_fits root leaf.Time name d h = text_fine _ _ d name (λ text. fine _ _) h
leaf_fits root leaf.Bytes name d h = text_fine _ _ d name (λ text. fine _ _) h
leaf_fits root leaf.Reference name d h = text_fine _ _ d name (λ text. named _ _ text) h
leaf_fits root leaf.Name name d h = text_fine _ _ d name (λ text. named _ _ text) h
leaf_fits root leaf.Path name d h = text_fine _ _ d name path_fine h
leaf_fits root leaf.Id name d h = text_fine _ _ d name (λ text. fine _ _) h
leaf_fits root leaf.Parent name d h = text_fine _ _ d name (parent_fine root) h
leaf_fits root leaf.QueryPath name d h = text_fine _ _ d name query_fine h
leaf_fits root leaf.Descendants name d h = descendants_fine name d h
leaf_fits root (leaf.Constant which) name d h = text_fine _ _ d name (constant_fine which name) h
leaf_fits root _ name d h = fine _ _ h

-- what a reader of leaves knows
pub clean_leaf : (o : Origin) (kind : Leaf) (d : Json) → IsClean o (place.Leaf kind) d → FitsLeaf o.root kind d
clean_leaf o kind d (limit, name, room, h) = leaf_fits o.root kind name d (leaf_faults o limit kind name d [] h)

-- and of those that are texts of which a fact holds
pub clean_text : (o : Origin) (kind : Leaf) (d : Json) → IsClean o (place.Leaf kind) d → is_of_text kind ≡ true → IsTextOf (FitsText o.root kind) d
clean_text o kind d clean is = by o.root kind (clean_leaf o kind d clean) is
  where
    by : (root : Root) (k : Leaf) → FitsLeaf root k d → is_of_text k ≡ true → IsTextOf (FitsText root k) d
    by root leaf.Time h texts = h
    by root _ h texts = search rules

-- a path of few names isn't one of many
pub not_many : (text : List ℕ) (names : List (List ℕ)) → SpellsPath text names → length names ≤ max_names → HasManyNames text → ⊥
not_many text names is short (others, spelled, many) = let same = ap length (spells_one text names others is spelled) in absurd (omega arith)

-- a document's name is longer than that of the root's `documents`
pub longer : (root : Root) (key : List (List ℕ)) → 0 < length key → name_text root key ≢ documents_text root
longer root [] some is = absurd (omega arith)
longer root (segment ∷ key) some is =
    let size = ap length is in
    let parts = length-append (documents_text root) (path_text (segment ∷ key)) in
    absurd (omega arith)

parent_faults : (root : Root) (text : List ℕ) → IsParentText root text → ParentFaults root text []
parent_faults root text (inl is) = inl (is, refl)
parent_faults root text (inr (key, (names, is))) = inr (λ at. longer root key names.some (sym is ∙ at), inl ((key, (names, is)), refl))

pub fits_leaf : (root : Root) (kind : Leaf) (name : List ℕ) (d : Json) → FitsLeaf root kind d → LeafFaults root kind name d []
fits_leaf root leaf.Time name d (text, (is, h)) = in_text text [] is (inl (h, refl))
fits_leaf root leaf.Bytes name d (text, (is, h)) = in_text text [] is (inl (h, refl))
fits_leaf root leaf.Reference name d (text, (is, h)) = in_text text [] is (inl (h, refl))
fits_leaf root leaf.Name name d (text, (is, h)) = in_text text [] is (inl (h, refl))
fits_leaf root leaf.Path name d (text, (is, h)) = in_text text [] is (few (not_many text h.0 h.1.spelled h.1.few) (inl (h, refl)))
fits_leaf root leaf.Id name d (text, (is, h)) = in_text text [] is (inl (h, refl))
fits_leaf root leaf.Parent name d (text, (is, h)) = in_text text [] is (parent_faults root text h)
fits_leaf root leaf.QueryPath name d (text, (is, h)) = in_text text [] is (few (not_many text h.0 h.1.spelled h.1.few) (inl (h, refl)))
fits_leaf root leaf.Descendants name d h = ap (descendants_faults name) (sym h)
fits_leaf root (leaf.Constant which) name d (text, (is, h)) = in_text text [] is (ap (λ b. if b then [] else if is_untaken which text then json_fault.Unsupported text ∷ [] else json_fault.BadShape name ∷ []) (sym h))
fits_leaf root _ name d h = inl (h, refl)
