-- An update and its write are of their form where what stands in them is, and spell what it does.
use Rattle.std.proofs.Common.{◌≡◌, ℕ, List, [], ◌∷◌, Bool, true, false, not, cond, codes, refl, sym, ap, subst, inl, inr, ◌∙◌}
use Rattle.document_keys.specs.Names.{Root}
use Rattle.serde_json.specs.Data.{Data as Json, object as an_object, Members, no_members, member}
use Rattle.serde_json.specs.Find.{as_object}
use Rattle.value_model.specs.Data.{Entries}
use Rattle.json_model.specs.declared.place.Place.TheVariants as place
use Rattle.json_model.specs.declared.place.Object.{Object}
use Rattle.json_model.specs.declared.place.Object.TheVariants as object
use Rattle.json_model.specs.declared.place.Leaf.TheVariants as leaf
use Rattle.json_model.specs.Faults.{max_nesting}
use Rattle.json_model.specs.Fits.{Fits, MembersFit}
use Rattle.json_model.specs.Grammar.{SpellsName, SpellsFields}
use Rattle.json_model.specs.Members.{chosen, is_chosen, is_left_out, refined}
use Rattle.json_model.specs.Origin.{Origin}
use Rattle.json_model.specs.Places.{member_place, required, update_rows, write_rows, is_write_choice}
use Rattle.json_model.proofs.Among.{OfEach}
use Rattle.json_model.proofs.Fitting.{flat_object_fits}
use Rattle.json_model.proofs.Sound.{not_out}
use Rattle.mutations.specs.declared.write.Write.{Write}
use Rattle.json_rpc.specs.Grammar.{SpellsDocument, SpellsWrite, SpellsWriteUnder}
use Rattle.plain_json.specs.Beside.{FitBeside}
use Rattle.plain_json.specs.Trees.{HasBoth}

-- the name of a document fits
pub name_fits : (o : Origin) (limit : ℕ) (d : Json) (key : List (List ℕ)) → SpellsName o.root d key → Fits o limit (place.Leaf leaf.Name) d
unfolding Fits
name_fits o limit d key spelled = subst (Fits o limit (place.Leaf leaf.Name)) (sym spelled.is) (_, (refl, (key, (spelled.names, refl))))

pub update_fits : (o : Origin) (limit : ℕ) (fields name d : Json) (key : List (List ℕ)) → HasBoth (codes "fields") (codes "name") fields name d → Fits o limit (place.Object object.Fields) fields → SpellsName o.root name key → Fits o limit (place.Object object.Update) d
unfolding Fits update_rows
update_fits o limit fields name d key both fits spelled =
    let ms = member (codes "fields") fields (member (codes "name") name no_members) in
    let last : MembersFit o limit object.Update (codes "name" ∷ []) (member (codes "name") name no_members) = (rw both.other refl, inr (not_out (place.Leaf leaf.Name) name both.other, (tt, name_fits o limit name key spelled)), refl) in
    subst (Fits o limit (place.Object object.Update)) (sym both.is)
    (flat_object_fits o limit object.Update ms refl refl refl (refl, inr (not_out (place.Object object.Fields) fields both.one, (tt, fits)), last))

-- ---- what stands beside the document

-- where no alternative is given, no member is one; where this one is, each that is one is this
none_chosen : (kind : Object) (ms : Members) → chosen kind ms ≡ [] → OfEach (λ name d. is_chosen kind name d ≡ true → ⊥) ms
none_chosen kind no_members none = tt
none_chosen kind (member l e ms) none = by (is_chosen kind l e) refl none (none_chosen kind ms)
  where
    by : (b : Bool) → is_chosen kind l e ≡ b → cond b ((l, e) ∷ chosen kind ms) (chosen kind ms) ≡ [] → (chosen kind ms ≡ [] → OfEach (λ name d. is_chosen kind name d ≡ true → ⊥) ms)
        → OfEach (λ name d. is_chosen kind name d ≡ true → ⊥) (member l e ms)
    by true this some behind = cc
    by false this none behind = (λ that. let clash = sym this ∙ that in cc, behind none)

each_same : (kind : Object) (inner : Json) (ms : Members) → OfEach (λ l e. is_chosen kind l e ≡ true → ⊥) ms → OfEach (λ l e. is_chosen kind l e ≡ true → e ≡ inner) ms
each_same kind inner no_members none = tt
each_same kind inner (member l e ms) none = (λ that. absurd (none.0 that), each_same kind inner ms none.1)

only_chosen : (kind : Object) (ms : Members) (name : List ℕ) (inner : Json) → chosen kind ms ≡ (name, inner) ∷ [] → OfEach (λ l e. is_chosen kind l e ≡ true → e ≡ inner) ms
only_chosen kind no_members name inner is = cc
only_chosen kind (member l e ms) name inner is = by (is_chosen kind l e) refl is (only_chosen kind ms name inner)
  where
    by : (b : Bool) → is_chosen kind l e ≡ b → cond b ((l, e) ∷ chosen kind ms) (chosen kind ms) ≡ (name, inner) ∷ [] → (chosen kind ms ≡ (name, inner) ∷ [] → OfEach (λ l e. is_chosen kind l e ≡ true → e ≡ inner) ms)
        → OfEach (λ l e. is_chosen kind l e ≡ true → e ≡ inner) (member l e ms)
    by true this one behind = let rest : chosen kind ms ≡ [] = cc in let pair : (l, e) ≡ (name, inner) = cc in (λ that. ap (λ (x : List ℕ × Json). x.1) pair, each_same kind inner ms (none_chosen kind ms rest))
    by false this one behind = (λ that. let clash = sym this ∙ that in cc, behind one)

update_chosen : (d : Json) (out : Bool) → is_left_out (member_place object.Write (codes "update")) d ≡ out → is_chosen object.Write (codes "update") d ≡ not out
unfolding is_write_choice
update_chosen d out is = rw is refl

all_fit : (o : Origin) (update : Json) (ms : Members) → Fits o max_nesting (place.Object object.Update) update → FitBeside o ms → OfEach (λ l e. is_chosen object.Write l e ≡ true → e ≡ update) ms → MembersFit o max_nesting object.Write [] ms
unfolding Fits write_rows
all_fit o update no_members fits beside only = refl
all_fit o update (member l e ms) fits (inr kept, beside) only = elim kept [
  | inl out ↦ (refl, inl out, all_fit o update ms fits beside only.1)
  | inr there ↦ (refl, inr (there.0, (tt, there.1)), all_fit o update ms fits beside only.1)
]
all_fit o update (member l e ms) fits (inl named, beside) only = by (is_left_out (member_place object.Write l) e) refl (all_fit o update ms fits beside only.1)
  where
    by : (out : Bool) → is_left_out (member_place object.Write l) e ≡ out → MembersFit o max_nesting object.Write [] ms → MembersFit o max_nesting object.Write [] (member l e ms)
    by true out rest = (refl, inl out, rest)
    by false there rest =
        let place_is : member_place object.Write l ≡ place.Object object.Update = ap (member_place object.Write) named in
        let picked : is_chosen object.Write l e ≡ true = subst (λ (n : List ℕ). is_chosen object.Write n e ≡ true) (sym named) (update_chosen e false (subst (λ (n : List ℕ). is_left_out (member_place object.Write n) e ≡ false) named there)) in
        let same : e ≡ update = only.0 picked in
        (refl, inr (there, (tt, subst (λ p. Fits o max_nesting p e) (sym place_is) (subst (Fits o max_nesting (place.Object object.Update)) (sym same) fits))), rest)

pub write_fits : (o : Origin) (update d : Json) (ms : Members) → d ≡ an_object ms → chosen object.Write ms ≡ (codes "update", update) ∷ [] → FitBeside o ms → Fits o max_nesting (place.Object object.Update) update → Fits o max_nesting (place.Object object.Write) d
unfolding Fits write_rows
write_fits o update d ms is picked beside inside =
    let same : refined object.Write ms ≡ object.Write = rw picked refl in
    subst (Fits o max_nesting (place.Object object.Write)) (sym is)
    (flat_object_fits o max_nesting object.Write ms (rw picked refl) refl (rw same refl)
    (subst (λ (kind : Object). MembersFit o max_nesting kind (required kind) ms) (sym same) (all_fit o update ms inside beside (only_chosen object.Write ms (codes "update") update picked))))

pub document_spelled : (root : Root) (update fields name : Json) (key : List (List ℕ)) (es : Entries) → HasBoth (codes "fields") (codes "name") fields name update → SpellsFields fields es → SpellsName root name key → SpellsDocument root update key es
document_spelled root update fields name key es both spelled names = record {
  members = member (codes "fields") fields (member (codes "name") name no_members);
  is = ap as_object both.is;
  spells = record {
    names = record { tree = name; is = rw both.other refl; spells = names };
    holds = rw both.one spelled;
  };
}

pub write_spelled : (root : Root) (update d : Json) (ms : Members) (write : Write) → d ≡ an_object ms → chosen object.Write ms ≡ (codes "update", update) ∷ [] → SpellsWriteUnder root ms (codes "update") update write → SpellsWrite root d write
write_spelled root update d ms write is picked spells = record { members = ms; is = ap as_object is; name = codes "update"; inner = update; only = picked; spells = spells }
