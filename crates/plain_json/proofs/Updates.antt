-- Updates of documents with just a name and fields, and the lists of them.
use Rattle.std.proofs.Common.{◌≡◌, ℕ, ◌+◌, ◌<◌, ◌≤◌, List, [], ◌∷◌, ◌++◌, length, take, get_or, Some, codes, refl, sym, ap, subst, ◌∙◌}
use Rattle.std.proofs.lemmas.List.Elements.{All-nil, All-cons, All-append}
use Rattle.std.specs.List.{All}
use Rattle.document_keys.specs.Names.{Root, IsKey, name_text}
use Rattle.json.specs.Json as text
use Rattle.json.specs.Value.{value_view, items_view}
use Rattle.json.specs.declared.value.Value.{Value}
use Rattle.serde_json.specs.Data.{string, no_items}
use Rattle.serde_json.specs.Read.{of_json}
use Rattle.value_model.specs.Data.{Entries}
use Rattle.value_model.specs.Storable.{IsStorableKey}
use Rattle.json_model.specs.declared.place.Object.TheVariants as object
use Rattle.json_model.specs.declared.place.Place.TheVariants as place
use Rattle.json_model.specs.declared.place.Series.TheVariants as series
use Rattle.json_model.specs.Faults.{max_nesting}
use Rattle.json_model.specs.Fits.{Fits}
use Rattle.json_model.specs.Forms.{Each, no_more, SpellsEach}
use Rattle.json_model.specs.Grammar.{SpellsFields, SpellsName}
use Rattle.json_model.specs.Origin.{Origin}
use Rattle.json_rpc.specs.Grammar.{SpellsWrite}
use Rattle.json_rpc.specs.Storable.{IsStorableWrite}
use Rattle.mutations.specs.declared.write.Write.{Write}
use Rattle.plain_json.specs.Trees.{HoldsBoth, StandsFor, IsBuiltOf, AreStoredFields}
use Rattle.plain_json.specs.Updates.{SpellsUpdated, IsStoredUpdate}
use Rattle.plain_json.specs.declared.documents.Updated.{Updated}
use Rattle.plain_json.proofs.Fitted.{update_fits, document_spelled}
use Rattle.plain_json.proofs.Members.{both}
use Rattle.plain_json.proofs.Lists.{SoFar, next, whole, listed, each_push}

pub named : (root : Root) (tree : text.Json) (name : List ℕ) (key : List (List ℕ)) → tree ≡ text.string name → IsKey key → name ≡ name_text root key → StandsFor tree (λ d. SpellsName root d key)
named root tree name key is sound text_is = record { seen = string name; is = ap of_json is; holds = record { names = sound; is = ap string text_is } }

pub document : (o : Origin) (tree fields name : text.Json) (key : List (List ℕ)) (es : Entries) (updated : Updated) → HoldsBoth tree (codes "fields") (codes "name") fields name
    → StandsFor name (λ d. SpellsName o.root d key) → IsStorableKey key → StandsFor fields (IsBuiltOf o max_nesting (place.Object object.Fields) SpellsFields (AreStoredFields max_nesting) es) → updated.key ≡ key → updated.fields ≡ es
    → StandsFor tree (IsBuiltOf o max_nesting (place.Object object.Update) (SpellsUpdated o.root) IsStoredUpdate updated)
document o tree fields name key es updated held names stored inside key_is fields_are =
    let all = both tree fields name (codes "fields") (codes "name") inside.seen names.seen refl held inside.is names.is in
    record {
      seen = all.seen;
      is = all.is;
      holds = record {
        fits = update_fits o max_nesting inside.seen names.seen all.seen key all.holds inside.holds.fits names.holds;
        spelled = rw (key_is, fields_are) (document_spelled o.root all.seen inside.seen names.seen key es all.holds inside.holds.spelled names.holds);
        stored = record { names = rw key_is stored; holds = rw fields_are inside.holds.stored.storable; deep = rw fields_are inside.holds.stored.deep };
      };
    }

-- ---- lists of writes

abbrev pub WritesSoFar : {A : Type 0} → Origin → List (Value A) → List Write → Type 0
WritesSoFar o trees writes = SoFar o max_nesting series.Writes (Each (SpellsWrite o.root)) (All IsStorableWrite) trees writes

pub no_writes : {A : Type 0} (o : Origin) (writes : List Write) → writes ≡ [] → WritesSoFar {A = A} o [] writes
unfolding Fits
no_writes {A} o writes none = subst (WritesSoFar {A = A} o []) (sym none) (record { seen = no_items; is = refl; fit = tt; listed = no_more; stored = All-nil IsStorableWrite })

pub more_writes : {A : Type 0} (o : Origin) (trees : List (Value A)) (i : ℕ) (one : Value A) (old new : List Write) (made : Write) → i < length trees → one ≡ get_or trees i one → WritesSoFar o (take i trees) old
    → StandsFor (value_view one) (IsBuiltOf o max_nesting (place.Object object.Write) (SpellsWrite o.root) IsStorableWrite made) → new ≡ old ++ made ∷ [] → WritesSoFar o (take (i + 1) trees) new
more_writes o = next o max_nesting series.Writes (Each (SpellsWrite o.root)) (All IsStorableWrite) (SpellsWrite o.root) IsStorableWrite (each_push (SpellsWrite o.root))
    (λ old made all one. All-append IsStorableWrite old (made ∷ []) all (All-cons IsStorableWrite made [] one (All-nil IsStorableWrite)))

pub all_writes : {A : Type 0} (o : Origin) (tree : text.Json) (all trees : List (Value A)) (i : ℕ) (writes : List Write) → tree ≡ text.array (items_view all) → trees ≡ all → length trees ≤ i → i ≤ length trees → WritesSoFar o (take i trees) writes
    → StandsFor tree (IsBuiltOf o max_nesting (place.Series series.Writes) (λ d. SpellsEach (SpellsWrite o.root) (Some d)) (All IsStorableWrite) writes)
all_writes {A} o tree all trees i writes is same below above so_far =
    listed o max_nesting series.Writes (Each (SpellsWrite o.root)) (All IsStorableWrite) (λ d. SpellsEach (SpellsWrite o.root) (Some d)) (λ ds. refl) (λ ds those each. (ds, refl, each)) tree all writes is
    (subst (λ (ts : List (Value A)). WritesSoFar o ts writes) (whole trees i below above ∙ same) so_far)
