-- Masks.
use Rattle.std.proofs.Common.{◌≡◌, ℕ, List, Some, codes, refl, sym, ap, subst, inr}
use Rattle.json.specs.Json as text
use Rattle.serde_json.specs.Data.{Data, null, boolean, number, string, array, object as an_object, Items, member, no_members}
use Rattle.serde_json.specs.Find.{as_object}
use Rattle.serde_json.specs.Read.{of_json}
use Rattle.json_model.specs.declared.place.Leaf.TheVariants as leaf
use Rattle.json_model.specs.declared.place.Object.TheVariants as object
use Rattle.json_model.specs.declared.place.Place.TheVariants as place
use Rattle.json_model.specs.declared.place.Series.TheVariants as series
use Rattle.json_model.specs.Fits.{Fits, ItemsFit}
use Rattle.json_model.specs.Forms.{Each, no_more, one_more, SpellsEach}
use Rattle.json_model.specs.Grammar.{SpellsPathTree}
use Rattle.json_model.specs.Leaves.{SpellsFieldPath}
use Rattle.json_model.specs.Origin.{Origin}
use Rattle.json_model.specs.Places.{mask_rows}
use Rattle.json_model.specs.Storable.{IsStorablePath}
use Rattle.json_model.proofs.Fitting.{flat_object_fits}
use Rattle.json_model.proofs.Sound.{not_out}
use Rattle.json_rpc.specs.Grammar.{SpellsMask}
use Rattle.json_rpc.specs.Storable.{AreAllStorable}
use Rattle.plain_json.specs.Trees.{HoldsOnly, HasOnly, StandsFor, IsBuiltAnywhere}
use Rattle.plain_json.proofs.Formed.{list_fits}
use Rattle.plain_json.proofs.Members.{only}

pub path : (tree : text.Json) (content : List ℕ) (names : List (List ℕ)) → tree ≡ text.string content → SpellsFieldPath content names → StandsFor tree (λ d. SpellsPathTree d names)
path tree content names is spelled = record { seen = string content; is = ap of_json is; holds = (content, (refl, spelled)) }

each_fits : (o : Origin) (limit : ℕ) (ds : Items) (paths : List (List (List ℕ))) → Each SpellsPathTree ds paths → ItemsFit o limit series.Paths ds
unfolding Fits
each_fits o limit _ _ no_more = tt
each_fits o limit _ _ (one_more {d = d} {ds = ds} {x = names} {xs = paths} first rest) =
    (subst (Fits o limit (place.Leaf leaf.Path)) (sym first.1.0) (first.0, (refl, (names, first.1.1))), each_fits o limit ds paths rest)

paths_fit : (o : Origin) (limit : ℕ) (d : Data) (paths : List (List (List ℕ))) → SpellsEach SpellsPathTree (Some d) paths → Fits o limit (place.Series series.Paths) d
paths_fit o limit null paths spelled = cc
paths_fit o limit (boolean b) paths spelled = cc
paths_fit o limit (number n) paths spelled = cc
paths_fit o limit (string text) paths spelled = cc
paths_fit o limit (array ds) paths (items, is, each) =
    let same : ds ≡ items = cc in
    list_fits o limit series.Paths (array ds) items refl (ap array same) (each_fits o limit items paths each)
paths_fit o limit (an_object ms) paths spelled = cc

mask_fits : (o : Origin) (limit : ℕ) (list d : Data) → HasOnly (codes "fieldPaths") list d → Fits o limit (place.Series series.Paths) list → Fits o limit (place.Object object.Mask) d
unfolding Fits mask_rows
mask_fits o limit list d held fits =
    subst (Fits o limit (place.Object object.Mask)) (sym held.is)
    (flat_object_fits o limit object.Mask (member (codes "fieldPaths") list no_members) refl refl refl
    (refl, inr (not_out (place.Series series.Paths) list held.there, (tt, fits)), refl))

pub mask : (tree list : text.Json) (paths made : List (List (List ℕ))) → HoldsOnly tree (codes "fieldPaths") list → StandsFor list (λ d. SpellsEach SpellsPathTree (Some d) paths) → AreAllStorable IsStorablePath paths → made ≡ paths
    → StandsFor tree (IsBuiltAnywhere (place.Object object.Mask) SpellsMask (AreAllStorable IsStorablePath) made)
mask tree list paths made held listed stored is =
    let all = only tree list (codes "fieldPaths") listed.seen held listed.is in
    record {
      seen = all.seen;
      is = all.is;
      holds = (λ o. record {
        fits = mask_fits o _ listed.seen all.seen all.holds (paths_fit o _ listed.seen paths listed.holds);
        spelled = rw is (record { members = member (codes "fieldPaths") listed.seen no_members; is = ap as_object all.holds.is; spells = rw all.holds.there listed.holds });
        stored = rw is stored;
      });
    }
