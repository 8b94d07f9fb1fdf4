-- The line of a batch that is built in one pass has no fault, and spells the batch.
use Rattle.std.proofs.Common.{◌≡◌, ℕ, List, [], Option, None, Result, Ok, Err, codes, refl, sym, ap, subst, inr}
use Rattle.std.specs.List.{All}
use Rattle.std.specs.Prelude.{Some, IsUtf8}
use Rattle.document_keys.specs.Names.{Root}
use Rattle.json.specs.Json as text
use Rattle.json.specs.Lex.{tokens}
use Rattle.serde_json.specs.Data.{Data, no_members, member}
use Rattle.serde_json.specs.Find.{as_object}
use Rattle.value_model.specs.declared.timestamp.Timestamp.{Timestamp}
use Rattle.json_model.specs.declared.place.Leaf.TheVariants as leaf
use Rattle.json_model.specs.declared.place.Object.TheVariants as object
use Rattle.json_model.specs.declared.place.Place.TheVariants as place
use Rattle.json_model.specs.declared.place.Series.TheVariants as series
use Rattle.json_model.specs.Faults.{max_nesting}
use Rattle.json_model.specs.Fits.{Fits, MembersFit}
use Rattle.json_model.specs.Forms.{SpellsEach}
use Rattle.json_model.specs.Grammar.{SpellsTime}
use Rattle.json_model.specs.Origin.{Origin}
use Rattle.json_model.specs.Places.{line_rows, write_line_rows}
use Rattle.json_model.proofs.Fitting.{flat_object_fits, fits_clean}
use Rattle.json_model.proofs.Sound.{not_out}
use Rattle.json_rpc.specs.Grammar.{SpellsWrite}
use Rattle.json_rpc.specs.Storable.{IsStorableWrite}
use Rattle.mutations.specs.declared.write.Write.{Write}
use Rattle.plain_json.specs.Built.{IfBuilt}
use Rattle.plain_json.specs.Trees.{HoldsOnly, HoldsBoth, HasOnly, HasBoth, StandsFor, IsBuiltOf}
use Rattle.plain_json.proofs.Members.{only, both}
use Rattle.plain_json.proofs.Parsed.{whole}
use Rattle.line_reader.specs.Faults.{caller}
use Rattle.line_reader.specs.Grammar.{Spells}
use Rattle.line_reader.specs.Reading.{IsLineOf}
use Rattle.line_reader.specs.declared.raw_event.RawEvent.{RawEvent}
use Rattle.line_reader.specs.declared.raw_event.RawEvent.TheVariants as raw

time_fits : (o : Origin) (limit : ℕ) (d : Data) (time : Timestamp) → SpellsTime d time → Fits o limit (place.Leaf leaf.Time) d
unfolding Fits
time_fits o limit d time spelled = subst (Fits o limit (place.Leaf leaf.Time)) (sym spelled.1.0) (spelled.0, (refl, (time, spelled.1.1)))

batch_fits : (o : Origin) (limit : ℕ) (at writes line : Data) (time : Timestamp) → HasBoth (codes "at") (codes "writes") at writes line → SpellsTime at time → Fits o limit (place.Series series.Writes) writes → Fits o limit (place.Object object.WriteLine) line
unfolding Fits write_line_rows
batch_fits o limit at writes line time both spelled fits =
    let last : MembersFit o limit object.WriteLine [] (member (codes "writes") writes no_members) = (refl, inr (not_out (place.Series series.Writes) writes both.other, (tt, fits)), refl) in
    subst (Fits o limit (place.Object object.WriteLine)) (sym both.is)
    (flat_object_fits o limit object.WriteLine (member (codes "at") at (member (codes "writes") writes no_members)) refl refl refl
    (rw both.one refl, inr (not_out (place.Leaf leaf.Time) at both.one, (tt, time_fits o limit at time spelled)), last))

line_fits : (o : Origin) (limit : ℕ) (at writes line d : Data) (time : Timestamp) → HasOnly (codes "write") line d → HasBoth (codes "at") (codes "writes") at writes line → SpellsTime at time
    → Fits o limit (place.Series series.Writes) writes → Fits o limit (place.Object object.Line) d
unfolding Fits line_rows
line_fits o limit at writes line d time only both spelled fits =
    subst (Fits o limit (place.Object object.Line)) (sym only.is)
    (flat_object_fits o limit object.Line (member (codes "write") line no_members) (rw only.there refl) refl refl
    (refl, inr (not_out (place.Object object.WriteLine) line only.there, (tt, batch_fits o limit at writes line time both spelled fits)), refl))

line_spelled : (root : Root) (at writes line d : Data) (time : Timestamp) (batch : List Write) → HasOnly (codes "write") line d → HasBoth (codes "at") (codes "writes") at writes line → SpellsTime at time
    → SpellsEach (SpellsWrite root) (Some writes) batch → Spells root d (raw.Write time batch)
unfolding line_rows
line_spelled root at writes line d time batch only both spelled each = record {
  members = member (codes "write") line no_members;
  is = ap as_object only.is;
  name = codes "write";
  inner = line;
  only = rw only.there refl;
  spells = (
    refl,
    record {
      members = member (codes "at") at (member (codes "writes") writes no_members);
      is = ap as_object both.is;
      spells = record {
        time = record { tree = at; is = rw both.one refl; spells = spelled };
        each = rw both.other each;
      };
    },
  );
}

-- ---- a tree that borrows from the line

pub batch_stands : (o : Origin) (tree line at writes : text.Json) (time : Timestamp) (batch : List Write) → HoldsOnly tree (codes "write") line
    → HoldsBoth line (codes "at") (codes "writes") at writes → StandsFor at (λ d. SpellsTime d time)
    → StandsFor writes (IsBuiltOf o max_nesting (place.Series series.Writes) (λ d. SpellsEach (SpellsWrite o.root) (Some d)) (All IsStorableWrite) batch)
    → StandsFor tree (λ d. Fits o max_nesting (place.Object object.Line) d × Spells o.root d (raw.Write time batch))
batch_stands o tree line at writes time batch held both_held timed listed =
    let inner = both line at writes (codes "at") (codes "writes") timed.seen listed.seen refl both_held timed.is listed.is in
    let all = only tree line (codes "write") inner.seen held inner.is in
    record {
      seen = all.seen;
      is = all.is;
      holds = (
        line_fits o max_nesting timed.seen listed.seen inner.seen all.seen time all.holds inner.holds timed.holds listed.holds.fits,
        line_spelled o.root timed.seen listed.seen inner.seen all.seen time batch all.holds inner.holds timed.holds listed.holds.spelled,
      );
    }

line_of : (root : Root) (content : List ℕ) (tree : text.Json) (e : RawEvent) → IsUtf8 content → text.value 127 (tokens content) ≡ Some (tree, [])
    → StandsFor tree (λ d. Fits (caller root) max_nesting (place.Object object.Line) d × Spells root d e) → IsLineOf root content e
line_of root content tree e utf8 parsed stands = record {
  tree = stands.seen;
  json = record { utf8 = utf8; is = whole content tree stands.seen parsed stands.is };
  clean = fits_clean (caller root) max_nesting (place.Object object.Line) [] stands.seen stands.holds.0;
  spells = stands.holds.1;
}

pub batch_line : {E : Type 0} (root : Root) (content : List ℕ) (tree : text.Json) (built : Result (Option RawEvent) E) → IsUtf8 content → text.value 127 (tokens content) ≡ Some (tree, [])
    → IfBuilt built (λ e. StandsFor tree (λ d. Fits (caller root) max_nesting (place.Object object.Line) d × Spells root d e)) → IfBuilt built (IsLineOf root content)
batch_line root content tree (Ok None) utf8 parsed holds = tt
batch_line root content tree (Ok (Some e)) utf8 parsed holds = line_of root content tree e utf8 parsed holds
batch_line root content tree (Err e) utf8 parsed holds = tt
