use Rattle.std.proofs.Common.{◌∙◌, ◌++◌, ◌∷◌, [], map, sym, ap, subst, append_assoc}
use Rattle.std.specs.List.{All}
use Rattle.std.proofs.lemmas.List.Elements.{All-push}
use Rattle.outcome_codec.specs.declared.parts.KeyedEntry.{KeyedEntry}
use Rattle.record_parts.specs.Spelling.{IsSpelledKey}
use Rattle.watch_points.specs.Steps.{keyed_entry}
use Rattle.watch_points.proofs.entries.listed.Goals as goal

pub loop-key-preserved : goal.loop-key-preserved
loop-key-preserved c =
    let one = keyed_entry (c.in-Some.key, c.in-Some.entry) in
    record {
      value = ap (λ l. l ++ map keyed_entry c.next.new.self) c.in_ok-push.ensures.items ∙ append_assoc c.loop-key.entries.items (one ∷ []) (map keyed_entry c.next.new.self)
          ∙ ap (λ l. c.loop-key.entries.items ++ map keyed_entry l) (sym c.in-Some.ensures.steps) ∙ c.loop-key.invariant.value;
      named = subst (All (λ (e : KeyedEntry). IsSpelledKey e.key)) (sym c.in_ok-push.ensures.items) (All-push (λ (e : KeyedEntry). IsSpelledKey e.key) c.loop-key.entries.items one c.loop-key.invariant.named c.show_key.ensures);
    }
