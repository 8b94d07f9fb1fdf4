use Rattle.std.proofs.Common.{◌∙◌, ◌++◌, ◌∷◌, [], Some, IsTrue, sym, ap, append_assoc}
use Rattle.std.specs.Vec.Iter.{into_iter_items}
use Rattle.outcome_codec.specs.declared.parts.KeyedEntry.{KeyedEntry}
use Rattle.key_table.specs.Table.{has_key}
use Rattle.durable_state.specs.Cached.{with_changed}
use Rattle.durable_state.proofs.Changed.{change_is, put_more}
use Rattle.durable_state.proofs.Laid.{in_the_middle}
use Rattle.durable_state.proofs.applying.put.Goals as goal

pub set-requires : goal.set-requires
set-requires c =
    let split = c.loop-change.invariant.split ∙ ap (λ l. c.loop-change.yielded ++ l) c.in-Some.ensures.steps.0 in
    c.loop-change.invariant.places _ (in_the_middle (λ (e : KeyedEntry). IsTrue (has_key c.args.entries.now e.key)) _ _ _ c.in-Some.change split c.requires.places)

pub loop-change-preserved : goal.loop-change-preserved
loop-change-preserved c =
    let change = c.in-Some.change in record {
      split = c.loop-change.invariant.split ∙ ap (λ l. c.loop-change.yielded ++ l) c.in-Some.ensures.steps.0 ∙ sym (append_assoc c.loop-change.yielded (c.in-Some.change ∷ []) (into_iter_items c.next.new.self));
      is = change_is c.loop-change.entries c.set.new.self (change.key, Some (change.entry, c.args.seal)) c.loop-change.invariant.map c.is_map.ensures c.set.ensures.done
          ∙ ap (λ m. with_changed m (change.key, Some (change.entry, c.args.seal))) c.loop-change.invariant.is ∙ sym (put_more _ c.args.seal c.loop-change.yielded change);
      map = c.is_map.ensures;
      places = λ q had. c.set.ensures.places q (c.loop-change.invariant.places q had);
    }
