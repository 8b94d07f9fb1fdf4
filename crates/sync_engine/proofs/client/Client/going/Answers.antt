use Rattle.std.proofs.Common.{◌≡◌, ℕ, ◌<◌, ℤ, pos, List, ◌++◌, map as each, sym, ap, subst, ◌∙◌}
use Rattle.std.specs.List.{All}
use Rattle.sync_engine.specs.Dropping.{AreMovedBy}
use Rattle.sync_engine.proofs.client.Client.going.Goals as goal

pub as_targets-requires : goal.as_targets-requires
as_targets-requires c = subst (All (λ (n : ℕ). n < 2147483648)) (sym c.as_slice.ensures.value) c.in_ok-rows.ensures.low

pub returns-clause-blanked : goal.returns-clause-blanked
returns-clause-blanked c = c.in_ok-blanked.ensures ∙ ap (each pos) c.as_slice.ensures.value

pub returns-clause-moved : goal.returns-clause-moved
returns-clause-moved c = subst (λ (ts : List ℤ). AreMovedBy c.args.self.now c.args.keys.now ts c.in_ok-moved.moved.items) c.as_slice-2.ensures.value c.in_ok-moved.ensures

pub returns-clause-going : goal.returns-clause-going
returns-clause-going c = λ h stands.
    let rows : List ℕ = c.in_ok-rows.rows.items in
    let blanked : c.in_ok-blanked.blanked.items ≡ each pos rows = c.in_ok-blanked.ensures ∙ ap (each pos) c.as_slice.ensures.value in
    record {
      rows = c.in_ok-rows.ensures.rows h stands;
      told = c.in_ok-told.told.items;
      told_are = c.in_ok-told.ensures h stands;
      resets = c.in_ok-resets.ensures ∙ ap (λ (l : List ℤ). l ++ c.as_slice-4.result.now) (c.as_slice-3.ensures.value ∙ blanked) ∙ ap (λ (l : List ℤ). each pos rows ++ l) c.as_slice-4.ensures.value;
    }
