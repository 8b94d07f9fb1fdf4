use Rattle.std.proofs.Common.{◌∙◌, Some, sym, ap}
use Rattle.mutations.proofs.Locally.{put_over, left_out}
use Rattle.mutations.proofs.Taking.{put_takes, removed_takes}
use Rattle.mutations.proofs.mask.taken_over.Goals as goal

pub returns-in_ok-without_at-in-None-clause-takes : goal.returns-in_ok-without_at-in-None-clause-takes
returns-in_ok-without_at-in-None-clause-takes c = removed_takes c.args.fields c.args.input.now c.in_ok-without_at-in-None.field-0 c.args.path.now (sym c.in-None.ensures) c.in_ok-without_at-in-None.ensures.done c.in_ok-without_at-in-None.ensures.gone c.in_ok-without_at-in-None.ensures.missing

pub returns-in_ok-without_at-in-None-clause-exact : goal.returns-in_ok-without_at-in-None-clause-exact
returns-in_ok-without_at-in-None-clause-exact c = left_out c.args.input.now c.args.fields c.in_ok-without_at-in-None.field-0 c.args.path.now (sym c.in-None.ensures) c.in_ok-without_at-in-None.ensures.done

pub returns-in_ok-with_at-in-Some-clause-takes : goal.returns-in_ok-with_at-in-Some-clause-takes
returns-in_ok-with_at-in-Some-clause-takes c = put_takes c.args.fields c.args.input.now c.in_ok-with_at-in-Some.field-0 c.args.path.now c.in_ok-copy-in-Some.field-0 c.len-names.ensures.path.some (sym c.in-Some.ensures ∙ ap Some (sym c.in_ok-copy-in-Some.ensures)) c.in_ok-with_at-in-Some.ensures.done c.in_ok-with_at-in-Some.ensures.same

pub returns-in_ok-with_at-in-Some-clause-exact : goal.returns-in_ok-with_at-in-Some-clause-exact
returns-in_ok-with_at-in-Some-clause-exact c = put_over c.args.input.now c.args.fields c.in_ok-with_at-in-Some.field-0 c.args.path.now c.in_ok-copy-in-Some.field-0 (sym c.in-Some.ensures ∙ ap Some (sym c.in_ok-copy-in-Some.ensures)) c.in_ok-with_at-in-Some.ensures.done
