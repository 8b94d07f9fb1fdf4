use Rattle.std.proofs.Common.{arith, ap, ◌++◌, ◌∙◌, List, ℕ}
use Rattle.std.specs.String.{string_bytes}
use Rattle.sync_engine.specs.Telling.{IsShown}
use Rattle.client_run.proofs.Texts.{all_text, more_text, no_text, shown_at}
use Rattle.client_run.proofs.printing.print_outs.Goals as goal

pub loop-out-init : goal.loop-out-init
loop-out-init c = λ lines all. no_text c.args.client.now _ lines c.new-text.ensures.bytes all

pub loop-out-preserved : goal.loop-out-preserved
loop-out-preserved c = more_text c.args.client.now c.args.outs.now c.loop-out.out-index c.out-item.result _ _ _ c.loop-out-test.true c.out-item.is (c.in_ok-push_str.ensures.bytes ∙ ap (λ (t : List ℕ). string_bytes c.loop-out.text ++ t) c.as_str.ensures.value) c.loop-out.invariant c.in_ok-line-2.ensures

pub returns : goal.returns
returns c = all_text c.args.client.now c.args.outs.now c.loop-out.out-index _ (omega (arith, c.loop-out-test.false, c.loop-out.auto.out-index-end)) c.loop-out.invariant

pub print_out-requires-in-loop-out-clause-shown : goal.print_out-requires-in-loop-out-clause-shown
print_out-requires-in-loop-out-clause-shown c = shown_at (IsShown c.args.client.now) c.args.outs.now c.requires.shown.0 c.loop-out.out-index c.out-item.result c.requires.shown.1 c.loop-out-test.true c.out-item.is
