use Rattle.std.proofs.Common.{rules, ◌∙◌, []}
use Rattle.disk_journal.proofs.Appending.{seen_as}
use Rattle.disk_journal.proofs.Formats.{after_close, after_rest, after_open, rest_lands, is_open}
use Rattle.disk_journal.proofs.format.format.Goals as goal

pub returns-in_err-put_down-clause-files : goal.returns-in_err-put_down-clause-files
returns-in_err-put_down-clause-files g c told = record {
  done = search rules;
  steps = after_rest c.close_gate.ensures.out.out (after_close (c.close_gate.ensures.files told)) (c.in_ok-close_gate.ensures.files told).done (c.put_down.ensures.files told);
}

pub returns-in_err-put_down-2-clause-files : goal.returns-in_err-put_down-2-clause-files
returns-in_err-put_down-2-clause-files g c told =
    let closed = (c.in_ok-close_gate.ensures.files told).done in
    let landed = (c.in_ok-put_down.ensures.files told).done in
    let first = after_close (c.close_gate.ensures.files told) in
    let second = after_rest c.close_gate.ensures.out.out first closed (c.put_down.ensures.files told) in
    let has = rest_lands _ _ closed.0 landed.bytes in
    record {
      done = search rules;
      steps = after_open (c.put_down.ensures.out.out ∙ c.close_gate.ensures.out.out) second has landed.on_disk (c.put_down-2.ensures.files told);
    }

pub returns-clause-files : goal.returns-clause-files
returns-clause-files g c told =
    let closed = (c.in_ok-close_gate.ensures.files told).done in
    let landed = (c.in_ok-put_down.ensures.files told).done in
    let first = after_close (c.close_gate.ensures.files told) in
    let second = after_rest c.close_gate.ensures.out.out first closed (c.put_down.ensures.files told) in
    let has = rest_lands _ _ closed.0 landed.bytes in
    let all = after_open (c.put_down.ensures.out.out ∙ c.close_gate.ensures.out.out) second has landed.on_disk (c.put_down-2.ensures.files told) in
    let opened = is_open (c.requires told) has (c.in_ok-put_down-2.ensures.files told).done all in
    record {
      done = seen_as _ _ [] c.at.ensures opened;
      steps = all;
    }
