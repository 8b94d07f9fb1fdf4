use Rattle.std.proofs.Common.{rules, arith, ◌≡◌, ◌+◌, length, ap, ◌∙◌}
use Rattle.disk_journal.specs.Place.{Place}
use Rattle.disk_journal.proofs.Lists.{length-framed}
use Rattle.disk_journal.proofs.Appending.{seen_as, ends_at, lands_as, landed_as, first_half, both_halves, landed, appends, appends_as, goes_on}
use Rattle.disk_journal.proofs.journal.Journal.append.Goals as goal

pub returns-in_err-put_down-clause-files : goal.returns-in_err-put_down-clause-files
returns-in_err-put_down-clause-files g c told payloads is =
    let here = seen_as _ _ payloads c.self.view_is is in
    let first = first_half c.args.frame.now here (lands_as _ _ c.as_bytes-bytes.ensures.bytes (c.put_down.ensures.files told)) in
    appends_as c.self.view_is (appends here first (search rules))

pub returns-in_err-put_down-2-clause-files : goal.returns-in_err-put_down-2-clause-files
returns-in_err-put_down-2-clause-files g c told payloads is =
    let here = seen_as _ _ payloads c.self.view_is is in
    let first = first_half c.args.frame.now here (lands_as _ _ c.as_bytes-bytes.ensures.bytes (c.put_down.ensures.files told)) in
    let at = landed here (landed_as _ _ c.as_bytes-bytes.ensures.bytes (c.in_ok-put_down.ensures.files told).done) in
    appends_as c.self.view_is (appends here (both_halves c.put_down.ensures.out.out c.as_bytes-bytes.ensures.short first at (c.put_down-2.ensures.files told)) (search rules))

pub returns-clause-files : goal.returns-clause-files
returns-clause-files g c told payloads is =
    let here = seen_as _ _ payloads c.self.view_is is in
    let first = first_half c.args.frame.now here (lands_as _ _ c.as_bytes-bytes.ensures.bytes (c.put_down.ensures.files told)) in
    let at = landed here (landed_as _ _ c.as_bytes-bytes.ensures.bytes (c.in_ok-put_down.ensures.files told).done) in
    let both = both_halves c.put_down.ensures.out.out c.as_bytes-bytes.ensures.short first at (c.put_down-2.ensures.files told) in
    let next = goes_on c.args.frame.now here c.as_bytes-bytes.ensures.short at (c.in_ok-put_down-2.ensures.files told).done both in
    let size : c.self.inside.end + (length c.args.frame.now + 9) ≡ c.self.inside.end + length c.as_bytes-bytes.result.now = omega (arith, ap length c.as_bytes-bytes.ensures.bytes, length-framed c.args.frame.now) in
    appends_as c.self.view_is (appends here both (ends_at _ _ size next))

pub returns-clause-grows : goal.returns-clause-grows
returns-clause-grows g c =
    let size : length c.as_bytes-bytes.result.now ≡ length c.args.frame.now + 9 = ap length c.as_bytes-bytes.ensures.bytes ∙ length-framed c.args.frame.now in
    let end : c.self.inside.end ≡ c.args.self.end = ap (λ (place : Place). place.end) c.self.view_is in
    (omega arith, omega (arith, c.in_ok-put_down.ensures.small), ap (λ (place : Place). place.file) c.self.view_is, ap (λ (place : Place). place.generation) c.self.view_is)
