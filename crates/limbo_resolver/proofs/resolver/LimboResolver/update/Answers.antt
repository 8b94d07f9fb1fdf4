use Rattle.std.proofs.Common.{◌≡◌, ◌∙◌, ◌<◌, false, length, sym, ap, subst}
use Rattle.limbo_resolver.specs.Limbo.{Limbo, ended, has, has_place, held, kept, queue, started, updated}
use Rattle.limbo_resolver.proofs.Filling.{waits}
use Rattle.limbo_resolver.proofs.Updated.{done_is, first_is, listens_are, order_is, same_held, started_is}
use Rattle.limbo_resolver.specs.Held.{seen}
use Rattle.limbo_resolver.proofs.resolver.LimboResolver.update.Goals as goal

pub invariant_of-self : goal.invariant_of-self
invariant_of-self c = order_is c.args.wanted.now c.self.inside.ids.items c.self.inside.keys.keys c.self.inside.next c.len-count.ensures.ascending c.self.invariant.few _ _ _ _ _ _
    c.as_slice.ensures.value c.in-Ok.ensures.keys c.in-Ok.ensures.started c.in-Ok.ensures.ids c.keep_wanted.ensures c.in-Ok.ensures.next c.self.invariant.ascending

pub returns-in-Ok-clause-done : goal.returns-in-Ok-clause-done
returns-in-Ok-clause-done c = done_is c.args.wanted.now c.self.inside.ids.items c.self.inside.keys.keys c.self.inside.next c.len-count.ensures.ascending c.self.invariant.few _ _ _ _ _ _
    c.as_slice.ensures.value c.in-Ok.ensures.keys c.in-Ok.ensures.started c.in-Ok.ensures.ids c.keep_wanted.ensures c.in-Ok.ensures.next
    ∙ ap (updated c.args.wanted.now) c.self.view_is

pub returns-in-Ok-clause-ended : goal.returns-in-Ok-clause-ended
returns-in-Ok-clause-ended c = c.in-Ok.ensures.ended
    ∙ ap (ended c.args.wanted.now) (listens_are c.args.wanted.now c.self.inside.ids.items c.self.inside.keys.keys c.self.inside.next c.len-count.ensures.ascending c.self.invariant.few _ _ _ _ _ _
    c.as_slice.ensures.value c.in-Ok.ensures.keys c.in-Ok.ensures.started c.in-Ok.ensures.ids c.keep_wanted.ensures c.in-Ok.ensures.next)
    ∙ ap (λ (s : Limbo). ended c.args.wanted.now s.running) c.self.view_is

pub returns-in-Ok-clause-started : goal.returns-in-Ok-clause-started
returns-in-Ok-clause-started c = first_is c.args.wanted.now c.self.inside.ids.items c.self.inside.keys.keys c.self.inside.next c.len-count.ensures.ascending c.self.invariant.few _ _ _ _ _ _
    c.as_slice.ensures.value c.in-Ok.ensures.keys c.in-Ok.ensures.started c.in-Ok.ensures.ids c.keep_wanted.ensures c.in-Ok.ensures.next
    ∙ started_is c.args.wanted.now c.self.inside.ids.items c.self.inside.keys.keys c.self.inside.next c.len-count.ensures.ascending c.self.invariant.few
    ∙ ap (started c.args.wanted.now) c.self.view_is

pub returns-in-Ok-clause-held : goal.returns-in-Ok-clause-held
returns-in-Ok-clause-held c = λ key.
    ap (λ s. has (held s) key) (done_is c.args.wanted.now c.self.inside.ids.items c.self.inside.keys.keys c.self.inside.next c.len-count.ensures.ascending c.self.invariant.few _ _ _ _ _ _
    c.as_slice.ensures.value c.in-Ok.ensures.keys c.in-Ok.ensures.started c.in-Ok.ensures.ids c.keep_wanted.ensures c.in-Ok.ensures.next)
    ∙ same_held c.args.wanted.now c.self.inside.ids.items c.self.inside.keys.keys c.self.inside.next c.len-count.ensures.ascending c.self.invariant.few key

pub returns-in-Ok-clause-full : goal.returns-in-Ok-clause-full
returns-in-Ok-clause-full c =
    let s = seen c.self.inside.ids.items c.self.inside.keys.keys c.self.inside.next in
    subst (λ (s : Limbo). 0 < length s.waiting → has_place (length s.running) s.next ≡ false)
    (sym (done_is c.args.wanted.now c.self.inside.ids.items c.self.inside.keys.keys c.self.inside.next c.len-count.ensures.ascending c.self.invariant.few _ _ _ _ _ _
    c.as_slice.ensures.value c.in-Ok.ensures.keys c.in-Ok.ensures.started c.in-Ok.ensures.ids c.keep_wanted.ensures c.in-Ok.ensures.next))
    (waits (kept c.args.wanted.now s.running) (queue c.args.wanted.now s) s.next)
