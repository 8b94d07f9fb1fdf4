use Rattle.std.proofs.Common.{◌∙◌, ◌<ℤ◌, arith, length, refl, sym, ap, subst}
use Rattle.std.specs.List.{AllPairs}
use Rattle.limbo_listens.specs.Listens.{Listens, Settles}
use Rattle.limbo_listens.proofs.Rising.{changed_ascend, few_end, few_start, put_both}
use Rattle.limbo_listens.proofs.Settled.{kept_settled}
use Rattle.limbo_listens.proofs.Shown.{are_in_limbo}
use Rattle.limbo_listens.proofs.listens.LimboListens.settle.Goals as goal

pub push_ended-requires : goal.push_ended-requires
push_ended-requires c =
    let few = few_end c.in_ok-wanted.wanted c.self.inside.resolver c.in_ok-wanted.ensures.ascending c.self.invariant.sound in
    let ends = ap length (c.as_slice.ensures.value ∙ c.in_ok-change.ensures.ended) in
    let exact = c.in_ok-ids.ensures.exact in
    let none = c.in_ok-ids.ensures.len in
    omega (arith, few, ends, exact, none)

pub push_started-requires : goal.push_started-requires
push_started-requires c =
    let few = few_end c.in_ok-wanted.wanted c.self.inside.resolver c.in_ok-wanted.ensures.ascending c.self.invariant.sound in
    let also = few_start c.in_ok-wanted.wanted c.self.inside.resolver c.in_ok-wanted.ensures.ascending c.self.invariant.sound in
    let ends = ap length (c.as_slice.ensures.value ∙ c.in_ok-change.ensures.ended) in
    let starts = ap length (c.as_slice-2.ensures.value ∙ c.in_ok-change.ensures.started) in
    let exact = c.in_ok-ids.ensures.exact in
    let none = c.in_ok-ids.ensures.len in
    let room = c.push_ended.ensures.capacity in
    let now = c.push_ended.ensures.len in
    omega (arith, few, also, ends, starts, exact, none, room, now)

pub invariant_of-self-2 : goal.invariant_of-self-2
invariant_of-self-2 c =
    let are = are_in_limbo c.self.inside.shown c.self.inside.resolver c.in_ok-wanted.wanted c.in_ok-wanted.ensures.ordered c.in_ok-wanted.ensures.ascending c.in_ok-wanted.ensures.members in
    kept_settled (record { shown = c.self.inside.shown.entries; limbo = c.self.inside.resolver }) c.in_ok-wanted.wanted c.update.new.self _ are c.in_ok-change.ensures.done c.in_ok-change.ensures.held c.in_ok-change.ensures.full c.self.invariant.sound

pub returns-clause-done : goal.returns-clause-done
returns-clause-done c =
    let are = are_in_limbo c.self.inside.shown c.self.inside.resolver c.in_ok-wanted.wanted c.in_ok-wanted.ensures.ordered c.in_ok-wanted.ensures.ascending c.in_ok-wanted.ensures.members in
    let items = put_both c.in_ok-ids.ids.items c.push_ended.new.ids.items c.push_started.new.ids.items _ _ _ _ c.in_ok-ids.ensures.items c.push_ended.ensures.items c.push_started.ensures (c.as_slice.ensures.value ∙ c.in_ok-change.ensures.ended) (c.as_slice-2.ensures.value ∙ c.in_ok-change.ensures.started) in
    subst (λ (l : Listens). Settles l (record { shown = c.self.inside.shown.entries; limbo = c.update.new.self }) c.push_started.new.ids.items) c.self.view_is
    (record { wanted = c.in_ok-wanted.wanted; are = are; limbo = c.in_ok-change.ensures.done; same = λ id. refl; changed_are = items })

pub returns-clause-ascending : goal.returns-clause-ascending
returns-clause-ascending c =
    let items = put_both c.in_ok-ids.ids.items c.push_ended.new.ids.items c.push_started.new.ids.items _ _ _ _ c.in_ok-ids.ensures.items c.push_ended.ensures.items c.push_started.ensures (c.as_slice.ensures.value ∙ c.in_ok-change.ensures.ended) (c.as_slice-2.ensures.value ∙ c.in_ok-change.ensures.started) in
    subst (AllPairs ◌<ℤ◌) (sym items) (changed_ascend c.in_ok-wanted.wanted c.self.inside.resolver c.in_ok-wanted.ensures.ascending c.self.invariant.sound)
