use Rattle.std.proofs.Common.{◌≡◌, ◌∙◌, List, Some, None, length, sym, ap, subst}
use Rattle.std.specs.Map.{lookup}
use Rattle.std.specs.Option.{unwrap_or}
use Rattle.document_keys.specs.KeySet.{is_key}
use Rattle.mutations.specs.declared.write.Write.{Write}
use Rattle.keyed_writes.specs.Keyed.{AreLinked, IsNext}
use Rattle.keyed_writes.proofs.Steps.{same_test}
use Rattle.keyed_writes.proofs.keyed.KeyedWrites.first.Goals as goal

pub returns-in-Some-get : goal.returns-in-Some-get
returns-in-Some-get c =
    let writes = c.self.inside.writes.now in
    let key = c.args.key.now in
    let are : AreLinked 0 writes c.in-Some.links.firsts.entries c.in-Some.links.nexts.items =
    c.self.invariant c.in-Some.links c.in-Some.is in
    let found : Some c.in-Some-get.place.now ≡ lookup (is_key key) c.in-Some.links.firsts.entries =
    c.in-Some-get.ensures.value ∙ ap (λ test. lookup (test key) c.in-Some.links.firsts.entries) same_test in
    subst (λ (ws : List Write). IsNext ws key 0 c.in-Some-get.place.now) c.self.view_is
    (subst (IsNext writes key 0) (sym (ap (λ o. unwrap_or o (length writes)) found)) (are.first key))

pub returns-in-None : goal.returns-in-None
returns-in-None c =
    let writes = c.self.inside.writes.now in
    let key = c.args.key.now in
    let are : AreLinked 0 writes c.in-Some.links.firsts.entries c.in-Some.links.nexts.items =
    c.self.invariant c.in-Some.links c.in-Some.is in
    let found : None ≡ lookup (is_key key) c.in-Some.links.firsts.entries =
    c.in-None.ensures.value ∙ ap (λ test. lookup (test key) c.in-Some.links.firsts.entries) same_test in
    subst (λ (ws : List Write). IsNext ws key 0 (length writes)) c.self.view_is
    (subst (IsNext writes key 0) (sym (ap (λ o. unwrap_or o (length writes)) found)) (are.first key))
