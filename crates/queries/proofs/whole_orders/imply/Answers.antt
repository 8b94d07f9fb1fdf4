use Rattle.std.proofs.Common.{◌≡◌, subst}
use Rattle.std.specs.List.{Contains}
use Rattle.std.proofs.lemmas.Result.{on_ok_weaker}
use Rattle.document_keys.specs.KeySet.{Inserts}
use Rattle.queries.specs.Holding.{name_path}
use Rattle.queries.specs.Orders.{paths_of}
use Rattle.queries.proofs.Gathered.{implies_from}
use Rattle.queries.proofs.whole_orders.imply.Goals as goal

pub returns : goal.returns
returns c =
    let other : c.args.path.now ≡ name_path → ⊥ = λ e. let yes = c.is_document_name.ensures.1 e in let no = c.if-is_document_name.false in cc (yes, no) in
    let unnamed : Contains (paths_of c.args.explicit.now) c.args.path.now → ⊥ = λ there. let yes = c.are_by.ensures.1 there in let no = c.if-are_by.false in cc (yes, no) in
    on_ok_weaker c.insert.result (λ inserts. implies_from c.args.explicit.now c.args.path.now c.args.paths.now c.insert.new.self other unnamed (subst (λ p. Inserts p c.args.paths.now c.insert.new.self) (c.in_ok-copy.ensures {u = tt}) inserts)) c.insert.ensures.done
