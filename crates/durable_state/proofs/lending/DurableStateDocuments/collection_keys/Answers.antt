use Rattle.std.proofs.Common.{inl, inr, subst}
use Rattle.durable_state.specs.Tables.{AreLaid, Tables, state_in}
use Rattle.durable_state.proofs.Lent.{has_document}
use Rattle.durable_state.proofs.lending.DurableStateDocuments.collection_keys.Goals as goal

pub returns : goal.returns
returns c =
    let laid = subst (λ (t : Tables). AreLaid (state_in t) c.self.inside.overlays) c.self.view_is c.self.invariant.laid in
    let e = c.in_ok-keys.ensures in
    let table = c.self.inside.overlays in
    record {
      ascending = e.ascending;
      members = λ key. (
        λ there. elim ((e.members key).0 there) [
          | inl over ↦ let both = (c.in_ok-laid.ensures.members key).0 over in (both.0, (has_document (state_in c.args.self.now) table key laid).1 (inl both.1))
          | inr plain ↦ let all = (c.in_ok-plain.ensures.members key).0 plain in (all.0, (has_document (state_in c.args.self.now) table key laid).1 (inr (all.1, all.2)))
        ],
        λ both. (e.members key).1 (elim ((has_document (state_in c.args.self.now) table key laid).0 both.1) [
          | inl some ↦ inl ((c.in_ok-laid.ensures.members key).1 (both.0, some))
          | inr plain ↦ inr ((c.in_ok-plain.ensures.members key).1 (both.0, plain.0, plain.1))
        ]),
      );
    }
