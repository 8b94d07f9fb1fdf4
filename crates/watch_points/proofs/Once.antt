-- a point commits once
use Rattle.std.proofs.Common.{◌≡◌, ◌∙◌, ◌⊎◌, inl, inr, ◌<◌, List, Option, Some, sym, subst, arith}
use Rattle.std.specs.List.{Contains}
use Rattle.document_keys.specs.Order.{PathBefore}
use Rattle.document_keys.proofs.Lawful.{ordered}
use Rattle.value_model.specs.declared.document.Entry.{Entry}
use Rattle.value_model.specs.declared.document.Entry.TheVariants.{Missing}
use Rattle.value_model.specs.declared.timestamp.Timestamp.{Timestamp}
use Rattle.listen_protocol.specs.Buffer.{buffered}
use Rattle.listen_protocol.specs.Calls.{Key, Calls}
use Rattle.outcome_codec.specs.declared.parts.KeyedEntry.{KeyedEntry}
use Rattle.outcome_codec.specs.declared.parts.PointRow.{PointRow}
use Rattle.durable_state.specs.Documents.{sealed_entry_of}
use Rattle.durable_state.specs.State.{State}
use Rattle.watch_points.specs.PointCommit.{GetsEntry, Misses, PointsCommitOnce, entry_among}
use Rattle.watch_points.proofs.Listed.{KeysAscend, among_has, has_among}
use Rattle.watch_points.proofs.Lists.{same_lists}
use Rattle.watch_points.proofs.Put.{puts_once}

gets_once : (s : State) (h : Calls) (at : Timestamp) (key : Key) (one two : Option Entry) → GetsEntry s h at key one → GetsEntry s h at key two → one ≡ two
gets_once s h at key one two first second = by first.then_gets second.then_gets
  where
    same : first.put ≡ second.put
    same = puts_once (sealed_entry_of s key) (buffered key h) first.put second.put first.puts second.puts

    by : ((one ≡ Some (Missing at)) × Misses s h at key first.put) ⊎ ((one ≡ first.put) × ¬ (Misses s h at key first.put)) → ((two ≡ Some (Missing at)) × Misses s h at key second.put) ⊎ ((two ≡ second.put) × ¬ (Misses s h at key second.put)) → one ≡ two
    by (inl a) (inl b) = a.0 ∙ sym b.0
    by (inl a) (inr b) = absurd (b.1 (subst (Misses s h at key) same a.1))
    by (inr a) (inl b) = absurd (a.1 (subst (Misses s h at key) (sym same) b.1))
    by (inr a) (inr b) = a.0 ∙ same ∙ sym b.0

members : (es fs : List KeyedEntry) → KeysAscend es → ((k : Key) → entry_among es k ≡ entry_among fs k) → (e : KeyedEntry) → Contains es e → Contains fs e
members es fs ascend same e has = has_among fs e.key e.entry (sym (same e.key) ∙ among_has es ascend e has)

same_entries : (es fs : List KeyedEntry) → KeysAscend es → KeysAscend fs → ((k : Key) → entry_among es k ≡ entry_among fs k) → es ≡ fs
same_entries es fs one two same =
    same_lists (λ (a b : KeyedEntry). PathBefore a.key b.key) (λ x. ordered.strict x.key) (λ x y z. ordered.transitive x.key y.key z.key) es fs one two
    (λ e. (members es fs one same e, members fs es two (λ k. sym (same k)) e))

not_below : (a : PointRow) → ¬ (a.id < a.id)
not_below a before = omega (arith, before)

between : (a b c : PointRow) → a.id < b.id → b.id < c.id → a.id < c.id
between a b c first second = omega (arith, first, second)

pub once : PointsCommitOnce
once s h at entries others rows more one two = (
  same_entries entries others one.keys_ascend two.keys_ascend (λ k. gets_once s h at k (entry_among entries k) (entry_among others k) (one.gets k) (two.gets k)),
  same_lists (λ (a b : PointRow). a.id < b.id) not_below between rows more one.ids_ascend two.ids_ascend
      (λ row. (λ has. (two.has row).1 ((one.has row).0 has), λ has. (one.has row).1 ((two.has row).0 has))),
)
