use Rattle.std.proofs.Common.{◌∙◌}
use Rattle.host_api.proofs.Memories.{is_fresh}
use Rattle.host_api.proofs.memory_host.MemHost.new.Goals as goal

pub returns : goal.returns
returns c = is_fresh _ _ _ _ _ _ c.new.ensures (c.in_ok-copied.ensures ∙ c.deref.ensures.value) (c.in_ok-copied-2.ensures ∙ c.deref-2.ensures.value)
