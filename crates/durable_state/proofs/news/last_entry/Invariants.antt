use Rattle.std.proofs.Common.{◌≡◌, take, option_map}
use Rattle.durable_state.specs.News.{put_at}
use Rattle.durable_state.proofs.news.last_entry.Given as goal

abbrev pub invariant-loop-change : goal.invariant-loop-change
invariant-loop-change l = option_map (λ e. e.now) l.found ≡ put_at (take l.change-index l.changes) l.key
