use Rattle.durable_state.specs.News.{AreLast}
use Rattle.durable_state.proofs.news.last_places.Given as goal

abbrev pub invariant-loop-place : goal.invariant-loop-place
invariant-loop-place l = AreLast l.place l.changes l.places.entries
