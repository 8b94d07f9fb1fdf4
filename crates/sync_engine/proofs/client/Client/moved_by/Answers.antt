use Rattle.sync_engine.proofs.client.Client.moved_by.Goals as goal

pub returns : goal.returns
returns c = record {
  ascending = c.in_ok-ids.ensures.ascending;
  concerned = λ key among id concerned. c.in_ok-ids.ensures.all id (c.put_linked.ensures.kept id (c.in_ok-put_touched.ensures.each key among id concerned));
  linked = λ id t among is. c.in_ok-ids.ensures.all id (c.in_ok-put_linked.ensures.each id t among is);
}
