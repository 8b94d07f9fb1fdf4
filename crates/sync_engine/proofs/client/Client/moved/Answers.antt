use Rattle.sync_engine.proofs.client.Client.moved.Goals as goal

pub returns : goal.returns
returns c = record {
  ascending = c.in_ok-ids.ensures.ascending;
  concerned = λ e among id concerned. c.in_ok-ids.ensures.all id (c.put_pointed.ensures.kept id (c.put_current.ensures.kept id (c.in_ok-put_concerned.ensures.each e among id concerned)));
  was = λ id t is some. c.in_ok-ids.ensures.all id (c.put_pointed.ensures.kept id (c.in_ok-put_current.ensures.each id t is some));
  now = λ id target among current is. c.in_ok-ids.ensures.all id (c.in_ok-put_pointed.ensures.each id target among current is);
}
