use Rattle.std.proofs.Common.{◌↔◌, IsTrue, subst}
use Rattle.std.specs.List.{Contains}
use Rattle.local_store.specs.Documents.{touched_keys_of}
use Rattle.local_store.specs.Store.{Store}
use Rattle.local_store.proofs.lending.LocalStoreDocuments.touched.Goals as goal

pub returns : goal.returns
returns c = subst (λ (s : Store). IsTrue c.touched.result ↔ Contains (touched_keys_of s.state) c.args.key.now) c.self.view_is c.touched.ensures
