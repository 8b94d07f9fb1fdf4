use Rattle.std.proofs.Common.{◌∙◌, option_map, sym, ap}
use Rattle.query_tests.specs.Shelf.{find_in, stored_of}
use Rattle.query_tests.proofs.Holding.{got}
use Rattle.query_tests.proofs.shelf.ShelfDocuments.document.Goals as goal

pub returns-in-Some-clause-document : goal.returns-in-Some-clause-document
returns-in-Some-clause-document c =
    ap (option_map stored_of) c.in-Some.ensures ∙ ap (λ hs. option_map stored_of (find_in hs c.args.key.now)) c.as_slice.ensures.value ∙ sym (got c.args.self.now.documents.items c.args.key.now)

pub returns-in-None-clause-document : goal.returns-in-None-clause-document
returns-in-None-clause-document c =
    ap (option_map stored_of) c.in-None.ensures ∙ ap (λ hs. option_map stored_of (find_in hs c.args.key.now)) c.as_slice.ensures.value ∙ sym (got c.args.self.now.documents.items c.args.key.now)
