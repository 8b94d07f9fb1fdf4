-- the documents that a snapshot lends
use Rattle.std.proofs.Common.{◌≡◌, ◌≤◌, ◌∙◌, ℕ, List, length, Option, Some, None, true, ◌<◌, IfSome, MatchOption, ltb, option_map, sym, ap, subst}
use Rattle.std.proofs.lemmas.Bool.{ltb-true}
use Rattle.std.specs.FinMap as map
use Rattle.std.specs.List.{All, slice_get}
use Rattle.std.proofs.lemmas.List.Elements.{All-get_or}
use Rattle.std.proofs.lemmas.Option.{slice_get_within, get_or_from_slice_get}
use Rattle.value_model.specs.declared.documents.DocRef.{DocRef}
use Rattle.views.specs.Printed.{printed, stored_of}
use Rattle.views.specs.Row.{Row, row, IsPrinted}
use Rattle.views.specs.Snapshot.{Lent, LendsAt}
use Rattle.views.proofs.PrintedRows.{printed_none}

-- the row at an index has what is printed of its document
printed_at : (lent : Lent) (index : ℕ) (r : Row) → All (IsPrinted lent.documents) lent.raised.rows → slice_get lent.raised.rows index ≡ Some r → IsPrinted lent.documents r
printed_at lent index r all at =
    subst (IsPrinted lent.documents) (get_or_from_slice_get lent.raised.rows index r r at) (All-get_or (IsPrinted lent.documents) lent.raised.rows index r (slice_get_within lent.raised.rows index r at) all)

-- what the store lends of that row's key is lent at the index
pub lends_at : (lent : Lent) (index : ℕ) (r : Row) (result : Option DocRef) → All (IsPrinted lent.documents) lent.raised.rows → slice_get lent.raised.rows index ≡ Some r
    → option_map stored_of result ≡ map.get lent.documents r.key → IfSome result (λ d. d.key.now ≡ r.key) → MatchOption result (length lent.raised.rows ≤ index) (LendsAt lent index)
lends_at lent index r None all at there key = absurd (printed_none lent.documents r there (printed_at lent index r all at))
lends_at lent index r (Some d) all at there key =
    let found : Some (printed (stored_of d)) ≡ Some r.document = ap (option_map printed) there ∙ printed_at lent index r all at in
    let document : printed (stored_of d) ≡ r.document = cc in
    record {
      stored = ap (map.get lent.documents) key ∙ sym there;
      shown = at ∙ sym (λ i. Some (row (key i) (document i)));
    }

pub within_by : (index : ℕ) (rows : List Row) → true ≡ ltb index (length rows) → index < length rows
within_by index rows test = ltb-true index (length rows) (sym test)
