-- What a message that names a document makes of what is kept of one id, step by step, and of all.
use Rattle.std.specs.Prelude.{ℤ, Bool, true, false, ◌&&◌, not, if◌then◌else◌, List}
use Rattle.std.specs.List.{list_any}
use Rattle.std.specs.Ordering.{int_eq}
use Rattle.document_keys.specs.KeySet.{is_key, with_key, without_key}
use Rattle.value_model.specs.declared.message.DocumentChange.{DocumentChange}
use Rattle.watch_aggregator.specs.declared.watched.Watched.{Watched}
use Rattle.listen_protocol.specs.Calls.{Key, lists}

-- the set has the key
abbrev pub has_key : Key → List Key → Bool
has_key key keys = list_any (is_key key) keys

-- the change puts its key in: the id counts, and is a target of it only
abbrev pub hits : DocumentChange → Watched → Bool
hits change w = w.counts && (lists change.target_ids w.id && not (lists change.removed_target_ids w.id))

-- the key is put in, which is marked; nothing is done where it is there
abbrev pub put : DocumentChange → Watched → Watched
put change w = if hits change w && not (has_key change.key w.told) then record w { told = with_key change.key w.told; fresh = true } else w

-- what was put in is taken out again
abbrev pub take_back : Key → Watched → Watched
take_back key w = if w.fresh then record w { told = without_key key w.told; fresh = false } else w

-- what was put in stays
abbrev pub settle : Watched → Watched
settle w = record w { fresh = false }

-- the key is taken out where the id counts
abbrev pub take_out : Key → Watched → Watched
take_out key w = if w.counts then record w { told = without_key key w.told } else w

-- done for one id, and for several
abbrev pub for_id : ℤ → (Watched → Watched) → Watched → Watched
for_id id f w = if int_eq id w.id then f w else w

abbrev pub for_ids : List ℤ → (Watched → Watched) → Watched → Watched
for_ids ids f w = if lists ids w.id then f w else w
