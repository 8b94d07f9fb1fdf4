-- What an opening finds.
use Rattle.std.proofs.Common.{Bool, ℕ, List, [], IsTrue, refl, sym, subst}
use Rattle.host_api.specs.declared.host.FileId.{FileId}
use Rattle.host_api.specs.declared.host.FileId.TheVariants.{Zero, One}
use Rattle.host_api.specs.Host.{Files, View, Stays}
use Rattle.disk_journal.specs.File.{AreBlank, Gives, GoesOn, IsForeign, IsFirstForeign}
use Rattle.disk_journal.specs.Steps.{Opens}
use Rattle.disk_journal.specs.Opening.{IsCause}
use Rattle.disk_journal.specs.declared.fault.OpenFault.{OpenFault}
use Rattle.disk_journal.specs.declared.fault.OpenFault.TheVariants as fault
use Rattle.disk_journal.proofs.Pairs.{gives_once, none_foreign}
use Rattle.local_store.specs.State.{State, start, Replays, LeadsTo}
use Rattle.local_store.specs.Files.{FindsState, IsNoStore, IsRefused, Refuses}

foreign_of : (file : FileId) (files : Files) → IsFirstForeign file files → IsForeign (files file)
foreign_of Zero files is = is
foreign_of One files is = is.1

not_blank_of : (file : FileId) (files : Files) → IsForeign (files file) → AreBlank files → ⊥
not_blank_of Zero files foreign are = foreign.not_blank are.0
not_blank_of One files foreign are = foreign.not_blank are.1

pub refused_is_none : (file : FileId) (files : Files) → IsRefused file files → IsNoStore files
refused_is_none file files (IsRefused.foreign is) s finds = none_foreign files finds.generation finds.payloads file finds.gives (foreign_of file files is)
refused_is_none file files (IsRefused.no_commits none goes_on g ps gives stuck) s finds =
    let same = gives_once files g ps finds.generation finds.payloads gives finds.gives in
    stuck s (subst (λ (n : ℕ). LeadsTo n ps s) (sym same.0) (subst (λ (l : List (List ℕ)). LeadsTo finds.generation l s) (sym same.1) finds.leads))

-- a foreign file is no store, and stays
foreign_refuses : (file : FileId) (old new : View) → IsFirstForeign file old.bytes → Opens old new → IsRefused file old.bytes × Stays old new
foreign_refuses file old new is opens = (IsRefused.foreign is, opens.kept (not_blank_of file old.bytes (foreign_of file old.bytes is)))

pub journal_refuses : (tells : Bool) (f : OpenFault) (old new : View) → IsTrue tells → IsCause tells f old new → Opens old new → Refuses f old new
journal_refuses tells fault.DiskFault old new told cause opens = tt
journal_refuses tells (fault.NotAStore file) old new told cause opens = foreign_refuses file old new (cause told) opens
journal_refuses tells fault.NoMemory old new told cause opens = tt

-- files that are blank find the empty state
blank_finds : {files : Files} → AreBlank files → FindsState files start
blank_finds are = record { generation = 1; payloads = []; gives = Gives.fresh are refl refl; leads = record { first = refl; replays = refl } }

-- over files that are no store an opening changes nothing
pub no_store_stays : {old new : View} → IsNoStore old.bytes → Opens old new → Stays old new
no_store_stays none opens = opens.kept (λ are. none start (blank_finds are))

-- payloads that lead to no state are no store's, and nothing changes
pub stuck_refuses : (file : FileId) (old new : View) (g : ℕ) (ps : List (List ℕ)) → Gives old.bytes g ps → GoesOn old.bytes file → ((s : State) → LeadsTo g ps s → ⊥) → Opens old new → IsRefused file old.bytes × Stays old new
stuck_refuses file old new g ps gives goes_on stuck opens =
    let refused = IsRefused.no_commits (λ each. none_foreign old.bytes g ps each gives) goes_on g ps gives stuck in
    (refused, no_store_stays (refused_is_none file old.bytes refused) opens)

-- what a replay finds, in the words of an opening
pub none_found : {ps : List (List ℕ)} {g : ℕ} → ((s : State) → Replays start ps s → ⊥) → (s : State) → LeadsTo g ps s → ⊥
none_found none s leads = none s leads.replays
