-- what is printed of the lines that were handed out
use Rattle.std.proofs.Common.{◌≡◌, ℕ, ℤ, ◌+◌, ◌<◌, ◌^◌, suc, zero, List, [], ◌∷◌, ◌++◌, length, take, get_or, Option, Some, None, IfSome, append-nil, refl, sym, ap, subst, ◌∙◌, arith}
use Rattle.std.specs.List.{AllZip, slice_get}
use Rattle.std.proofs.Math.Seq.{take-length}
use Rattle.std.proofs.lemmas.Grind.{flat_map-append}
use Rattle.std.proofs.lemmas.List.{take_more}
use Rattle.document_keys.specs.Names.{Root}
use Rattle.line_printer.specs.Lines.{document_tree, line_of, send_write_tree}
use Rattle.local_store.specs.State.{State}
use Rattle.mutations.specs.declared.batch.Batch.{Batch}
use Rattle.mutations.specs.declared.results.WriteRequest.TheVariants.{Batch as a_batch}
use Rattle.mutations.specs.declared.write.Write.{Write}
use Rattle.target_cache.specs.Cache.{IsRow}
use Rattle.target_cache.specs.Kept.{TellsRow}
use Rattle.target_cache.specs.declared.row.Row.{Row}
use Rattle.write_pipeline.specs.Order.{latest_token}
use Rattle.client_turns.specs.Writing.{first_batch}
use Rattle.local_store.specs.Documents.{document_of, standing_of}
use Rattle.local_store.specs.Store.{Store}
use Rattle.sync_engine.specs.declared.out.Out.TheVariants.{Document}
use Rattle.client_turns.specs.Lines.{Line}
use Rattle.sync_engine.specs.Standing.{ComesAs, Kept}
use Rattle.sync_engine.specs.Telling.{IsSent, IsShown}
use Rattle.sync_engine.specs.declared.out.Out.{Out}
use Rattle.client_run.specs.Printed.{text_of, tree_of}
use Rattle.client_run.specs.Taken.{AreShown}

-- ---- one line after another

-- the line of an item, where each item has one
pub shown_at : {X Y : Type 0} (R : X → Y → Type 0) (xs : List X) (ys : List Y) (i : ℕ) (x : X) → AllZip R xs ys → i < length xs → x ≡ get_or xs i x → (y : Y) × R x y
shown_at R [] ys i x all inside is = absurd (omega (arith, inside))
shown_at R (a ∷ xs) [] i x all inside is = absurd all
shown_at R (a ∷ xs) (b ∷ ys) zero x all inside is = (b, subst (λ (z : _). R z b) (sym is) all.0)
shown_at R (a ∷ xs) (b ∷ ys) (suc i) x all inside is = shown_at R xs ys i x all.1 (omega (arith, inside)) is

-- the lines of some items and of one more
pub record Splits {X Y : Type 0} (R : X → Y → Type 0) (xs : List X) (x : X) (lines : List Y) : Type 0 where
  pub front : List Y
  pub last : Y
  pub whole : lines ≡ front ++ last ∷ []
  pub first : AllZip R xs front
  pub one : R x last

splits : {X Y : Type 0} (R : X → Y → Type 0) (xs : List X) (x : X) (lines : List Y) → AllZip R (xs ++ x ∷ []) lines → Splits R xs x lines
splits R [] x [] all = absurd all
splits R [] x (l ∷ []) all = record { front = []; last = l; whole = refl; first = tt; one = all.0 }
splits R [] x (l ∷ (m ∷ lines)) all = absurd all.1
splits R (a ∷ xs) x [] all = absurd all
splits R (a ∷ xs) x (l ∷ lines) all =
    let rest = splits R xs x lines all.1 in
    record { front = l ∷ rest.front; last = rest.last; whole = ap (λ (ls : List _). l ∷ ls) rest.whole; first = (all.0, rest.first); one = rest.one }

pub no_text : (client : Kept) (text : List ℕ) (lines : List Line) → text ≡ [] → AreShown client [] lines → text ≡ text_of client.root lines
no_text client text [] none all = none
no_text client text (l ∷ lines) none all = absurd all

pub more_text : (client : Kept) (outs : List Out) (i : ℕ) (out : Out) (old new line : List ℕ) → i < length outs → out ≡ get_or outs i out → new ≡ old ++ line
    → ((lines : List Line) → AreShown client (take i outs) lines → old ≡ text_of client.root lines) → ((l : Line) → IsShown client out l → line ≡ line_of (tree_of client.root l))
    → (lines : List Line) → AreShown client (take (i + 1) outs) lines → new ≡ text_of client.root lines
more_text client outs i out old new line inside is grown before one lines all =
    let taken : take (i + 1) outs ≡ take i outs ++ out ∷ [] = take_more outs i out inside ∙ ap (λ (o : Out). take i outs ++ o ∷ []) (sym is) in
    let parts = splits (IsShown client) (take i outs) out lines (subst (λ (os : List Out). AreShown client os lines) taken all) in
    grown ∙ ap (λ (t : List ℕ). t ++ line) (before parts.front parts.first) ∙ ap (λ (t : List ℕ). text_of client.root parts.front ++ t) (one parts.last parts.one ∙ sym (append-nil (line_of (tree_of client.root parts.last))))
    ∙ sym (flat_map-append (λ l. line_of (tree_of client.root l)) parts.front (parts.last ∷ [])) ∙ ap (text_of client.root) (sym parts.whole)

pub all_text : (client : Kept) (outs : List Out) (i : ℕ) (text : List ℕ) → i ≡ length outs → ((lines : List Line) → AreShown client (take i outs) lines → text ≡ text_of client.root lines) → (lines : List Line) → AreShown client outs lines → text ≡ text_of client.root lines
all_text client outs i text whole are lines all =
    are lines (subst (λ (os : List Out). AreShown client os lines) (sym (ap (λ n. take n outs) whole ∙ take-length outs)) all)

-- the document of a key
pub document_printed : (client : Kept) (root : Root) (store : Store) (key : List (List ℕ)) (text : List ℕ) → root ≡ client.root → store ≡ client.store → text ≡ line_of (document_tree root key (document_of store.state key) (standing_of store.state key))
    → (line : Line) → IsShown client (Document key) line → text ≡ line_of (tree_of client.root line)
document_printed client root store key text roots stores is line shown =
    is ∙ ap (λ (r : Root). line_of (document_tree r key (document_of store.state key) (standing_of store.state key))) roots
    ∙ ap (λ (s : Store). line_of (document_tree client.root key (document_of s.state key) (standing_of s.state key))) stores
    ∙ ap (λ (l : Line). line_of (tree_of client.root l)) (sym shown)

-- ---- requests on the stream of listeners

-- a target that has a row is found
pub row_found : (rows held : List Row) (id asked : ℤ) (row : Row) → rows ≡ held → asked ≡ id → IsRow held id row → TellsRow rows asked None → ⊥
row_found rows held id asked row same back is none = none row (subst (λ (z : ℤ). IsRow rows z row) (sym back) (subst (λ (rs : List Row). IsRow rs id row) (sym same) is))

-- ---- turns

-- ---- pending batches

-- eight bytes have the id of the first batch of a state
pub small_first : (s : State) (bs : List Batch) (batch : Batch) → bs ≡ s.batches → slice_get bs 0 ≡ Some batch → batch.id < 2 ^ 64 → IfSome (first_batch s) (λ b. b.id < 2 ^ 64)
small_first s bs batch same first small =
    subst (λ (l : List Batch). IfSome (slice_get l 0) (λ b. b.id < 2 ^ 64)) same (subst (λ (found : Option Batch). IfSome found (λ b. b.id < 2 ^ 64)) (sym first) small)

some_one : {A : Type 0} (x y : A) → Some x ≡ Some y → x ≡ y
some_one x y same = cc

-- the request of a batch is printed from what the client lends
pub sent_printed : (client : Kept) (place : ℕ) (root : Root) (store : Store) (bs : List Batch) (batch : Batch) (token : List ℕ) (writes : List Write) (text : List ℕ) → root ≡ client.root → store ≡ client.store → bs ≡ store.state.batches → slice_get bs place ≡ Some batch
    → ComesAs client.writes (λ h. token ≡ latest_token h) → writes ≡ batch.writes → text ≡ line_of (send_write_tree root (a_batch token writes)) → (line : Line) → IsSent client place line → text ≡ line_of (tree_of client.root line)
sent_printed client place root store bs batch token writes text roots stores batches there tokens written is line sent =
    let same : bs ≡ client.store.state.batches = batches ∙ ap (λ (s : Store). s.state.batches) stores in
    let one : batch ≡ sent.batch = some_one batch sent.batch (sym there ∙ ap (λ (l : List Batch). slice_get l place) same ∙ sent.there) in
    let tok : token ≡ latest_token sent.steps = tokens sent.steps sent.stands in
    is ∙ (λ i. line_of (send_write_tree (roots i) (a_batch (tok i) ((written ∙ ap (λ (b : Batch). b.writes) one) i)))) ∙ ap (λ (l : Line). line_of (tree_of client.root l)) (sym sent.is)
