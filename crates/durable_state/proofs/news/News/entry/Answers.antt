use Rattle.std.proofs.Common.{◌≡◌, ◌∙◌, ◌<◌, List, Some, None, length, option_map, sym, ap, arith}
use Rattle.std.specs.Map.{lookup}
use Rattle.document_keys.specs.KeySet.{is_key}
use Rattle.mutation_queue.proofs.Tables.{same_test}
use Rattle.outcome_codec.specs.declared.parts.KeyedEntry.{KeyedEntry}
use Rattle.durable_state.specs.News.{AreLast, put_at}
use Rattle.durable_state.proofs.Newest.{last_found, none_there}
use Rattle.durable_state.proofs.news.News.entry.Goals as goal

pub returns-in_err-place : goal.returns-in_err-place
returns-in_err-place c =
    let cs = c.self.inside.changes.now in
    let key = c.args.key.now in
    let table = c.in-Some.places.entries in
    let are : AreLast (length cs) cs table = c.self.invariant c.in-Some.places c.in-Some.is in
    let found : None ≡ lookup (is_key key) table = sym c.in_err-place.was ∙ c.copied.ensures ∙ c.get.ensures.value ∙ ap (λ test. lookup (test key) table) same_test in
    ap (option_map (λ e. e.now)) c.from_residual.ensures ∙ none_there cs table key are found ∙ ap (λ (l : List KeyedEntry). put_at l key) c.self.view_is

pub bounds-self-inside-place : goal.bounds-self-inside-place
bounds-self-inside-place c =
    let cs = c.self.inside.changes.now in
    let key = c.args.key.now in
    let table = c.in-Some.places.entries in
    let are : AreLast (length cs) cs table = c.self.invariant c.in-Some.places c.in-Some.is in
    let found : Some c.in_ok-place.place ≡ lookup (is_key key) table = sym c.in_ok-place.was ∙ c.copied.ensures ∙ c.get.ensures.value ∙ ap (λ test. lookup (test key) table) same_test in
    are.within key c.in_ok-place.place (sym found)

pub offset_bounds-self-inside-place : goal.offset_bounds-self-inside-place
offset_bounds-self-inside-place c =
    let cs = c.self.inside.changes.now in
    let key = c.args.key.now in
    let table = c.in-Some.places.entries in
    let are : AreLast (length cs) cs table = c.self.invariant c.in-Some.places c.in-Some.is in
    let found : Some c.in_ok-place.place ≡ lookup (is_key key) table = sym c.in_ok-place.was ∙ c.copied.ensures ∙ c.get.ensures.value ∙ ap (λ test. lookup (test key) table) same_test in
    let below : c.in_ok-place.place < length cs = are.within key c.in_ok-place.place (sym found) in
    omega (arith, below, c.self.told)

pub returns : goal.returns
returns c =
    let cs = c.self.inside.changes.now in
    let key = c.args.key.now in
    let table = c.in-Some.places.entries in
    let are : AreLast (length cs) cs table = c.self.invariant c.in-Some.places c.in-Some.is in
    let found : Some c.in_ok-place.place ≡ lookup (is_key key) table = sym c.in_ok-place.was ∙ c.copied.ensures ∙ c.get.ensures.value ∙ ap (λ test. lookup (test key) table) same_test in
    ap (λ (x : KeyedEntry). Some x.entry) (sym c.index-self-place.is) ∙ last_found cs table key c.in_ok-place.place c.index-self-place.result are found c.index-self-place.is ∙ ap (λ (l : List KeyedEntry). put_at l key) c.self.view_is
