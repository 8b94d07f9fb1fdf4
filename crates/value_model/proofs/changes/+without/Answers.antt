use Rattle.std.proofs.Common.{◌∙◌, ◌+◌, ◌≤◌, [], length, get_or, drop, sym, ap, arith}
use Rattle.std.proofs.lemmas.List.{drop_more}
use Rattle.std.proofs.lemmas.Result.{IfOk-weaker}
use Rattle.value_model.specs.Changes.{without_value_at}
use Rattle.value_model.specs.Data.{null}
use Rattle.value_model.specs.View.{kind_data}
use Rattle.value_model.proofs.Removing.{mapped, left_alone, nothing_in, filled_again, last_done, last_gone, last_missing, none_done, none_gone, some_done, some_gone, some_missing}
use Rattle.value_model.proofs.changes.+without.Goals as goal

pub without_inner-returns-in_ok-rest-in-Map-clause-done : goal.without_inner-returns-in_ok-rest-in-Map-clause-done
without_inner-returns-in_ok-rest-in-Map-clause-done t c =
    let names = drop c.args.from c.args.path.now in
    let taken = c.in_ok-rest-in-Map.ensures.done ∙ ap (λ fields. without_value_at fields names) c.in_ok-into_fields-in-Map.ensures in
    let whole = mapped c.args.value c.in-Map.fields c.in_ok-rest-in-Map.rest names (sym (ap kind_data c.in-Map.is) ∙ c.value.view_is) taken in
    IfOk-weaker c.map.result _ _ (λ d is. is ∙ whole) c.map.ensures

pub without_inner-returns-in_default : goal.without_inner-returns-in_default
without_inner-returns-in_default t c =
    let names = drop_more c.args.path.now c.args.from [] c.requires in
    record {
      done = left_alone c.value.inside.kind c.args.value (drop c.args.from c.args.path.now) c.in_default.not-Map c.value.view_is;
      gone = nothing_in c.value.inside.kind (get_or c.args.path.now c.args.from []) (drop c.args.from c.args.path.now) (drop (c.args.from + 1) c.args.path.now) names c.in_default.not-Map;
      missing = λ empty. c.value.view_is;
    }

pub without_member-overflow_add-from : goal.without_member-overflow_add-from
without_member-overflow_add-from t c =
    let below = c.requires in
    let count = c.len-names.ensures.count in
    let fits = c.len-names.type_inv in
    omega arith

pub without_member-returns-then-from-names-clause-done : goal.without_member-returns-then-from-names-clause-done
without_member-returns-then-from-names-clause-done t c =
    let count = c.len-names.ensures.count in
    let last : length c.args.path.now ≤ c.args.from + 1 = let here = c.if-from-names.true in omega arith in
    c.remove.ensures.done ∙ last_done c.args.fields c.args.path.now c.args.from c.in-Some.name.now (sym c.in-Some.ensures) last

pub without_member-returns-then-from-names-clause-gone : goal.without_member-returns-then-from-names-clause-gone
without_member-returns-then-from-names-clause-gone t c =
    let count = c.len-names.ensures.count in
    let last : length c.args.path.now ≤ c.args.from + 1 = let here = c.if-from-names.true in omega arith in
    rw c.remove.ensures.done (last_gone c.args.fields c.args.path.now c.args.from c.in-Some.name.now (sym c.in-Some.ensures) last c.len-count.ensures.fields)

pub without_member-returns-then-from-names-clause-missing : goal.without_member-returns-then-from-names-clause-missing
without_member-returns-then-from-names-clause-missing t c none =
    let count = c.len-names.ensures.count in
    let last : length c.args.path.now ≤ c.args.from + 1 = let here = c.if-from-names.true in omega arith in
    c.remove.ensures.done ∙ last_missing c.args.fields c.args.path.now c.args.from c.in-Some.name.now (sym c.in-Some.ensures) last none

pub without_member-without_inner-requires : goal.without_member-without_inner-requires
without_member-without_inner-requires t c =
    let below = c.requires in
    let count = c.len-names.ensures.count in
    let here = c.if-from-names.false in
    (omega arith, omega arith)

pub without_member-returns-clause-done : goal.without_member-returns-clause-done
without_member-returns-clause-done t c =
    let count = c.len-names.ensures.count in
    let below = c.requires in
    let here = c.if-from-names.false in
    let put = filled_again c.replace-2.result c.args.fields c.replace.new.self c.in-Some.name.now null c.in_ok-rest.rest c.replace-2.new.self c.replace-2.ensures.before c.in-Some-replace.ensures.there c.replace-2.ensures.there in
    some_done c.args.fields c.args.path.now c.args.from c.in-Some.name.now (sym c.in-Some.ensures) (omega arith) c.in-Some-replace.inner c.in_ok-rest.rest c.replace.new.self c.replace-2.new.self (sym c.in-Some-replace.ensures.before) c.in_ok-rest.ensures.done c.in-Some-replace.ensures.there put

pub without_member-returns-clause-gone : goal.without_member-returns-clause-gone
without_member-returns-clause-gone t c =
    let put = filled_again c.replace-2.result c.args.fields c.replace.new.self c.in-Some.name.now null c.in_ok-rest.rest c.replace-2.new.self c.replace-2.ensures.before c.in-Some-replace.ensures.there c.replace-2.ensures.there in
    some_gone c.args.fields c.args.path.now c.args.from c.in-Some.name.now (sym c.in-Some.ensures) c.in_ok-rest.rest c.replace.new.self c.replace-2.new.self c.in_ok-rest.ensures.gone put

pub without_member-returns-clause-missing : goal.without_member-returns-clause-missing
without_member-returns-clause-missing t c none =
    let put = filled_again c.replace-2.result c.args.fields c.replace.new.self c.in-Some.name.now null c.in_ok-rest.rest c.replace-2.new.self c.replace-2.ensures.before c.in-Some-replace.ensures.there c.replace-2.ensures.there in
    some_missing c.args.fields c.args.path.now c.args.from c.in-Some.name.now (sym c.in-Some.ensures) c.in-Some-replace.inner c.in_ok-rest.rest c.replace.new.self c.replace-2.new.self c.len-count.ensures.fields (sym c.in-Some-replace.ensures.before) c.in_ok-rest.ensures.missing c.in-Some-replace.ensures.there put none

pub without_member-returns-in_default-replace-clause-done : goal.without_member-returns-in_default-replace-clause-done
without_member-returns-in_default-replace-clause-done t c =
    let count = c.len-names.ensures.count in
    let below = c.requires in
    let here = c.if-from-names.false in
    none_done c.args.fields c.args.path.now c.args.from c.in-Some.name.now (sym c.in-Some.ensures) (omega arith) c.replace.new.self (sym c.in_default-replace.ensures.before) c.in_default-replace.ensures.missing

pub without_member-returns-in_default-replace-clause-gone : goal.without_member-returns-in_default-replace-clause-gone
without_member-returns-in_default-replace-clause-gone t c =
    none_gone c.args.fields c.args.path.now c.args.from c.in-Some.name.now (sym c.in-Some.ensures) c.replace.new.self (sym c.in_default-replace.ensures.before) c.in_default-replace.ensures.missing
