use Rattle.std.proofs.Common.{◌∙◌, ap, sym, length, nat_eq, nat_lt}
use Rattle.std.specs.List.{count_by}
use Rattle.queries.specs.Filters.{composite_of}
use Rattle.queries.specs.Rules.{is_marked, is_array_filter}
use Rattle.queries.specs.View.{kind_data}
use Rattle.queries.proofs.Nodes.{list_filters}
use Rattle.queries.proofs.filter.Filter.is_marked.Goals as goal

pub returns-in-BadList : goal.returns-in-BadList
returns-in-BadList c =
    let kind = sym c.self.view_is ∙ ap kind_data c.in-Composite.is in
    c.is_empty.ensures ∙ ap (λ l. nat_eq (length l) 0) (c.as_slice.ensures.value ∙ sym (list_filters c.in-Composite.filters.items)) ∙ sym (λ i. is_marked (c.in-BadList.is i) (kind i))

pub returns-in-And : goal.returns-in-And
returns-in-And c =
    let kind = sym c.self.view_is ∙ ap kind_data c.in-Composite.is ∙ ap (λ op. composite_of op c.in-Composite.filters.items) c.in-And.is in
    ap (nat_lt 1) (c.count_array_filters.ensures ∙ ap (count_by is_array_filter) (sym (list_filters c.in-Composite.filters.items))) ∙ sym (λ i. is_marked (c.in-RepeatedArrayFilter.is i) (kind i))
