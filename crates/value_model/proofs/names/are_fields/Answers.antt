use Rattle.value_model.proofs.names.are_fields.Goals as goal

pub returns-then-have_field_names : goal.returns-then-have_field_names
returns-then-have_field_names c =
    let names = c.have_field_names.ensures.0 c.if-have_field_names.true in
    (λ given. record { names = names; ascending = c.are_ascending.ensures.0 given }, λ both. c.are_ascending.ensures.1 both.ascending)
