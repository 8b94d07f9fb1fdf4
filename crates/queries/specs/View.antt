-- What contracts see of each kind of filter.
use Rattle.queries.specs.declared.filter.FilterKind.{FilterKind}
use Rattle.queries.specs.declared.filter.FilterKind.TheVariants.{Composite, Field, Unary}
use Rattle.queries.specs.Filters.{FilterData, composite_of, field, unary}

abbrev pub kind_data : FilterKind → FilterData
kind_data (Composite op filters) = composite_of op filters.items
kind_data (Field path op value) = field path op value
kind_data (Unary path op) = unary path op
