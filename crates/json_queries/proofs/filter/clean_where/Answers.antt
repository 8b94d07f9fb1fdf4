use Rattle.json_queries.proofs.Stored.{where_stored}
use Rattle.json_queries.proofs.filter.clean_where.Goals as goal

pub returns-in_ok-clean_filter-in-Some-clause-storable : goal.returns-in_ok-clean_filter-in-Some-clause-storable
returns-in_ok-clean_filter-in-Some-clause-storable c = where_stored _ _ _ _ c.in-Some.is c.requires c.in_ok-clean_filter-in-Some.ensures.filter c.in_ok-clean_filter-in-Some.ensures.storable
