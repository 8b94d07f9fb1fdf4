-- How the reader of a field path goes on at a character. Only the reader's own steps are said here: what a text is read
-- as is said in `Paths`.
use Rattle.std.specs.Prelude.{ℕ, ◌==◌, if◌then◌else◌}
use Rattle.document_keys.specs.declared.spelling.Place.{Place}
use Rattle.document_keys.specs.declared.spelling.Place.TheVariants.{Start, Plain, Quoted, Escaped, Closed}
use Rattle.document_keys.specs.declared.spelling.Step.{Step}
use Rattle.document_keys.specs.declared.spelling.Step.TheVariants.{Enter, Push, Finish, Stop}
use Rattle.document_keys.specs.Paths.{is_name_start, is_name_part, is_escaped}

abbrev pub step : Place → ℕ → Step
step Start c = if c == 96 then Enter Quoted else (if is_name_start c then Push Plain else Stop)
step Plain c = if c == 46 then Finish else (if is_name_part c then Push Plain else Stop)
step Quoted c = if c == 92 then Enter Escaped else (if c == 96 then Enter Closed else Push Quoted)
step Escaped c = if is_escaped c then Push Quoted else Stop
step Closed c = if c == 46 then Finish else Stop
