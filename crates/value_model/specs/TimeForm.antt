-- The form of a time, said by its parts (RFC 3339 in UTC): a date, a time of day and a fraction of a second.
use Rattle.std.specs.Prelude.{◌≡◌, ◌↔◌, ℕ, ◌+◌, ◌*◌, ◌<◌, ◌≤◌, true, pos, List, [], ◌∷◌, ◌++◌, Some}
use Rattle.jiff_core.specs.Calendar.{days_from_civil}
use Rattle.value_model.specs.Time.{is_date, nanos_of, two, ymd_text, moment, time_of}
use Rattle.value_model.specs.declared.timestamp.Timestamp.{Timestamp}

-- `HH:MM:SS`
abbrev pub hms_text : ℕ → ℕ → ℕ → List ℕ
hms_text hour minute second = two hour ++ 58 ∷ (two minute ++ 58 ∷ two second)

-- The text is `YYYY-MM-DD`, `T`, `HH:MM:SS`, a fraction and `Z`, of a date that the calendar has in the years 1 to 9999 and a
-- time of day without leap seconds; and the time is that nanosecond of that second of that day.
pub record SpellsTime (text : List ℕ) (time : Timestamp) : Type 0 where
  pub year : ℕ
  pub month : ℕ
  pub day : ℕ
  pub hour : ℕ
  pub minute : ℕ
  pub second : ℕ
  pub fraction : List ℕ
  pub nanos : ℕ
  pub most : year ≤ 9999
  pub date : is_date year month day ≡ true
  pub of_day : (hour < 24) × (minute < 60) × (second < 60)
  pub of_second : nanos_of fraction ≡ Some nanos
  pub text_is : text ≡ ymd_text year month day ++ 84 ∷ (hms_text hour minute second ++ (fraction ++ 90 ∷ []))
  pub time_is : time ≡ moment (days_from_civil (pos year) month day) (3600 * hour + 60 * minute + second) nanos

-- a text is read as a time exactly where it is of the form
abbrev pub TimesHaveTheirForm : Type 0
TimesHaveTheirForm = (text : List ℕ) (time : Timestamp) → (time_of text ≡ Some time) ↔ SpellsTime text time
