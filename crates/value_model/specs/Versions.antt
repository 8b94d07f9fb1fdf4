-- Since when an entry is known, and how that stands to a time.
use Rattle.std.specs.Prelude.{◌≡◌, ◌↔◌, ◌<ℤ◌}
use Rattle.value_model.specs.Order.{Earlier}
use Rattle.value_model.specs.Time.{IsMoment, instant}
use Rattle.value_model.specs.declared.document.Entry.{Entry}
use Rattle.value_model.specs.declared.document.Entry.TheVariants.{Found, Missing, Unknown}
use Rattle.value_model.specs.declared.timestamp.Timestamp.{Timestamp}

-- the version of an entry
abbrev pub version_of : Entry → Timestamp
version_of (Found fields version) = version
version_of (Missing version) = version
version_of (Unknown version) = version

-- the entry's version is later than the time
abbrev pub IsAbove : Entry → Timestamp → Type 0
IsAbove entry time = Earlier time (version_of entry)

-- the entry's version is the time
abbrev pub IsOf : Entry → Timestamp → Type 0
IsOf entry time = version_of entry ≡ time

-- of two moments the earlier one by second and nanosecond is the one with fewer nanoseconds since 1970
abbrev pub TimesAreOrdered : Type 0
TimesAreOrdered = (t u : Timestamp) → IsMoment t → IsMoment u → Earlier t u ↔ (instant t <ℤ instant u)
