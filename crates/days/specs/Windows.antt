-- A step's window as it is written in a file. Assumes nothing.
use Rattle.std.specs.Prelude.{ℕ, ◌+◌, Bool, true, false, ◌&&◌, nat_le}
use Rattle.language.specs.Clauses as clauses
use Rattle.days.specs.declared.windows.Counted.{Counted}
use Rattle.days.specs.declared.windows.Counted.TheVariants.{FromBase, ByCalendar}
use Rattle.days.specs.declared.windows.Window.{Window}

-- The day of a number, counted so.
abbrev pub counted : Counted → ℕ → ℕ → ℕ
counted FromBase base n = base + n
counted ByCalendar base n = n

abbrev pub by_calendar : Counted → Bool
by_calendar FromBase = false
by_calendar ByCalendar = true

-- From the base, or by the calendar.
abbrev pub window : Counted → ℕ → ℕ → clauses.Window
window FromBase u v = clauses.from_base u v
window ByCalendar u v = clauses.calendar u v

abbrev pub meant : Window → clauses.Window
meant w = window w.counted w.first w.last

-- A day lies in a window by a base, ends included.
abbrev pub within : clauses.Window → ℕ → ℕ → Bool
within w base day = nat_le (clauses.first w base) day && nat_le day (clauses.last w base)
