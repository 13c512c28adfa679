-- The calls that an object in memory is told to fail.
use Rattle.std.specs.Prelude.{◌==◌, Bool}
use Rattle.std.specs.List.{list_any}
use Rattle.om_io.specs.Causes.{raised}
use Rattle.om_io.specs.declared.schedule.Schedule.{Schedule}

-- the next call is one of those that are to fail
abbrev pub is_due : Schedule → Bool
is_due s = list_any (λ number. number == s.calls) s.fails.items

-- what the schedule is after one more call
abbrev pub after_call : Schedule → Schedule
after_call s = record s { calls = raised s.calls }
