-- What a sink in memory is seen as.
use Rattle.std.specs.Prelude.{ℕ, List}
use Rattle.om_io.specs.declared.memory_sink.MemSink.{MemSink}
use Rattle.om_io.specs.declared.schedule.Schedule.{Schedule}

-- the bytes that were written
abbrev pub written_in : MemSink → List ℕ
written_in s = s.bytes.items

-- how many bytes it has room for, with those that were written
abbrev pub room_of : MemSink → ℕ
room_of s = s.room

-- the puts so far, and those that are to fail
abbrev pub schedule_of : MemSink → Schedule
schedule_of s = s.schedule

-- how many puts failed
abbrev pub faults_of : MemSink → ℕ
faults_of s = s.faults
