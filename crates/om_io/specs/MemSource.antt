-- What a source in memory is seen as.
use Rattle.std.specs.Prelude.{ℕ, List, drop}
use Rattle.om_io.specs.declared.memory_source.MemSource.{MemSource}
use Rattle.om_io.specs.declared.schedule.Schedule.{Schedule}

-- the bytes that are left
abbrev pub left_of : MemSource → List ℕ
left_of s = drop s.at s.bytes.items

-- the reads so far, and those that are to fail
abbrev pub schedule_of : MemSource → Schedule
schedule_of s = s.schedule

-- how many reads failed
abbrev pub faults_of : MemSource → ℕ
faults_of s = s.faults
