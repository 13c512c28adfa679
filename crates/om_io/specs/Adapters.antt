-- What the adapters of the real outside adapt, and how often they have failed.
use Rattle.std.specs.Prelude.{ℕ}
use Rattle.om_io.specs.declared.adapters.StdSource.{StdSource}
use Rattle.om_io.specs.declared.adapters.StdSink.{StdSink}
use Rattle.om_io.specs.declared.dir_store.DirStore.{DirStore}
use Rattle.om_io.specs.declared.counts.Counts.{Counts}

-- the reader
abbrev pub reader_of : {R : Type 0} → StdSource R → R
reader_of s = s.inner

-- how many reads failed
abbrev pub source_faults : {R : Type 0} → StdSource R → ℕ
source_faults s = s.faults

-- the writer
abbrev pub writer_of : {W : Type 0} → StdSink W → W
writer_of s = s.inner

-- how many puts failed
abbrev pub sink_faults : {W : Type 0} → StdSink W → ℕ
sink_faults s = s.faults

-- what reaches the folder
abbrev pub folder_of : {R : Type 0} → DirStore R → R
folder_of s = s.files

-- what was asked of the folder, and what failed
abbrev pub folder_counts : {R : Type 0} → DirStore R → Counts
folder_counts s = s.counts
