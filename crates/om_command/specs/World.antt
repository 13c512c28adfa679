-- What the outside of a command tells: its files and its streams.
use Rattle.std.specs.Prelude.{◌≡◌, ◌⊎◌, ◌++◌, ◌==◌, if◌then◌else◌, ℕ, Bool, List, Option, Some}
use Rattle.om_io.specs.Causes.{Rose}

-- A store: whether it tells what its files hold, the files by name, the counts of failed loads and saves, the name of the
-- last load that failed, and how many loads and saves were asked for
pub record Files : Type 0 where
  pub tells : Bool
  pub file : List ℕ → Option (List ℕ)
  pub failed_loads : ℕ
  pub failed_saves : ℕ
  pub last_failed : Option (List ℕ)
  pub loads_asked : ℕ
  pub saves_asked : ℕ

-- A source or a sink: what is left or was written, where it tells, and how often it has failed
pub record Stream : Type 0 where
  pub told : Option (List ℕ)
  pub faults : ℕ

abbrev pub stream : Option (List ℕ) → ℕ → Stream
stream told faults = record { told = told; faults = faults }

-- the streams of a run
pub record Streams : Type 0 where
  pub input : Stream
  pub out : Stream
  pub err : Stream

abbrev pub streams : Stream → Stream → Stream → Streams
streams input out err = record { input = input; out = out; err = err }

-- this is left of the input, and this was written on the descriptors 1 and 2 behind what was there before, where the streams tell
pub record Stand (left on_1 on_2 : List ℕ) (old new : Streams) : Type 0 where
  pub input : new.input.told ≡ Some left
  pub out : (before : List ℕ) → old.out.told ≡ Some before → new.out.told ≡ Some (before ++ on_1)
  pub err : (before : List ℕ) → old.err.told ≡ Some before → new.err.told ≡ Some (before ++ on_2)

-- what stands on the descriptors 1 and 2 once these bytes were put on one of them
abbrev pub on_out : ℕ → List ℕ → List ℕ → List ℕ
on_out descriptor written bytes = if descriptor == 1 then written ++ bytes else written

abbrev pub on_err : ℕ → List ℕ → List ℕ → List ℕ
on_err descriptor written bytes = if descriptor == 1 then written else written ++ bytes

-- no call of a stream failed
pub record Faultless (old new : Streams) : Type 0 where
  pub input : new.input.faults ≡ old.input.faults
  pub out : new.out.faults ≡ old.out.faults
  pub err : new.err.faults ≡ old.err.faults

-- a read failed, and no put
pub record FaultOfInput (old new : Streams) : Type 0 where
  pub input : Rose old.input.faults new.input.faults
  pub out : new.out.faults ≡ old.out.faults
  pub err : new.err.faults ≡ old.err.faults

-- a put failed, and no read
pub record FaultOfSink (old new : Streams) : Type 0 where
  pub input : new.input.faults ≡ old.input.faults
  pub sinks : Rose old.out.faults new.out.faults ⊎ Rose old.err.faults new.err.faults

pub record World : Type 0 where
  pub files : Files
  pub input : Stream
  pub out : Stream
  pub err : Stream

abbrev pub files_of : Bool → (List ℕ → Option (List ℕ)) → ℕ → ℕ → Option (List ℕ) → ℕ → ℕ → Files
files_of tells file failed_loads failed_saves last_failed loads_asked saves_asked = record {
  tells = tells;
  file = file;
  failed_loads = failed_loads;
  failed_saves = failed_saves;
  last_failed = last_failed;
  loads_asked = loads_asked;
  saves_asked = saves_asked;
}

abbrev pub world : Files → Stream → Stream → Stream → World
world files input out err = record { files = files; input = input; out = out; err = err }

abbrev pub streams_of : World → Streams
streams_of w = streams w.input w.out w.err

-- nothing of the store or the input was asked for, and nothing was put on `out`
pub record IsUntouched (old new : World) : Type 0 where
  pub files : new.files ≡ old.files
  pub input : new.input ≡ old.input
  pub out : new.out ≡ old.out

-- no load, no read of the input and no put failed
pub record NothingFails (old new : World) : Type 0 where
  pub loads : Rose old.files.failed_loads new.files.failed_loads → ⊥
  pub input : Rose old.input.faults new.input.faults → ⊥
  pub out : Rose old.out.faults new.out.faults → ⊥
  pub err : Rose old.err.faults new.err.faults → ⊥
