-- What is told of files that are no program, and lines that are put whole or in part.
use Rattle.std.proofs.Common.{◌≡◌, ◌⊎◌, ◌∙◌, ℕ, List, refl, sym, subst, inl, inr, arith}
use Rattle.std.specs.Prelude.{IsTrue, codes}
use Rattle.om_io.specs.Causes.{Rose}
use Rattle.om_object.specs.declared.parts.Parts.{Parts}
use Rattle.om_resolve.specs.declared.causes.ResolveErr.{ResolveErr}
use Rattle.om_resolve.specs.declared.causes.ResolveErr.TheVariants as resolve
use Rattle.om_command.specs.Loading.{item_at, StopsAt}
use Rattle.om_command.specs.NoPrograms.{file_status, file_line, resolve_status, resolve_line, no_program_status, no_program_line}
use Rattle.om_command.specs.Programs.{FilesHoldProgram, AreNoProgram}
use Rattle.om_command.specs.Telling.{IsSaid, IsSaidOrWanting}
use Rattle.om_command.specs.World.{Files, Stream}
use Rattle.om_command.specs.declared.loading.FileStop.{FileStop}
use Rattle.om_command.specs.declared.loading.FileStop.TheVariants as file
use Rattle.om_command.specs.declared.no_program.NoProgram.{NoProgram as NoProgramCause}
use Rattle.om_command.specs.declared.no_program.NoProgram.TheVariants.{File, Objects}
use Rattle.om_command.proofs.Causing.{IsWant, IsWanting, no_cause_told}

-- ---- a cause is told

abbrev pub Wanting : ℕ → Stream → Stream → Type 0
Wanting status old new = IsSaid 6 (codes "read fault\n") status old new ⊎ IsSaid 8 (codes "no memory\n") status old new

wanting_file : (name : List ℕ) (stop : FileStop) (status : ℕ) (old new : Stream) → IsWant stop → IsSaid (file_status stop) (file_line name stop) status old new →
    Wanting status old new
wanting_file name file.ReadFault status old new want said = inl said
wanting_file name file.NoMemory status old new want said = inr said
wanting_file name file.Missing status old new (inl e) said = absurd cc
wanting_file name file.Missing status old new (inr e) said = absurd cc
wanting_file name file.TooLong status old new (inl e) said = absurd cc
wanting_file name file.TooLong status old new (inr e) said = absurd cc
wanting_file name (file.Rule rule at) status old new (inl e) said = absurd cc
wanting_file name (file.Rule rule at) status old new (inr e) said = absurd cc

wanting : (names : List (List ℕ)) (told : NoProgramCause) (status : ℕ) (old new : Stream) → IsWanting told →
    IsSaid (no_program_status told) (no_program_line names told) status old new → Wanting status old new
wanting names (File r) status old new want said = wanting_file (item_at names r.place) r.stop status old new want said
wanting names (Objects e) status old new want said =
    inr (subst (λ (x : ResolveErr). IsSaid (resolve_status x) (resolve_line names x) status old new) want said)

pub same_or_wanting : (names : List (List ℕ)) (cause told : NoProgramCause) (status : ℕ) (old new : Stream) → (told ≡ cause) ⊎ IsWanting told →
    IsSaid (no_program_status told) (no_program_line names told) status old new →
    IsSaidOrWanting (no_program_status cause) (no_program_line names cause) status old new
same_or_wanting names cause told status old new (inl same) said =
    inl (subst (λ (x : NoProgramCause). IsSaid (no_program_status x) (no_program_line names x) status old new) same said)
same_or_wanting names cause told status old new (inr want) said = inr (wanting names told status old new want said)

-- ---- lines

-- where no put failed, what is said has its status
pub said_whole : (said : ℕ) (line : List ℕ) (status faults : ℕ) (before new : Stream) → before.faults ≡ faults → (Rose faults new.faults → ⊥) →
    IsSaid said line status before new → status ≡ said
said_whole said line status faults before new same none (inl whole) = whole.0
said_whole said line status faults before new same none (inr front) = absurd (none (subst (λ (f : ℕ). Rose f new.faults) same front.1.fault))

-- a put that failed before a line was put failed, whatever came of the line
pub rose_later : (faults : ℕ) (said : ℕ) (line : List ℕ) (status : ℕ) (before new : Stream) → Rose faults before.faults → IsSaid said line status before new → Rose faults new.faults
rose_later faults said line status before new rose (inl whole) = subst (λ (f : ℕ). Rose faults f) (sym whole.1.no_fault) rose
rose_later faults said line status before new rose (inr front) = omega (arith, rose, front.1.fault)

-- ---- want

stopped_file : (names : List (List ℕ)) (place : ℕ) (stop : FileStop) (old new : Files) (status : ℕ) (before after : Stream) → IsWant stop →
    StopsAt names place stop old new → (Rose old.failed_loads new.failed_loads → ⊥) → (Rose before.faults after.faults → ⊥) →
    IsSaid (file_status stop) (file_line (item_at names place) stop) status before after → status ≡ 8
stopped_file names place file.ReadFault old new status before after want at loads puts said = absurd (loads at.cause.0)
stopped_file names place file.NoMemory old new status before after want at loads puts said = said_whole 8 _ status before.faults before after refl puts said
stopped_file names place file.Missing old new status before after (inl e) at loads puts said = absurd cc
stopped_file names place file.Missing old new status before after (inr e) at loads puts said = absurd cc
stopped_file names place file.TooLong old new status before after (inl e) at loads puts said = absurd cc
stopped_file names place file.TooLong old new status before after (inr e) at loads puts said = absurd cc
stopped_file names place (file.Rule rule offset) old new status before after (inl e) at loads puts said = absurd cc
stopped_file names place (file.Rule rule offset) old new status before after (inr e) at loads puts said = absurd cc

by_want : (names : List (List ℕ)) (t : NoProgramCause) (old new : Files) (status : ℕ) (before after : Stream) → IsWanting t →
    AreNoProgram names t old new → (Rose old.failed_loads new.failed_loads → ⊥) → (Rose before.faults after.faults → ⊥) →
    IsSaid (no_program_status t) (no_program_line names t) status before after → status ≡ 8
by_want names (File r) old new status before after want is loads puts said = stopped_file names r.place r.stop old new status before after want is loads puts said
by_want names (Objects e) old new status before after want is loads puts said =
    said_whole 8 _ status before.faults before after refl puts
    (subst (λ (x : ResolveErr). IsSaid (resolve_status x) (resolve_line names x) status before after) want said)

-- where the files hold a program, and no load and no put failed, memory ran out
pub told_want : (names : List (List ℕ)) (objects : List Parts) (t : NoProgramCause) (old new : Files) (status : ℕ) (before after : Stream) → IsTrue old.tells →
    FilesHoldProgram names objects old → AreNoProgram names t old new → (Rose old.failed_loads new.failed_loads → ⊥) →
    (Rose before.faults after.faults → ⊥) → IsSaid (no_program_status t) (no_program_line names t) status before after → status ≡ 8
told_want names objects t old new status before after tells have is loads puts said =
    by_want names t old new status before after (no_cause_told names objects t old new tells have is) is loads puts said

-- ---- statuses that are not 0

file_some : (s : FileStop) → file_status s ≡ 0 → ⊥
file_some file.Missing e = absurd (omega (arith, e))
file_some file.TooLong e = absurd (omega (arith, e))
file_some (file.Rule rule at) e = absurd (omega (arith, e))
file_some file.ReadFault e = absurd (omega (arith, e))
file_some file.NoMemory e = absurd (omega (arith, e))

resolve_some : (c : ResolveErr) → resolve_status c ≡ 0 → ⊥
resolve_some (resolve.Duplicate name a b) e = absurd (omega (arith, e))
resolve_some (resolve.Unresolved name a) e = absurd (omega (arith, e))
resolve_some (resolve.Rule a rule at) e = absurd (omega (arith, e))
resolve_some (resolve.Limit which total) e = absurd (omega (arith, e))
resolve_some (resolve.TooFar from words) e = absurd (omega (arith, e))
resolve_some resolve.NoMemory e = absurd (omega (arith, e))

pub no_program_some : (t : NoProgramCause) → no_program_status t ≡ 0 → ⊥
no_program_some (File r) e = file_some r.stop e
no_program_some (Objects c) e = resolve_some c e

-- what is said with a status that is not 0 leaves none that is
pub not_zero_said : (said : ℕ) (line : List ℕ) (status : ℕ) (before after : Stream) → (said ≡ 0 → ⊥) → IsSaid said line status before after → status ≡ 0 → ⊥
not_zero_said said line status before after some (inl whole) zero = some (sym whole.0 ∙ zero)
not_zero_said said line status before after some (inr front) zero = absurd (omega (arith, front.0, zero))
