-- What is told of runs and listings of images.
use Rattle.std.proofs.Common.{◌≡◌, ◌≢◌, ◌⊎◌, ◌∙◌, Bool, cond, ℕ, zero, suc, List, Option, Some, None, length, refl, sym, ap, subst, inl, inr, arith}
use Rattle.std.specs.Prelude.{IsTrue}
use Rattle.std.proofs.lemmas.Bool.{ne_eqb}
use Rattle.std.proofs.lemmas.Option.{same_Some, none-some}
use Rattle.om_fields.specs.Rules.{Breaks}
use Rattle.om_image.specs.NumRun.{num_run}
use Rattle.om_image.specs.NumState.{NumEnd, Exited, Trapped}
use Rattle.om_image.specs.Rules.{image_of, image_rules}
use Rattle.om_image.specs.declared.image.Image.{Image}
use Rattle.om_io.specs.Causes.{Rose}
use Rattle.om_command.specs.ImageStops.{HoldsImage, FileHoldsImage, IsUnread, IsNotRead, image_status, image_line}
use Rattle.om_command.specs.ListAnswers.{ListFailsNot, HasListed, ListAnswers}
use Rattle.om_command.specs.RunAnswers.{IsRun, RunEnds, EndsRun, HasRun, RunAnswers}
use Rattle.om_command.specs.RunStops.{RunTold, run_status, run_line, num_end_status}
use Rattle.om_command.specs.StoreCalls.{LoadsOne}
use Rattle.om_command.specs.Telling.{IsSaid}
use Rattle.om_command.specs.World.{Files, Stream, Streams, World, streams_of}
use Rattle.om_command.specs.declared.image_stop.ImageStop.{ImageStop}
use Rattle.om_command.specs.declared.image_stop.ImageStop.TheVariants as image
use Rattle.om_command.specs.declared.run_stop.RunStop.{RunStop}
use Rattle.om_command.specs.declared.run_stop.RunStop.TheVariants.{ReadFault, WriteFault, NoMemory, Exit, Trap, Steps}
use Rattle.om_command.proofs.Telling.{said_whole, rose_later}

-- ---- runs

said_of : (stop : RunStop) (status : ℕ) (old new : Stream) → stop ≢ Exit 0 → RunTold stop status old new →
    IsSaid (run_status stop) (run_line stop) status old new
said_of stop status old new other (inl silent) = absurd (other silent.0)
said_of stop status old new other (inr said) = said.1

not_zero : (n : ℕ) → num_end_status (Some (Exited (suc n))) ≡ 1
not_zero n = ap (λ (b : Bool). cond b 0 1) (ne_eqb (suc n) 0 (λ e. absurd (omega (arith, e))))

exit_status : (n : ℕ) (status faults : ℕ) (before new : Stream) → before.faults ≡ faults → (Rose faults new.faults → ⊥) →
    RunTold (Exit n) status before new → status ≡ num_end_status (Some (Exited n))
exit_status zero status faults before new same none (inl silent) = silent.1
exit_status zero status faults before new same none (inr said) = absurd (said.0 refl)
exit_status (suc n) status faults before new same none (inl silent) = absurd cc
exit_status (suc n) status faults before new same none (inr said) = said_whole 1 _ status faults before new same none said.1 ∙ sym (not_zero n)

-- where nothing fails, a run comes to its last step, or memory runs out before it
module _ (i : Image) (steps : ℕ) (old new : Streams) (status : ℕ) (before : Stream) (input : List ℕ) (told_input : old.input.told ≡ Some input)
    (no_read : Rose old.input.faults new.input.faults → ⊥) (no_out : Rose old.out.faults new.out.faults → ⊥) (no_err : Rose old.err.faults new.err.faults → ⊥) where
  abbrev Came : Type 0
  Came = EndsRun i input steps old (record new { err = before }) status ⊎ (status ≡ 8)

  came_to : (end : Option NumEnd) → RunEnds i steps end old (record new { err = before }) → status ≡ num_end_status end → Came
  came_to end ran is =
      let at = ran.1 input told_input in
      inl (record { stands = at.0; status_is = is ∙ ap num_end_status (sym at.1) })

  pub run_came : (stop : RunStop) → IsRun stop i steps old (record new { err = before }) → RunTold stop status before new.err → Came
  run_came (Exit n) is told = came_to (Some (Exited n)) is (exit_status n status old.err.faults before new.err is.0.err no_err told)
  run_came (Trap kind at) is told =
      came_to (Some (Trapped kind at)) is
      (said_whole 4 _ status old.err.faults before new.err is.0.err no_err (said_of (Trap kind at) status before new.err (λ e. let never : ⊥ = cc in never) told))
  run_came (Steps n) is told =
      came_to None is.1
      (said_whole 5 _ status old.err.faults before new.err is.1.0.err no_err (said_of (Steps n) status before new.err (λ e. let never : ⊥ = cc in never) told))
  run_came ReadFault is told = absurd (no_read is.0.input)
  run_came WriteFault is told =
      elim is.0.sinks [
        | inl out ↦ absurd (no_out out)
        | inr err ↦ absurd (no_err (rose_later old.err.faults _ _ status before new.err err (said_of WriteFault status before new.err (λ e. let never : ⊥ = cc in never) told)))
      ]
  run_came NoMemory is told =
      inr (said_whole 8 _ status old.err.faults before new.err (ap (λ (s : Streams). s.err.faults) is) no_err
      (said_of NoMemory status before new.err (λ e. let never : ⊥ = cc in never) told))

-- ---- images in files

same_image : (name : List ℕ) (files : Files) (i j : Image) → IsTrue files.tells → FileHoldsImage name files i → HoldsImage name files j → j ≡ i
same_image name files i j tells has holds =
    let bytes : holds.bytes ≡ has.bytes = same_Some holds.bytes has.bytes (sym (holds.there tells) ∙ has.there) in
    holds.read.image ∙ ap (λ (b : List ℕ). image_of b) bytes ∙ sym has.read.image

-- where an image is there and nothing fails, it is read, unless memory runs out
read_or_want : (name : List ℕ) (old new : World) (status : ℕ) (i : Image) → IsTrue old.files.tells → FileHoldsImage name old.files i →
    (Rose old.files.failed_loads new.files.failed_loads → ⊥) → (Rose old.err.faults new.err.faults → ⊥) → (stop : ImageStop) →
    IsUnread stop name old.files new.files → IsSaid (image_status stop) (image_line stop name) status old.err new.err → status ≡ 8
read_or_want name old new status i tells has loads puts image.Missing unread said = absurd (none-some has.bytes (sym (unread.0 tells) ∙ has.there))
read_or_want name old new status i tells has loads puts image.TooLong unread said =
    let more = unread.0 tells in
    let same : length more.0 ≡ length has.bytes = ap (λ (b : List ℕ). length b) (same_Some more.0 has.bytes (sym more.1 ∙ has.there)) in
    absurd (omega (arith, same, more.2, has.short))
read_or_want name old new status i tells has loads puts (image.Rule rule at) unread said =
    let same : unread.0.bytes ≡ has.bytes = same_Some unread.0.bytes has.bytes (sym (unread.0.there tells) ∙ has.there) in
    absurd (has.read.unbroken.nowhere rule at (subst (λ (b : List ℕ). Breaks image_rules b rule at) same unread.0.broken.broken))
read_or_want name old new status i tells has loads puts image.ReadFault unread said = absurd (loads unread.0)
read_or_want name old new status i tells has loads puts image.NoMemory unread said = said_whole 8 _ status old.err.faults old.err new.err refl puts said

pub run_answers : (steps : ℕ) (name : List ℕ) (old new : World) (status : ℕ) → LoadsOne old.files new.files →
    IsNotRead name old new status ⊎ HasRun steps name old new status → RunAnswers steps name old new status
run_answers steps name old new status files (inl none) = record {
  files = files;
  answer = inl none;
  complete = λ i input tells has told nothing. inr (read_or_want name old new status i tells has nothing.loads nothing.err none.stop none.unread none.told);
}
run_answers steps name old new status files (inr ran) = record {
  files = files;
  answer = inr ran;
  complete = λ i input tells has told nothing.
      let same = same_image name old.files i ran.image tells has ran.held in
      elim (run_came ran.image steps (streams_of old) (streams_of new) status ran.runs.before_line input told nothing.input nothing.out nothing.err ran.runs.stop ran.runs.run ran.runs.told) [
        | inl ends ↦ inl (ends.status_is ∙ ap (λ (j : Image). num_end_status (num_run j input steps).end) same)
        | inr want ↦ inr want
      ];
}

listed : (name : List ℕ) (old new : World) (status : ℕ) → HasListed name old new status → ListFailsNot old new → status ≡ 0
listed name old new status has nothing =
    elim has.lists [ inl whole ↦ whole.0 | inr front ↦ absurd (nothing.out front.0.fault) ]

pub list_answers : (name : List ℕ) (old new : World) (status : ℕ) → LoadsOne old.files new.files →
    IsNotRead name old new status ⊎ HasListed name old new status → ListAnswers name old new status
list_answers name old new status files (inl none) = record {
  files = files;
  answer = inl none;
  complete = λ i tells has nothing. inr (read_or_want name old new status i tells has nothing.loads nothing.err none.stop none.unread none.told);
}
list_answers name old new status files (inr has_listed) = record {
  files = files;
  answer = inr has_listed;
  complete = λ i tells has nothing. inl (listed name old new status has_listed nothing);
}
