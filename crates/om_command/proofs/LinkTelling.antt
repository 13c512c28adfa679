-- What is told of a link.
use Rattle.std.proofs.Common.{◌≡◌, ℕ, Bool, List, sym, subst, inl, inr, arith}
use Rattle.std.specs.Prelude.{IsTrue}
use Rattle.om_alpha.specs.declared.op.Level.{Level}
use Rattle.om_io.specs.Causes.{Rose}
use Rattle.om_object.specs.declared.parts.Parts.{Parts}
use Rattle.om_resolve.specs.Program.{program_of}
use Rattle.om_command.specs.LinkAnswers.{HasLinked, IsLinkCause, IsLinkOf, LinkFailsNot, LinkAnswers}
use Rattle.om_command.specs.LinkStops.{link_status, link_line}
use Rattle.om_command.specs.NoPrograms.{no_program_status, no_program_line}
use Rattle.om_command.specs.Programs.{FilesHaveCause, FilesHoldProgram}
use Rattle.om_command.specs.Telling.{IsSaid, IsSaidOrWanting}
use Rattle.om_command.specs.World.{World}
use Rattle.om_command.specs.declared.link_stop.LinkStop.{LinkStop}
use Rattle.om_command.specs.declared.link_stop.LinkStop.TheVariants.{NoProgram, WriteFault}
use Rattle.om_command.specs.declared.no_program.NoProgram.{NoProgram as NoProgramCause}
use Rattle.om_command.proofs.Causing.{cause_told, no_program_there}
use Rattle.om_command.proofs.Linked.{held_program}
use Rattle.om_command.proofs.Telling.{same_or_wanting, told_want, no_program_some, not_zero_said}

link_some : (s : LinkStop) → link_status s ≡ 0 → ⊥
link_some (NoProgram t) e = no_program_some t e
link_some WriteFault e = absurd (omega (arith, e))

module _ (at : Level) (out : List ℕ) (names : List (List ℕ)) (old new : World) (status : ℕ) where
  -- ---- done

  link_of : HasLinked at out names old.files new.files → IsTrue old.files.tells → IsLinkOf at out names old.files new.files
  link_of h tells = record {
    objects = h.holds.objects;
    held = record { loaded = h.holds.loaded.loaded; uncaused = h.holds.image.link.uncaused };
    image = h.linked.image;
    bytes = h.linked.bytes;
    saved = h.saves.there (subst (λ (b : Bool). IsTrue b) (sym h.holds.loaded.loads.tells) tells);
    read = h.holds.read;
    is = h.holds.image;
  }

  pub link_done : HasLinked at out names old.files new.files → status ≡ 0 → new.err ≡ old.err → new.input ≡ old.input → new.out ≡ old.out →
      LinkAnswers at out names old new status
  link_done h zero silent input out_kept = record {
    answer = inl (record { status_is = zero; silent = silent; has = h });
    linked = λ z tells. link_of h tells;
    refused = λ cause tells have.
        absurd (no_program_there names cause old.files h.loaded (program_of h.holds.objects) tells have
        (held_program at names old.files h.loaded h.linked h.holds));
    complete = λ objects tells have nothing. inl zero;
    input = input;
    out_kept = out_kept;
  }

  -- ---- not done

  told_cause : (stop : LinkStop) → IsLinkCause at stop out names old.files new.files → IsSaid (link_status stop) (link_line names stop) status old.err new.err →
      (cause : NoProgramCause) → IsTrue old.files.tells → FilesHaveCause names cause old.files →
      IsSaidOrWanting (no_program_status cause) (no_program_line names cause) status old.err new.err
  told_cause (NoProgram t) is told cause tells have =
      same_or_wanting names cause t status old.err new.err (cause_told names cause t old.files new.files tells have is) told
  told_cause WriteFault is told cause tells have =
      absurd (no_program_there names cause old.files is.loaded (program_of is.holds.objects) tells have
      (held_program at names old.files is.loaded is.linked is.holds))

  only_want : (stop : LinkStop) → IsLinkCause at stop out names old.files new.files → IsSaid (link_status stop) (link_line names stop) status old.err new.err →
      (objects : List Parts) → IsTrue old.files.tells → FilesHoldProgram names objects old.files → LinkFailsNot old new → status ≡ 8
  only_want (NoProgram t) is told objects tells have nothing =
      told_want names objects t old.files new.files status old.err new.err tells have is nothing.loads nothing.err told
  only_want WriteFault is told objects tells have nothing =
      absurd (nothing.saves (subst (λ (f : ℕ). Rose f new.files.failed_saves) is.holds.loaded.loads.no_save is.fails.failed))

  pub link_stopped : (stop : LinkStop) → IsLinkCause at stop out names old.files new.files → IsSaid (link_status stop) (link_line names stop) status old.err new.err →
      new.input ≡ old.input → new.out ≡ old.out → LinkAnswers at out names old new status
  link_stopped stop cause told input out_kept = record {
    answer = inr (record { stop = stop; cause = cause; told = told });
    linked = λ zero tells. absurd (not_zero_said (link_status stop) (link_line names stop) status old.err new.err (link_some stop) told zero);
    refused = told_cause stop cause told;
    complete = λ objects tells have nothing. inr (only_want stop cause told objects tells have nothing);
    input = input;
    out_kept = out_kept;
  }
