-- Two results that meet a contract are the same.
use Rattle.std.proofs.Common.{◌≡◌, ◌⊎◌, inl, inr, refl, sym, ap, ◌∙◌}
use Rattle.std.proofs.lemmas.Option.{none-some}
use Rattle.std.specs.Prelude.{Result, Ok, Err, Option, Some, None, List, ℕ, unwrap_or}
use Rattle.om_prog.specs.declared.errors.ProgErr.{ProgErr}
use Rattle.om_prog.specs.declared.errors.ProgErr.TheVariants as prog
use Rattle.om_prog.specs.Act.{Script}
use Rattle.om_prog.specs.Made.{MakesProgram}
use Rattle.om_prog.specs.Step.{SymState, SymEnd, ExitedWith, TrappedAt, ObservedAt}
use Rattle.om_prog.specs.View.{ProgramView}
use Rattle.om_graph.specs.Lifted.{IsLifted}
use Rattle.om_graph.specs.View.{GraphView}
use Rattle.om_object.specs.declared.parts.Parts.{Parts}
use Rattle.om_resolve.specs.declared.causes.ResolveErr.{ResolveErr}
use Rattle.om_resolve.specs.declared.causes.ResolveErr.TheVariants as resolving
use Rattle.om_resolve.specs.Program.{Resolves}
use Rattle.om_resolve.specs.Causes.{Blames, first_cause}
use Rattle.om_symrun.specs.Steps.{Arrives, IsAnswerOf, RunsTo, sym_steps}
use Rattle.om_symrun.specs.Streams.{Told}
use Rattle.om_symrun.specs.View.{View}
use Rattle.om_symrun.specs.declared.machine.SymStep.{SymStep}
use Rattle.om_symrun.specs.declared.machine.SymStep.TheVariants as step
use Rattle.om_strength_programs.specs.OneAnswer.{IsSame, IsLike, IsDone, AreOneRun}

pub same_program : (v : ProgramView) (r q : Result ProgramView ProgErr) → MakesProgram v r → MakesProgram v q → IsSame prog.NoMemory r q
same_program v (Ok p) (Ok q) x y = inl (ap Ok (x.0 ∙ sym y.0))
same_program v (Ok p) (Err prog.Bad) x y = absurd (y x.1)
same_program v (Ok p) (Err prog.NoMemory) x y = inr (inr refl)
same_program v (Err prog.Bad) (Ok q) x y = absurd (x y.1)
same_program v (Err prog.Bad) (Err prog.Bad) x y = inl refl
same_program v (Err prog.Bad) (Err prog.NoMemory) x y = inr (inr refl)
same_program v (Err prog.NoMemory) q x y = inr (inl refl)

-- a cause is the first one, or memory ran out
told : (cause : Option ResolveErr) (e : ResolveErr) → Blames cause e → (e ≡ resolving.NoMemory) ⊎ (cause ≡ Some e)
told cause (resolving.Duplicate name first second) b = inr b
told cause (resolving.Unresolved name file) b = inr b
told cause (resolving.Rule file rule at) b = inr b
told cause (resolving.Limit which total) b = inr b
told cause (resolving.TooFar from words) b = inr b
told cause resolving.NoMemory b = inl refl

no_cause : {A : Type 0} (r : Result A ResolveErr) (e : ResolveErr) (cause : Option ResolveErr) → cause ≡ None
    → (e ≡ resolving.NoMemory) ⊎ (cause ≡ Some e) → IsSame resolving.NoMemory r (Err e)
no_cause r e cause none (inl h) = inr (inr (ap Err h))
no_cause r e cause none (inr h) = absurd (none-some e (sym none ∙ h))

one_cause : {A : Type 0} (e f : ResolveErr) (cause : Option ResolveErr) → (e ≡ resolving.NoMemory) ⊎ (cause ≡ Some e)
    → (f ≡ resolving.NoMemory) ⊎ (cause ≡ Some f) → IsSame {A = A} resolving.NoMemory (Err e) (Err f)
one_cause e f cause (inl h) y = inr (inl (ap Err h))
one_cause e f cause (inr h) (inl k) = inr (inr (ap Err k))
one_cause e f cause (inr h) (inr k) = inl (ap Err (ap (λ (o : Option ResolveErr). unwrap_or o e) (sym h ∙ k)))

swapped : {A : Type 0} (r q : Result A ResolveErr) → IsSame resolving.NoMemory r q → IsSame resolving.NoMemory q r
swapped r q (inl h) = inl (sym h)
swapped r q (inr (inl h)) = inr (inr h)
swapped r q (inr (inr h)) = inr (inl h)

pub same_resolution : (objects : List Parts) (r q : Result ProgramView ResolveErr) → Resolves objects r → Resolves objects q → IsSame resolving.NoMemory r q
same_resolution objects (Ok p) (Ok q) x y = inl (ap Ok (x.0 ∙ sym y.0))
same_resolution objects (Ok p) (Err f) x y = no_cause (Ok p) f (first_cause objects) x.1 (told (first_cause objects) f y)
same_resolution objects (Err e) (Ok q) x y = swapped (Ok q) (Err e) (no_cause (Ok q) e (first_cause objects) y.1 (told (first_cause objects) e x))
same_resolution objects (Err e) (Err f) x y = one_cause e f (first_cause objects) (told (first_cause objects) e x) (told (first_cause objects) f y)

pub same_lift : (p : ProgramView) (g h : GraphView) → IsLifted p g → IsLifted p h → IsLike g h
same_lift p g h x y = record {
  counts = x.counts ∙ sym y.counts;
  roots = x.roots ∙ sym y.roots;
  tables = x.tables ∙ sym y.tables;
  blocks = x.blocks ∙ sym y.blocks;
  touched = x.touched ∙ sym y.touched;
}

-- the answer that tells how a run has ended
abbrev answer_to : Option SymEnd → SymStep
answer_to None = step.Went
answer_to (Some (ExitedWith status)) = step.Exit status
answer_to (Some (TrappedAt kind at)) = step.Trap kind at
answer_to (Some (ObservedAt at)) = step.Observes at

the_answer : (a : SymStep) (e : Option SymEnd) → IsDone a → IsAnswerOf a e → a ≡ answer_to e
the_answer step.Went e d h = sym (ap answer_to h)
the_answer (step.Exit status) e d h = sym (ap answer_to h)
the_answer (step.Trap kind at) e d h = sym (ap answer_to h)
the_answer (step.Observes at) e d h = sym (ap answer_to h)
the_answer step.ReadFault e d h = absurd d
the_answer step.WriteFault e d h = absurd d
the_answer step.NoMemory e d h = absurd d

-- a run that is done arrives
arrives : (c : Script) (n : ℕ) (s : SymState) (a : SymStep) (v : View) (left : Option (List ℕ)) (out err : Told)
    → IsDone a → RunsTo c n a s v left out err → Arrives a (sym_steps c s n) v left out err
arrives c n s step.Went v left out err d r = r
arrives c n s (step.Exit status) v left out err d r = r
arrives c n s (step.Trap kind at) v left out err d r = r
arrives c n s (step.Observes at) v left out err d r = r
arrives c n s step.ReadFault v left out err d r = absurd d
arrives c n s step.WriteFault v left out err d r = absurd d
arrives c n s step.NoMemory v left out err d r = absurd d

pub same_run : (c : Script) (n : ℕ) (s : SymState) (a b : SymStep) (v w : View) (left rest : Option (List ℕ))
    (out err other_out other_err : Told) → IsDone a → IsDone b → RunsTo c n a s v left out err →
    RunsTo c n b s w rest other_out other_err → AreOneRun a b (sym_steps c s n) v w
same_run c n s a b v w left rest out err other_out other_err d e r q =
    let x = arrives c n s a v left out err d r in
    let y = arrives c n s b w rest other_out other_err e q in
    record {
      answer = the_answer a (sym_steps c s n).ended d x.answer_is ∙ sym (the_answer b (sym_steps c s n).ended e y.answer_is);
      machine = x.state.machine ∙ sym y.state.machine;
    }
