-- Two runs of one state answer the same, but for faults.
use Rattle.std.proofs.Common.{◌≡◌, ℕ, List, refl, sym, ap, ◌∙◌}
use Rattle.std.specs.Prelude.{Option, Some, None}
use Rattle.om_alpha.specs.declared.op.TrapKind.{TrapKind}
use Rattle.om_image.specs.declared.image.Image.{Image}
use Rattle.om_image.specs.NumState.{NumState, NumEnd, Exited, Trapped}
use Rattle.om_image.specs.NumRun.{num_steps}
use Rattle.om_machine.specs.Steps.{RunsTo, Arrives, IsAnswerOf}
use Rattle.om_machine.specs.Streams.{Told}
use Rattle.om_machine.specs.View.{View}
use Rattle.om_machine.specs.declared.machine.Step.{Step}
use Rattle.om_machine.specs.declared.machine.Step.TheVariants as step
use Rattle.om_strength_images.specs.OneRun.{IsNoFault, RunsAreOne}

-- a run that did not fail arrives
arrives : (i : Image) (n : ℕ) (s : NumState) (a : Step) (v : View) (left : Option (List ℕ)) (out err : Told)
    → IsNoFault a → RunsTo i n a s v left out err → Arrives a (num_steps i s n) v left out err
arrives i n s step.Went v left out err f r = r
arrives i n s (step.Exit status) v left out err f r = r
arrives i n s (step.Trap kind at) v left out err f r = r
arrives i n s step.ReadFault v left out err f r = absurd f
arrives i n s step.WriteFault v left out err f r = absurd f

same_exit : (x y : ℕ) → ◌≡◌ {A = Option NumEnd} (Some (Exited x)) (Some (Exited y)) → ◌≡◌ {A = Step} (step.Exit x) (step.Exit y)
same_exit x y e = let f : x ≡ y = cc in ap step.Exit f

same_trap : (k m : TrapKind) (x y : ℕ) → ◌≡◌ {A = Option NumEnd} (Some (Trapped k x)) (Some (Trapped m y)) → ◌≡◌ {A = Step} (step.Trap k x) (step.Trap m y)
same_trap k m x y e =
    let f : k ≡ m = cc in
    let g : x ≡ y = cc in
    ap (λ q. step.Trap q x) f ∙ ap (λ n. step.Trap m n) g

same_answer : (a b : Step) (end : Option NumEnd) → IsNoFault a → IsNoFault b → IsAnswerOf a end → IsAnswerOf b end → a ≡ b
same_answer step.Went step.Went end f g h k = refl
same_answer step.Went (step.Exit y) end f g h k = cc
same_answer step.Went (step.Trap m y) end f g h k = cc
same_answer (step.Exit x) step.Went end f g h k = cc
same_answer (step.Exit x) (step.Exit y) end f g h k = same_exit x y (sym h ∙ k)
same_answer (step.Exit x) (step.Trap m y) end f g h k = cc
same_answer (step.Trap q x) step.Went end f g h k = cc
same_answer (step.Trap q x) (step.Exit y) end f g h k = cc
same_answer (step.Trap q x) (step.Trap m y) end f g h k = same_trap q m x y (sym h ∙ k)
same_answer step.ReadFault b end f g h k = absurd f
same_answer step.WriteFault b end f g h k = absurd f
same_answer a step.ReadFault end f g h k = absurd g
same_answer a step.WriteFault end f g h k = absurd g

pub runs_are_one : RunsAreOne
runs_are_one i n s a b v w left more out err out_too err_too f g h k =
    let p = arrives i n s a v left out err f h in
    let q = arrives i n s b w more out_too err_too g k in
    record {
      answer = same_answer a b (num_steps i s n).end f g p.answer_is q.answer_is;
      machine = p.state.machine ∙ sym q.state.machine;
    }
