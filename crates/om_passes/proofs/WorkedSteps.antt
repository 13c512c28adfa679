-- Worked steps.
use Rattle.std.proofs.Common.{◌≡◌, inl, inr, ◌==◌, ℕ, true, false, List, [], ◌∷◌, refl, sym, ◌∙◌, subst, arith}
use Rattle.std.proofs.lemmas.Int.{ints}
use Rattle.std.proofs.lemmas.Bool.{true≢false, eq-eqb}
use Rattle.om_isa.specs.declared.instr.BrOp.TheVariants.{Bsr}
use Rattle.om_isa.specs.declared.instr.JumpOp.TheVariants.{Jsr}
use Rattle.om_isa.specs.declared.instr.Instr.TheVariants.{Jump}
use Rattle.om_value.specs.declared.value.Place.{Place}
use Rattle.om_value.specs.declared.value.Target.TheVariants as target
use Rattle.om_prog.specs.Act.{Plain, Lit, GpLo, Word}
use Rattle.om_prog.specs.Facts.{Fact, Table, Allows}
use Rattle.om_prog.specs.View.{ProgramView}
use Rattle.om_prog.specs.Valid.{IsProgram}
use Rattle.om_graph.specs.declared.op.OpKind.TheVariants as op
use Rattle.om_graph.specs.declared.op.Last.TheVariants as last
use Rattle.om_graph.specs.View.{Node, Block, GraphView, Has, deleted}
use Rattle.om_graph.specs.Run.{block_words, graph_script}
use Rattle.om_graph.specs.Checks.{Next, Enters, falls_in, jumps_in, GpChecked, end_fact}
use Rattle.om_graph.specs.Uses.{IsClosedPair, IsKnownCall}
use Rattle.om_graph.specs.Rows.{at, calling, entering}
use Rattle.om_passes.specs.OneEdit.{MayGoOn}
use Rattle.om_passes.specs.Step.{Step}
use Rattle.om_passes.specs.Rows.{by_register, direct, WorkedSteps}
use Rattle.om_passes.proofs.CallStep.{direct_call}
use Rattle.om_passes.proofs.PairStep.{pair_step}
use Rattle.om_passes.proofs.PastStep.{enter_call}
use Rattle.om_passes.proofs.InARow.{none, more}

other : {r s : ℕ} → (r == s) ≡ false → r ≡ s → ⊥
other n e = true≢false (sym (eq-eqb _ _ e) ∙ n)

-- ---- a call made direct

abbrev load_27 : Word
load_27 = record { at = at 0; act = Lit 27 29 (target.Code (at 16)) }

abbrev call_27 : Word
call_27 = record { at = at 4; act = Plain (Jump Jsr 26 27 0) }

abbrev caller : Block
caller = record {
  id = 0;
  label = at 0;
  opening = false;
  ops = record { id = 0; op = record { place = at 0; kind = op.Lit 27 29 (target.Code (at 16)) } } ∷ [];
  last = last.CallBy (at 4) (Jump Jsr 26 27 0);
}

known : IsKnownCall (block_words caller) call_27 26 (at 16)
known = record {
  load = load_27;
  rb = 27;
  base = 29;
  hint = 0;
  local = record { mid = []; stands = ([], [], refl); writes = inl refl; unwritten = λ w h a. h; reads = inl refl; register = other refl };
  loads = refl;
  jumps = refl;
}

made_direct : (p : ProgramView) → IsProgram p → MayGoOn p by_register → Step p by_register direct
made_direct p prog m = direct_call p prog by_register m 0 caller refl (at 4) (at 16) (Jump Jsr 26 27 0) 26 known (omega (arith, ints)) refl

-- ---- the pair of the procedure at 16

abbrev pair_block : Block
pair_block = record {
  id = 2;
  label = at 16;
  opening = true;
  ops = record { id = 3; op = record { place = at 16; kind = op.GpHi 29 27 (at 0) } } ∷ record { id = 4; op = record { place = at 20; kind = op.GpLo 29 29 (at 16) } } ∷ [];
  last = last.Fall;
}

abbrev high : Node
high = record { id = 3; op = record { place = at 16; kind = op.GpHi 29 27 (at 0) } }

abbrev low : Node
low = record { id = 4; op = record { place = at 20; kind = op.GpLo 29 29 (at 16) } }

abbrev call_block : Block
call_block = record { id = 0; label = at 0; opening = false; ops = []; last = last.Call (at 0) Bsr 26 (at 16) }

-- the first object's table everywhere
abbrev facts : Place → Fact
facts q = Table 0

ends_calling : (p : ProgramView) (b : Block) → Has calling.blocks b → end_fact (graph_script p calling) facts b ≡ Table 0
ends_calling p b (inl e) = subst (λ (x : Block). end_fact (graph_script p calling) facts x ≡ Table 0) e refl
ends_calling p b (inr (inl e)) = subst (λ (x : Block). end_fact (graph_script p calling) facts x ≡ Table 0) e refl
ends_calling p b (inr (inr (inl e))) = subst (λ (x : Block). end_fact (graph_script p calling) facts x ≡ Table 0) e refl
ends_calling p b (inr (inr (inr (inl e)))) = subst (λ (x : Block). end_fact (graph_script p calling) facts x ≡ Table 0) e refl
ends_calling p b (inr (inr (inr (inr h)))) = absurd h

ends_entering : (p : ProgramView) (b : Block) → Has entering.blocks b → end_fact (graph_script p entering) facts b ≡ Table 0
ends_entering p b (inl e) = subst (λ (x : Block). end_fact (graph_script p entering) facts x ≡ Table 0) e refl
ends_entering p b (inr (inl e)) = subst (λ (x : Block). end_fact (graph_script p entering) facts x ≡ Table 0) e refl
ends_entering p b (inr (inr (inl e))) = subst (λ (x : Block). end_fact (graph_script p entering) facts x ≡ Table 0) e refl
ends_entering p b (inr (inr (inr (inl e)))) = subst (λ (x : Block). end_fact (graph_script p entering) facts x ≡ Table 0) e refl
ends_entering p b (inr (inr (inr (inr h)))) = absurd h

first_has : (bs : List Block) (b n : Block) → Next bs b n → Has bs b
first_has [] b n h = absurd h
first_has (c ∷ []) b n h = absurd h
first_has (c ∷ d ∷ bs) b n (inl e) = inl e.0
first_has (c ∷ d ∷ bs) b n (inr h) = inr (first_has (d ∷ bs) b n h)

from_has : (g : GraphView) (b n : Block) → Enters g b n → Has g.blocks b
from_has g b n (falls_in x o f) = first_has g.blocks b n x
from_has g b n (jumps_in w hb hn l j) = hb

checked_calling : (p : ProgramView) → GpChecked (graph_script p calling) facts calling
checked_calling p = record {
  entry = inr refl;
  enters = λ b n e. subst (λ (f : Fact). Allows f (Table 0)) (sym (ends_calling p b (from_has calling b n e))) refl;
}

closed_calling : IsClosedPair calling pair_block (at 16) (at 20)
closed_calling = record {
  rb = 27;
  base = at 0;
  mid = [];
  stands = ([], [], refl);
  unread = λ w h a. h;
  unwritten = λ w h a. h;
  high_stays = other refl;
  low_stays = other refl;
}

dropped_calling : (p : ProgramView) → IsProgram p → MayGoOn p calling → Step p calling (deleted (deleted calling 4) 3)
dropped_calling p prog m =
    pair_step p prog calling m 3 4 pair_block high low (record { block = refl; node = refl }) (record { block = refl; node = refl }) 27 (at 0) refl refl
    closed_calling facts (checked_calling p) [] (record { at = at 20; act = GpLo 29 29 (at 16) } ∷ []) refl refl

checked_entering : (p : ProgramView) → GpChecked (graph_script p entering) facts entering
checked_entering p = record {
  entry = inr refl;
  enters = λ b n e. subst (λ (f : Fact). Allows f (Table 0)) (sym (ends_entering p b (from_has entering b n e))) refl;
}

closed_entering : IsClosedPair entering pair_block (at 16) (at 20)
closed_entering = record {
  rb = 27;
  base = at 0;
  mid = [];
  stands = ([], [], refl);
  unread = λ w h a. h;
  unwritten = λ w h a. h;
  high_stays = other refl;
  low_stays = other refl;
}

dropped_entering : (p : ProgramView) → IsProgram p → MayGoOn p entering → Step p entering (deleted (deleted entering 4) 3)
dropped_entering p prog m =
    pair_step p prog entering m 3 4 pair_block high low (record { block = refl; node = refl }) (record { block = refl; node = refl }) 27 (at 0) refl refl
    closed_entering facts (checked_entering p) [] (record { at = at 20; act = GpLo 29 29 (at 16) } ∷ []) refl refl

entered : (p : ProgramView) → IsProgram p → MayGoOn p calling → Step p calling entering
entered p prog m =
    enter_call p prog calling m 0 call_block refl (at 0) 26 pair_block (inr (inr (inl refl))) (record { opening = refl; pair = closed_calling }) (other refl) (omega (arith, ints)) facts
    (checked_calling p) [] [] refl refl refl

pub worked_steps : WorkedSteps
worked_steps = record {
  made_direct = made_direct;
  entered = entered;
  dropped = dropped_calling;
  both = λ p prog m n.
      more p calling entering (deleted (deleted entering 4) 3) (more p calling calling entering (none p prog calling m.graph m.kept m.reach) (entered p prog m))
      (dropped_entering p prog n);
}
