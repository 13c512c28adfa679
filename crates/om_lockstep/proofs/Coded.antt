-- Codes stay places of K, and runs stay in G.
use Rattle.std.proofs.Common.{◌≡◌, ℕ, zero, suc, Bool, true, false, cond, not, ◌&&◌, ◌==◌, List, Option, Some, None, refl, sym as back, subst}
use Rattle.om_value.specs.declared.value.Place.{Place}
use Rattle.om_value.specs.declared.value.Region.TheVariants.{Stack}
use Rattle.om_value.specs.declared.value.Value.{Value}
use Rattle.om_value.specs.declared.value.Value.TheVariants.{Num, Ptr, Code, Gp}
use Rattle.om_prog.specs.Act.{Word, Script}
use Rattle.om_prog.specs.Step.{SymState, SymEnd, write_reg, act_effect, after}
use Rattle.om_prog.specs.Runs as runs
use Rattle.om_prog.specs.Runs.{sym_run, sym_start, sym_step, has_observed, is_clean, start_regs}
use Rattle.om_prog.specs.Flow.{effect_ends}
use Rattle.om_prog.specs.Within.{ValueWithin, StateWithin}
use Rattle.om_prog.proofs.Codes.{act_within}
use Rattle.om_prog.proofs.Goes.{after_within, after_went, after_over, act_leads}
use Rattle.om_lockstep.specs.Lockstep.{KeepsCodes, HasCodes}

module _ (c : Script) (K G : Place → Type 0) (h : HasCodes c K G) where
  record IsCoded (s : SymState) : Type 0 where
    fine : StateWithin K s
    good : s.ended ≡ None → G s.place

  word_coded : (s : SymState) → IsCoded s → s.ended ≡ None → (o : Option Word) → c.fetch s.place ≡ o → IsCoded (runs.step_word c s o)
  word_coded s k going None e = record { fine = record { regs = k.fine.regs; cells = k.fine.cells }; good = λ z. cc }
  word_coded s k going (Some w) e =
      let g = k.good going in
      let f = h.words s.place w g e in
      record {
        fine = after_within K s k.fine w.at (act_effect c s w.at w.act) (act_within K c s k.fine w.at w.act f);
        good = by_end (effect_ends (act_effect c s w.at w.act)) refl;
      }
    where
      by_end : (b : Bool) → effect_ends (act_effect c s w.at w.act) ≡ b → (after s w.at (act_effect c s w.at w.act)).ended ≡ None → G (after s w.at (act_effect c s w.at w.act)).place
      by_end true z n = absurd (after_over s w.at (act_effect c s w.at w.act) z n)
      by_end false z n =
          let t = after_went s w.at (act_effect c s w.at w.act) z in
          subst G (back t.place) (h.goes s.place w _ (k.good going) e (act_leads w.at c s K k.fine w.act z))

  step_coded : (s : SymState) → IsCoded s → IsCoded (sym_step c s)
  unfolding sym_step
  step_coded s k = by_end s.ended refl
    where
      by_end : (o : Option SymEnd) → s.ended ≡ o → IsCoded (runs.step_if s.ended c s)
      by_end None e = subst (λ o. IsCoded (runs.step_if o c s)) (back e) (word_coded s k e (c.fetch s.place) refl)
      by_end (Some f) e = subst (λ o. IsCoded (runs.step_if o c s)) (back e) k

  chosen : (b : Bool) (v w : Value) → ValueWithin K v → ValueWithin K w → ValueWithin K (cond b v w)
  chosen true v w a b = a
  chosen false v w a b = b

  start_coded : (input : List ℕ) → IsCoded (sym_start c input)
  unfolding sym_start
  start_coded input = record {
    fine = record {
      regs = λ x. chosen ((x == 30) && not (30 == 31)) (Ptr Stack 1048512) (write_reg (write_reg (λ r. Num 0) 27 (Code c.entry)) 29 (Gp (c.table c.entry.obj)) x) tt (chosen ((x == 29) && not (29 == 31)) (Gp (c.table c.entry.obj)) (write_reg (λ r. Num 0) 27 (Code c.entry) x) tt (chosen ((x == 27) && not (27 == 31)) (Code c.entry) (Num 0) h.entry tt));
      cells = h.cells;
    };
    good = λ z. h.begins;
  }

  run_coded : (input : List ℕ) (n : ℕ) → IsCoded (sym_run c input n)
  unfolding sym_run
  run_coded input zero = start_coded input
  run_coded input (suc n) = step_coded (sym_run c input n) (run_coded input n)

  pub keeps_codes : (input : List ℕ) → KeepsCodes c K G input
  keeps_codes input = record {
    places = λ n z. (run_coded input n).good z;
    holds = λ n r q e. by_read n r q (r == 31) e;
  }
    where
      by_read : (n r : ℕ) (q : Place) (b : Bool) → cond b (Num 0) ((sym_run c input n).regs r) ≡ Code q → K q
      by_read n r q true e = cc
      by_read n r q false e = subst (ValueWithin K) e ((run_coded input n).fine.regs r)
