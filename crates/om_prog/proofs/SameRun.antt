-- Two scripts whose words agree where a run comes have the same run.
use Rattle.std.proofs.Common.{◌≡◌, ℕ, zero, suc, Bool, true, false, List, Option, Some, None, refl, sym, subst}
use Rattle.om_value.specs.declared.value.Place.{Place}
use Rattle.om_prog.specs.Act.{Word, Script}
use Rattle.om_prog.specs.Step.{SymState, SymEnd, act_effect, after}
use Rattle.om_prog.specs.Runs.{sym_run, sym_start, sym_step, step_if, step_word}
use Rattle.om_prog.specs.Flow.{effect_ends, effect_place}
use Rattle.om_prog.specs.Within.{StateWithin}
use Rattle.om_prog.specs.Laws.{with_words, HasSameWord, AgreeOn}
use Rattle.om_prog.proofs.Codes.{act_within}
use Rattle.om_prog.proofs.Goes.{after_within, after_went, after_stays, act_leads}

module _ (c : Script) (fetch : Place → Option Word) where
  abbrev d : Script
  d = with_words c fetch

  abbrev K : Place → Type 0
  K q = HasSameWord c fetch q

  module _ (agree : AgreeOn c fetch) where
    pub record Same (s t : SymState) : Type 0 where
      pub is : t ≡ s
      pub place : K s.place
      pub fine : StateWithin K s

    place_after : (s : SymState) (w : Word) (b : Bool) → K s.place → StateWithin K s → c.fetch s.place ≡ Some w → effect_ends (act_effect c s w.at w.act) ≡ b → K (after s w.at (act_effect c s w.at w.act)).place
    place_after s w true k f e h = subst (λ (q : Place). K q) (sym (after_stays s w.at (act_effect c s w.at w.act) h)) k
    place_after s w false k f e h =
        subst (λ (q : Place). K q) (sym (after_went s w.at (act_effect c s w.at w.act) h).place)
        (agree.goes s.place w (effect_place w.at (act_effect c s w.at w.act)) k e (act_leads w.at c s K f w.act h))

    same_word : (s : SymState) (o : Option Word) → K s.place → StateWithin K s → c.fetch s.place ≡ o → Same (step_word c s o) (step_word d s o)
    same_word s None k f e = record { is = refl; place = k; fine = record { regs = f.regs; cells = f.cells } }
    same_word s (Some w) k f e = record {
      is = refl;
      place = place_after s w _ k f e refl;
      fine = after_within K s f w.at (act_effect c s w.at w.act) (act_within K c s f w.at w.act (agree.fine s.place w k e));
    }

    same_step : (s : SymState) (x : Option SymEnd) → K s.place → StateWithin K s → Same (step_if x c s) (step_if x d s)
    same_step s (Some x) k f = record { is = refl; place = k; fine = f }
    same_step s None k f = subst (λ (o : Option Word). Same (step_word c s (c.fetch s.place)) (step_word d s o)) (sym k) (same_word s (c.fetch s.place) k f refl)

    pub same_run : (input : List ℕ) (n : ℕ) → Same (sym_run c input n) (sym_run d input n)
    unfolding sym_run sym_step sym_start
    same_run input zero = record { is = refl; place = agree.entry; fine = agree.first input }
    same_run input (suc n) =
        let i = same_run input n in
        subst (λ (t : SymState). Same (step_if (sym_run c input n).ended c (sym_run c input n)) (step_if t.ended d t)) (sym i.is) (same_step (sym_run c input n) (sym_run c input n).ended i.place i.fine)
