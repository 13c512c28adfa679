-- The codes of a run, and the joined laws.
use Rattle.std.proofs.Common.{◌≡◌, ◌⊎◌, inl, inr, ℕ, zero, suc, true, false, List, Option, Some, None, refl, sym, subst}
use Rattle.om_value.specs.declared.value.Place.{Place}
use Rattle.om_prog.specs.Act.{Act, Word, Script, act_keeps, act_writes}
use Rattle.om_prog.specs.Step.{SymState, SymEnd, act_effect, after, read_reg}
use Rattle.om_prog.specs.Runs.{sym_run, sym_start, sym_step, step_if, step_word}
use Rattle.om_prog.specs.Flow.{Among, effect_writes, effect_ends, GoesTo}
use Rattle.om_prog.specs.Within.{ActWithin, StateWithin}
use Rattle.om_prog.proofs.After.{act_done, Done}
use Rattle.om_prog.proofs.Codes.{act_within}
use Rattle.om_prog.proofs.Goes.{after_within, after_went, act_leads}
use Rattle.om_prog.proofs.Writes.{act_only, after_other}

module _ (K : Place → Type 0) (c : Script) where
  word_stays :
      (s : SymState) (o : Option Word) → ((w : Word) → o ≡ Some w → ActWithin K w.at w.act) → StateWithin K s →
      StateWithin K (step_word c s o)
  word_stays s None fine f = record { regs = f.regs; cells = f.cells }
  word_stays s (Some w) fine f = after_within K s f w.at (act_effect c s w.at w.act) (act_within K c s f w.at w.act (fine w refl))

  step_stays :
      (s : SymState) (e : Option SymEnd) → ((w : Word) → c.fetch s.place ≡ Some w → ActWithin K w.at w.act) →
      StateWithin K s → StateWithin K (step_if e c s)
  step_stays s None fine f = word_stays s (c.fetch s.place) fine f
  step_stays s (Some e) fine f = f

  pub codes_stay :
      (input : List ℕ) → StateWithin K (sym_start c input) →
      ((n : ℕ) (w : Word) → c.fetch (sym_run c input n).place ≡ Some w → ActWithin K w.at w.act) →
      (n : ℕ) → StateWithin K (sym_run c input n)
  unfolding sym_run sym_step
  codes_stay input f fine zero = f
  codes_stay input f fine (suc n) =
      step_stays (sym_run c input n) (sym_run c input n).ended (fine n) (codes_stay input f fine n)

  pub leads_on :
      (s : SymState) (w : Word) → StateWithin K s → effect_ends (act_effect c s w.at w.act) ≡ false →
      GoesTo K w (after s w.at (act_effect c s w.at w.act)).place
  leads_on s w f h =
      let x = act_effect c s w.at w.act in
      subst (λ (q : Place). GoesTo K w q) (sym (after_went s w.at x h).place) (act_leads w.at c s K f w.act h)

pub other_kept :
    (c : Script) (s : SymState) (at : Place) (a : Act) (r : ℕ) → (Among (act_writes a) r → ⊥) →
    read_reg (after s at (act_effect c s at a)).regs r ≡ read_reg s.regs r
other_kept c s at a r n = after_other s at r (act_effect c s at a) (λ m. n ((act_only c s at a).is r m))

done_is :
    (c : Script) (s : SymState) (at : Place) (a : Act) (r : ℕ) →
    Among (act_keeps a) r ⊎ (r ≡ 31) ⊎ Done r (act_effect c s at a) →
    Among (act_keeps a) r ⊎ (r ≡ 31) ⊎ Among (effect_writes (act_effect c s at a)) r ⊎ (effect_ends (act_effect c s at a) ≡ true)
done_is c s at a r (inl k) = inl k
done_is c s at a r (inr (inl e)) = inr (inl e)
done_is c s at a r (inr (inr d)) = inr (inr d.is)

pub own_written :
    (c : Script) (s : SymState) (at : Place) (a : Act) (r : ℕ) → Among (act_writes a) r →
    Among (act_keeps a) r ⊎ (r ≡ 31) ⊎ Among (effect_writes (act_effect c s at a)) r ⊎ (effect_ends (act_effect c s at a) ≡ true)
own_written c s at a r h = done_is c s at a r (act_done c s r at a h)
