-- Facts on r29 that flow hold along a run.
use Rattle.std.proofs.Common.{◌≡◌, ◌⊎◌, inl, inr, ℕ, zero, suc, Bool, true, false, cond, ◌==◌, ◌||◌, List, [], ◌∷◌, Option, Some, None, refl, sym, ap, ◌∙◌, subst}
use Rattle.std.proofs.lemmas.Bool.{true≢false, eqb-true, eq-eqb}
use Rattle.om_value.specs.declared.value.Place.{Place}
use Rattle.om_value.specs.declared.value.Value.{Value}
use Rattle.om_value.specs.declared.value.Value.TheVariants.{Gp, Half}
use Rattle.om_value.specs.Same.{value_eq}
use Rattle.om_isa.specs.Effect.{Set, StepObserves}
use Rattle.om_prog.specs.Act.{Act, Plain, Lit, GpHi, GpLo, To, AddrLda, AddrHi, UseLo, UseGp, Wrong, Word, Script, act_writes}
use Rattle.om_prog.specs.Step.{SymState, SymEnd, read_reg, write_reg, act_effect, after}
use Rattle.om_prog.specs.Runs.{sym_run, sym_start, sym_step, step_if, step_word}
use Rattle.om_prog.specs.Flow.{Among, effect_ends, effect_place}
use Rattle.om_prog.specs.Within.{ActWithin, StateWithin}
use Rattle.om_prog.specs.Facts.{Fact, Any, Table, Unknown, has, set_fact, changed, Allows, GpFlows, Holds, changed_by, fact_behind, IsFact}
use Rattle.om_prog.proofs.Codes.{act_within}
use Rattle.om_prog.proofs.Goes.{after_within, after_went, after_stays, act_leads}
use Rattle.om_prog.proofs.Writes.{act_only, after_other, end_silent}

has_first : (r x : ℕ) (ws : List ℕ) (b : Bool) → (r == x) ≡ b → (b || has ws x) ≡ false → (has ws x ≡ false → Among ws x → ⊥) → (r ≡ x) ⊎ Among ws x → ⊥
has_first r x ws true e h i m = true≢false h
has_first r x ws false e h i (inl m) = true≢false (sym (eq-eqb r x m) ∙ e)
has_first r x ws false e h i (inr m) = i h m

pub among_has : (ws : List ℕ) (x : ℕ) → has ws x ≡ false → Among ws x → ⊥
among_has [] x h m = m
among_has (r ∷ ws) x h m = has_first r x ws _ refl h (among_has ws x) m

-- facts and codes of a state
pub record Known (K : Place → Type 0) (fact : Place → Fact) (s : SymState) : Type 0 where
  pub fine : StateWithin K s
  pub holds : Holds (fact s.place) s

allowed : (f g : Fact) (s : SymState) → Allows f g → Holds f s → Holds g s
allowed Any g s a h = absurd h
allowed (Table t) Unknown s a h = tt
allowed (Table t) Any s a h = cc
allowed (Table t) (Table u) s a h = let e : t ≡ u = cc in h ∙ ap Gp e
allowed Unknown Unknown s a h = tt
allowed Unknown Any s a h = cc
allowed Unknown (Table u) s a h = cc

-- a fact of a place that a run reaches gives the table
pub fact_gives : (f : Fact) (t : ℕ) (s : SymState) → IsFact f t → Holds f s → read_reg s.regs 29 ≡ Gp t
fact_gives Any t s i h = absurd h
fact_gives (Table u) t s i h = h ∙ ap Gp i
fact_gives Unknown t s i h = absurd i

-- what holds by the rule between blocks holds by the rule inside a block
pub behind_holds : (c : Script) (f : Fact) (bf : List Word) (s : SymState) → Holds (changed_by c f bf) s → Holds (fact_behind c f bf) s
behind_holds c Any bf s h = absurd (subst (λ (f : Fact). Holds f s) (still bf) h)
  where
    still : (bf : List Word) → changed_by c Any bf ≡ Any
    still [] = refl
    still (w ∷ bf) = rw (still bf) refl
behind_holds c (Table t) bf s h = h
behind_holds c Unknown bf s h = h

-- the low half of a GPDISP leaves its table
low_sets : (s : SymState) (at : Place) (ra : ℕ) (v : Value) (b : Bool) → (ra ≡ 29) → effect_ends (cond b (Set ra v) StepObserves) ≡ false → read_reg (after s at (cond b (Set ra v) StepObserves)).regs 29 ≡ v
low_sets s at ra v false e h = absurd (true≢false h)
low_sets s at ra v true e h = subst (λ (r : ℕ). read_reg (write_reg s.regs r v) 29 ≡ v) (sym e) refl

first_is : (r : ℕ) (b : Bool) → (r == 29) ≡ b → (b || false) ≡ true → r ≡ 29
first_is r true e h = eqb-true r 29 e
first_is r false e h = absurd (true≢false (sym h))

module _ (c : Script) (K At : Place → Type 0) (fact : Place → Fact) (flows : GpFlows c K At fact) where
  set_holds :
      (s : SymState) (w : Word) (a : Act) → has (act_writes a) 29 ≡ true → effect_ends (act_effect c s w.at a) ≡ false →
      Holds (set_fact c w a) (after s w.at (act_effect c s w.at a))
  set_holds s w (GpLo ra rb hi) h e = low_sets s w.at ra (Gp (c.table w.at.obj)) (value_eq (read_reg s.regs rb) (Half hi)) (first_is ra _ refl h) e
  set_holds s w (Plain i) h e = tt
  set_holds s w (Lit ra rb t) h e = tt
  set_holds s w (GpHi ra rb base) h e = tt
  set_holds s w (To op ra q) h e = tt
  set_holds s w (AddrLda ra rb t) h e = tt
  set_holds s w (AddrHi ra rb t) h e = tt
  set_holds s w (UseLo i hi t) h e = tt
  set_holds s w (UseGp i gp t) h e = tt
  set_holds s w Wrong h e = tt

  kept_holds : (f : Fact) (s t : SymState) → read_reg t.regs 29 ≡ read_reg s.regs 29 → Holds f s → Holds f t
  kept_holds Any s t e h = h
  kept_holds (Table u) s t e h = e ∙ h
  kept_holds Unknown s t e h = tt

  choose_holds : (b : Bool) (f g : Fact) (s : SymState) → (b ≡ true → Holds f s) → (b ≡ false → Holds g s) → Holds (cond b f g) s
  choose_holds true f g s x y = x refl
  choose_holds false f g s x y = y refl

  changed_holds :
      (s : SymState) (w : Word) (f : Fact) → Holds f s → effect_ends (act_effect c s w.at w.act) ≡ false →
      Holds (changed c w f) (after s w.at (act_effect c s w.at w.act))
  changed_holds s w Any h e = h
  changed_holds s w (Table u) h e =
      choose_holds (has (act_writes w.act) 29) (set_fact c w w.act) (Table u) (after s w.at (act_effect c s w.at w.act)) (λ y. set_holds s w w.act y e)
      (λ n. kept_holds (Table u) s (after s w.at (act_effect c s w.at w.act)) (after_other s w.at 29 (act_effect c s w.at w.act) (λ m. among_has (act_writes w.act) 29 n ((act_only c s w.at w.act).is 29 m))) h)
  changed_holds s w Unknown h e =
      choose_holds (has (act_writes w.act) 29) (set_fact c w w.act) Unknown (after s w.at (act_effect c s w.at w.act)) (λ y. set_holds s w w.act y e) (λ n. tt)

  holds_after :
      (s : SymState) (w : Word) (b : Bool) → At s.place → c.fetch s.place ≡ Some w → Known K fact s → effect_ends (act_effect c s w.at w.act) ≡ b →
      Holds (fact (after s w.at (act_effect c s w.at w.act)).place) (after s w.at (act_effect c s w.at w.act))
  holds_after s w true at found k e =
      let x = act_effect c s w.at w.act in
      subst (λ (q : Place). Holds (fact q) (after s w.at x)) (sym (after_stays s w.at x e))
      (kept_holds (fact s.place) s (after s w.at x) (after_other s w.at 29 x (end_silent x 29 e)) k.holds)
  holds_after s w false at found k e =
      let x = act_effect c s w.at w.act in
      let to = act_leads w.at c s K k.fine w.act e in
      subst (λ (q : Place). Holds (fact q) (after s w.at x)) (sym (after_went s w.at x e).place)
      (allowed (changed c w (fact s.place)) (fact (effect_place w.at x)) (after s w.at x)
      (flows.goes s.place w (effect_place w.at x) at found to) (changed_holds s w (fact s.place) k.holds e))

  pub known_word : (s : SymState) (w : Word) → ActWithin K w.at w.act → At s.place → c.fetch s.place ≡ Some w → Known K fact s → Known K fact (step_word c s (Some w))
  known_word s w fine at found k = record {
    fine = after_within K s k.fine w.at (act_effect c s w.at w.act) (act_within K c s k.fine w.at w.act fine);
    holds = holds_after s w _ at found k refl;
  }

  known_step : (s : SymState) (o : Option Word) → ((w : Word) → o ≡ Some w → ActWithin K w.at w.act × At s.place) → c.fetch s.place ≡ o → Known K fact s → Known K fact (step_word c s o)
  known_step s None fine found k = record { fine = record { regs = k.fine.regs; cells = k.fine.cells }; holds = kept_holds (fact s.place) s _ refl k.holds }
  known_step s (Some w) fine found k = known_word s w (fine w refl).0 (fine w refl).1 found k

  known_if : (s : SymState) (e : Option SymEnd) → ((w : Word) → c.fetch s.place ≡ Some w → ActWithin K w.at w.act × At s.place) → Known K fact s → Known K fact (step_if e c s)
  known_if s None fine k = known_step s _ fine refl k
  known_if s (Some e) fine k = k

  pub entry_holds : (input : List ℕ) (f : Fact) → (f ≡ Unknown) ⊎ (f ≡ Table (c.table c.entry.obj)) → Holds f (sym_start c input)
  unfolding sym_start
  entry_holds input f (inl e) = subst (λ (g : Fact). Holds g (sym_start c input)) (sym e) tt
  entry_holds input f (inr e) = subst (λ (g : Fact). Holds g (sym_start c input)) (sym e) refl

  -- at each place that a run reaches its fact holds, and its codes are places of K, where the words that it reaches bring in places of K alone
  pub facts_hold :
      (input : List ℕ) → StateWithin K (sym_start c input) → ((n : ℕ) (w : Word) → c.fetch (sym_run c input n).place ≡ Some w → ActWithin K w.at w.act × At (sym_run c input n).place) → (n : ℕ) → Known K fact (sym_run c input n)
  unfolding sym_run sym_step sym_start
  facts_hold input f fine zero = record { fine = f; holds = entry_holds input (fact c.entry) flows.entry }
  facts_hold input f fine (suc n) = known_if (sym_run c input n) (sym_run c input n).ended (fine n) (facts_hold input f fine n)
