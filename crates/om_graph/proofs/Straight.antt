-- What a word that came from a LITERAL load or a GPDISP does: it sets its register and control goes on behind it.
use Rattle.std.proofs.Common.{◌≡◌, inl, ℕ, Bool, true, false, cond, ◌&&◌, ◌==◌, ◌||◌, List, refl, sym}
use Rattle.std.proofs.lemmas.Bool.{true≢false}
use Rattle.om_isa.specs.Effect.{Nothing, Set, StepObserves}
use Rattle.om_value.specs.declared.value.Place.{Place}
use Rattle.om_value.specs.declared.value.Value.{Value}
use Rattle.om_value.specs.declared.value.Value.TheVariants.{Code, Gp, Half}
use Rattle.om_value.specs.Lift.{value_of}
use Rattle.om_value.specs.Same.{value_eq}
use Rattle.om_prog.specs.Act.{Act, Plain, Lit, GpHi, GpLo, To, AddrLda, AddrHi, UseLo, UseGp, Wrong, Script, act_writes}
use Rattle.om_prog.specs.Step.{SymState, SymEffect, read_reg, act_effect, is_number}
use Rattle.om_prog.specs.Flow.{Among, act_falls}
use Rattle.om_graph.specs.Form.{is_address}

-- an address word sets a register, does nothing or ends the run
pub data Straight (writes : List ℕ) : SymEffect → Type 0 where
  idle : Straight writes Nothing
  sets : (r : ℕ) (v : Value) → Among writes r → Straight writes (Set r v)
  over : Straight writes StepObserves

straight_if : (ws : List ℕ) (b : Bool) (e f : SymEffect) → Straight ws e → Straight ws f → Straight ws (cond b e f)
straight_if ws true e f d g = d
straight_if ws false e f d g = g

pub act_straight : (c : Script) (s : SymState) (at : Place) (a : Act) → is_address a ≡ true → Straight (act_writes a) (act_effect c s at a)
act_straight c s at (Lit ra rb t) h =
    straight_if _ (ra == 31) Nothing _ idle (straight_if _ (value_eq (read_reg s.regs rb) (Gp (c.table at.obj))) (Set ra (value_of t)) StepObserves (sets ra _ (inl refl)) over)
act_straight c s at (GpHi ra rb base) h = straight_if _ (value_eq (read_reg s.regs rb) (Code base)) (Set ra (Half at)) StepObserves (sets ra _ (inl refl)) over
act_straight c s at (GpLo ra rb hi) h = straight_if _ (value_eq (read_reg s.regs rb) (Half hi)) (Set ra (Gp (c.table at.obj))) StepObserves (sets ra _ (inl refl)) over
act_straight c s at (AddrLda ra rb t) h =
    straight_if _ ((ra == 31) || (is_number c s t && (rb == 31))) (Set ra (value_of t)) _ (sets ra _ (inl refl))
    (straight_if _ (value_eq (read_reg s.regs rb) (Gp (c.table at.obj))) (Set ra (value_of t)) StepObserves (sets ra _ (inl refl)) over)
act_straight c s at (AddrHi ra rb t) h =
    straight_if _ (ra == 31) Nothing _ idle (straight_if _ (value_eq (read_reg s.regs rb) (Gp (c.table at.obj))) (Set ra (Half at)) StepObserves (sets ra _ (inl refl)) over)
act_straight c s at (Plain i) h = absurd (true≢false (sym h))
act_straight c s at (To op ra q) h = absurd (true≢false (sym h))
act_straight c s at (UseLo i hi t) h = absurd (true≢false (sym h))
act_straight c s at (UseGp i gp t) h = absurd (true≢false (sym h))
act_straight c s at Wrong h = absurd (true≢false (sym h))

pub address_falls : (a : Act) → is_address a ≡ true → act_falls a
address_falls (Lit ra rb t) h = tt
address_falls (GpHi ra rb base) h = tt
address_falls (GpLo ra rb hi) h = tt
address_falls (AddrLda ra rb t) h = tt
address_falls (AddrHi ra rb t) h = tt
address_falls (Plain i) h = absurd (true≢false (sym h))
address_falls (To op ra q) h = absurd (true≢false (sym h))
address_falls (UseLo i hi t) h = absurd (true≢false (sym h))
address_falls (UseGp i gp t) h = absurd (true≢false (sym h))
address_falls Wrong h = absurd (true≢false (sym h))
