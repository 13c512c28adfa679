-- What holds of every word and every run, whatever the script: the passes that rewrite a program rest on these.
use Rattle.std.specs.Prelude.{◌≡◌, ◌⊎◌, ℕ, Bool, true, false, List, Option, Some, IsTrue}
use Rattle.om_value.specs.declared.value.Place.{Place}
use Rattle.om_value.specs.declared.value.Value.{Value}
use Rattle.om_prog.specs.Act.{Act, Word, Script, act_reads, act_writes, act_keeps}
use Rattle.om_prog.specs.Step.{SymState, read_reg, act_effect, after}
use Rattle.om_prog.specs.Runs.{sym_run, sym_start}
use Rattle.om_prog.specs.Flow.{Agree, moved, Among, effect_writes, effect_ends, GoesTo}
use Rattle.om_prog.specs.Within.{StateWithin, ActWithin}

abbrev pub IsIn : (Place → Bool) → Place → Type 0
IsIn among q = IsTrue (among q)

-- what a word does depends on the registers that it reads alone, and not on where the run stands
pub record EffectsDependOnReads : Type 0 where
  pub same :
      (c : Script) (s : SymState) (regs : ℕ → Value) (place at : Place) (a : Act) →
      Agree regs s.regs (act_reads a) → act_effect c (moved s regs place) at a ≡ act_effect c s at a

-- a register that a word does not write keeps its value; one that it writes is written, or is one that it may keep,
-- or r31, or the run ends there
pub record WordsWriteTheirRegisters : Type 0 where
  pub kept :
      (c : Script) (s : SymState) (at : Place) (a : Act) (r : ℕ) →
      (Among (act_writes a) r → ⊥) → read_reg (after s at (act_effect c s at a)).regs r ≡ read_reg s.regs r
  pub written :
      (c : Script) (s : SymState) (at : Place) (a : Act) (r : ℕ) → Among (act_writes a) r →
      Among (act_keeps a) r ⊎ (r ≡ 31) ⊎ Among (effect_writes (act_effect c s at a)) r
      ⊎ (effect_ends (act_effect c s at a) ≡ true)

-- where all codes of a state are among some places, a word that does not end the run leads to the next place, to where it
-- branches, or, where it jumps, to one of those places
pub record StepsLead : Type 0 where
  pub leads :
      (among : Place → Bool) (c : Script) (s : SymState) (w : Word) → StateWithin (IsIn among) s →
      effect_ends (act_effect c s w.at w.act) ≡ false →
      GoesTo (IsIn among) w (after s w.at (act_effect c s w.at w.act)).place
  pub stays :
      (c : Script) (s : SymState) (w : Word) →
      effect_ends (act_effect c s w.at w.act) ≡ true → (after s w.at (act_effect c s w.at w.act)).place ≡ s.place

-- codes that a run holds stay among some places, where it starts so and each word that it reaches brings in codes
-- of those places alone
pub record CodesStay : Type 0 where
  pub stay :
      (among : Place → Bool) (c : Script) (input : List ℕ) → StateWithin (IsIn among) (sym_start c input) →
      ((n : ℕ) (w : Word) → c.fetch (sym_run c input n).place ≡ Some w → ActWithin (IsIn among) w.at w.act) →
      (n : ℕ) → StateWithin (IsIn among) (sym_run c input n)

-- ---- scripts that differ in their words alone

abbrev pub with_words : Script → (Place → Option Word) → Script
with_words c fetch = record c { fetch = fetch }

module _ (c : Script) (fetch : Place → Option Word) where
  abbrev pub HasSameWord : Place → Type 0
  HasSameWord q = fetch q ≡ c.fetch q

  -- from where the words are the same a run goes to where they are the same
  pub record AgreeOn : Type 0 where
    pub entry : HasSameWord c.entry
    pub first : (input : List ℕ) → StateWithin HasSameWord (sym_start c input)
    pub fine : (q : Place) (w : Word) → HasSameWord q → c.fetch q ≡ Some w → ActWithin HasSameWord w.at w.act
    pub goes :
        (q : Place) (w : Word) (r : Place) → HasSameWord q → c.fetch q ≡ Some w → GoesTo HasSameWord w r →
        HasSameWord r

-- two scripts whose words are the same wherever a run comes have the same run
pub record SameWordsSameRun : Type 0 where
  pub same :
      (c : Script) (fetch : Place → Option Word) → AgreeOn c fetch →
      (input : List ℕ) (n : ℕ) → sym_run (with_words c fetch) input n ≡ sym_run c input n
