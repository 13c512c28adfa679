-- Runs of the symbolic machine over a script.
use Rattle.std.specs.Prelude.{◌≡◌, ℕ, zero, suc, Bool, true, false, not, List, [], ◌∷◌, Option, Some, None, IsTrue}
use Rattle.om_value.specs.declared.value.Place.{Place}
use Rattle.om_value.specs.declared.value.Region.TheVariants.{Stack}
use Rattle.om_value.specs.declared.value.Value.{Value}
use Rattle.om_value.specs.declared.value.Value.TheVariants.{Num, Ptr, Code, Gp}
use Rattle.om_prog.specs.Act.{Word, Script}
use Rattle.om_prog.specs.Step.{SymState, SymEnd, ObservedAt, write_reg, act_effect, ends, after}

-- where no word follows, the run would show what comes behind the text
abbrev pub step_word : Script → SymState → Option Word → SymState
step_word c s None = ends s s.place (ObservedAt s.place)
step_word c s (Some w) = after s w.at (act_effect c s w.at w.act)

abbrev pub step_if : Option SymEnd → Script → SymState → SymState
step_if None c s = step_word c s (c.fetch s.place)
step_if (Some e) c s = s

-- a state that has ended stays as it is
unfoldable pub sym_step : Script → SymState → SymState
sym_step c s = step_if s.ended c s

-- at the start r27 holds the entry, r29 the global pointer of the entry's object, r30 the stack's pointer 64
-- bytes below its end, and all others 0: this project's own
abbrev pub start_offset : ℕ
start_offset = 1048512

abbrev pub start_regs : Script → ℕ → Value
start_regs c =
    write_reg
    (write_reg (write_reg (λ r. Num 0) 27 (Code c.entry)) 29 (Gp (c.table c.entry.obj)))
    30
    (Ptr Stack start_offset)

unfoldable pub sym_start : Script → List ℕ → SymState
sym_start c input =
    record {
      regs = start_regs c;
      place = c.entry;
      cells = c.cells;
      heap = 0;
      input = input;
      out = [];
      err = [];
      ended = None;
    }

-- the state after n steps
unfoldable pub sym_run : Script → List ℕ → ℕ → SymState
sym_run c input zero = sym_start c input
sym_run c input (suc n) = sym_step c (sym_run c input n)

-- ---- the words that a run has run, the last one first

abbrev pub add_word : Option Word → List Place → List Place
add_word None ps = ps
add_word (Some w) ps = w.at ∷ ps

abbrev pub add_step : Option SymEnd → Script → SymState → List Place → List Place
add_step None c s ps = add_word (c.fetch s.place) ps
add_step (Some e) c s ps = ps

unfoldable pub trace : Script → List ℕ → ℕ → List Place
trace c input zero = []
trace c input (suc n) = add_step (sym_run c input n).ended c (sym_run c input n) (trace c input n)

-- ---- runs that show no address

-- the run has observed: it stands where the next step would show an address

abbrev pub has_observed : Option SymEnd → Bool
has_observed (Some (ObservedAt p)) = true
has_observed _ = false

-- the run has not observed by n steps
abbrev pub is_clean : Script → List ℕ → ℕ → Bool
is_clean c input n = not (has_observed (sym_run c input n).ended)

abbrev pub IsClean : Script → List ℕ → ℕ → Type 0
IsClean c input n = IsTrue (is_clean c input n)

-- what can be told of two runs from outside is the same: what they wrote, what is left of the input, and whether
-- and how they have ended, a trap at the same place
pub record Alike (s t : SymState) : Type 0 where
  pub input : t.input ≡ s.input
  pub out : t.out ≡ s.out
  pub err : t.err ≡ s.err
  pub ended : t.ended ≡ s.ended
