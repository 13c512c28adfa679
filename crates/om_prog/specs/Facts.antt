-- What r29 holds at a place.
use Rattle.std.specs.Prelude.{◌≡◌, ◌⊎◌, ℕ, Bool, false, ◌||◌, ◌==◌, List, [], ◌∷◌, Some, if◌then◌else◌}
use Rattle.om_value.specs.declared.value.Place.{Place}
use Rattle.om_value.specs.declared.value.Value.TheVariants.{Gp}
use Rattle.om_prog.specs.Act.{Act, GpLo, Word, Script, act_writes}
use Rattle.om_prog.specs.Step.{SymState, read_reg}
use Rattle.om_prog.specs.Flow.{GoesTo}

pub data Fact : Type 0 where
  -- no walk comes here
  Any : Fact
  Table : (table : ℕ) → Fact
  Unknown : Fact

abbrev pub has : List ℕ → ℕ → Bool
has [] x = false
has (r ∷ rs) x = (r == x) || has rs x

-- what a write of r29 by a word leaves
abbrev pub set_fact : Script → Word → Act → Fact
set_fact c w (GpLo ra rb hi) = Table (c.table w.at.obj)
set_fact c w _ = Unknown

abbrev pub changed : Script → Word → Fact → Fact
changed c w Any = Any
changed c w f = if has (act_writes w.act) 29 then set_fact c w w.act else f

-- a fact at the end of a walk's step allows one where it goes
abbrev pub Allows : Fact → Fact → Type 0
Allows Any g = Unit {0}
Allows f Unknown = Unit {0}
Allows f g = f ≡ g

-- along the steps from places of which At holds, where a run comes
pub record GpFlows (c : Script) (K At : Place → Type 0) (fact : Place → Fact) : Type 0 where
  pub entry : (fact c.entry ≡ Unknown) ⊎ (fact c.entry ≡ Table (c.table c.entry.obj))
  pub goes :
      (p : Place) (w : Word) (q : Place) → At p → c.fetch p ≡ Some w → GoesTo K w q →
      Allows (changed c w (fact p)) (fact q)

-- a fact holds of a state
abbrev pub Holds : Fact → SymState → Type 0
Holds Any s = ⊥
Holds (Table t) s = read_reg s.regs 29 ≡ Gp t
Holds Unknown s = Unit {0}

-- ---- inside a block

-- the fact behind words, the last one first
abbrev pub changed_by : Script → Fact → List Word → Fact
changed_by c f [] = f
changed_by c f (w ∷ bf) = changed c w (changed_by c f bf)

-- where no walk comes each table is a fact, but where another word than the low half of a GPDISP wrote r29 last
abbrev pub unreached_write : Act → Fact
unreached_write (GpLo ra rb hi) = Any
unreached_write _ = Unknown

abbrev pub unreached : List Word → Fact
unreached [] = Any
unreached (w ∷ bf) = if has (act_writes w.act) 29 then unreached_write w.act else unreached bf

-- the fact behind the words of a block with that fact at its start, the last word first
abbrev pub fact_behind : Script → Fact → List Word → Fact
fact_behind c Any bf = unreached bf
fact_behind c f bf = changed_by c f bf

-- a table is a fact: each one is, where no walk comes
abbrev pub IsFact : Fact → ℕ → Type 0
IsFact Any t = Unit {0}
IsFact (Table u) t = u ≡ t
IsFact Unknown t = ⊥
