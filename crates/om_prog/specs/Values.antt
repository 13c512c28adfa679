-- Values that registers are known to hold at a place, by LITERAL loads.
use Rattle.std.specs.Prelude.{◌≡◌, ℕ, ◌==◌, if◌then◌else◌, Option, Some, None}
use Rattle.om_value.specs.declared.value.Place.{Place}
use Rattle.om_value.specs.declared.value.Value.{Value}
use Rattle.om_value.specs.declared.value.Value.TheVariants.{Ptr, Gp}
use Rattle.om_value.specs.declared.value.Target.TheVariants as target
use Rattle.om_value.specs.Lift.{value_of}
use Rattle.om_prog.specs.Act.{Act, Lit, AddrLda, Word, Script, act_writes}
use Rattle.om_prog.specs.Step.{SymState, read_reg}
use Rattle.om_prog.specs.Flow.{GoesTo}
use Rattle.om_prog.specs.Facts.{has}

abbrev pub Values : Type 0
Values = ℕ → Option Value

abbrev pub no_values : Values
no_values r = None

-- what a load leaves: its target in ra, and the GP that it needed in rb
abbrev pub loaded : Script → Place → Act → Values → Values
loaded c at (Lit ra rb t) k r =
    if ra == 31 then k r else if ra == r then Some (value_of t) else if rb == r then Some (Gp (c.table at.obj)) else k r
loaded c at (AddrLda ra rb (target.Ptr g x)) k r =
    if ra == 31 then k r else if ra == r then Some (Ptr g x) else if rb == r then Some (Gp (c.table at.obj)) else k r
loaded c at a k r = if has (act_writes a) r then None else k r

pub record ValueFlows (c : Script) (K At : Place → Type 0) (known : Place → Values) : Type 0 where
  pub entry : (r : ℕ) → known c.entry r ≡ None
  pub goes :
      (p : Place) (w : Word) (q : Place) (r : ℕ) (v : Value) → At p → c.fetch p ≡ Some w →
      GoesTo K w q → known q r ≡ Some v → loaded c w.at w.act (known p) r ≡ Some v

abbrev pub HoldsValues : Values → SymState → Type 0
HoldsValues k s = (r : ℕ) (v : Value) → k r ≡ Some v → read_reg s.regs r ≡ v
