-- The image words of a true map are instructions.
use Rattle.std.proofs.Common.{◌≡◌, ℕ, true, Option, ap}
use Rattle.std.specs.Prelude.{ℤ, is_some}
use Rattle.om_isa.specs.declared.instr.Instr.{Instr}
use Rattle.om_isa.specs.declared.instr.Instr.TheVariants.{Mem, Jump, Branch, Alu, Cmov, Misc, Fnop, Halt, Callsys}
use Rattle.om_isa.specs.Words.{Encodes, instr_of}
use Rattle.om_isa.proofs.Reading.{complete}
use Rattle.om_value.specs.declared.value.Place.{Place}
use Rattle.om_value.specs.declared.value.Target.TheVariants as target
use Rattle.om_prog.specs.Act.{Act, Plain, Lit, GpHi, GpLo, To, AddrLda, AddrHi, UseLo, UseGp, Wrong, base_of}
use Rattle.om_prog.specs.View.{ProgramView}
use Rattle.om_graph.specs.View.{GraphView}
use Rattle.om_layout.specs.Layout.{LayoutView}
use Rattle.om_encode.specs.Halves.{from_gp}
use Rattle.om_encode.specs.Fields.{HasForm, HasUse, behind_high}

readable : (word : ℕ) (i : Instr) → Encodes word i → is_some (instr_of word) ≡ true
readable word i e = ap (λ (o : Option Instr). is_some o) (complete word i e)

module _ (p : ProgramView) (g : GraphView) (l : LayoutView) (at : Place) where
  use_reads : (word : ℕ) (i : Instr) (base : ℕ) (start : ℤ) → HasUse p g l at word i base start → is_some (instr_of word) ≡ true
  use_reads word (Mem op ra rb disp) base start u = readable word (Mem op ra base u.0) u.1
  use_reads word (Jump kind ra rb hint) base start u = absurd u
  use_reads word (Branch op ra d) base start u = absurd u
  use_reads word (Alu op ra rb rc) base start u = absurd u
  use_reads word (Cmov c ra rb rc) base start u = absurd u
  use_reads word (Misc op ra rb) base start u = absurd u
  use_reads word Fnop base start u = absurd u
  use_reads word Halt base start u = absurd u
  use_reads word Callsys base start u = absurd u

  -- an image word of one of the forms of an act is an instruction
  pub form_reads : (a : Act) (word : ℕ) → HasForm p g l at a word → is_some (instr_of word) ≡ true
  form_reads (Plain i) word f = readable word i f
  form_reads (Lit ra rb t) word f = readable word _ f.2
  form_reads (GpHi ra rb base) word f = readable word _ f.2
  form_reads (GpLo ra rb first) word f = readable word _ f.3
  form_reads (To op ra q) word f = readable word _ f.1
  form_reads (AddrLda ra rb (target.Num n)) word f = readable word _ f.1
  form_reads (AddrLda ra rb (target.Ptr r x)) word f = readable word _ f.1
  form_reads (AddrLda ra rb (target.Code q)) word f = absurd f
  form_reads (AddrHi ra rb t) word f = readable word _ f.2
  form_reads (UseLo i hi t) word f = use_reads word i (base_of i) (behind_high p g l at t f.0) f.2
  form_reads (UseGp i gp t) word f = use_reads word i gp (from_gp l at.obj t) f
  form_reads Wrong word f = absurd f
