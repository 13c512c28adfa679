-- At the start no word is one that rewriting makes, and every word is kept.
use Rattle.std.proofs.Common.{◌≡◌, true, List, sym, subst}
use Rattle.om_isa.specs.declared.instr.Instr.{Instr}
use Rattle.om_isa.specs.declared.instr.Instr.TheVariants.{Mem, Jump, Branch, Alu, Cmov, Misc, Fnop, Halt, Callsys}
use Rattle.om_prog.specs.declared.item.Role.{Role}
use Rattle.om_prog.specs.declared.item.Role.TheVariants as role
use Rattle.om_prog.specs.Act as act
use Rattle.om_prog.specs.Act.{Act, Word}
use Rattle.om_prog.specs.View.{ProgramView}
use Rattle.om_prog.specs.Script.{act_of}
use Rattle.om_prog.specs.Valid.{IsProgram}
use Rattle.om_graph.specs.View.{Block, Shape, GraphView, Has, shape_of}
use Rattle.om_graph.specs.Run.{block_words, shape_words}
use Rattle.om_graph.specs.LeftIn.{is_kept}
use Rattle.om_graph.specs.Lifted.{IsLifted, lifted_shapes}
use Rattle.om_graph.proofs.OfProgram.{of_map, is_shape, shape_word}
use Rattle.om_graph.proofs.LiftedOf.{lifted_of, shape_here}
use Rattle.om_graph.specs.Left.{high_word}
use Rattle.om_graph.specs.Stands.{IsIdle, BasesStand, PairsWhole}
use Rattle.om_passes.specs.Keeping.{LiftedStands}
use Rattle.om_passes.proofs.Origins.{has_kept}
use Rattle.om_passes.proofs.Betweens.{first_in, last_in}
use Rattle.om_passes.proofs.Closed.{low_word}

-- what no program holds
abbrev pub IsMade : Act → Type 0
IsMade (act.AddrLda ra rb t) = Unit {0}
IsMade (act.AddrHi ra rb t) = Unit {0}
IsMade (act.UseLo i hi t) = Unit {0}
IsMade (act.UseGp i gp t) = Unit {0}
IsMade _ = ⊥

pub none_made : (r : Role) (i : Instr) → IsMade (act_of r i) → ⊥
none_made role.Plain i m = m
none_made (role.Lit t) (Mem o ra rb d) m = m
none_made (role.Lit t) (Jump k ra rb d) m = m
none_made (role.Lit t) (Branch o ra d) m = m
none_made (role.Lit t) (Alu o ra rb rc) m = m
none_made (role.Lit t) (Cmov k ra rb rc) m = m
none_made (role.Lit t) (Misc o ra rb) m = m
none_made (role.Lit t) Fnop m = m
none_made (role.Lit t) Halt m = m
none_made (role.Lit t) Callsys m = m
none_made (role.GpHi q) (Mem o ra rb d) m = m
none_made (role.GpHi q) (Jump k ra rb d) m = m
none_made (role.GpHi q) (Branch o ra d) m = m
none_made (role.GpHi q) (Alu o ra rb rc) m = m
none_made (role.GpHi q) (Cmov k ra rb rc) m = m
none_made (role.GpHi q) (Misc o ra rb) m = m
none_made (role.GpHi q) Fnop m = m
none_made (role.GpHi q) Halt m = m
none_made (role.GpHi q) Callsys m = m
none_made (role.GpLo q) (Mem o ra rb d) m = m
none_made (role.GpLo q) (Jump k ra rb d) m = m
none_made (role.GpLo q) (Branch o ra d) m = m
none_made (role.GpLo q) (Alu o ra rb rc) m = m
none_made (role.GpLo q) (Cmov k ra rb rc) m = m
none_made (role.GpLo q) (Misc o ra rb) m = m
none_made (role.GpLo q) Fnop m = m
none_made (role.GpLo q) Halt m = m
none_made (role.GpLo q) Callsys m = m
none_made (role.To q) (Mem o ra rb d) m = m
none_made (role.To q) (Jump k ra rb d) m = m
none_made (role.To q) (Branch o ra d) m = m
none_made (role.To q) (Alu o ra rb rc) m = m
none_made (role.To q) (Cmov k ra rb rc) m = m
none_made (role.To q) (Misc o ra rb) m = m
none_made (role.To q) Fnop m = m
none_made (role.To q) Halt m = m
none_made (role.To q) Callsys m = m

idle_made : (a : Act) → IsIdle a → IsMade a
idle_made (act.AddrLda ra rb t) i = tt
idle_made (act.AddrHi ra rb t) i = tt
idle_made (act.Plain j) i = absurd i
idle_made (act.Lit ra rb t) i = absurd i
idle_made (act.GpHi ra rb q) i = absurd i
idle_made (act.GpLo ra rb q) i = absurd i
idle_made (act.To o ra q) i = absurd i
idle_made (act.UseLo j q t) i = absurd i
idle_made (act.UseGp j gp t) i = absurd i
idle_made act.Wrong i = absurd i

module _ (p : ProgramView) (g : GraphView) (prog : IsProgram p) (lifted : IsLifted p g) where
  no_made : (b : Block) (w : Word) → Has g.blocks b → Has (block_words b) w → IsMade w.act → ⊥
  no_made b w hb hw m =
      let s = shape_here p prog g lifted b hb in
      let k = shape_word p prog (shape_of b) (is_shape p (shape_of b) s) w hw in
      none_made k.item.role k.item.instr (subst (λ (x : Word). IsMade x.act) (sym k.word) m)

  bases_stand : BasesStand p g
  bases_stand = record {
    uses = λ b s w i gp t hb hs e hw a. absurd (no_made b w hb hw (subst (λ (x : Act). IsMade x) (sym a) tt));
    idle = λ b w hb hw i. absurd (no_made b w hb hw (idle_made w.act i));
  }

  all_kept : (s : Shape) (w : Word) → Has (lifted_shapes p) s → Has (shape_words s) w → is_kept g w.at ≡ true
  all_kept s w hs hw =
      let r = of_map shape_of g.blocks s (subst (λ (l : List Shape). Has l s) (sym lifted.blocks) hs) in
      has_kept p prog g (lifted_of p prog g lifted) r.0 w r.1 (subst (λ (x : Shape). Has (shape_words x) w) (sym r.2) hw)

  pairs_whole : PairsWhole p g
  pairs_whole = record {
    low = λ s hi lo hs c k. all_kept s (high_word hi c.rb c.base) hs (first_in (shape_words s) (high_word hi c.rb c.base) c.mid (low_word hi lo) c.stands);
    high = λ s hi lo hs c k. all_kept s (low_word hi lo) hs (last_in (shape_words s) (high_word hi c.rb c.base) c.mid (low_word hi lo) c.stands);
  }

pub lifted_stands : LiftedStands
lifted_stands = record { bases = λ p g. bases_stand p g; pairs = λ p g. pairs_whole p g }
