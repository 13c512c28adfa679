-- Where kept words lead: a load of the address of a place in code loads that of a word of the program, and behind an
-- opening pair that is closed in its kept block a block of the program begins.
use Rattle.std.proofs.Common.{◌≡◌, ◌<◌, ℕ, true, List, length, sym, ap, ◌∙◌, subst, arith}
use Rattle.std.specs.Prelude.{map}
use Rattle.om_isa.specs.declared.instr.MemOp.{MemOp}
use Rattle.om_isa.specs.declared.instr.MemOp.TheVariants.{Lda, Ldq, Ldah, Ldbu, LdqU, Ldwu, Stw, Stb, StqU, Ldl, Stl, Stq}
use Rattle.om_isa.specs.declared.instr.Instr.{Instr}
use Rattle.om_isa.specs.declared.instr.Instr.TheVariants.{Mem, Jump, Branch, Alu, Cmov, Misc, Fnop, Halt, Callsys}
use Rattle.om_value.specs.declared.value.Place.{Place}
use Rattle.om_value.specs.declared.value.Target.{Target}
use Rattle.om_value.specs.declared.value.Target.TheVariants as target
use Rattle.om_prog.specs.declared.item.Item.{Item}
use Rattle.om_prog.specs.declared.item.Role.{Role}
use Rattle.om_prog.specs.declared.item.Role.TheVariants as role
use Rattle.om_prog.specs.Act.{Lit, Word}
use Rattle.om_prog.specs.Script.{act_of}
use Rattle.om_prog.specs.View.{ProgramView, is_word}
use Rattle.om_prog.specs.Valid.{IsProgram, fits, is_target}
use Rattle.om_prog.specs.Step.{next_place}
use Rattle.om_graph.specs.View.{Block, GraphView, Has}
use Rattle.om_graph.specs.Run.{block_words}
use Rattle.om_graph.specs.Uses.{IsClosedOpening}
use Rattle.om_graph.specs.Lifted.{lifted_shapes}
use Rattle.om_graph.specs.OfProgram.{IsGraphOf}
use Rattle.om_graph.proofs.OfProgram.{to_map, index_below, map_length}
use Rattle.om_graph.proofs.LiftedKept.{word_at}
use Rattle.om_passes.proofs.Origins.{source_of}
use Rattle.om_passes.proofs.Sources.{some_item, lit_source, role_fits}
use Rattle.om_passes.proofs.BehindPairs.{place_shape, begins_behind}
use Rattle.om_passes.proofs.Openings.{may_be_passed}

-- ---- loads

load_target : (p : ProgramView) (text : List Item) (at : Place) (r : Role) (i : Instr) (ra rb : ℕ) (t : Target) → act_of r i ≡ Lit ra rb t → fits p text at r i ≡ true → is_target p t ≡ true
load_target p text at role.Plain i ra rb t e f = cc
load_target p text at (role.Lit u) (Mem o rc rd d) ra rb t e f = let s : u ≡ t = cc in subst (λ (x : Target). is_target p x ≡ true) s (by_op o f)
  where
    by_op : (o : MemOp) → fits p text at (role.Lit u) (Mem o rc rd d) ≡ true → is_target p u ≡ true
    by_op Ldq f = f
    by_op Lda f = cc
    by_op Ldah f = cc
    by_op Ldbu f = cc
    by_op LdqU f = cc
    by_op Ldwu f = cc
    by_op Stw f = cc
    by_op Stb f = cc
    by_op StqU f = cc
    by_op Ldl f = cc
    by_op Stl f = cc
    by_op Stq f = cc
load_target p text at (role.Lit u) (Jump k rc rd h) ra rb t e f = cc
load_target p text at (role.Lit u) (Branch o rc d) ra rb t e f = cc
load_target p text at (role.Lit u) (Alu o rc rd re) ra rb t e f = cc
load_target p text at (role.Lit u) (Cmov k rc rd re) ra rb t e f = cc
load_target p text at (role.Lit u) (Misc o rc rd) ra rb t e f = cc
load_target p text at (role.Lit u) Fnop ra rb t e f = cc
load_target p text at (role.Lit u) Halt ra rb t e f = cc
load_target p text at (role.Lit u) Callsys ra rb t e f = cc
load_target p text at (role.GpHi b) (Mem o rc rd d) ra rb t e f = cc
load_target p text at (role.GpHi b) (Jump k rc rd h) ra rb t e f = cc
load_target p text at (role.GpHi b) (Branch o rc d) ra rb t e f = cc
load_target p text at (role.GpHi b) (Alu o rc rd re) ra rb t e f = cc
load_target p text at (role.GpHi b) (Cmov k rc rd re) ra rb t e f = cc
load_target p text at (role.GpHi b) (Misc o rc rd) ra rb t e f = cc
load_target p text at (role.GpHi b) Fnop ra rb t e f = cc
load_target p text at (role.GpHi b) Halt ra rb t e f = cc
load_target p text at (role.GpHi b) Callsys ra rb t e f = cc
load_target p text at (role.GpLo b) (Mem o rc rd d) ra rb t e f = cc
load_target p text at (role.GpLo b) (Jump k rc rd h) ra rb t e f = cc
load_target p text at (role.GpLo b) (Branch o rc d) ra rb t e f = cc
load_target p text at (role.GpLo b) (Alu o rc rd re) ra rb t e f = cc
load_target p text at (role.GpLo b) (Cmov k rc rd re) ra rb t e f = cc
load_target p text at (role.GpLo b) (Misc o rc rd) ra rb t e f = cc
load_target p text at (role.GpLo b) Fnop ra rb t e f = cc
load_target p text at (role.GpLo b) Halt ra rb t e f = cc
load_target p text at (role.GpLo b) Callsys ra rb t e f = cc
load_target p text at (role.To q) (Mem o rc rd d) ra rb t e f = cc
load_target p text at (role.To q) (Jump k rc rd h) ra rb t e f = cc
load_target p text at (role.To q) (Branch o rc d) ra rb t e f = cc
load_target p text at (role.To q) (Alu o rc rd re) ra rb t e f = cc
load_target p text at (role.To q) (Cmov k rc rd re) ra rb t e f = cc
load_target p text at (role.To q) (Misc o rc rd) ra rb t e f = cc
load_target p text at (role.To q) Fnop ra rb t e f = cc
load_target p text at (role.To q) Halt ra rb t e f = cc
load_target p text at (role.To q) Callsys ra rb t e f = cc

module _ (p : ProgramView) (prog : IsProgram p) (g : GraphView) (of : IsGraphOf p g) where
  pub loaded_word : (b : Block) (w : Word) (ra rb : ℕ) (q : Place) → Has g.blocks b → Has (block_words b) w → w.act ≡ Lit ra rb (target.Code q) → is_word p q ≡ true
  loaded_word b w ra rb q hb hw e =
      let s = source_of p prog g of b w hb hw in
      let i = some_item p w.at s.word s.fetched in
      let f = role_fits p prog w.at i.0 i.1 in
      load_target p f.0 w.at (i.0).role (i.0).instr ra rb (target.Code q) (ap (λ (x : Word). x.act) i.2 ∙ lit_source p _ s.word w.act ra rb (target.Code q) s.form e) f.2

  -- it is of one of the graph's objects
  pub loaded_object : (b : Block) (w : Word) (ra rb : ℕ) (q : Place) → Has g.blocks b → Has (block_words b) w → w.act ≡ Lit ra rb (target.Code q) → q.obj < length g.counts
  loaded_object b w ra rb q hb hw e =
      let x = word_at p q (loaded_word b w ra rb q hb hw e) in
      let i = index_below p.texts q.obj x.text x.found in
      let n = ap (λ (c : List ℕ). length c) of.counts ∙ map_length (λ (t : List Item). length t) p.texts in
      omega (arith, i, n)

  -- ---- opening pairs

  pub behind_opening : (b : Block) → Has g.blocks b → IsClosedOpening g b → Has g.labels (next_place (next_place b.label))
  behind_opening b hb o =
      let m = may_be_passed p prog g of b hb o in
      let s = place_shape p prog (next_place (next_place b.label)) m.more (begins_behind p b.label m.opening) in
      subst (λ (l : List Place). Has l (next_place (next_place b.label))) (sym of.labels)
      (subst (λ (x : Place). Has (map (λ s. s.label) (lifted_shapes p)) x) s.2 (to_map (λ s. s.label) (lifted_shapes p) s.0 s.1))
