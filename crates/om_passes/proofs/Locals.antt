-- Local uses among the words of a program, and among the kept ones.
use Rattle.std.proofs.Common.{◌≡◌, ℕ, sym, ◌∙◌, subst}
use Rattle.om_isa.specs.declared.instr.Instr.{Instr}
use Rattle.om_prog.specs.Act as act
use Rattle.om_prog.specs.Act.{Word, act_reads}
use Rattle.om_prog.specs.Flow.{Among}
use Rattle.om_prog.specs.View.{ProgramView}
use Rattle.om_prog.specs.Valid.{IsProgram}
use Rattle.om_graph.specs.View.{Block, Shape, GraphView, Has}
use Rattle.om_graph.specs.Run.{block_words, shape_words}
use Rattle.om_graph.specs.Form.{Ordered}
use Rattle.om_graph.specs.Lifted.{lifted_shapes}
use Rattle.om_graph.specs.OfProgram.{IsForm, IsBlockOf, IsGraphOf, IsLastWriter, CameFromLoad}
use Rattle.om_graph.specs.Uses.{Between, IsLocalUse}
use Rattle.om_graph.proofs.OfProgram.{is_shape, shape_ordered, words_in_place}
use Rattle.om_graph.proofs.Itself.{unique}
use Rattle.om_passes.proofs.Origins.{kept_of}
use Rattle.om_passes.proofs.Betweens.{first_in, last_in}

module _ (p : ProgramView) (prog : IsProgram p) (g : GraphView) (of : IsGraphOf p g) where
  pub source_ordered : (s : Shape) → Has (lifted_shapes p) s → Ordered (shape_words s)
  source_ordered s h = shape_ordered p prog s (is_shape p s h)

  pub block_ordered : (b : Block) → Has g.blocks b → Ordered (block_words b)
  block_ordered b h = (words_in_place p prog g of).ordered b h

  pub block_object : (b : Block) → Has g.blocks b → (x y : Word) → Has (block_words b) x → Has (block_words b) y → x.at.obj ≡ y.at.obj
  block_object b h x y hx hy = ((words_in_place p prog g of).words b x h hx).object ∙ sym ((words_in_place p prog g of).words b y h hy).object

  -- the load of a use that is kept as it stands is kept, and the use is one among the kept words
  pub record KeptLocal (s : Shape) (load u : Word) (r : ℕ) (b : Block) : Type 0 where
    pub load' : Word
    pub has : Has (block_words b) load'
    pub place : load'.at ≡ load.at
    pub form : IsForm p (shape_words s) load load'.act
    pub local : IsLocalUse (block_words b) load' u r

  pub kept_local :
      (s : Shape) (load user u : Word) (r : ℕ) (i : Instr) (b : Block) → Has (lifted_shapes p) s → (l : IsLocalUse (shape_words s) load user r) →
      CameFromLoad load.act → Has g.blocks b → IsBlockOf p s b → Has (block_words b) u → u.at ≡ user.at → u.act ≡ act.Plain i → Among (act_reads u.act) r →
      KeptLocal s load u r b
  kept_local s load user u r i b hs l c hb k hu e a m = by_writer ((k.same_load u i r hu a m l.register).0 load writer c)
    where
      writer : IsLastWriter (shape_words s) u.at r load
      writer = (l.mid, user, sym e, l.stands, l.unwritten, l.writes)

      by_writer : (v : Word) × IsLastWriter (block_words b) u.at r v × (v.at ≡ load.at) → KeptLocal s load u r b
      by_writer (v, w, q) =
          let x = w.1 in
          let hx = last_in (block_words b) v w.0 x w.3 in
          let same : x ≡ u = unique (block_words b) u x (block_ordered b hb) hu hx w.2 in
          let hv = first_in (block_words b) v w.0 x w.3 in
          let f = kept_of p prog g of s load v b hs (first_in (shape_words s) load l.mid user l.stands) hb hv q in
          record {
            load' = v;
            has = hv;
            place = q;
            form = f.1;
            local = record {
              mid = w.0;
              stands = subst (λ (y : Word). Between (block_words b) v w.0 y) same w.3;
              writes = w.5;
              unwritten = w.4;
              reads = m;
              register = l.register;
            };
          }
