-- A graph of a program has a flow.
use Rattle.std.proofs.Common.{◌≡◌, ◌<◌, ◌^◌, ◌/◌, ◌%◌, ◌==◌, ℕ, zero, suc, Bool, true, false, cond, List, [], ◌∷◌, Option, Some, None, length, refl, sym, ap, ◌∙◌, arith}
use Rattle.std.specs.Prelude.{map, slice_get, slice_index_or, is_some, option_and_then}
use Rattle.std.proofs.lemmas.Bool.{true≢false}
use Rattle.om_isa.specs.declared.instr.Instr.{Instr}
use Rattle.om_isa.specs.declared.instr.Instr.TheVariants.{Mem, Jump, Branch, Alu, Cmov, Misc, Fnop, Halt, Callsys}
use Rattle.om_value.specs.declared.value.Place.{Place}
use Rattle.om_value.specs.declared.value.Target.TheVariants as target
use Rattle.om_prog.specs.declared.item.Item.{Item}
use Rattle.om_prog.specs.declared.item.Role.{Role}
use Rattle.om_prog.specs.declared.item.Role.TheVariants as role
use Rattle.om_prog.specs.Act.{Act, Plain, Lit, GpHi, GpLo, To, AddrLda, AddrHi, UseLo, UseGp, Wrong, Word}
use Rattle.om_prog.specs.View.{ProgramView, is_word}
use Rattle.om_prog.specs.Script.{act_of}
use Rattle.om_prog.specs.Valid.{IsProgram, fits}
use Rattle.om_graph.specs.View.{Block, GraphView, Has}
use Rattle.om_graph.specs.Form.{text_size}
use Rattle.om_graph.specs.OfProgram.{IsGraphOf, IsForm, as_was, near, number, far, by_gp, by_high, byte, called, direct}
use Rattle.om_graph.specs.Run.{block_words, entry_of}
use Rattle.om_graph.proofs.OfProgram.{words_in_place, word_from, block_shape, shape_at, shape_word, index_below, map_length}
use Rattle.om_blocks.specs.IsFlow.{HasFlow}
use Rattle.om_blocks.specs.Laws.{GraphsHaveFlows}

right_act : (p : ProgramView) (text : List Item) (at : Place) (r : Role) (i : Instr) → fits p text at r i ≡ true → act_of r i ≡ Wrong → ⊥
right_act p text at role.Plain i f e = cc
right_act p text at (role.Lit t) (Mem o ra rb d) f e = cc
right_act p text at (role.Lit t) (Jump k ra rb h) f e = true≢false (sym f)
right_act p text at (role.Lit t) (Branch o ra d) f e = true≢false (sym f)
right_act p text at (role.Lit t) (Alu o ra rb rc) f e = true≢false (sym f)
right_act p text at (role.Lit t) (Cmov k ra rb rc) f e = true≢false (sym f)
right_act p text at (role.Lit t) (Misc o ra rb) f e = true≢false (sym f)
right_act p text at (role.Lit t) Fnop f e = true≢false (sym f)
right_act p text at (role.Lit t) Halt f e = true≢false (sym f)
right_act p text at (role.Lit t) Callsys f e = true≢false (sym f)
right_act p text at (role.GpHi base) (Mem o ra rb d) f e = cc
right_act p text at (role.GpHi base) (Jump k ra rb h) f e = true≢false (sym f)
right_act p text at (role.GpHi base) (Branch o ra d) f e = true≢false (sym f)
right_act p text at (role.GpHi base) (Alu o ra rb rc) f e = true≢false (sym f)
right_act p text at (role.GpHi base) (Cmov k ra rb rc) f e = true≢false (sym f)
right_act p text at (role.GpHi base) (Misc o ra rb) f e = true≢false (sym f)
right_act p text at (role.GpHi base) Fnop f e = true≢false (sym f)
right_act p text at (role.GpHi base) Halt f e = true≢false (sym f)
right_act p text at (role.GpHi base) Callsys f e = true≢false (sym f)
right_act p text at (role.GpLo hi) (Mem o ra rb d) f e = cc
right_act p text at (role.GpLo hi) (Jump k ra rb h) f e = true≢false (sym f)
right_act p text at (role.GpLo hi) (Branch o ra d) f e = true≢false (sym f)
right_act p text at (role.GpLo hi) (Alu o ra rb rc) f e = true≢false (sym f)
right_act p text at (role.GpLo hi) (Cmov k ra rb rc) f e = true≢false (sym f)
right_act p text at (role.GpLo hi) (Misc o ra rb) f e = true≢false (sym f)
right_act p text at (role.GpLo hi) Fnop f e = true≢false (sym f)
right_act p text at (role.GpLo hi) Halt f e = true≢false (sym f)
right_act p text at (role.GpLo hi) Callsys f e = true≢false (sym f)
right_act p text at (role.To q) (Mem o ra rb d) f e = true≢false (sym f)
right_act p text at (role.To q) (Jump k ra rb h) f e = true≢false (sym f)
right_act p text at (role.To q) (Branch o ra d) f e = cc
right_act p text at (role.To q) (Alu o ra rb rc) f e = true≢false (sym f)
right_act p text at (role.To q) (Cmov k ra rb rc) f e = true≢false (sym f)
right_act p text at (role.To q) (Misc o ra rb) f e = true≢false (sym f)
right_act p text at (role.To q) Fnop f e = true≢false (sym f)
right_act p text at (role.To q) Halt f e = true≢false (sym f)
right_act p text at (role.To q) Callsys f e = true≢false (sym f)

-- a form of a word that is no wrong one is none
right_form : (p : ProgramView) (ws : List Word) (w : Word) (a : Act) → (w.act ≡ Wrong → ⊥) → IsForm p ws w a → a ≡ Wrong → ⊥
right_form p ws w a n (as_was e) q = n (sym e ∙ q)
right_form p ws w a n (near ra rb x r o e) q = let k : AddrLda ra rb (target.Ptr r x) ≡ Wrong = sym e ∙ q in cc
right_form p ws w a n (number ra rb m o e) q = let k : AddrLda ra 31 (target.Num m) ≡ Wrong = sym e ∙ q in cc
right_form p ws w a n (far ra rb x r o e) q = let k : AddrHi ra rb (target.Ptr r x) ≡ Wrong = sym e ∙ q in cc
right_form p ws w a n (by_gp load r rb x region i z l o u b e) q = let k : UseGp i rb (target.Ptr region x) ≡ Wrong = sym e ∙ q in cc
right_form p ws w a n (by_high load r rb x region i z l o u b e) q = let k : UseLo i load.at (target.Ptr region x) ≡ Wrong = sym e ∙ q in cc
right_form p ws w a n (byte load r rb x region i l o u b e) q = cc
right_form p ws w a n (called ra to1 to o c e) q = cc
right_form p ws w a n (direct ra to1 to c k e) q = cc

module _ (p : ProgramView) (prog : IsProgram p) (g : GraphView) (of : IsGraphOf p g) where
  right : (b : Block) (w : Word) → Has g.blocks b → Has (block_words b) w → w.act ≡ Wrong → ⊥
  right b w hb hw e =
      let o = word_from p prog g of b hb w hw in
      let i = block_shape p prog g of b hb in
      let s = shape_word p prog (shape_at p prog g of b hb) i o.word o.among in
      right_form p _ o.word w.act (λ q. right_act p s.stands.0 (o.word).at s.item.role s.item.instr s.stands.1 (ap (λ (x : Word). x.act) s.word ∙ q)) o.form e

  counted : (texts : List (List Item)) (k : ℕ) → ((t : List Item) → slice_get texts k ≡ Some t → length t < 2 ^ 30) → slice_index_or (map (λ (t : List Item). length t) texts) k 0 < 2 ^ 30
  counted [] k h = omega arith
  counted (t ∷ texts) zero h = h t refl
  counted (t ∷ texts) (suc k) h = counted texts k h

  small : (obj : ℕ) → text_size g obj < 2 ^ 32
  small obj =
      let e = ap (λ (c : List ℕ). slice_index_or c obj 0) of.counts in
      let h = counted p.texts obj (λ t f. (prog.texts.each obj t f).words) in
      omega (arith, e, h)

  pub has_flow : HasFlow g
  has_flow = record { form = of.form; places = words_in_place p prog g of; right = record { none = right }; small = small }

  word_object : (q : Place) → is_word p q ≡ true → q.obj < length p.texts
  word_object q e = by_test (q.off % 4 == 0) (slice_get p.texts q.obj) refl e
    where
      by_test :
          (t : Bool) (o : Option (List Item)) → slice_get p.texts q.obj ≡ o →
          is_some (cond t (option_and_then (λ (text : List Item). slice_get text (q.off / 4)) o) None) ≡ true → q.obj < length p.texts
      by_test true (Some t) f e = index_below p.texts q.obj t f
      by_test true None f e = cc
      by_test false o f e = cc

  pub entry_object : (entry_of g.roots).obj < length g.counts
  entry_object =
      let n = ap (λ (c : List ℕ). length c) of.counts ∙ map_length (λ (t : List Item). length t) p.texts in
      let r = ap (λ (l : List Place). (entry_of l).obj) of.roots in
      let h = word_object p.entry prog.entry in
      omega (arith, n, r, h)

pub graphs_have_flows : GraphsHaveFlows
graphs_have_flows = record { flow = λ p g prog of. has_flow p prog g of; entry = λ p g prog of. entry_object p prog g of }
