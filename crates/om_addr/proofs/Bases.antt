-- Base uses of a near load go over the base of the load.
use Rattle.std.proofs.Common.{◌≡◌, ◌⊎◌, inl, inr, ℕ, ◌+◌, ◌^◌, ◌<◌, ◌≤◌, Bool, true, false, cond, not, ◌&&◌, ◌||◌, ◌==◌, List, [], ◌∷◌, ◌++◌, Option, Some, None, refl, sym, ap, ◌∙◌, subst, arith}
use Rattle.std.specs.Prelude.{ℤ, pos, negsuc, ◌+ℤ◌, ◌≤ℤ◌, int_le, FitsSigned}
use Rattle.std.specs.Int.{w16}
use Rattle.std.proofs.lemmas.Bool.{true≢false, eqb-true, eq-eqb}
use Rattle.std.proofs.lemmas.Int.{ints}
use Rattle.om_isa.specs.declared.instr.Access.{Access}
use Rattle.om_isa.specs.declared.instr.Access.TheVariants.{Address, Load as Loads, Store}
use Rattle.om_isa.specs.declared.instr.Instr.{Instr}
use Rattle.om_isa.specs.declared.instr.Instr.TheVariants.{Mem, Jump, Branch, Alu, Cmov, Misc, Fnop, Halt, Callsys}
use Rattle.om_isa.specs.Registers.{access_of, memory_reads, mask_of, regs_read}
use Rattle.om_value.specs.declared.value.Place.{Place}
use Rattle.om_value.specs.declared.value.Region.{Region}
use Rattle.om_value.specs.declared.value.Target.{Target}
use Rattle.om_value.specs.declared.value.Target.TheVariants as target
use Rattle.om_prog.specs.Act as act
use Rattle.om_prog.specs.Act.{Act, Word, act_reads, act_writes, stored_reads, used_reads}
use Rattle.om_prog.specs.Flow.{Among}
use Rattle.om_prog.specs.Facts.{has}
use Rattle.om_prog.specs.View.{ProgramView, size_of}
use Rattle.om_prog.specs.Valid.{IsProgram}
use Rattle.om_graph.specs.declared.op.Op.{Op}
use Rattle.om_graph.specs.declared.op.OpKind.{OpKind}
use Rattle.om_graph.specs.declared.op.OpKind.TheVariants as op
use Rattle.om_graph.specs.View.{Node, Block, GraphView, Has, op_of, ops_of, replaced}
use Rattle.om_graph.specs.Held.{IsGraph}
use Rattle.om_graph.specs.Numbers.{AreNumbered}
use Rattle.om_graph.specs.Run.{block_words, last_words, op_act, op_word, rev_onto}
use Rattle.om_graph.specs.Form.{ends_block}
use Rattle.om_graph.specs.Fits.{from_gp, OpFits, LdaFits, SumIsWithin}
use Rattle.om_graph.specs.Uses.{NoneWrites, Unwritten, IsLocalUse, IsBaseUse}
use Rattle.om_graph.proofs.OfProgram.{words_in_place}
use Rattle.om_graph.proofs.Masks.{among_true}
use Rattle.om_blocks.specs.IsFlow.{HasFlow}
use Rattle.om_blocks.specs.Effects.{kind_reads, kind_writes}
use Rattle.om_blocks.proofs.Walking.{has_mid}
use Rattle.om_blocks.proofs.LastWords.{has_left, has_right}
use Rattle.om_blocks.proofs.Doing.{bare_bit}
use Rattle.om_blocks.proofs.OfPrograms.{has_flow}
use Rattle.om_uses.specs.Scans.{has_bit}
use Rattle.om_uses.specs.Readers.{is_kept}
use Rattle.om_uses.specs.LocalUses.{word_of, words_of}
use Rattle.om_uses.proofs.LocalUses.{AreRight, act_reads_of, words_append, word_in, kept_none, none_kept}
use Rattle.om_layout.specs.Layout.{LayoutView, gp_of, address_of}
use Rattle.om_passes.specs.AtPlaces.{NoHalf}
use Rattle.om_passes.specs.Step.{Step}
use Rattle.om_passes.specs.OneEdit.{MayGoOn}
use Rattle.om_checks.specs.Steps.{ChangesTo, WasRead, node_words}
use Rattle.om_checks.proofs.Forms as form
use Rattle.om_addr.specs.Passing.{HasRegionsOf, ReducingOnce}
use Rattle.om_addr.specs.declared.loads.Load.{Load}
use Rattle.om_addr.specs.declared.near.Pointer.{Pointer}
use Rattle.om_addr.specs.Loads.{load_kind, IsLoadIn}
use Rattle.om_addr.specs.Near.{Lies, IsSaid, IsTame, serves, is_base_use, disp_in, is_small, reaches_at, base_kind, NoBaseUseOf}
use Rattle.om_addr.proofs.AddressSteps.{gp_step}
use Rattle.om_addr.proofs.OpOnce.{op_once}
use Rattle.om_addr.proofs.Walking.{At, is_op, OnUses, NextUse, next_use, Passed, Walked, Settles}
use Rattle.om_addr.proofs.UsesLeft.{local_use, no_use_left, NoneEnds}
use Rattle.om_addr.proofs.Bytes.{both, differ, not_equal, untrue, writes_bit, kept_on, bit_none, ends_none, load_writes, load_loads}

-- the walk ends behind an op that writes the register or the base
abbrev pub writes_either : ℕ → ℕ → OpKind → Bool
writes_either r rb k = writes_bit r k || writes_bit rb k

-- ---- what a base use is

served : (a : Access) (ra r rb : ℕ) → rb ≡ r → serves a ra r ≡ true → (a ≡ Address → ⊥) × (a ≡ Store → ra ≡ r → ⊥) × (has (memory_reads a ra rb) r ≡ true)
served Address ra r rb e h = absurd (true≢false (sym h))
served Loads ra r rb e h = (
  λ a. no_address a,
  λ a. no_store a,
  ap (λ (t : Bool). has (cond t [] (rb ∷ [])) r) (untrue (ra == 31) h) ∙ first rb r (eq-eqb rb r e),
)
  where
    no_address : Loads ≡ Address → ⊥
    no_address a = cc

    no_store : Loads ≡ Store → ra ≡ r → ⊥
    no_store a = cc

    first : (x y : ℕ) → (x == y) ≡ true → has (x ∷ []) y ≡ true
    first x y e = rw e refl
served Store ra r rb e h = (λ a. no_address a, λ s. differ ra r (untrue (ra == r) h), second (ra == r) (eq-eqb rb r e))
  where
    no_address : Store ≡ Address → ⊥
    no_address a = cc

    second : (t : Bool) → (rb == r) ≡ true → (t || ((rb == r) || false)) ≡ true
    second true f = refl
    second false f = rw f refl

serving : (a : Access) (ra r rb : ℕ) → (a ≡ Address → ⊥) → (a ≡ Store → ra ≡ r → ⊥) → has (memory_reads a ra rb) r ≡ true → serves a ra r ≡ true
serving Address ra r rb n s h = absurd (n refl)
serving Loads ra r rb n s h = by_test (ra == 31) h
  where
    by_test : (t : Bool) → has (cond t [] (rb ∷ [])) r ≡ true → not t ≡ true
    by_test true h = absurd (true≢false (sym h))
    by_test false h = refl
serving Store ra r rb n s h = let e = not_equal ra r (s refl) in rw e refl

pub record IsUse (r : ℕ) (i : Instr) : Type 0 where
  pub base : IsBaseUse r i (disp_in i)
  pub other : r ≡ 31 → ⊥
  pub reads : has (regs_read i) r ≡ true

pub base_use_is : (r : ℕ) (i : Instr) → is_base_use r i ≡ true → IsUse r i
base_use_is r (Mem o ra rb d) e =
    let a = both ((rb == r) && not (r == 31)) (serves (access_of o) ra r) e in
    let b = both (rb == r) (not (r == 31)) a.0 in
    let same = eqb-true rb r b.0 in
    let s = served (access_of o) ra r rb same a.1 in
    record { base = (same, refl, s.0, s.1); other = differ r 31 (untrue (r == 31) b.1); reads = s.2 }
base_use_is r (Alu o ra rb rc) e = absurd (true≢false (sym e))
base_use_is r (Jump k ra rb h) e = absurd (true≢false (sym e))
base_use_is r (Branch o ra d) e = absurd (true≢false (sym e))
base_use_is r (Cmov c ra rb rc) e = absurd (true≢false (sym e))
base_use_is r (Misc o ra rb) e = absurd (true≢false (sym e))
base_use_is r Fnop e = absurd (true≢false (sym e))
base_use_is r Halt e = absurd (true≢false (sym e))
base_use_is r Callsys e = absurd (true≢false (sym e))

is_base : (r : ℕ) (i : Instr) (z : ℤ) → IsBaseUse r i z → (r ≡ 31 → ⊥) → has (regs_read i) r ≡ true → (is_base_use r i ≡ true) × (disp_in i ≡ z) × (ends_block i ≡ false)
is_base r (Mem o ra rb d) z u other h =
    let a = eq-eqb rb r u.0 in
    let b = not_equal r 31 other in
    let c = serving (access_of o) ra r rb u.2 u.3 h in
    (rw (a, b, c) refl, u.1, refl)
is_base r (Alu o ra rb rc) z u other h = absurd u
is_base r (Jump k ra rb x) z u other h = absurd u
is_base r (Branch o ra d) z u other h = absurd u
is_base r (Cmov c ra rb rc) z u other h = absurd u
is_base r (Misc o ra rb) z u other h = absurd u
is_base r Fnop z u other h = absurd u
is_base r Halt z u other h = absurd u
is_base r Callsys z u other h = absurd u

-- ---- what an op becomes

record BecomesGp (l : Load) (at : Pointer) (k z : OpKind) : Type 0 where
  instr : Instr
  was : k ≡ op.Plain instr
  is : z ≡ op.UseGp instr l.rb l.target
  used : is_base_use l.ra instr ≡ true
  reach : reaches_at at (disp_in instr) ≡ true

becomes : (l : Load) (at : Pointer) (k z : OpKind) → base_kind l at k ≡ Some z → BecomesGp l at k z
becomes l at (op.Plain i) z e = by_test (is_base_use l.ra i && reaches_at at (disp_in i)) refl e
  where
    by_test : (b : Bool) → (is_base_use l.ra i && reaches_at at (disp_in i)) ≡ b → cond b (Some (op.UseGp i l.rb l.target)) None ≡ Some z → BecomesGp l at (op.Plain i) z
    by_test true t e = let h = both (is_base_use l.ra i) (reaches_at at (disp_in i)) t in record { instr = i; was = refl; is = cc; used = h.0; reach = h.1 }
    by_test false t e = cc
becomes l at (op.Lit ra rb t) z e = cc
becomes l at (op.AddrLda ra rb t) z e = cc
becomes l at (op.AddrHi ra rb t y) z e = cc
becomes l at (op.UseGp j gp t) z e = cc
becomes l at (op.GpHi ra rb q) z e = cc
becomes l at (op.GpLo ra rb q) z e = cc
becomes l at (op.UseLo j q) z e = cc

pub base_settles : (l : Load) (at : Pointer) → Settles (base_kind l at) (writes_either l.ra l.rb)
base_settles l at = record { none = none; end = end }
  where
    none : (k z : OpKind) → base_kind l at k ≡ Some z → base_kind l at z ≡ None
    none k z e = let b = becomes l at k z e in ap (base_kind l at) b.is

    end : (k z : OpKind) → base_kind l at k ≡ Some z → writes_either l.ra l.rb z ≡ writes_either l.ra l.rb k
    end k z e = let b = becomes l at k z e in ap (writes_either l.ra l.rb) b.is ∙ ap (writes_either l.ra l.rb) (sym b.was)

-- ---- kept on the walk

or_false : (a b : Bool) → (a || b) ≡ false → (a ≡ false) × (b ≡ false)
or_false false b e = (refl, e)
or_false true b e = absurd (true≢false e)

first_none : (r rb : ℕ) → r < 31 → (k : OpKind) → writes_either r rb k ≡ false → has (kind_writes k) r ≡ false
first_none r rb l k e = bit_none r l k (or_false (writes_bit r k) (writes_bit rb k) e).0

second_none : (r rb : ℕ) → rb < 31 → (k : OpKind) → writes_either r rb k ≡ false → has (kind_writes k) rb ≡ false
second_none r rb l k e = bit_none rb l k (or_false (writes_bit r k) (writes_bit rb k) e).1

never_31 : (k : OpKind) → writes_bit 31 k ≡ false
never_31 k = ap (λ (n : ℕ). n == 1) (bare_bit (kind_writes k))

-- neither is written where none of some words writes one
ends_either :
    (r rb : ℕ) (front : List Node) → NoneEnds (writes_bit r) front → NoneEnds (writes_bit rb) front → NoneEnds (writes_either r rb) front
ends_either r rb [] a b = tt
ends_either r rb (n ∷ front) a b = (ap (λ (t : Bool). t || writes_bit rb n.op.kind) a.0 ∙ b.0, ends_either r rb front a.1 b.1)

ends_31 : (front : List Node) → NoneEnds (writes_bit 31) front
ends_31 [] = tt
ends_31 (n ∷ front) = (never_31 n.op.kind, ends_31 front)

-- ---- masks

rev_both : (xs : List Word) (w : Word) (ys acc : List Word) → rev_onto (xs ++ w ∷ ys) acc ≡ rev_onto ys (w ∷ rev_onto xs acc)
rev_both [] w ys acc = refl
rev_both (x ∷ xs) w ys acc = rev_both xs w ys (x ∷ acc)

load_reads : (os : List Op) (l : Load) (x : Op) → x.kind ≡ load_kind l → (l.ra ≡ 31 → ⊥) → has (act_reads (op_act os x.kind)) l.rb ≡ true
load_reads os l x e other = ap (λ (k : OpKind). has (act_reads (op_act os k)) l.rb) e ∙ by_slot l.from_slot
  where
    first : has (l.rb ∷ []) l.rb ≡ true
    first = let s = eq-eqb l.rb l.rb refl in rw s refl

    by_slot : (b : Bool) → has (act_reads (op_act os (cond b (op.Lit l.ra l.rb l.target) (op.AddrLda l.ra l.rb l.target)))) l.rb ≡ true
    by_slot true = ap (λ (t : Bool). has (cond t [] (l.rb ∷ [])) l.rb) (not_equal l.ra 31 other) ∙ first
    by_slot false = first

-- over r31 nothing is read but what was
use_31 : (bf : List Word) (r : ℕ) (i : Instr) (z : ℤ) (t : Target) → IsBaseUse r i z → ChangesTo bf (act.Plain i) (act.UseGp i 31 t)
use_31 bf r (Mem o ra rb d) z t u = record {
  writes = λ x. refl;
  reads = λ x l h. inl (form.used_reads_read r (Mem o ra rb d) z x u (sym (ap (λ (b : Bool). b || has (stored_reads (access_of o) ra) x) (low x l)) ∙ h));
  loads = λ q h. absurd h;
  links = λ h. h;
}
  where
    low : (x : ℕ) → x < 31 → (31 == x) ≡ false
    low x l = not_equal 31 x (λ e. omega (arith, e, l))
use_31 bf r (Alu o ra rb rc) z t u = absurd u
use_31 bf r (Jump k ra rb h) z t u = absurd u
use_31 bf r (Branch o ra d) z t u = absurd u
use_31 bf r (Cmov c ra rb rc) z t u = absurd u
use_31 bf r (Misc o ra rb) z t u = absurd u
use_31 bf r Fnop z t u = absurd u
use_31 bf r Halt z t u = absurd u
use_31 bf r Callsys z t u = absurd u

-- ---- numbers

pub small_fits : (z : ℤ) → is_small z ≡ true → FitsSigned w16 z
small_fits z e = let h = both (int_le (negsuc 32767) z) (int_le z (pos 32767)) e in grind (arith, ints, h)

pub fits_small : (z : ℤ) → FitsSigned w16 z → is_small z ≡ true
fits_small z f = both_are (int_le (negsuc 32767) z) (int_le z (pos 32767)) (grind (arith, ints, f)) (grind (arith, ints, f))
  where
    both_are : (a b : Bool) → a ≡ true → b ≡ true → (a && b) ≡ true
    both_are a b e f = rw (e, f) refl

record Reached (at : Pointer) (d : ℤ) : Type 0 where
  above : pos 0 ≤ℤ (at.off +ℤ d)
  below : (at.off +ℤ d) ≤ℤ at.size
  near : FitsSigned w16 (at.distance +ℤ d)

le_true : (a b : ℤ) → int_le a b ≡ true → a ≤ℤ b
le_true a b e = grind (arith, ints, e)

true_le : (a b : ℤ) → a ≤ℤ b → int_le a b ≡ true
true_le a b h = grind (arith, ints, h)

reached : (at : Pointer) (d : ℤ) → reaches_at at d ≡ true → Reached at d
reached at d e =
    let a = both (int_le (pos 0) (at.off +ℤ d) && int_le (at.off +ℤ d) at.size) (is_small (at.distance +ℤ d)) e in
    let b = both (int_le (pos 0) (at.off +ℤ d)) (int_le (at.off +ℤ d) at.size) a.0 in
    record { above = le_true (pos 0) (at.off +ℤ d) b.0; below = le_true (at.off +ℤ d) at.size b.1; near = small_fits (at.distance +ℤ d) a.1 }

reaching : (at : Pointer) (d : ℤ) → Reached at d → reaches_at at d ≡ true
reaching at d h =
    let a = true_le (pos 0) (at.off +ℤ d) h.above in
    let b = true_le (at.off +ℤ d) at.size h.below in
    let c = fits_small (at.distance +ℤ d) h.near in
    rw (a, b, c) refl

-- ---- the edit, and what is left

-- a node's word is a local use of a load over a base that stands until it
abbrev LocalOver : ℕ → ℕ → Word → Node → Block → Type 0
LocalOver r rb load n c = (v : IsLocalUse (block_words c) load (word_of c n) r) × Unwritten rb v.mid

module _ (l : LayoutView) (masks : List ℕ) (g : GraphView) (graph : IsGraph g) (numbered : AreNumbered g) (load : Load) (x : Op) (small : load.ra < 31) (range : load.rb < 32) (is_load : x.kind ≡ load_kind load)
    (object : x.place.obj ≡ load.obj) (others : load.ra ≡ load.rb → ⊥) (at : Pointer) (said : IsSaid l load (Some at)) (region : Region) (n : ℕ) (pointer : load.target ≡ target.Ptr region n) where
  abbrev f : OpKind → Option OpKind
  f = base_kind load at

  abbrev ends : OpKind → Bool
  ends = writes_either load.ra load.rb

  by_31 : (load.rb ≡ 31) ⊎ (load.rb < 31)
  by_31 = by_test (load.rb == 31) refl
    where
      by_test : (b : Bool) → (load.rb == 31) ≡ b → (load.rb ≡ 31) ⊎ (load.rb < 31)
      by_test true e = inl (eqb-true load.rb 31 e)
      by_test false e = let d = differ load.rb 31 e in inr (omega (arith, range, d))

  pub base_once : (o : ℕ) (y : Op) (on : OnUses f ends g load.id x (Some o)) → op_of g o ≡ Some y → (k : OpKind) → f y.kind ≡ Some k → ReducingOnce l masks g (replaced g o k)
  base_once o y on e k h =
      subst (λ (j : ℕ). ReducingOnce l masks g (replaced g j k)) u.is_id
      (subst (λ (z : OpKind). ReducingOnce l masks g (replaced g u.node.id z)) (sym becomes_it)
      (op_once l masks g graph numbered u.node u.at (op.UseGp b.instr load.rb (target.Ptr region n)) (subst (λ (z : OpKind). NoHalf z) (sym plain) tt) tt step fits changes))
    where
      u : NextUse f ends g load.id x o y on
      u = next_use f ends g load.id x o y on graph e

      b : BecomesGp load at y.kind k
      b = becomes load at y.kind k h

      becomes_it : k ≡ op.UseGp b.instr load.rb (target.Ptr region n)
      becomes_it = b.is ∙ ap (λ (t : Target). op.UseGp b.instr load.rb t) pointer

      used : IsUse load.ra b.instr
      used = base_use_is load.ra b.instr b.used

      plain : u.node.op.kind ≡ op.Plain b.instr
      plain = ap (λ (z : Op). z.kind) u.is_op ∙ b.was

      stands : on.block.ops ≡ on.before ++ on.node ∷ (on.mid ++ u.node ∷ u.rest)
      stands = on.stands ∙ ap (λ (z : List Node). on.before ++ on.node ∷ (on.mid ++ z)) u.left

      rights : (p : ProgramView) → IsProgram p → MayGoOn p g → AreRight (words_of on.block on.mid)
      rights p prog m w q =
          (has_flow p prog g m.graph).right.none on.block w on.among
          (has_left (words_of on.block on.block.ops) (last_words on.block.last) w
          (subst (λ (ns : List Node). Has (words_of on.block ns) w) (sym stands)
          (subst (λ (z : List Word). Has z w) (sym (words_append on.block load.ra on.before (on.node ∷ (on.mid ++ u.node ∷ u.rest))))
          (has_right (words_of on.block on.before) (words_of on.block (on.node ∷ (on.mid ++ u.node ∷ u.rest))) w
          (inr (subst (λ (z : List Word). Has z w) (sym (words_append on.block load.ra on.mid (u.node ∷ u.rest))) (has_left (words_of on.block on.mid) (words_of on.block (u.node ∷ u.rest)) w q)))))))

      base_kept : load.rb < 31 → (p : ProgramView) → IsProgram p → MayGoOn p g → NoneWrites load.rb (words_of on.block on.mid)
      base_kept low p prog m = kept_none on.block load.rb on.mid (rights p prog m) (kept_on f ends load.rb (second_none load.ra load.rb low) on.mid on.passed)

      unwritten : (p : ProgramView) → IsProgram p → MayGoOn p g → Unwritten load.rb (words_of on.block on.mid)
      unwritten p prog m = by_case by_31
        where
          by_case : (load.rb ≡ 31) ⊎ (load.rb < 31) → Unwritten load.rb (words_of on.block on.mid)
          by_case (inl e) = inl e
          by_case (inr low) = inr (base_kept low p prog m)

      local : (p : ProgramView) → IsProgram p → MayGoOn p g → LocalOver load.ra load.rb (word_of on.block on.node) u.node u.at.block
      local p prog m =
          let v =
          local_use g (has_flow p prog g m.graph) on.block load.ra on.before on.node on.mid u.node u.rest on.among stands (ap (λ (z : Op). kind_writes z.kind) on.is_op ∙ load_writes load x is_load)
          (kept_on f ends load.ra (first_none load.ra load.rb small) on.mid on.passed) (ap (λ (z : OpKind). has (kind_reads z) load.ra) plain ∙ used.reads) used.other in
          subst (λ (c : Block). LocalOver load.ra load.rb (word_of on.block on.node) u.node c) (sym u.at_block) (v.0, subst (λ (ws : List Word). Unwritten load.rb ws) (sym v.1) (unwritten p prog m))

      step : (p : ProgramView) → IsProgram p → MayGoOn p g → Step p g (replaced g u.node.id (op.UseGp b.instr load.rb (target.Ptr region n)))
      step p prog m =
          let v = local p prog m in
          gp_step p prog g m u.node.id u.at.block u.node (is_op g graph u.node u.at) (word_of on.block on.node) b.instr load.ra load.rb n region plain v.0
          (load_loads (ops_of on.block) load on.node.op region n (ap (λ (z : Op). z.kind) on.is_op ∙ is_load) pointer) (disp_in b.instr) used.base others v.1

      same_object : (p : ProgramView) → IsProgram p → MayGoOn p g → u.node.op.place.obj ≡ load.obj
      same_object p prog m =
          let w = words_in_place p prog g m.graph in
          let load_there = has_left (words_of on.block on.block.ops) (last_words on.block.last) (word_of on.block on.node)
          (word_in on.block load.ra on.block.ops on.node (subst (λ (ns : List Node). Has ns on.node) (sym stands) (has_mid on.before on.node (on.mid ++ u.node ∷ u.rest)))) in
          let use_there = has_left (words_of on.block on.block.ops) (last_words on.block.last) (word_of on.block u.node)
          (word_in on.block load.ra on.block.ops u.node (subst (λ (ns : List Node). Has ns u.node) (sym stands) (has_right on.before (on.node ∷ (on.mid ++ u.node ∷ u.rest)) u.node (inr (has_mid on.mid u.node u.rest))))) in
          (w.words on.block (word_of on.block u.node) on.among use_there).object ∙ sym (w.words on.block (word_of on.block on.node) on.among load_there).object
          ∙ ap (λ (z : Op). z.place.obj) on.is_op ∙ object

      fits : (p : ProgramView) → IsProgram p → MayGoOn p g → HasRegionsOf p l → OpFits p (gp_of l) (address_of l) u.at.block u.node.op.place (op.UseGp b.instr load.rb (target.Ptr region n))
      fits p prog m has_regions =
          let lies = said p has_regions region n pointer in
          let r = reached at (disp_in b.instr) b.reach in (
            load.ra,
            disp_in b.instr,
            used.base,
            lies.inside,
            (subst (λ (z : ℤ). pos 0 ≤ℤ (z +ℤ disp_in b.instr)) lies.off r.above, subst (λ (z : ℤ). (pos n +ℤ disp_in b.instr) ≤ℤ z) lies.size (subst (λ (z : ℤ). (z +ℤ disp_in b.instr) ≤ℤ at.size) lies.off r.below)),
            subst (λ (j : ℕ). FitsSigned w16 (from_gp p (gp_of l) (address_of l) j (target.Ptr region n) +ℤ disp_in b.instr)) (sym (same_object p prog m)) (subst (λ (z : ℤ). FitsSigned w16 (z +ℤ disp_in b.instr)) lies.distance r.near),
          )

      front_is : words_of u.at.block u.at.before ≡ words_of u.at.block on.before ++ word_of u.at.block on.node ∷ words_of u.at.block on.mid
      front_is = ap (words_of u.at.block) u.at_before ∙ words_append u.at.block load.ra on.before (on.node ∷ on.mid)

      was_read : load.rb < 31 → (p : ProgramView) → IsProgram p → MayGoOn p g → WasRead load.rb (rev_onto (words_of u.at.block u.at.before) [])
      was_read low p prog m =
          subst (λ (z : List Word). WasRead load.rb z) (sym (ap (λ (z : List Word). rev_onto z []) front_is ∙ rev_both (words_of u.at.block on.before) (word_of u.at.block on.node) (words_of u.at.block on.mid) []))
          (form.base_was_read (words_of u.at.block on.mid) (rev_onto (words_of u.at.block on.before) []) (word_of u.at.block on.node) load.rb
          (load_reads (ops_of u.at.block) load on.node.op (ap (λ (z : Op). z.kind) on.is_op ∙ is_load) used.other)
          (λ a. others (of_load a)) (subst (λ (c : Block). NoneWrites load.rb (words_of c on.mid)) (sym u.at_block) (base_kept low p prog m)))
        where
          of_load : Among (act_writes (op_act (ops_of u.at.block) on.node.op.kind)) load.rb → load.ra ≡ load.rb
          of_load a = by_kind load.from_slot (subst (λ (z : OpKind). Among (act_writes (op_act (ops_of u.at.block) z)) load.rb) (ap (λ (z : Op). z.kind) on.is_op ∙ is_load) a)
            where
              by_kind : (t : Bool) → Among (act_writes (op_act (ops_of u.at.block) (cond t (op.Lit load.ra load.rb load.target) (op.AddrLda load.ra load.rb load.target)))) load.rb → load.ra ≡ load.rb
              by_kind true (inl e) = e
              by_kind true (inr h) = absurd h
              by_kind false (inl e) = e
              by_kind false (inr h) = absurd h

      changes :
          (p : ProgramView) → IsProgram p → MayGoOn p g →
          ChangesTo (rev_onto (node_words (ops_of u.at.block) u.at.before) []) (op_act (ops_of u.at.block) u.node.op.kind) (act.UseGp b.instr load.rb (target.Ptr region n))
      changes p prog m =
          subst (λ (a : Act). ChangesTo (rev_onto (node_words (ops_of u.at.block) u.at.before) []) a (act.UseGp b.instr load.rb (target.Ptr region n))) (sym (ap (op_act (ops_of u.at.block)) plain)) (by_case by_31)
        where
          by_case : (load.rb ≡ 31) ⊎ (load.rb < 31) → ChangesTo (rev_onto (node_words (ops_of u.at.block) u.at.before) []) (act.Plain b.instr) (act.UseGp b.instr load.rb (target.Ptr region n))
          by_case (inl s) =
              subst (λ (j : ℕ). ChangesTo (rev_onto (node_words (ops_of u.at.block) u.at.before) []) (act.Plain b.instr) (act.UseGp b.instr j (target.Ptr region n))) (sym s)
              (use_31 (rev_onto (node_words (ops_of u.at.block) u.at.before) []) load.ra b.instr (disp_in b.instr) (target.Ptr region n) used.base)
          by_case (inr low) =
              form.use_gp (rev_onto (node_words (ops_of u.at.block) u.at.before) []) load.ra load.rb b.instr (disp_in b.instr) (target.Ptr region n) used.base (was_read low p prog m)

pub no_bases :
    (l : LayoutView) (g : GraphView) (graph : IsGraph g) (load : Load) (x : Op) → load.ra < 31 → load.rb < 32 → x.kind ≡ load_kind load → (at : Pointer) → IsSaid l load (Some at) → HasFlow g →
    Walked (base_kind load at) (writes_either load.ra load.rb) g load.id x → NoBaseUseOf l g load
no_bases l g graph load x small range is_load at said flow k = record { uses = uses }
  where
    uses :
        (p : ProgramView) (b : Block) (w user : Word) (i : Instr) (region : Region) (n : ℕ) (z : ℤ) → HasRegionsOf p l → IsLoadIn g load b w → load.target ≡ target.Ptr region n →
        (u : IsLocalUse (block_words b) w user load.ra) → user.act ≡ act.Plain i → IsBaseUse load.ra i z → (load.ra ≡ load.rb → ⊥) → Unwritten load.rb u.mid →
        LdaFits p (gp_of l) (address_of l) load.obj (target.Ptr region n) → SumIsWithin p (gp_of l) (address_of l) (target.Ptr region n) z →
        FitsSigned w16 (from_gp p (gp_of l) (address_of l) load.obj (target.Ptr region n) +ℤ z) → ⊥
    uses p b w user i region n z regions in_it t u a used others base_stays near within fits =
        let reads = among_true (regs_read i) load.ra (subst (λ (y : Act). Among (act_reads y) load.ra) a u.reads) in
        let is = is_base load.ra i z used u.register reads in
        let none = no_use_left (base_kind load at) (writes_either load.ra load.rb) g graph flow load x load.ra b w user i small (load_writes load x is_load) k in_it u a is.2 fronts in
        let lies = said p regions region n t in
        let reach : reaches_at at (disp_in i) ≡ true = reaching at (disp_in i) (record {
          above = subst (λ (y : ℤ). pos 0 ≤ℤ (at.off +ℤ y)) (sym is.1) (subst (λ (y : ℤ). pos 0 ≤ℤ (y +ℤ z)) (sym lies.off) within.0);
          below = subst (λ (y : ℤ). (at.off +ℤ y) ≤ℤ at.size) (sym is.1) (subst (λ (y : ℤ). (y +ℤ z) ≤ℤ at.size) (sym lies.off) (subst (λ (y : ℤ). (pos n +ℤ z) ≤ℤ y) (sym lies.size) within.1));
          near = subst (λ (y : ℤ). FitsSigned w16 (at.distance +ℤ y)) (sym is.1) (subst (λ (y : ℤ). FitsSigned w16 (y +ℤ z)) (sym lies.distance) fits);
        }) in
        let test : (is_base_use load.ra i && reaches_at at (disp_in i)) ≡ true = ap (λ (c : Bool). c && reaches_at at (disp_in i)) is.0 ∙ reach in
        some_none (op.UseGp i load.rb load.target) (sym (ap (λ (c : Bool). cond c (Some (op.UseGp i load.rb load.target)) None) test) ∙ none)
      where
        fronts : (front : List Node) → AreRight (words_of b front) → u.mid ≡ words_of b front → NoneEnds (writes_either load.ra load.rb) front
        fronts front right e =
            ends_either load.ra load.rb front (ends_none load.ra small front (none_kept b load.ra front right (subst (λ (ws : List Word). NoneWrites load.ra ws) e u.unwritten))) (base_ends base_stays)
          where
            base_ends : Unwritten load.rb u.mid → NoneEnds (writes_bit load.rb) front
            base_ends (inl s) = subst (λ (j : ℕ). NoneEnds (writes_bit j) front) (sym s) (ends_31 front)
            base_ends (inr none) = by_test (load.rb == 31) refl
              where
                by_test : (c : Bool) → (load.rb == 31) ≡ c → NoneEnds (writes_bit load.rb) front
                by_test true s = subst (λ (j : ℕ). NoneEnds (writes_bit j) front) (sym (eqb-true load.rb 31 s)) (ends_31 front)
                by_test false s =
                    let d = differ load.rb 31 s in
                    ends_none load.rb (omega (arith, range, d)) front (none_kept b load.rb front right (subst (λ (ws : List Word). NoneWrites load.rb ws) e none))

        some_none : (y : OpKind) → Some y ≡ None → ⊥
        some_none y e = cc

-- a load into r31, one over its own register and one that is not near have none
pub no_bases_of_31 : (l : LayoutView) (g : GraphView) (load : Load) → load.ra ≡ 31 → NoBaseUseOf l g load
no_bases_of_31 l g load e = record { uses = λ p b w user i region x z regions in_it t u a used others stays near within fits. u.register e }

pub no_bases_of_own : (l : LayoutView) (g : GraphView) (load : Load) → load.ra ≡ load.rb → NoBaseUseOf l g load
no_bases_of_own l g load e = record { uses = λ p b w user i region x z regions in_it t u a used others stays near within fits. others e }

pub no_bases_of_far : (l : LayoutView) (g : GraphView) (load : Load) (at : Pointer) → IsSaid l load (Some at) → is_small at.distance ≡ false → NoBaseUseOf l g load
no_bases_of_far l g load at said e = record {
  uses = λ p b w user i region x z regions in_it t u a used others stays near within fits.
      true≢false (sym (fits_small at.distance (subst (λ (y : ℤ). FitsSigned w16 y) (sym (said p regions region x t).distance) near.1)) ∙ e);
}
