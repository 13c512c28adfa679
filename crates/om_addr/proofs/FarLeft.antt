-- Where no load was made far none could be.
use Rattle.std.proofs.Common.{◌≡◌, ◌⊎◌, inl, inr, ◌<◌, ℕ, Bool, true, false, cond, ◌&&◌, ◌==◌, List, [], ◌∷◌, ◌++◌, Option, Some, None, refl, sym, ap, ◌∙◌, subst, arith}
use Rattle.std.specs.Prelude.{ℤ, pos, negsuc, ◌+ℤ◌, ◌-ℤ◌, ◌*ℤ◌, ◌≤ℤ◌, int_le, FitsSigned}
use Rattle.std.specs.Int.{w16, int_div_euclid}
use Rattle.std.proofs.lemmas.Bool.{true≢false, eqb-true}
use Rattle.std.proofs.lemmas.Int.{ints}
use Rattle.om_isa.specs.declared.instr.Instr.{Instr}
use Rattle.om_isa.specs.declared.instr.Instr.TheVariants.{Mem, Jump, Branch, Alu, Cmov, Misc, Fnop, Halt, Callsys}
use Rattle.om_isa.specs.Registers.{regs_read}
use Rattle.om_value.specs.declared.value.Place.{Place}
use Rattle.om_value.specs.declared.value.Region.{Region}
use Rattle.om_value.specs.declared.value.Target.{Target}
use Rattle.om_value.specs.declared.value.Target.TheVariants as target
use Rattle.om_prog.specs.Act as act
use Rattle.om_prog.specs.Act.{Act, Word, act_reads}
use Rattle.om_prog.specs.Flow.{Among}
use Rattle.om_prog.specs.Facts.{has}
use Rattle.om_prog.specs.View.{ProgramView}
use Rattle.om_prog.specs.Valid.{IsProgram}
use Rattle.om_graph.specs.declared.op.Op.{Op}
use Rattle.om_graph.specs.declared.op.OpKind.{OpKind}
use Rattle.om_graph.specs.declared.op.OpKind.TheVariants as op
use Rattle.om_graph.specs.declared.op.Last.{Last}
use Rattle.om_graph.specs.View.{Node, Block, GraphView, Has, ops_of}
use Rattle.om_graph.specs.Held.{IsGraph, Apart, node_ids}
use Rattle.om_graph.specs.Run.{block_words, last_words, op_act, op_word, use_of, target_at}
use Rattle.om_graph.specs.Form.{Ordered, ends_block}
use Rattle.om_graph.specs.Fits.{from_gp}
use Rattle.om_graph.specs.Left as left
use Rattle.om_graph.specs.Uses.{IsLocalUse, IsBaseUse}
use Rattle.om_graph.proofs.Masks.{among_true}
use Rattle.om_blocks.specs.IsFlow.{HasFlow}
use Rattle.om_blocks.specs.Effects.{kind_writes, last_reads}
use Rattle.om_blocks.proofs.OfPrograms.{graphs_have_flows}
use Rattle.om_blocks.proofs.Walking.{apart_in, assoc}
use Rattle.om_checks.proofs.Closed.{one_home}
use Rattle.om_layout.specs.Layout.{LayoutView, gp_of, address_of}
use Rattle.om_uses.specs.Readers.{IsResult, reads, writes, readers, is_kept, is_read_last}
use Rattle.om_uses.specs.LocalUses.{word_of, words_of, words_behind}
use Rattle.om_uses.proofs.LocalUses.{AmongNodes, BehindNodes, where_is, behind_is, reader_is_use, use_is_reader, last_is_use, is_reader, same_node}
use Rattle.om_passes.specs.OneEdit.{MayGoOn}
use Rattle.om_addr.specs.declared.loads.Load.{Load}
use Rattle.om_addr.specs.declared.near.Pointer.{Pointer}
use Rattle.om_addr.specs.declared.far.Bases.{Bases}
use Rattle.om_addr.specs.Passing.{HasRegionsOf}
use Rattle.om_addr.specs.Loads.{load_kind, IsLoadOf, IsLoadIn}
use Rattle.om_addr.specs.Near.{is_small, Lies, IsSaid}
use Rattle.om_addr.specs.FarTest.{base_disp_of, base_of_kind, IsReaderOf}
use Rattle.om_addr.specs.FarEdit.{no_bases, bases_from, AreBasesOf, high_part, quotient_at, one_half, NoFarOf}
use Rattle.om_addr.proofs.Bases.{small_fits, fits_small}
use Rattle.om_addr.proofs.UsesLeft.{plain_kind, last_plain}
use Rattle.om_addr.proofs.Walking.{op_there}
use Rattle.om_addr.proofs.FarKinds.{AllDiffer, all_differ, from_it}
use Rattle.om_addr.proofs.FarTest.{base_is, is_found, reader_base, StandsAs, kind_stands}
use Rattle.om_addr.proofs.FarBases.{AllFound, found_all, AllOf, all_of, least_reader, most_reader, some_any}

-- ---- numbers

high_one : (w z : ℤ) → z +ℤ pos 32768 ≡ w → (hi : ℤ) → (pos 65536 *ℤ hi) ≤ℤ (z +ℤ pos 32768) → (z +ℤ pos 32768) ≤ℤ ((pos 65536 *ℤ hi) +ℤ pos 65535) → int_div_euclid w (pos 65536) ≡ hi
high_one (pos a) z e hi h k = omega (arith, ints, e, h, k)
high_one (negsuc a) z e hi h k = omega (arith, ints, e, h, k)

quotient_below : (w z k : ℤ) → z ≡ w → z ≤ℤ ((pos 16 *ℤ k) +ℤ pos 15) → int_div_euclid w (pos 16) ≤ℤ k
quotient_below (pos a) z k e h = omega (arith, ints, e, h)
quotient_below (negsuc a) z k e h = omega (arith, ints, e, h)

quotient_above : (w z k : ℤ) → z ≡ w → (pos 16 *ℤ k) ≤ℤ z → k ≤ℤ int_div_euclid w (pos 16)
quotient_above (pos a) z k e h = omega (arith, ints, e, h)
quotient_above (negsuc a) z k e h = omega (arith, ints, e, h)

at_most : (a b c : ℤ) → a ≤ℤ b → b ≤ℤ c → a ≤ℤ c
at_most a b c h k = omega (arith, ints, h, k)

le_is : (a b : ℤ) → a ≤ℤ b → int_le a b ≡ true
le_is a b h = by_test (int_le a b) refl
  where
    by_test : (t : Bool) → int_le a b ≡ t → t ≡ true
    by_test true e = refl
    by_test false e = absurd (omega (arith, ints, h, e))

one_number : (a b : ℤ) → a ≤ℤ b → b ≤ℤ a → a ≡ b
one_number a b h k = omega (arith, ints, h, k)

some_z : {a b : ℤ} → Some a ≡ Some b → a ≡ b
some_z e = cc

-- ---- kinds

lit_writes : (os : List Op) (k : OpKind) (ra rb : ℕ) (t : Target) → op_act os k ≡ act.Lit ra rb t → kind_writes k ≡ ra ∷ []
lit_writes os (op.Lit rc rd u) ra rb t e = let s : rc ≡ ra = cc in ap (λ (y : ℕ). y ∷ []) s
lit_writes os (op.Plain i) ra rb t e = cc
lit_writes os (op.AddrLda rc rd u) ra rb t e = cc
lit_writes os (op.AddrHi rc rd u z) ra rb t e = cc
lit_writes os (op.UseGp i gp u) ra rb t e = cc
lit_writes os (op.GpHi rc rd q) ra rb t e = cc
lit_writes os (op.GpLo rc rd q) ra rb t e = cc
lit_writes os (op.UseLo i q) ra rb t e = by_target (target_at os q) e
  where
    by_target : (o : Option Target) → use_of i q o ≡ act.Lit ra rb t → kind_writes (op.UseLo i q) ≡ ra ∷ []
    by_target None e = cc
    by_target (Some u) e = cc

-- a base use ends no block
base_goes_on : (r : ℕ) (i : Instr) (z : ℤ) → IsBaseUse r i z → ends_block i ≡ true → ⊥
base_goes_on r (Mem o ra rb d) z u e = true≢false (sym e)
base_goes_on r (Jump k ra rb h) z u e = u
base_goes_on r (Branch o ra d) z u e = u
base_goes_on r (Alu o ra rb rc) z u e = u
base_goes_on r (Cmov k ra rb rc) z u e = u
base_goes_on r (Misc o ra rb) z u e = u
base_goes_on r Fnop z u e = u
base_goes_on r Halt z u e = u
base_goes_on r Callsys z u e = u

kept_more : (r : ℕ) (mid : List Node) (n : Node) → is_kept r mid ≡ true → writes r n ≡ false → is_kept r (mid ++ n ∷ []) ≡ true
kept_more r [] n k w = ap (λ (t : Bool). cond t false true) w
kept_more r (m ∷ mid) n k w = by_test (writes r m) k (λ h. kept_more r mid n h w)
  where
    by_test : (t : Bool) → cond t false (is_kept r mid) ≡ true → (is_kept r mid ≡ true → is_kept r (mid ++ n ∷ []) ≡ true) → cond t false (is_kept r (mid ++ n ∷ [])) ≡ true
    by_test true k again = absurd (true≢false (sym k))
    by_test false k again = again k

mid_has : (xs ys : List Node) (n : Node) → Has (xs ++ n ∷ ys) n
mid_has [] ys n = inl refl
mid_has (y ∷ xs) ys n = inr (mid_has xs ys n)

right_has : (xs ys : List Node) (n k : Node) → Has ys k → Has (xs ++ n ∷ ys) k
right_has [] ys n k h = inr h
right_has (y ∷ xs) ys n k h = inr (right_has xs ys n k h)

nothing_behind : (xs : List Node) → xs ++ [] ≡ xs
nothing_behind [] = refl
nothing_behind (x ∷ xs) = ap (λ (l : List Node). x ∷ l) (nothing_behind xs)

module _ (p : ProgramView) (prog : IsProgram p) (g : GraphView) (m : MayGoOn p g) (gp : ℕ → ℕ) (address : Target → ℕ) (id r rb : ℕ) (b : Block) (behind : List Node) (res : IsResult g id r b behind) (region : Region) (x : ℕ)
    (f : left.IsFarLoad p gp address (block_words b) (word_of b res.node) r rb x region) where
  graph : IsGraph g
  graph = m.graph.graph

  flow : HasFlow g
  flow = graphs_have_flows.flow p g prog m.graph

  order : Ordered (block_words b)
  order = flow.places.ordered b res.among

  behind_in : (n : Node) → Has behind n → Has b.ops n
  behind_in n h = subst (λ (l : List Node). Has l n) (sym res.stands) (right_has res.before behind res.node n h)

  behind_apart : AllDiffer behind
  behind_apart = (from_it res.before behind res.node (subst (λ (l : List Node). AllDiffer l) res.stands (all_differ (ops_of b) b.ops (last_words b.last) (apart_in g.blocks b graph.op_ids res.among) order))).1

  -- a reader is a base use, and fits
  record FoundUse (n : Node) : Type 0 where
    fit_use : left.IsFarUse p gp address (word_of b res.node).at.obj region x r f.least f.quotient f.hi (word_of b n)
    disp : base_of_kind r n.op.kind ≡ Some fit_use.disp

  found_disp : (n : Node) (i : Instr) (z : ℤ) → IsLocalUse (block_words b) (word_of b res.node) (word_of b n) r → (word_of b n).act ≡ act.Plain i → IsBaseUse r i z → base_of_kind r n.op.kind ≡ Some z
  found_disp n i z u a base =
      let read : has (regs_read i) r ≡ true = among_true (regs_read i) r (subst (λ (y : Act). Among (act_reads y) r) a u.reads) in
      ap (base_of_kind r) (plain_kind (ops_of b) n.op.kind i a) ∙ is_found r i z res.register base read

  found_use : (n : Node) → Has behind n → Has (readers r behind) n.id → FoundUse n
  found_use n h k =
      let u = reader_is_use g id r b behind graph flow res n (behind_in n h) k in
      let w = f.uses (word_of b n) u in
      record { fit_use = w; disp = found_disp n w.instr w.disp u w.act w.base }

  not_last : (w : Word) (i : Instr) (z : ℤ) → Has (last_words b.last) w → w.act ≡ act.Plain i → IsBaseUse r i z → ⊥
  not_last w i z h a u = base_goes_on r i z u (last_plain b.last (flow.form.lasts b res.among) w i h a)

  founds : (mid rest : List Node) → behind ≡ mid ++ rest → is_kept r mid ≡ true → AllFound r b.last rest
  founds mid [] e k = by_test (has (last_reads b.last) r) refl
    where
      by_test : (t : Bool) → has (last_reads b.last) r ≡ t → has (last_reads b.last) r ≡ false
      by_test false h = h
      by_test true h =
          let kept : is_kept r behind ≡ true = ap (is_kept r) (e ∙ nothing_behind mid) ∙ k in
          let both : (is_kept r behind && has (last_reads b.last) r) ≡ true = ap (λ (t : Bool). t && has (last_reads b.last) r) kept ∙ h in
          let u = last_is_use g id r b behind graph flow res both in
          let w = f.uses u.0 u.2 in
          absurd (not_last u.0 w.instr w.disp (subst (λ (l : List Word). Has l u.0) (sym u.1) (inl refl)) w.act w.base)
  founds mid (n ∷ rest) e k = (reader, λ w. founds (mid ++ n ∷ []) rest (e ∙ sym (assoc mid (n ∷ []) rest)) (kept_more r mid n k w))
    where
      reader : reads r n ≡ true → (z : ℤ) × (base_of_kind r n.op.kind ≡ Some z)
      reader h =
          let there : Has behind n = subst (λ (l : List Node). Has l n) (sym e) (mid_has mid rest n) in
          let u = found_use n there (subst (λ (l : List Node). Has (readers r l) n.id) (sym e) (is_reader r mid n rest h k)) in
          (u.fit_use.disp, u.disp)

  all_found : AllFound r b.last behind
  all_found = founds [] behind refl refl

  pub not_none : bases_from r b.last behind no_bases ≡ None → ⊥
  not_none e = let k = found_all r b.last behind no_bases all_found in let c : None ≡ Some k.0 = sym e ∙ k.1 in cc

  -- the use of the least displacement
  record LeastNode : Type 0 where
    node : Node
    among : Has behind node
    reader : Has (readers r behind) node.id
    disp : base_of_kind r node.op.kind ≡ Some f.least

  least_node : LeastNode
  least_node = by_where (where_is b r behind (last_words b.last) u.mid user u.stands.1 (behind_is g id r b behind graph flow res user u))
    where
      user : Word
      user = f.least_use.0

      u : IsLocalUse (block_words b) (word_of b res.node) f.least_use.0 r
      u = f.least_use.2

      by_where : AmongNodes b r behind u.mid user ⊎ BehindNodes b r behind u.mid user (last_words b.last) → LeastNode
      by_where (inr k) = absurd (not_last f.least_use.0 f.least_use.1 f.least k.among f.least_use.3 f.least_use.4)
      by_where (inl a) =
          let h : Has behind a.node = subst (λ (l : List Node). Has l a.node) (sym a.stands) (mid_has a.front a.rest a.node) in
          let v = subst (λ (w : Word). IsLocalUse (block_words b) (word_of b res.node) w r) (sym a.is) u in
          record {
            node = a.node;
            among = h;
            reader = use_is_reader g id r b behind graph flow res a.node (behind_in a.node h) v;
            disp = found_disp a.node f.least_use.1 f.least v (ap (λ (w : Word). w.act) a.is ∙ f.least_use.3) f.least_use.4;
          }

  module _ (a : Bases) (e : bases_from r b.last behind no_bases ≡ Some a) where
    pub is_any : a.any ≡ true
    is_any = let n = least_node in some_any r b.last behind no_bases a n.node.id e n.reader

    read : (n : Node) (z : ℤ) → base_of_kind r n.op.kind ≡ Some z → reads r n ≡ true
    read n z d = by_kind (kind_stands r n.op.kind z d)
      where
        by_kind : StandsAs r n.op.kind z → reads r n ≡ true
        by_kind s = subst (λ (k : OpKind). reads r (record n { op = record (n.op) { kind = k } }) ≡ true) (sym s.plain) (base_is r s.instr z s.disp).1

    low : IsReaderOf r behind a.least
    low = least_reader r b.last read behind a e is_any

    up : IsReaderOf r behind a.most
    up = most_reader r b.last read behind a e is_any

    low_use : FoundUse low.node
    low_use = found_use low.node low.among low.reader

    up_use : FoundUse up.node
    up_use = found_use up.node up.among up.reader

    low_is : low_use.fit_use.disp ≡ a.least
    low_is = some_z (sym low_use.disp ∙ low.disp)

    up_is : up_use.fit_use.disp ≡ a.most
    up_is = some_z (sym up_use.disp ∙ up.disp)

    least_is : a.least ≡ f.least
    least_is =
        let n = least_node in
        let k = reader_base r (record { obj = 0; off = 0 }) b.last a.least a.most behind n.node behind_apart (all_of r b.last behind no_bases a e).all n.among n.reader in
        let z : k.0 ≡ f.least = some_z (sym k.1 ∙ n.disp) in
        one_number a.least f.least (subst (λ (y : ℤ). a.least ≤ℤ y) z k.2) (subst (λ (y : ℤ). f.least ≤ℤ y) low_is low_use.fit_use.no_less)

    module _ (at : Pointer) (distance : at.distance ≡ from_gp p gp address (word_of b res.node).at.obj (target.Ptr region x)) (off : at.off ≡ pos x) (fits : FitsSigned w16 f.hi) where
      d : ℤ
      d = from_gp p gp address (word_of b res.node).at.obj (target.Ptr region x)

      sum_is : at.distance +ℤ a.least ≡ from_gp p gp address (word_of b res.node).at.obj (target.Ptr region x) +ℤ f.least
      sum_is = ap (λ (y : ℤ). y +ℤ a.least) distance ∙ ap (λ (y : ℤ). from_gp p gp address (word_of b res.node).at.obj (target.Ptr region x) +ℤ y) least_is

      high_is : high_part (at.distance +ℤ a.least) ≡ f.hi
      high_is =
          ap high_part sum_is
          ∙ high_one ((from_gp p gp address (word_of b res.node).at.obj (target.Ptr region x) +ℤ f.least) +ℤ pos 32768) (from_gp p gp address (word_of b res.node).at.obj (target.Ptr region x) +ℤ f.least) refl f.hi f.high.above f.high.below

      high_small : is_small (high_part (at.distance +ℤ a.least)) ≡ true
      high_small = fits_small (high_part (at.distance +ℤ a.least)) (subst (λ (y : ℤ). FitsSigned w16 y) (sym high_is) fits)

      rest_small : is_small ((at.distance +ℤ a.most) -ℤ (pos 65536 *ℤ high_part (at.distance +ℤ a.least))) ≡ true
      rest_small =
          fits_small ((at.distance +ℤ a.most) -ℤ (pos 65536 *ℤ high_part (at.distance +ℤ a.least)))
          (subst (λ (y : ℤ). FitsSigned w16 ((at.distance +ℤ a.most) -ℤ (pos 65536 *ℤ y))) (sym high_is)
          (subst (λ (y : ℤ). FitsSigned w16 ((y +ℤ a.most) -ℤ (pos 65536 *ℤ f.hi))) (sym distance)
          (subst (λ (y : ℤ). FitsSigned w16 ((from_gp p gp address (word_of b res.node).at.obj (target.Ptr region x) +ℤ y) -ℤ (pos 65536 *ℤ f.hi))) up_is up_use.fit_use.fits)))

      one_quotient : int_le (quotient_at at a.most) (quotient_at at a.least) ≡ true
      one_quotient =
          le_is (quotient_at at a.most) (quotient_at at a.least)
          (at_most (quotient_at at a.most) f.quotient (quotient_at at a.least)
          (quotient_below (at.off +ℤ a.most) (at.off +ℤ a.most) f.quotient refl
          (subst (λ (y : ℤ). (y +ℤ a.most) ≤ℤ ((pos 16 *ℤ f.quotient) +ℤ pos 15)) (sym off) (subst (λ (y : ℤ). (pos x +ℤ y) ≤ℤ ((pos 16 *ℤ f.quotient) +ℤ pos 15)) up_is up_use.fit_use.below)))
          (quotient_above (at.off +ℤ a.least) (at.off +ℤ a.least) f.quotient refl
          (subst (λ (y : ℤ). (pos 16 *ℤ f.quotient) ≤ℤ (y +ℤ a.least)) (sym off) (subst (λ (y : ℤ). (pos 16 *ℤ f.quotient) ≤ℤ (pos x +ℤ y)) low_is low_use.fit_use.above))))

      pub is_half : one_half at a.least a.most ≡ true
      is_half =
          ap (λ (t : Bool). t && is_small ((at.distance +ℤ a.most) -ℤ (pos 65536 *ℤ high_part (at.distance +ℤ a.least))) && int_le (quotient_at at a.most) (quotient_at at a.least)) high_small
          ∙ ap (λ (t : Bool). t && int_le (quotient_at at a.most) (quotient_at at a.least)) rest_small ∙ one_quotient

-- ---- a load in its block

id_there : (ns : List Node) (n : Node) → Has ns n → Has (node_ids ns) n.id
id_there [] n h = absurd h
id_there (y ∷ ns) n (inl e) = inl (ap (λ (z : Node). z.id) e)
id_there (y ∷ ns) n (inr h) = inr (id_there ns n h)

-- a load's word is that of the op whose displacements were found
pub record SameLoad (b : Block) (w : Word) (c : Block) (n : Node) : Type 0 where
  pub block : c ≡ b
  pub word : word_of b n ≡ w

same_load : (g : GraphView) → IsGraph g → (load : Load) (b : Block) (w : Word) → IsLoadIn g load b w → (c : Block) (n : Node) → Has g.blocks c → Has c.ops n → n.id ≡ load.id → SameLoad b w c n
same_load g graph load b w k c n hc hn e =
    let ids : n.id ≡ k.node.id = e ∙ sym k.is_id in
    let home : c ≡ b = one_home g.blocks c b k.node.id graph.op_ids hc k.among (subst (λ (j : ℕ). Has (node_ids c.ops) j) ids (id_there c.ops n hn)) (id_there b.ops k.node k.inside) in
    let same : n ≡ k.node = same_node b.ops n k.node (apart_in g.blocks b graph.op_ids k.among) (subst (λ (y : Block). Has y.ops n) home hn) k.inside ids in
    record { block = home; word = ap (word_of b) same ∙ sym k.word }

load_object : (g : GraphView) → IsGraph g → (load : Load) (b : Block) (w : Word) → IsLoadOf g load → IsLoadIn g load b w → w.at.obj ≡ load.obj
load_object g graph load b w is k =
    let t = op_there g load.id (record { place = is.place; kind = load_kind load }) graph is.is in
    let s = same_load g graph load b w k t.at.block t.node t.at.among (subst (λ (l : List Node). Has l t.node) (sym t.at.stands) (mid_has t.at.before t.at.behind t.node)) t.is_id in
    ap (λ (y : Word). y.at.obj) (sym s.word) ∙ ap (λ (o : Op). o.place.obj) t.is_op ∙ is.object

module _ (l : LayoutView) (g : GraphView) (graph : IsGraph g) (load : Load) (is : IsLoadOf g load) (at : Pointer) (said : IsSaid l load (Some at)) (live : Bool) where
  pub none_live : live ≡ true → NoFarOf l g load live
  none_live e = record { loads = λ p b w region x prog m h k t f fits dead. true≢false (sym e ∙ dead) }

  pub none_31 : load.ra ≡ 31 → NoFarOf l g load live
  none_31 e = record { loads = λ p b w region x prog m h k t f fits dead. f.least_use.2.register e }

  pub none_near : is_small at.distance ≡ true → NoFarOf l g load live
  none_near e = record {
    loads = λ p b w region x prog m h k t f fits dead.
        f.far (
          f.inside,
          subst (λ (o : ℕ). FitsSigned w16 (from_gp p (gp_of l) (address_of l) o (target.Ptr region x))) (sym (load_object g graph load b w is k))
              (subst (λ (z : ℤ). FitsSigned w16 z) (said p h region x t).distance (small_fits at.distance e)),
        );
  }

  module _ (small : load.ra < 31) (o : Option Bases) (bases : AreBasesOf g load.id load.ra o) where
    there : Has bases.block.ops bases.node
    there = subst (λ (ns : List Node). Has ns bases.node) (sym bases.stands) (mid_has bases.before bases.behind bases.node)

    here : IsLoadIn g load bases.block (word_of bases.block bases.node)
    here = record { among = bases.among; node = bases.node; inside = there; is_id = bases.is_id; word = refl }

    module _ (p : ProgramView) (region : Region) (x : ℕ) where
      abbrev CouldBe : Block → Word → Type 0
      CouldBe b w = left.IsFarLoad p (gp_of l) (address_of l) (block_words b) w load.ra load.rb x region

      abbrev result : CouldBe bases.block (word_of bases.block bases.node) → IsResult g load.id load.ra bases.block bases.behind
      result f = record {
        among = bases.among;
        before = bases.before;
        node = bases.node;
        stands = bases.stands;
        is_id = bases.is_id;
        register = small;
        writes = lit_writes (ops_of bases.block) bases.node.op.kind load.ra load.rb (target.Ptr region x) f.loads;
      }

      -- of each word of the load it is enough to look at that of the op
      at_bases : ((f : CouldBe bases.block (word_of bases.block bases.node)) → FitsSigned w16 f.hi → ⊥) → (b : Block) (w : Word) → IsLoadIn g load b w → (f : CouldBe b w) → FitsSigned w16 f.hi → ⊥
      at_bases none b w k f fits =
          let s = same_load g graph load b w k bases.block bases.node bases.among there bases.is_id in
          subst (λ (v : Word). (f : CouldBe b v) → FitsSigned w16 f.hi → ⊥) s.word
          (subst (λ (y : Block). (f : CouldBe y (word_of y bases.node)) → FitsSigned w16 f.hi → ⊥) s.block none) f fits

    pub none_found : o ≡ None → NoFarOf l g load live
    none_found e = record {
      loads = λ p b w region x prog m h k t f fits dead.
          at_bases p region x (λ f fits. not_none p prog g m (gp_of l) (address_of l) load.id load.ra load.rb bases.block bases.behind (result p region x f) region x f (sym bases.are ∙ e)) b w k f fits;
    }

    module _ (a : Bases) (some : o ≡ Some a) where
      pub none_any : a.any ≡ false → NoFarOf l g load live
      none_any e = record {
        loads = λ p b w region x prog m h k t f fits dead.
            at_bases p region x
            (λ f fits. true≢false (sym (is_any p prog g m (gp_of l) (address_of l) load.id load.ra load.rb bases.block bases.behind (result p region x f) region x f a (sym bases.are ∙ some)) ∙ e)) b w k f fits;
      }

      pub none_half : one_half at a.least a.most ≡ false → NoFarOf l g load live
      none_half e = record {
        loads = λ p b w region x prog m h k t f fits dead.
            let lies = said p h region x t in
            at_bases p region x
            (λ f fits. true≢false
            (sym (is_half p prog g m (gp_of l) (address_of l) load.id load.ra load.rb bases.block bases.behind (result p region x f) region x f a (sym bases.are ∙ some) at
            (lies.distance ∙ ap (λ (i : ℕ). from_gp p (gp_of l) (address_of l) i (target.Ptr region x)) (sym (load_object g graph load bases.block (word_of bases.block bases.node) is here))) lies.off fits)
            ∙ e)) b w k f fits;
      }
