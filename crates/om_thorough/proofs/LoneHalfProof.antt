-- The graph that keeps a high half alone.
use Rattle.std.proofs.Common.{◌≡◌, ◌⊎◌, inl, inr, ◌<◌, ◌*◌, ◌/◌, ◌%◌, ◌||◌, ◌&&◌, ℕ, zero, suc, Bool, true, false, cond, not, List, [], ◌∷◌, length, Option, Some, None, refl, sym, ap, ◌∙◌, subst, arith}
use Rattle.std.specs.Prelude.{ℤ, pos, negsuc, slice_get}
use Rattle.std.proofs.lemmas.Int.{ints}
use Rattle.std.proofs.lemmas.Bool.{true≢false}
use Rattle.om_alpha.specs.declared.op.Cond.TheVariants as cond
use Rattle.om_isa.specs.declared.instr.BrOp.TheVariants.{If}
use Rattle.om_isa.specs.declared.instr.JumpOp.TheVariants.{Jsr}
use Rattle.om_isa.specs.declared.instr.MemOp.TheVariants.{Lda, Ldah}
use Rattle.om_isa.specs.declared.instr.Instr.TheVariants.{Mem, Jump, Branch}
use Rattle.om_value.specs.declared.value.Place.{Place}
use Rattle.om_value.specs.declared.value.Target.{Target}
use Rattle.om_value.specs.declared.value.Target.TheVariants as target
use Rattle.om_prog.specs.declared.item.Item.{Item}
use Rattle.om_prog.specs.declared.region.RegionInit.{RegionInit}
use Rattle.om_prog.specs.Act as act
use Rattle.om_prog.specs.Act.{Act, Word, Script, act_writes}
use Rattle.om_prog.specs.Step.{next_place}
use Rattle.om_prog.specs.Flow.{Among, act_jumps}
use Rattle.om_prog.specs.Facts.{Fact, Table, Unknown, has, Allows}
use Rattle.om_prog.specs.View.{ProgramView, item_at}
use Rattle.om_prog.specs.Script.{act_of}
use Rattle.om_prog.specs.Valid.{IsProgram, IsText, IsItem}
use Rattle.om_graph.specs.declared.op.Op.{Op}
use Rattle.om_graph.specs.declared.op.OpKind.TheVariants as op
use Rattle.om_graph.specs.declared.op.Last.TheVariants as last
use Rattle.om_graph.specs.View.{Block, Shape, GraphView, Has, ops_of, place_lt}
use Rattle.om_graph.specs.Run.{block_words, rev_onto, graph_script}
use Rattle.om_graph.specs.Form.{OpForm, LastForm, label_after, is_address}
use Rattle.om_graph.specs.Kept.{names, Links, IsInKeptSet, root, fall, named, behind, IsBlock, KeptInBlocks, IsKeptLanding}
use Rattle.om_graph.specs.Lifted.{lifted_shapes}
use Rattle.om_graph.specs.Landing.{are_halves, of_role, is_high_half, is_low_half}
use Rattle.om_graph.specs.OfProgram.{as_was, no_more, kept, gone, IsBlockOf, IsGraphOf}
use Rattle.om_graph.specs.Checks.{Enters, falls_in, jumps_in, ReachesBlock, at_entry, enters_next, ReadsBlock, reads_in, live_in, written_in, reads_first, end_fact}
use Rattle.om_graph.specs.Uses.{IsClosedPair, IsLocalUse}
use Rattle.om_graph.proofs.Labels.{same_place, equal_places}
use Rattle.om_graph.proofs.Kept.{has_split}
use Rattle.om_graph.proofs.GpFacts.{allows_unknown}
use Rattle.om_graph.specs.Left.{StandsIn, AreExactFacts, AreExactMasks, NothingApplies, IsDeadBy, high_word}
use Rattle.om_graph.specs.Stands.{IsClosedIn, IsIdle, BasesStand}
use Rattle.om_thorough.specs.Thorough.{is_half, AllClosed, OnlyPairsWrite}
use Rattle.om_thorough.specs.Rows.{at}
use Rattle.om_thorough.specs.LoneHalf.{high_item, low_item, test_item, half_program, high_block, test_block, half_graph, half_facts, half_masks, half_outs, ALoneHalf}
use Rattle.om_passes.proofs.Sources.{some_item, in_text}
use Rattle.om_thorough.proofs.Images.{reads_as}
use Rattle.om_passes.proofs.Betweens.{first_in, last_in}
use Rattle.om_passes.proofs.Whole.{entered_has}
use Rattle.om_passes.proofs.Closed.{low_word}

abbrev g : GraphView
g = half_graph

abbrev p : ProgramView
p = half_program

abbrev c : Script
c = graph_script half_program half_graph

abbrev pub high : Word
high = record { at = at 0; act = act.GpHi 29 27 (at 0) }

abbrev pub low : Word
low = record { at = at 4; act = act.GpLo 29 29 (at 0) }

abbrev pub test : Word
test = record { at = at 8; act = act.To (If cond.Ne) 29 (at 8) }

abbrev pub high_shape : Shape
high_shape = record {
  label = at 0;
  opening = true;
  ops = record { place = at 0; kind = op.GpHi 29 27 (at 0) } ∷ record { place = at 4; kind = op.GpLo 29 29 (at 0) } ∷ [];
  last = last.Fall;
}

abbrev pub test_shape : Shape
test_shape = record { label = at 8; opening = false; ops = []; last = last.Cond (at 8) (Branch (If cond.Ne) 29 (negsuc 0)) (at 8) }

pub shapes_are : lifted_shapes half_program ≡ high_shape ∷ test_shape ∷ []
shapes_are = refl

-- ---- the program

its_item : (k : ℕ) (i : Item) → slice_get (high_item ∷ low_item ∷ test_item ∷ []) k ≡ Some i → IsItem half_program (high_item ∷ low_item ∷ test_item ∷ []) (record { obj = 0; off = 4 * k }) i
its_item zero i e =
    let s : high_item ≡ i = cc in
    subst (λ (x : Item). IsItem half_program (high_item ∷ low_item ∷ test_item ∷ []) (at 0) x) s
    (record { instr = reads_as 0x27bb0000 (Mem Ldah 29 27 (pos 0)) (record { fields = (omega arith, omega arith, omega (arith, ints)); word = refl }); role = refl })
its_item (suc zero) i e =
    let s : low_item ≡ i = cc in
    subst (λ (x : Item). IsItem half_program (high_item ∷ low_item ∷ test_item ∷ []) (at 4) x) s
    (record { instr = reads_as 0x23bd0000 (Mem Lda 29 29 (pos 0)) (record { fields = (omega arith, omega arith, omega (arith, ints)); word = refl }); role = refl })
its_item (suc (suc zero)) i e =
    let s : test_item ≡ i = cc in
    subst (λ (x : Item). IsItem half_program (high_item ∷ low_item ∷ test_item ∷ []) (at 8) x) s
    (record { instr = reads_as 0xf7bfffff (Branch (If cond.Ne) 29 (negsuc 0)) (record { fields = (omega arith, omega (arith, ints)); word = refl }); role = refl })
its_item (suc (suc (suc k))) i e = cc

its_text : (obj : ℕ) (text : List Item) → slice_get half_program.texts obj ≡ Some text → IsText half_program obj text
its_text zero text e =
    let s : high_item ∷ low_item ∷ test_item ∷ [] ≡ text = cc in
    subst (λ (t : List Item). IsText half_program 0 t) s (record { words = omega arith; few = omega arith; items = record { each = its_item } })
its_text (suc obj) text e = cc

pub is_program : IsProgram half_program
is_program = record {
  objects = omega arith;
  texts = record { each = its_text };
  entry = refl;
  regions = record { each = λ k i e. absurd (no_region k i e) };
  once = record { apart = λ j k a b l e f. absurd (no_region j a e) };
}
  where
    no_region : (k : ℕ) (i : RegionInit) → slice_get half_program.regions k ≡ Some i → ⊥
    no_region k i e = cc

-- ---- two blocks, two words

in_graph : (P : Block → Type 0) (b : Block) → Has half_graph.blocks b → P high_block → P test_block → P b
in_graph P b (inl e) h t = subst P e h
in_graph P b (inr (inl e)) h t = subst P e t
in_graph P b (inr (inr h)) x y = absurd h

pub in_one : (P : Word → Type 0) (w v : Word) → Has (v ∷ []) w → P v → P w
in_one P w v (inl e) h = subst P e h
in_one P w v (inr h) x = absurd h

in_words : (P : Block → Word → Type 0) (b : Block) (w : Word) → Has half_graph.blocks b → Has (block_words b) w → P high_block high → P test_block test → P b w
in_words P b w hb hw h t =
    in_graph (λ x. (v : Word) → Has (block_words x) v → P x v) b hb (λ v m. in_one (P high_block) v high m h) (λ v m. in_one (P test_block) v test m t) w hw

-- no word of the graph is of some kind
abbrev IsNeither : (Act → Type 0) → Type 0
IsNeither P = (P (act.GpHi 29 27 (at 0)) → ⊥) × (P (act.To (If cond.Ne) 29 (at 8)) → ⊥)

none_such : (P : Act → Type 0) → IsNeither P → (b : Block) (w : Word) → Has half_graph.blocks b → Has (block_words b) w → P w.act → ⊥
none_such P n b w hb hw = in_words (λ b w. P w.act → ⊥) b w hb hw n.0 n.1

-- ---- of the program

is_high_block : IsBlockOf half_program high_shape high_block
is_high_block = record {
  label = refl;
  opening = refl;
  words = kept high high refl (as_was refl) (gone low refl refl no_more);
  falls = λ e. refl;
  off = λ e. cc;
  same_load = λ user i r h a m n. absurd (in_one (λ w. w.act ≡ act.Plain i → ⊥) user high h (λ e. cc) a);
  byte_load = λ load user r rb x region i u l a m h. absurd (in_one (λ w. w.act ≡ act.Plain i → ⊥) user high h (λ e. cc) a);
  least = λ o ra rb t z h e. absurd (no_far o ra rb t z h e);
}
  where
    no_far : (o : Op) (ra rb : ℕ) (t : Target) (z : ℤ) → Has (ops_of high_block) o → o.kind ≡ op.AddrHi ra rb t z → ⊥
    no_far o ra rb t z (inl s) e = let x = ap (λ (q : Op). q.kind) s in cc
    no_far o ra rb t z (inr h) e = h

pub is_test_block : IsBlockOf half_program test_shape test_block
is_test_block = record {
  label = refl;
  opening = refl;
  words = kept test test refl (as_was refl) no_more;
  falls = λ e. cc;
  off = λ e. cc;
  same_load = λ user i r h a m n. absurd (in_one (λ w. w.act ≡ act.Plain i → ⊥) user test h (λ e. cc) a);
  byte_load = λ load user r rb x region i u l a m h. absurd (in_one (λ w. w.act ≡ act.Plain i → ⊥) user test h (λ e. cc) a);
  least = λ o ra rb t z h e. absurd h;
}

is_of : IsGraphOf half_program half_graph
is_of = record {
  graph = record {
    objects = omega arith;
    tables = refl;
    roots = λ e. cc;
    labels = (label_after_first, ((λ q h. absurd h), tt));
    blocks = (label_after_first, ((λ q h. absurd h), tt));
    among = λ q h. h;
    marks = tt;
    touched = λ q h. absurd h;
    block_ids = (apart_ids, ((λ h. h), tt));
    op_ids = ((λ h. h), tt);
  };
  counts = refl;
  roots = refl;
  labels = refl;
  blocks =
      λ b h.
      in_graph (λ x. (s : Shape) × Has (lifted_shapes half_program) s × IsBlockOf half_program s x) b h (high_shape, inl refl, is_high_block)
      (test_shape, inr (inl refl), is_test_block);
  form = record {
    ops = λ b o hb ho. in_graph (λ x. (o : Op) → Has (ops_of x) o → OpForm o.kind) b hb (λ o h. by_op o h) (λ o h. absurd h) o ho;
    lasts = λ b h. in_graph (λ x. LastForm x.last) b h tt tt;
    ends = λ b h. in_graph (λ x. x.last ≡ last.Off → label_after half_graph.labels x.label ≡ None) b h (λ e. cc) (λ e. cc);
  };
  tables = its_table;
  slots =
      λ t. (
        [],
        omega arith,
        λ b o ra rb x hb ho e k. absurd (in_graph (λ y. (o : Op) → Has (ops_of y) o → o.kind ≡ op.Lit ra rb x → ⊥) b hb (λ o h. no_lit ra rb x o h) (λ o h. absurd h) o ho k),
      );
}
  where
    label_after_first : (q : Place) → Has (at 8 ∷ []) q → place_lt (at 0) q ≡ true
    label_after_first q (inl e) = subst (λ (x : Place). place_lt (at 0) x ≡ true) e refl
    label_after_first q (inr h) = absurd h

    apart_ids : Has {A = ℕ} (1 ∷ []) 0 → ⊥
    apart_ids (inl e) = omega (arith, e)
    apart_ids (inr h) = h

    by_op : (o : Op) → Has (ops_of high_block) o → OpForm o.kind
    by_op o (inl e) = subst (λ (x : Op). OpForm x.kind) e tt
    by_op o (inr h) = absurd h

    no_lit : (ra rb : ℕ) (x : Target) (o : Op) → Has (ops_of high_block) o → o.kind ≡ op.Lit ra rb x → ⊥
    no_lit ra rb x o (inl s) e = let y = ap (λ (q : Op). q.kind) s in cc
    no_lit ra rb x o (inr h) e = h

    its_table : (o t : ℕ) → slice_get half_graph.tables o ≡ Some t → t < length half_graph.counts
    its_table zero t e = let s : 0 ≡ t = cc in omega (arith, s)
    its_table (suc o) t e = cc

-- ---- the kept set

is_label : (q : Place) → IsInKeptSet half_graph q → (at 0 ≡ q) ⊎ (at 8 ≡ q)
is_label q (root _ (inl e)) = inl e
is_label q (root _ (inr h)) = absurd h
is_label q (fall b _ hb k f e) = in_graph (λ x. label_after half_graph.labels x.label ≡ Some q → (at 0 ≡ q) ⊎ (at 8 ≡ q)) b hb (λ e. inr (same e)) (λ e. absurd (never e)) e
  where
    same : Some (at 8) ≡ Some q → at 8 ≡ q
    same e = cc

    never : None ≡ Some q → ⊥
    never e = cc
is_label q (named b w _ hb k hw n) = in_words (λ b w. names w.act q → (at 0 ≡ q) ⊎ (at 8 ≡ q)) b w hb hw (λ n. absurd n) (λ n. inr n) n
is_label q (behind b w hb k hw l) = absurd (none_such Links ((λ l. l), λ l. l) b w hb hw l)

block_at : (q : Place) → (at 0 ≡ q) ⊎ (at 8 ≡ q) → IsBlock half_graph q
block_at q (inl e) = (high_block, inl refl, e)
block_at q (inr e) = (test_block, inr (inl refl), e)

is_inside : KeptInBlocks half_graph
is_inside = record { label = λ q k. inl (block_at q (is_label q k)) }

entry_kept : IsInKeptSet half_graph (at 0)
entry_kept = root (at 0) (inl refl)

only_kept : (b : Block) → Has half_graph.blocks b → IsInKeptSet half_graph b.label
only_kept b h = in_graph (λ x. IsInKeptSet half_graph x.label) b h entry_kept (fall high_block (at 8) (inl refl) entry_kept tt refl)

-- ---- from block to block

falls_on : Enters half_graph high_block test_block
falls_on = falls_in (inl (refl, refl)) refl tt

loops : Enters half_graph test_block test_block
loops = jumps_in test (inr (inl refl)) (inr (inl refl)) ([], refl) refl

-- nothing goes to the first block
never_first : (b : Block) → Enters half_graph b high_block → ⊥
never_first b (falls_in (inl e) o f) = let x = ap (λ (y : Block). y.id) e.1 in omega (arith, x)
never_first b (falls_in (inr h) o f) = h
never_first b (jumps_in w hb hn (bf, s) j) =
    in_words (λ b w. act_jumps (IsKeptLanding half_graph) w.act (at 0) → ⊥) b w hb (has_split bf w [] (block_words b) s) (λ j. j) (λ e. let x = ap (λ (q : Place). q.off) e in omega (arith, x)) j

to_test : (P : Block → Block → Type 0) (b n : Block) → Has half_graph.blocks b → Enters half_graph b n → P high_block test_block → P test_block test_block → P b n
to_test P b n hb e x y =
    in_graph (λ m. Enters half_graph b m → P b m) n (entered_has half_graph b n e) (λ e. absurd (never_first b e)) (λ e. in_graph (λ a. P a test_block) b hb x y) e

enters_from : (b n : Block) → Enters half_graph b n → Has half_graph.blocks b
enters_from b n (falls_in (inl e) o f) = inl e.0
enters_from b n (falls_in (inr h) o f) = absurd h
enters_from b n (jumps_in w hb hn l j) = hb

-- ---- facts and masks

first_reached : ReachesBlock c half_graph high_block (Table 0)
first_reached = at_entry high_block (inl refl) refl

exact_facts : AreExactFacts c half_facts half_graph
exact_facts = record {
  checked = record {
    entry = inr refl;
    enters =
        λ b n e.
        to_test (λ b n. Allows (end_fact c half_facts b) (half_facts n.label)) b n (enters_from b n e) e (allows_unknown (end_fact c half_facts high_block))
        (allows_unknown (end_fact c half_facts test_block));
  };
  table =
      λ b t h e.
      in_graph (λ x. half_facts x.label ≡ Table t → ReachesBlock c half_graph x (Table t)) b h (λ e. subst (λ (f : Fact). ReachesBlock c half_graph high_block f) e first_reached) (λ e. cc) e;
  unknown =
      λ b h e.
      in_graph
      (λ x. half_facts x.label ≡ Unknown →
      ReachesBlock c half_graph x Unknown
      ⊎ ((t : ℕ) × (u : ℕ) × ReachesBlock c half_graph x (Table t) × ReachesBlock c half_graph x (Table u) × (t ≡ u → ⊥)))
      b h (λ e. cc) (λ e. inl (enters_next high_block test_block (Table 0) first_reached falls_on)) e;
}

pub or_less : (a b : Bool) → (a || (not b && false)) ≡ true → a ≡ true
or_less true b e = refl
or_less false true e = e
or_less false false e = e

pub or_more : (a b : Bool) → a ≡ true → (a || b) ≡ true
or_more true b e = refl
or_more false b e = absurd (true≢false (sym e))

exact_masks : AreExactMasks half_masks half_outs half_graph
exact_masks = record {
  checked = record {
    reads =
        λ b r h low e.
        in_graph (λ x. reads_first (block_words x) r ≡ true → half_masks x.label r ≡ true) b h (λ e. or_less (has (27 ∷ []) r) (has (29 ∷ []) r) e)
        (λ e. or_less (has (29 ∷ []) r) (has [] r) e) e;
    enters =
        λ b n r e low m w.
        to_test (λ b n. half_masks n.label r ≡ true → written_in (block_words b) r ≡ false → half_masks b.label r ≡ true) b n (enters_from b n e) e
        (λ m w. absurd (true≢false (sym (or_more (has (29 ∷ []) r) false m) ∙ w))) (λ m w. m) m w;
  };
  ends = record {
    covers =
        λ b n r e low m.
        to_test (λ b n. half_masks n.label r ≡ true → half_outs b.label r ≡ true) b n (enters_from b n e) e (λ m. m) (λ m. m) m;
    only =
        λ b r h low o.
        in_graph (λ x. half_outs x.label r ≡ true → (n : Block) × Enters half_graph x n × (half_masks n.label r ≡ true)) b h (λ o. (test_block, falls_on, o)) (λ o. (test_block, loops, o)) o;
  };
  only =
      λ b r h low m.
      in_graph (λ x. half_masks x.label r ≡ true → ReadsBlock half_graph r x) b h (λ m. reads_in high_block (inl refl) (or_more (has (27 ∷ []) r) _ m))
      (λ m. reads_in test_block (inr (inl refl)) (or_more (has (29 ∷ []) r) _ m)) m;
}

-- ---- nothing applies

two_long : (bf : List Word) (x w : Word) (ws : List Word) (y : Word) → rev_onto bf (x ∷ w ∷ ws) ≡ y ∷ [] → ⊥
two_long [] x w ws y e = cc
two_long (z ∷ bf) x w ws y e = two_long bf z x (w ∷ ws) y e

alone : (bf : List Word) (w : Word) (ws : List Word) (y : Word) → rev_onto bf (w ∷ ws) ≡ y ∷ [] → ws ≡ []
alone [] w ws y e = cc
alone (x ∷ bf) w ws y e = absurd (two_long bf x w ws y e)

not_pair : (b : Block) (hi lo : Place) → Has half_graph.blocks b → IsClosedPair half_graph b hi lo → ⊥
not_pair b hi lo h q =
    in_words (λ b w. w.act ≡ act.GpLo 29 29 hi → ⊥) b (low_word hi lo) h (last_in (block_words b) (high_word hi q.rb q.base) q.mid (low_word hi lo) q.stands) (λ e. cc) (λ e. cc) refl

first_has : (b : Block) (load user : Word) (r : ℕ) → IsLocalUse (block_words b) load user r → Has (block_words b) load
first_has b load user r u = first_in (block_words b) load u.mid user u.stands

live_high : (b : Block) (bf : List Word) (w : Word) (ws : List Word) (r : ℕ) → StandsIn half_graph b bf w ws → is_address w.act ≡ true → Among (act_writes w.act) r → IsDeadBy half_outs b ws r → ⊥
live_high b bf w ws r s a m d =
    in_words (λ b w. block_words b ≡ w ∷ [] → is_address w.act ≡ true → Among (act_writes w.act) r → ⊥) b w s.among there (λ e a m. by_reg m) (λ e a m. m) one a m
  where
    there : Has (block_words b) w
    there = has_split bf w ws (block_words b) s.split

    one : block_words b ≡ w ∷ []
    one = in_words (λ b w. block_words b ≡ w ∷ []) b w s.among there refl refl

    last : ws ≡ []
    last = alone bf w ws w (s.split ∙ one)

    by_reg : Among (29 ∷ []) r → ⊥
    by_reg (inl e) =
        let f = d (subst (λ (n : ℕ). n < 31) e (omega arith)) in
        let k = subst (λ (l : List Word). live_in l (half_outs b.label) r ≡ false) last f in
        true≢false (sym (subst (λ (n : ℕ). half_outs b.label n ≡ true) e refl) ∙ k)
    by_reg (inr h) = h

nothing : (gp : ℕ → ℕ) (address : Target → ℕ) → NothingApplies half_program c gp address half_facts half_masks half_outs half_graph
nothing gp address = record {
  exact_facts = exact_facts;
  exact_masks = exact_masks;
  tables = refl;
  direct = record { calls = λ b call ra q h hw k r. none_such (λ a. a ≡ act.Plain (Jump Jsr ra k.rb k.hint)) ((λ e. cc), λ e. cc) b call h hw k.jumps };
  drop_pairs = record { pairs = λ b bf ws hi lo q s f. not_pair b hi lo s.among q };
  enter = record { calls = λ b e bf ws w ra s he a n o r f. not_pair e e.label (next_place e.label) he o.pair };
  near = record {
    loads = λ b bf w ws ra rb t s a n. absurd (none_such (λ x. x ≡ act.Lit ra rb t) ((λ e. cc), λ e. cc) b w s.among (has_split bf w ws (block_words b) s.split) a);
  };
  uses = record {
    uses =
        λ b load user r rb x region i z h u a n y k d v m f.
        none_such (λ q. q ≡ act.AddrLda r rb (target.Ptr region x)) ((λ e. cc), λ e. cc) b load h (first_has b load user r u) a;
  };
  bytes = record {
    uses = λ b load user r rb x region i h u a y k. none_such (λ q. q ≡ act.Lit r rb (target.Ptr region x)) ((λ e. cc), λ e. cc) b load h (first_has b load user r u) a;
  };
  far = record { loads = λ b load r rb x region h hl f n o. none_such (λ q. q ≡ act.Lit r rb (target.Ptr region x)) ((λ e. cc), λ e. cc) b load h hl f.loads };
  words = record { words = λ b bf w ws r s a m d. absurd (live_high b bf w ws r s a m d) };
  blocks = record { blocks = only_kept };
}

bases_stand : BasesStand half_program half_graph
bases_stand = record {
  uses = λ b s w i gp t h hs e hw a. absurd (none_such (λ q. q ≡ act.UseGp i gp t) ((λ e. cc), λ e. cc) b w h hw a);
  idle = λ b w h hw i. absurd (none_such IsIdle ((λ i. i), λ i. i) b w h hw i);
}

-- ---- pairs

is_closed : IsClosedIn half_program high_shape (at 0) (at 4)
is_closed = record {
  rb = 27;
  base = at 0;
  mid = [];
  stands = ([], [], refl);
  unread = λ w h a. h;
  unwritten = λ w h a. h;
  high_stays = refl;
  low_stays = refl;
}

-- the item at a place is one of three
pub one_of_three :
    (P : Place → Item → Type 0) (q : Place) (i : Item) → item_at half_program q ≡ Some i → P (at 0) high_item → P (at 4) low_item → P (at 8) test_item → P q i
one_of_three P q i e x y z = by_object q.obj refl t.0 t.1
  where
    t : (text : List Item) × (slice_get half_program.texts q.obj ≡ Some text) × (slice_get text (q.off / 4) ≡ Some i) × (q.off % 4 ≡ 0)
    t = in_text half_program q i e

    place_is : (n : ℕ) → q.obj ≡ 0 → q.off / 4 ≡ n → at (4 * n) ≡ q
    place_is n o f = let a = t.3 in equal_places (at (4 * n)) q (sym o) (omega (arith, f, a))

    by_number : (n : ℕ) → q.off / 4 ≡ n → q.obj ≡ 0 → slice_get (high_item ∷ low_item ∷ test_item ∷ []) n ≡ Some i → P q i
    by_number zero f o s = let k : high_item ≡ i = cc in subst (λ (a : Place). P a i) (place_is 0 o f) (subst (λ (a : Item). P (at 0) a) k x)
    by_number (suc zero) f o s = let k : low_item ≡ i = cc in subst (λ (a : Place). P a i) (place_is 1 o f) (subst (λ (a : Item). P (at 4) a) k y)
    by_number (suc (suc zero)) f o s = let k : test_item ≡ i = cc in subst (λ (a : Place). P a i) (place_is 2 o f) (subst (λ (a : Item). P (at 8) a) k z)
    by_number (suc (suc (suc n))) f o s = cc

    by_object : (n : ℕ) → q.obj ≡ n → (text : List Item) → slice_get half_program.texts q.obj ≡ Some text → P q i
    by_object zero o text s =
        let k : Some (high_item ∷ low_item ∷ test_item ∷ []) ≡ Some t.0 = sym (ap (λ (m : ℕ). slice_get half_program.texts m) o) ∙ t.1 in
        let same : t.0 ≡ high_item ∷ low_item ∷ test_item ∷ [] = cc in
        by_number (q.off / 4) refl o (subst (λ (l : List Item). slice_get l (q.off / 4) ≡ Some i) same t.2)
    by_object (suc n) o text s = let k = sym (ap (λ (m : ℕ). slice_get half_program.texts m) o) ∙ s in cc

pub all_closed : AllClosed half_program
all_closed hi lo h = by_low (item_at half_program lo) refl (both_low h)
  where
    both_low : are_halves half_program hi lo ≡ true → of_role (is_low_half hi) (item_at half_program lo) ≡ true
    both_low h = second (of_role is_high_half (item_at half_program hi)) (of_role (is_low_half hi) (item_at half_program lo)) h
      where
        second : (a b : Bool) → (a && b) ≡ true → b ≡ true
        second true b e = e
        second false b e = absurd (true≢false (sym e))

    here : at 0 ≡ hi → at 4 ≡ lo → (s : Shape) × Has (lifted_shapes half_program) s × IsClosedIn half_program s hi lo
    here a b = (high_shape, inl refl, subst (λ (x : Place). IsClosedIn half_program high_shape x lo) a (subst (λ (x : Place). IsClosedIn half_program high_shape (at 0) x) b is_closed))

    by_low : (o : Option Item) → item_at half_program lo ≡ o → of_role (is_low_half hi) o ≡ true → (s : Shape) × Has (lifted_shapes half_program) s × IsClosedIn half_program s hi lo
    by_low None e l = absurd (true≢false (sym l))
    by_low (Some i) e l =
        one_of_three (λ q i. is_low_half hi i.role ≡ true → q ≡ lo → (s : Shape) × Has (lifted_shapes half_program) s × IsClosedIn half_program s hi lo) lo i e
        (λ l k. absurd (true≢false (sym l))) (λ l k. here (same_place (at 0) hi l) k) (λ l k. absurd (true≢false (sym l))) l refl

pub only_pairs : OnlyPairsWrite half_program
only_pairs q w e a =
    let s = some_item half_program q w e in
    ap (λ (x : Word). is_half x.act) (sym s.2)
    ∙ one_of_three (λ q i. Among (act_writes (act_of i.role i.instr)) 29 → is_half (act_of i.role i.instr) ≡ true) q s.0 s.1 (λ a. refl) (λ a. refl) (λ a. absurd a)
    (subst (λ (x : Word). Among (act_writes x.act) 29) (sym s.2) a)

pub a_lone_half : (gp : ℕ → ℕ) (address : Target → ℕ) → ALoneHalf gp address
a_lone_half gp address = record {
  program = is_program;
  of = is_of;
  inside = is_inside;
  bases = bases_stand;
  nothing = nothing gp address;
  closed = all_closed;
  only = only_pairs;
  one = refl;
  high = refl;
  low = refl;
}
