-- The worked image is thorough.
use Rattle.std.proofs.Common.{◌≡◌, ◌⊎◌, inl, inr, ◌<◌, ℕ, zero, suc, true, cond, List, [], ◌∷◌, length, Some, None, refl, sym, ap, ◌∙◌, subst, arith}
use Rattle.std.specs.Prelude.{negsuc, All, slice_get}
use Rattle.std.proofs.lemmas.List.Sorted.{IsPermutation-refl}
use Rattle.std.proofs.lemmas.Int.{ints}
use Rattle.std.proofs.lemmas.Bool.{true≢false}
use Rattle.om_alpha.specs.declared.op.Cond.TheVariants as cond
use Rattle.om_isa.specs.declared.instr.BrOp.TheVariants.{If}
use Rattle.om_isa.specs.declared.instr.JumpOp.TheVariants.{Jsr}
use Rattle.om_isa.specs.declared.instr.Instr.TheVariants.{Jump}
use Rattle.om_value.specs.declared.value.Place.{Place}
use Rattle.om_value.specs.declared.value.Target.{Target}
use Rattle.om_value.specs.declared.value.Target.TheVariants as target
use Rattle.om_prog.specs.declared.item.Item.{Item}
use Rattle.om_prog.specs.Act as act
use Rattle.om_prog.specs.Act.{Act, Word, Script}
use Rattle.om_prog.specs.Step.{next_place}
use Rattle.om_prog.specs.Facts.{Table, Unknown, has, Allows}
use Rattle.om_prog.specs.Script.{program_fetch}
use Rattle.om_graph.specs.declared.op.Op.{Op}
use Rattle.om_graph.specs.declared.op.Last.TheVariants as last
use Rattle.om_graph.specs.View.{Block, Shape, Has, ops_of, place_lt}
use Rattle.om_graph.specs.Run.{block_words, shape_words, words, graph_script}
use Rattle.om_graph.specs.LeftIn.{is_kept}
use Rattle.om_graph.specs.Form.{OpForm, LastForm, label_after, is_address}
use Rattle.om_graph.specs.Kept.{names, Links, IsInKeptSet, root, fall, named, behind, IsBlock, KeptInBlocks}
use Rattle.om_graph.specs.Index.{index_of}
use Rattle.om_graph.specs.Lifted.{lifted_shapes}
use Rattle.om_graph.specs.OfProgram.{no_more, gone, IsBlockOf, IsGraphOf}
use Rattle.om_graph.specs.Checks.{Enters, falls_in, jumps_in, ReachesBlock, at_entry, enters_next, ReadsBlock, reads_in, reads_next, reads_first, end_fact}
use Rattle.om_graph.specs.Fits.{OpsFit}
use Rattle.om_graph.specs.Uses.{IsClosedPair, IsLocalUse}
use Rattle.om_graph.proofs.Kept.{has_split}
use Rattle.om_layout.specs.Layout.{TableAt, gp_of, address_of}
use Rattle.om_layout.specs.Order.{IsDataLayout, slots_of}
use Rattle.om_layout.specs.Limits.{IsWithinLimits}
use Rattle.om_encode.specs.Data.{DataIsTrue, RoleFits}
use Rattle.om_encode.specs.Text.{map_word}
use Rattle.om_encode.specs.Fields.{IsTrueWord}
use Rattle.om_encode.specs.TrueMap.{IsMapIn}
use Rattle.om_graph.specs.Left.{AreExactFacts, AreExactMasks, NothingApplies, high_word}
use Rattle.om_graph.specs.Stands.{IsIdle, BasesStand, PairsWhole}
use Rattle.om_thorough.specs.Rows.{at}
use Rattle.om_thorough.specs.LoneHalf.{high_item, low_item, test_item, half_program, test_block}
use Rattle.om_thorough.specs.Worked.{empty_block, worked_graph, worked_layout, worked_image, worked_facts, worked_masks, WorkedIsThorough}
use Rattle.om_passes.proofs.Origins.{kept_here, source_fetch}
use Rattle.om_passes.proofs.Betweens.{first_in, last_in}
use Rattle.om_passes.proofs.Closed.{low_word}
use Rattle.om_thorough.proofs.Rest.{rest_is_thorough}
use Rattle.om_thorough.proofs.LoneHalfProof.{high, low, test, high_shape, test_shape, is_program, is_test_block, one_of_three, in_one, or_less, or_more}

abbrev c : Script
c = graph_script half_program worked_graph

in_graph : (P : Block → Type 0) (b : Block) → Has worked_graph.blocks b → P empty_block → P test_block → P b
in_graph P b (inl e) h t = subst P e h
in_graph P b (inr (inl e)) h t = subst P e t
in_graph P b (inr (inr h)) x y = absurd h

in_words : (P : Block → Word → Type 0) (b : Block) (w : Word) → Has worked_graph.blocks b → Has (block_words b) w → P test_block test → P b w
in_words P b w hb hw t =
    in_graph (λ x. (v : Word) → Has (block_words x) v → P x v) b hb (λ v m. absurd m) (λ v m. in_one (P test_block) v test m t) w hw

none_such : (P : Act → Type 0) → (P (act.To (If cond.Ne) 29 (at 8)) → ⊥) → (b : Block) (w : Word) → Has worked_graph.blocks b → Has (block_words b) w → P w.act → ⊥
none_such P n b w hb hw = in_words (λ b w. P w.act → ⊥) b w hb hw n

-- ---- of the program

is_empty_block : IsBlockOf half_program high_shape empty_block
is_empty_block = record {
  label = refl;
  opening = refl;
  words = gone high refl refl (gone low refl refl no_more);
  falls = λ e. refl;
  off = λ e. cc;
  same_load = λ user i r h a m n. absurd h;
  byte_load = λ load user r rb x region i u l a m h. absurd h;
  least = λ o ra rb t z h e. absurd h;
}

is_of : IsGraphOf half_program worked_graph
is_of = record {
  graph = record {
    objects = omega arith;
    tables = refl;
    roots = λ e. cc;
    labels = (first_label, ((λ q h. absurd h), tt));
    blocks = (first_label, ((λ q h. absurd h), tt));
    among = λ q h. h;
    marks = tt;
    touched = λ q h. absurd h;
    block_ids = (apart_ids, ((λ h. h), tt));
    op_ids = tt;
  };
  counts = refl;
  roots = refl;
  labels = refl;
  blocks =
      λ b h.
      in_graph (λ x. (s : Shape) × Has (lifted_shapes half_program) s × IsBlockOf half_program s x) b h (high_shape, inl refl, is_empty_block)
      (test_shape, inr (inl refl), is_test_block);
  form = record {
    ops = λ b o hb ho. in_graph (λ x. (o : Op) → Has (ops_of x) o → OpForm o.kind) b hb (λ o h. absurd h) (λ o h. absurd h) o ho;
    lasts = λ b h. in_graph (λ x. LastForm x.last) b h tt tt;
    ends = λ b h. in_graph (λ x. x.last ≡ last.Off → label_after worked_graph.labels x.label ≡ None) b h (λ e. cc) (λ e. cc);
  };
  tables = its_table;
  slots =
      λ t. (
        [],
        omega arith,
        λ b o ra rb x hb ho e k. absurd (in_graph (λ y. (o : Op) → Has (ops_of y) o → ⊥) b hb (λ o h. h) (λ o h. h) o ho),
      );
}
  where
    first_label : (q : Place) → Has (at 8 ∷ []) q → place_lt (at 0) q ≡ true
    first_label q (inl e) = subst (λ (x : Place). place_lt (at 0) x ≡ true) e refl
    first_label q (inr h) = absurd h

    apart_ids : Has {A = ℕ} (1 ∷ []) 0 → ⊥
    apart_ids (inl e) = omega (arith, e)
    apart_ids (inr h) = h

    its_table : (o t : ℕ) → slice_get worked_graph.tables o ≡ Some t → t < length worked_graph.counts
    its_table zero t e = let s : 0 ≡ t = cc in omega (arith, s)
    its_table (suc o) t e = cc

is_label : (q : Place) → IsInKeptSet worked_graph q → (at 0 ≡ q) ⊎ (at 8 ≡ q)
is_label q (root _ (inl e)) = inl e
is_label q (root _ (inr h)) = absurd h
is_label q (fall b _ hb k f e) = in_graph (λ x. label_after worked_graph.labels x.label ≡ Some q → (at 0 ≡ q) ⊎ (at 8 ≡ q)) b hb (λ e. inr (same e)) (λ e. absurd (never e)) e
  where
    same : Some (at 8) ≡ Some q → at 8 ≡ q
    same e = cc

    never : None ≡ Some q → ⊥
    never e = cc
is_label q (named b w _ hb k hw n) = in_words (λ b w. names w.act q → (at 0 ≡ q) ⊎ (at 8 ≡ q)) b w hb hw (λ n. inr n) n
is_label q (behind b w hb k hw l) = absurd (none_such Links (λ l. l) b w hb hw l)

block_at : (q : Place) → (at 0 ≡ q) ⊎ (at 8 ≡ q) → IsBlock worked_graph q
block_at q (inl e) = (empty_block, inl refl, e)
block_at q (inr e) = (test_block, inr (inl refl), e)

is_inside : KeptInBlocks worked_graph
is_inside = record { label = λ q k. inl (block_at q (is_label q k)) }

entry_kept : IsInKeptSet worked_graph (at 0)
entry_kept = root (at 0) (inl refl)

only_kept : (b : Block) → Has worked_graph.blocks b → IsInKeptSet worked_graph b.label
only_kept b h = in_graph (λ x. IsInKeptSet worked_graph x.label) b h entry_kept (fall empty_block (at 8) (inl refl) entry_kept tt refl)

-- ---- facts and masks

falls_on : Enters worked_graph empty_block test_block
falls_on = falls_in (inl (refl, refl)) refl tt

loops : Enters worked_graph test_block test_block
loops = jumps_in test (inr (inl refl)) (inr (inl refl)) ([], refl) refl

enters_from : (b n : Block) → Enters worked_graph b n → Has worked_graph.blocks b
enters_from b n (falls_in (inl e) o f) = inl e.0
enters_from b n (falls_in (inr h) o f) = absurd h
enters_from b n (jumps_in w hb hn l j) = hb

first_reached : ReachesBlock c worked_graph empty_block (Table 0)
first_reached = at_entry empty_block (inl refl) refl

exact_facts : AreExactFacts c worked_facts worked_graph
exact_facts = record {
  checked = record {
    entry = inr refl;
    enters = λ b n e. in_graph (λ x. Allows (end_fact c worked_facts x) (Table 0)) b (enters_from b n e) refl refl;
  };
  table =
      λ b t h e.
      let s : 0 ≡ t = same t e in
      subst (λ (n : ℕ). ReachesBlock c worked_graph b (Table n)) s
      (in_graph (λ x. ReachesBlock c worked_graph x (Table 0)) b h first_reached (enters_next empty_block test_block (Table 0) first_reached falls_on));
  unknown = λ b h e. absurd (never e);
}
  where
    same : (t : ℕ) → Table 0 ≡ Table t → 0 ≡ t
    same t e = cc

    never : Table 0 ≡ Unknown → ⊥
    never e = cc

test_reads : (r : ℕ) → has (29 ∷ []) r ≡ true → ReadsBlock worked_graph r test_block
test_reads r m = reads_in test_block (inr (inl refl)) (or_more (has (29 ∷ []) r) _ m)

exact_masks : AreExactMasks worked_masks worked_masks worked_graph
exact_masks = record {
  checked = record {
    reads =
        λ b r h low e.
        in_graph (λ x. reads_first (block_words x) r ≡ true → has (29 ∷ []) r ≡ true) b h (λ e. absurd (true≢false (sym e))) (λ e. or_less (has (29 ∷ []) r) (has [] r) e) e;
    enters = λ b n r e low m w. m;
  };
  ends = record {
    covers = λ b n r e low m. m;
    only =
        λ b r h low o.
        in_graph (λ x. (n : Block) × Enters worked_graph x n × (has (29 ∷ []) r ≡ true)) b h (test_block, falls_on, o) (test_block, loops, o);
  };
  only =
      λ b r h low m.
      in_graph (λ x. ReadsBlock worked_graph r x) b h (reads_next empty_block test_block falls_on refl (test_reads r m)) (test_reads r m);
}

-- ---- nothing applies

not_pair : (b : Block) (hi lo : Place) → Has worked_graph.blocks b → IsClosedPair worked_graph b hi lo → ⊥
not_pair b hi lo h q =
    none_such (λ a. a ≡ act.GpLo 29 29 hi) (λ e. cc) b (low_word hi lo) h (last_in (block_words b) (high_word hi q.rb q.base) q.mid (low_word hi lo) q.stands) refl

first_has : (b : Block) (load user : Word) (r : ℕ) → IsLocalUse (block_words b) load user r → Has (block_words b) load
first_has b load user r u = first_in (block_words b) load u.mid user u.stands

nothing : (gp : ℕ → ℕ) (address : Target → ℕ) → NothingApplies half_program c gp address worked_facts worked_masks worked_masks worked_graph
nothing gp address = record {
  exact_facts = exact_facts;
  exact_masks = exact_masks;
  tables = refl;
  direct = record { calls = λ b call ra q h hw k r. none_such (λ a. a ≡ act.Plain (Jump Jsr ra k.rb k.hint)) (λ e. cc) b call h hw k.jumps };
  drop_pairs = record { pairs = λ b bf ws hi lo q s f. not_pair b hi lo s.among q };
  enter = record { calls = λ b e bf ws w ra s he a n o r f. not_pair e e.label (next_place e.label) he o.pair };
  near = record {
    loads = λ b bf w ws ra rb t s a n. absurd (none_such (λ x. x ≡ act.Lit ra rb t) (λ e. cc) b w s.among (has_split bf w ws (block_words b) s.split) a);
  };
  uses = record {
    uses =
        λ b load user r rb x region i z h u a n y k d v m f.
        none_such (λ q. q ≡ act.AddrLda r rb (target.Ptr region x)) (λ e. cc) b load h (first_has b load user r u) a;
  };
  bytes = record {
    uses = λ b load user r rb x region i h u a y k. none_such (λ q. q ≡ act.Lit r rb (target.Ptr region x)) (λ e. cc) b load h (first_has b load user r u) a;
  };
  far = record { loads = λ b load r rb x region h hl f n o. none_such (λ q. q ≡ act.Lit r rb (target.Ptr region x)) (λ e. cc) b load h hl f.loads };
  words = record {
    words = λ b bf w ws r s a m d. absurd (none_such (λ q. is_address q ≡ true) (λ e. true≢false (sym e)) b w s.among (has_split bf w ws (block_words b) s.split) a);
  };
  blocks = record { blocks = only_kept };
}

bases_stand : BasesStand half_program worked_graph
bases_stand = record {
  uses = λ b s w i gp t h hs e hw a. absurd (none_such (λ q. q ≡ act.UseGp i gp t) (λ e. cc) b w h hw a);
  idle = λ b w h hw i. absurd (none_such IsIdle (λ i. i) b w h hw i);
}

-- the only word that is kept is no half
kept_is : (q : Place) → is_kept worked_graph q ≡ true → at 8 ≡ q
kept_is q k = by_word (kept_here (words worked_graph) q k)
  where
    by_word : (w : Word) × Has (words worked_graph) w × (w.at ≡ q) → at 8 ≡ q
    by_word (w, inl e, f) = ap (λ (x : Word). x.at) e ∙ f
    by_word (w, inr h, f) = absurd h

pairs_whole : PairsWhole half_program worked_graph
pairs_whole = record {
  low =
      λ s hi lo hs k e.
      absurd (not_low s (low_word hi lo) hs (last_in (shape_words s) (high_word hi k.rb k.base) k.mid (low_word hi lo) k.stands) (kept_is lo e) hi refl);
  high =
      λ s hi lo hs k e.
      absurd (not_high s (high_word hi k.rb k.base) hs (first_in (shape_words s) (high_word hi k.rb k.base) k.mid (low_word hi lo) k.stands) (kept_is hi e) k.rb k.base refl);
}
  where
    test_there : program_fetch half_program (at 8) ≡ Some test
    test_there = refl

    is_test : (s : Shape) (w : Word) → Has (lifted_shapes half_program) s → Has (shape_words s) w → at 8 ≡ w.at → w ≡ test
    is_test s w hs hw e =
        let f = source_fetch half_program is_program worked_graph is_of s w hs hw in
        let k = ap (λ (q : Place). program_fetch half_program q) e in
        let m = test_there in
        cc

    not_low : (s : Shape) (w : Word) → Has (lifted_shapes half_program) s → Has (shape_words s) w → at 8 ≡ w.at → (hi : Place) → w.act ≡ act.GpLo 29 29 hi → ⊥
    not_low s w hs hw e hi a = let m = ap (λ (x : Word). x.act) (is_test s w hs hw e) in cc

    not_high : (s : Shape) (w : Word) → Has (lifted_shapes half_program) s → Has (shape_words s) w → at 8 ≡ w.at → (rb : ℕ) (base : Place) → w.act ≡ act.GpHi 29 rb base → ⊥
    not_high s w hs hw e rb base a = let m = ap (λ (x : Word). x.act) (is_test s w hs hw e) in cc

-- ---- layout and image

is_layout : IsDataLayout half_program worked_graph worked_layout
is_layout = record {
  counts = refl;
  object_tables = refl;
  number = refl;
  slots = slots;
  tables = (refl, tt);
  extents = IsPermutation-refl _;
  order = tt;
  regions = tt;
}
  where
    slots : (k : ℕ) (t : TableAt) → slice_get worked_layout.tables k ≡ Some t → t.slots ≡ slots_of worked_graph k
    slots zero t h = let e : record { start = 0x140000000; slots = [] } ≡ t = cc in ap (λ (t : TableAt). t.slots) (sym e)
    slots (suc k) t h = cc

data_is : DataIsTrue half_program worked_graph worked_layout worked_image
data_is = record {
  counts = refl;
  object_tables = refl;
  tables = refl;
  regions = refl;
  slots = λ k t j u b h f lt. absurd (no_slot k t j u h f);
  contents = λ k d lt. absurd (omega arith);
  fits = λ k d lt. absurd (omega arith);
  widths = record {
    targets = only_text (λ (text : List Item). All (λ (i : Item). RoleFits i.role) text) (λ k d lt. by_item k d lt);
    bytes = λ k d lt. absurd (omega arith);
    fields = λ k d lt. absurd (omega arith);
  };
  others = λ a h s r. refl;
  given = refl;
  whole = refl;
  entry = refl;
  gp = refl;
}
  where
    only_text : (P : List Item → Type 0) → P (high_item ∷ low_item ∷ test_item ∷ []) → All P half_program.texts
    only_text P h zero d lt = h
    only_text P h (suc k) d lt = absurd (omega arith)

    by_item : All (λ i. RoleFits i.role) (high_item ∷ low_item ∷ test_item ∷ [])
    by_item zero d lt = tt
    by_item (suc zero) d lt = tt
    by_item (suc (suc zero)) d lt = tt
    by_item (suc (suc (suc k))) d lt = absurd (omega arith)

    no_slot : (k : ℕ) (t : TableAt) (j : ℕ) (u : Target) → slice_get worked_layout.tables k ≡ Some t → slice_get t.slots j ≡ Some u → ⊥
    no_slot zero t j u h f =
        let e : record { start = 0x140000000; slots = [] } ≡ t = cc in
        none (subst (λ (t : TableAt). slice_get t.slots j ≡ Some u) (sym e) f)
      where
        none : slice_get [] j ≡ Some u → ⊥
        none e = cc
    no_slot (suc k) t j u h f = cc

is_map : IsMapIn half_program worked_graph worked_layout worked_image
is_map = record {
  data_part = data_is;
  text = record {
    total = refl;
    each =
        λ q item e.
        one_of_three (λ q item. slice_get worked_image.map.words (index_of worked_graph.counts q) ≡ Some (map_word worked_graph worked_layout q item)) q item e refl refl refl;
    count = refl;
  };
  fields = record { forms = λ w h. in_one (IsTrueWord half_program worked_graph worked_layout worked_image) w test h is_true };
}
  where
    is_true : IsTrueWord half_program worked_graph worked_layout worked_image test
    is_true = record {
      word = 0xf7bfffff;
      found = refl;
      form = (negsuc 0, record { fields = (omega arith, omega (arith, ints)); word = refl }, omega (arith, ints));
    }

ops_fit : OpsFit half_program (gp_of worked_layout) (address_of worked_layout) worked_graph
ops_fit = record { ops = λ b o hb ho. absurd (in_graph (λ y. (o : Op) → Has (ops_of y) o → ⊥) b hb (λ o h. h) (λ o h. h) o ho) }

limits : IsWithinLimits half_program
limits = record { objects = omega arith; words = omega arith; sizes = omega arith; regions = omega arith }

pub worked_is_thorough : WorkedIsThorough
worked_is_thorough =
    rest_is_thorough half_program worked_graph worked_layout worked_image is_program is_of is_inside limits is_layout is_map ops_fit bases_stand pairs_whole worked_facts worked_masks worked_masks
    (nothing (gp_of worked_layout) (address_of worked_layout))
