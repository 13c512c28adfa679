-- One edit of a graph of a program leaves it one.
use Rattle.std.proofs.Common.{◌≡◌, ◌⊎◌, inl, ◌<◌, ◌+◌, ℕ, ℤ, true, false, List, [], ◌∷◌, Option, Some, None, refl, sym, ap, subst, arith}
use Rattle.std.specs.Prelude.{map, ◌%◌}
use Rattle.std.proofs.lemmas.Bool.{true≢false}
use Rattle.om_isa.specs.declared.instr.Instr.{Instr}
use Rattle.om_isa.specs.declared.instr.Instr.TheVariants.{Mem, Jump, Branch, Alu, Cmov, Misc, Fnop, Halt, Callsys}
use Rattle.om_isa.specs.declared.instr.Opnd.TheVariants.{R, Lit as Literal}
use Rattle.om_value.specs.declared.value.Place.{Place}
use Rattle.om_value.specs.declared.value.Region.{Region}
use Rattle.om_value.specs.declared.value.Target.{Target}
use Rattle.om_value.specs.declared.value.Target.TheVariants as target
use Rattle.om_value.specs.Same.{place_eq}
use Rattle.om_prog.specs.Act as act
use Rattle.om_prog.specs.Act.{Act, Word}
use Rattle.om_prog.specs.View.{ProgramView}
use Rattle.om_prog.specs.Valid.{IsProgram}
use Rattle.om_graph.specs.declared.op.Op.{Op}
use Rattle.om_graph.specs.declared.op.OpKind.{OpKind}
use Rattle.om_graph.specs.declared.op.OpKind.TheVariants as op
use Rattle.om_graph.specs.declared.op.Last.{Last}
use Rattle.om_graph.specs.View.{Node, Block, Shape, GraphView, Has, ops_of, node_in, block_of, block_with, replace_in, delete_in, replaced, deleted, last_set, dropped}
use Rattle.om_graph.specs.Run.{high_target, use_of, op_act, op_word, last_words, block_words, shape_words}
use Rattle.om_graph.specs.Form.{Ordered, OpForm, LastForm, ends_block, is_address}
use Rattle.om_graph.specs.Kept.{IsInKeptSet, FallsOn, names, Links, KeptInBlocks}
use Rattle.om_graph.specs.Index.{BranchInReach, BranchesInReach}
use Rattle.om_graph.specs.Lifted.{lifted_shapes}
use Rattle.om_graph.specs.Uses.{IsLocalUse, IsBaseUse, IsByteUse, with_literal}
use Rattle.om_graph.specs.OfProgram.{IsFollowed, IsBlockOf, IsGraphOf}
use Rattle.om_graph.proofs.Labels.{append_left, append_right}
use Rattle.om_graph.proofs.OfProgram.{is_shape, shape_ordered, words_in_place, to_map}
use Rattle.om_graph.proofs.HeldEdits.{replaced_held, deleted_held, last_set_held, dropped_held}
use Rattle.om_passes.specs.AtPlaces.{NoHalf, NoUseLo, NoLit}
use Rattle.om_passes.specs.AtPlaces.{set_at, gone_at}
use Rattle.om_passes.specs.Blocks.{BlockEdit}
use Rattle.om_graph.specs.Weight.{total, use_weight, op_weight, last_weight, block_weight}
use Rattle.om_passes.specs.Step.{Onward}
use Rattle.om_passes.proofs.OneBlock as one
use Rattle.om_passes.proofs.OneBlock.{old_block}
use Rattle.om_passes.proofs.OpEdits.{replaced_block, deleted_block}
use Rattle.om_passes.proofs.LastEdits.{last_block}
use Rattle.om_passes.proofs.WordEdits.{WordSet, set_edit, LeavesNoLoad, gone_edit, dead_leaves}
use Rattle.om_passes.proofs.NewForms as new
use Rattle.om_passes.proofs.Graphs.{graph_stays}
use Rattle.om_passes.proofs.KeptEdits.{gone_leads, set_leads, dropped_stays}
use Rattle.om_passes.proofs.Weights.{set_weight, gone_weight, base_weight, byte_weight, one_lighter, fewer_lighter}
use Rattle.om_passes.proofs.Going.{goes_one}

-- a word of an address is no use of a half
pub no_use_lo : (os : List Op) (k : OpKind) → is_address (op_act os k) ≡ true → NoUseLo k
no_use_lo os (op.Plain i) h = tt
no_use_lo os (op.Lit ra rb t) h = tt
no_use_lo os (op.AddrLda ra rb t) h = tt
no_use_lo os (op.AddrHi ra rb t least) h = tt
no_use_lo os (op.UseLo i hi) h = by_target _ h
  where
    by_target : (t : Option Target) → is_address (use_of i hi t) ≡ true → ⊥
    by_target None h = true≢false (sym h)
    by_target (Some t) h = true≢false (sym h)
no_use_lo os (op.UseGp i gp t) h = tt
no_use_lo os (op.GpHi ra rb base) h = tt
no_use_lo os (op.GpLo ra rb hi) h = tt

literal_ends : (n : ℕ) (i : Instr) (r : ℕ) → IsByteUse r i → ends_block (with_literal n i) ≡ false
literal_ends n (Alu o ra (R rb) rc) r b = refl
literal_ends n (Alu o ra (Literal m) rc) r b = absurd b
literal_ends n (Mem o ra rb d) r b = absurd b
literal_ends n (Jump k ra rb h) r b = absurd b
literal_ends n (Branch o ra d) r b = absurd b
literal_ends n (Cmov k ra rb rc) r b = absurd b
literal_ends n (Misc o ra rb) r b = absurd b
literal_ends n Fnop r b = absurd b
literal_ends n Halt r b = absurd b
literal_ends n Callsys r b = absurd b

literal_links : (n : ℕ) (i : Instr) (r : ℕ) → IsByteUse r i → Links (act.Plain (with_literal n i)) → ⊥
literal_links n (Alu o ra (R rb) rc) r b l = l
literal_links n (Alu o ra (Literal m) rc) r b l = b
literal_links n (Mem o ra rb d) r b l = b
literal_links n (Jump k ra rb h) r b l = b
literal_links n (Branch o ra d) r b l = b
literal_links n (Cmov k ra rb rc) r b l = b
literal_links n (Misc o ra rb) r b l = b
literal_links n Fnop r b l = b
literal_links n Halt r b l = b
literal_links n Callsys r b l = b

module _ (p : ProgramView) (prog : IsProgram p) (g : GraphView) (of : IsGraphOf p g) (kept : KeptInBlocks g) (reach : BranchesInReach g) where
  pub in_order : (b : Block) → Has g.blocks b → Ordered (block_words b)
  in_order b h = (words_in_place p prog g of).ordered b h

  pub s_order : (s : Shape) → Has (lifted_shapes p) s → Ordered (shape_words s)
  s_order s h = shape_ordered p prog s (is_shape p s h)

  -- ---- an op

  module _ (id : ℕ) (b : Block) (x : Node) (with : block_with g id ≡ Some b) (node : node_in id b ≡ Some x) where
    pub there : Has g.blocks b
    there = old_block (one.deleted_one g of.graph id b with)

    abbrev pub word : Word
    word = op_word (ops_of b) x.op

    pub op_there : Has (ops_of b) x.op
    op_there =
        subst (λ (l : List Op). Has l x.op) (sym (one.ops_were g of.graph id b with x node))
        (append_right (one.pre g of.graph id b with x node) (x.op ∷ one.post g of.graph id b with x node) x.op (inl refl))

    pub word_there : Has (block_words b) word
    word_there = append_left (map (op_word (ops_of b)) (ops_of b)) (last_words b.last) word (to_map (op_word (ops_of b)) (ops_of b) x.op op_there)

    pub replaced_of :
        (kind : OpKind) → NoHalf (x.op).kind → NoHalf kind → OpForm kind → NoLit kind → ((q : Place) → names (op_act (ops_of b) kind) q → ⊥) → (Links (op_act (ops_of b) kind) → ⊥) →
        op_weight kind < op_weight (x.op).kind →
        ((s : Shape) → Has (lifted_shapes p) s → IsBlockOf p s b → WordSet p (shape_words s) (block_words b) word (op_act (ops_of b) kind)) → Onward p g (replaced g id kind)
    replaced_of kind no_old no_new form no_lit names_none links_none light set = record {
      goes_on =
          goes_one p prog g (replaced g id kind) b (replace_in id kind b) (one.replaced_one g of.graph id b with kind) refl refl refl refl (set_at (x.op).place (op_act (ops_of b) kind)) of (replaced_held g id kind of.graph) kept reach edit
          (set_leads g b (replace_in id kind b) word (op_act (ops_of b) kind) there (in_order b there) word_there refl (λ f. f) edit.words (λ q n. absurd (names_none q n)) (λ l. absurd (links_none l)))
          (reach.lasts b there);
      lighter = one_lighter g (replaced g id kind) b (replace_in id kind b) (one.replaced_one g of.graph id b with kind) refl refl lighter;
    }
      where
        edit : BlockEdit p b (replace_in id kind b) (set_at (x.op).place (op_act (ops_of b) kind))
        edit =
            replaced_block p b (replace_in id kind b) (one.pre g of.graph id b with x node) (one.post g of.graph id b with x node) x.op (one.ops_were g of.graph id b with x node) refl refl refl
            (in_order b there) (λ y h. of.form.ops b y there h) (of.form.lasts b there) kind (one.ops_replaced g of.graph id b with x node kind) no_old no_new form no_lit
            (λ s h o. set_edit p (shape_words s) (block_words b) word (op_act (ops_of b) kind) word_there (in_order b there) (set s h o))

        lighter : block_weight g.blocks (replace_in id kind b) < block_weight g.blocks b
        lighter =
            let w = set_weight (one.pre g of.graph id b with x node) (one.post g of.graph id b with x node) x.op (record { place = (x.op).place; kind = kind }) light in
            let n = ap (total (λ (o : Op). op_weight o.kind)) (one.ops_replaced g of.graph id b with x node kind) in
            let m = ap (total (λ (o : Op). op_weight o.kind)) (one.ops_were g of.graph id b with x node) in
            omega (arith, w, n, m)

    module _ (address : is_address word.act ≡ true) (followed : IsFollowed p (x.op).place) (leaves : LeavesNoLoad (block_words b) word)
        (unnamed : (high_target (x.op).kind ≡ None) ⊎ ((y : Op) (i : Instr) (hi : Place) → Has (ops_of b) y → y.kind ≡ op.UseLo i hi → place_eq (x.op).place hi ≡ false)) where
      pub deleted_edit : BlockEdit p b (delete_in id b) (gone_at (x.op).place)
      deleted_edit =
          deleted_block p b (delete_in id b) (one.pre g of.graph id b with x node) (one.post g of.graph id b with x node) x.op (one.ops_were g of.graph id b with x node) refl refl refl
          (in_order b there) (λ y h. of.form.ops b y there h) (of.form.lasts b there) (one.ops_deleted g of.graph id b with x node) (no_use_lo (ops_of b) (x.op).kind address) unnamed
          (λ s h o. gone_edit p (shape_words s) (block_words b) word word_there (in_order b there) address followed leaves)

      gone_lighter : block_weight g.blocks (delete_in id b) < block_weight g.blocks b
      gone_lighter =
          let w = gone_weight (one.pre g of.graph id b with x node) (one.post g of.graph id b with x node) x.op in
          let n = ap (total (λ (o : Op). op_weight o.kind)) (one.ops_deleted g of.graph id b with x node) in
          let m = ap (total (λ (o : Op). op_weight o.kind)) (one.ops_were g of.graph id b with x node) in
          omega (arith, w, n, m)

      pub deleted_of : Onward p g (deleted g id)
      deleted_of = record {
        goes_on =
            goes_one p prog g (deleted g id) b (delete_in id b) (one.deleted_one g of.graph id b with) refl refl refl refl (gone_at (x.op).place) of (deleted_held g id of.graph) kept reach deleted_edit
            (gone_leads g b (delete_in id b) (x.op).place there refl refl deleted_edit.words) (reach.lasts b there);
        lighter = one_lighter g (deleted g id) b (delete_in id b) (one.deleted_one g of.graph id b with) refl refl gone_lighter;
      }

    -- an address word whose result no word of its block reads
    pub dead_of :
        is_address word.act ≡ true → IsFollowed p (x.op).place → ((y : Word) (r : ℕ) → IsLocalUse (block_words b) word y r → ⊥) →
        ((high_target (x.op).kind ≡ None) ⊎ ((y : Op) (i : Instr) (hi : Place) → Has (ops_of b) y → y.kind ≡ op.UseLo i hi → place_eq (x.op).place hi ≡ false)) →
        Onward p g (deleted g id)
    dead_of address followed dead unnamed = deleted_of address followed (dead_leaves (block_words b) word dead) unnamed

    lit_act : {ra rb : ℕ} {t : Target} → (x.op).kind ≡ op.Lit ra rb t → word.act ≡ act.Lit ra rb t
    lit_act e = ap (op_act (ops_of b)) e

    no_half_lit : {ra rb : ℕ} {t : Target} → (x.op).kind ≡ op.Lit ra rb t → NoHalf (x.op).kind
    no_half_lit e = subst (λ (k : OpKind). NoHalf k) (sym e) tt

    no_half_plain : {i : Instr} → (x.op).kind ≡ op.Plain i → NoHalf (x.op).kind
    no_half_plain e = subst (λ (k : OpKind). NoHalf k) (sym e) tt

    lit_weight : {ra rb : ℕ} {t : Target} → (x.op).kind ≡ op.Lit ra rb t → 1 < op_weight (x.op).kind
    lit_weight e = let k = ap op_weight e in omega (arith, k)

    plain_weight : {i : Instr} → (x.op).kind ≡ op.Plain i → (n : ℕ) → n < 1 + use_weight i → n < op_weight (x.op).kind
    plain_weight e n l = let k = ap op_weight e in omega (arith, k, l)

    plain_form : {i : Instr} → (x.op).kind ≡ op.Plain i → ends_block i ≡ false
    plain_form {i} e = let f : OpForm (op.Plain i) = subst (λ (k : OpKind). OpForm k) e (of.form.ops b x.op there op_there) in f

    pub near_of :
        (ra rb n : ℕ) (region : Region) → (x.op).kind ≡ op.Lit ra rb (target.Ptr region n) →
        ((y : Word) (r : ℕ) (i : Instr) → IsLocalUse (block_words b) word y r → y.act ≡ act.Plain i → IsByteUse r i → ⊥) → Onward p g (replaced g id (op.AddrLda ra rb (target.Ptr region n)))
    near_of ra rb n region e none =
        replaced_of (op.AddrLda ra rb (target.Ptr region n)) (no_half_lit e) tt tt tt (λ q n. n) (λ l. l) (lit_weight e)
        (λ s h o. new.near_set p prog s b h o (s_order s h) (in_order b there) word ra rb n region (lit_act e) none)

    pub number_of : (ra rb n : ℕ) → (x.op).kind ≡ op.Lit ra rb (target.Num n) → Onward p g (replaced g id (op.AddrLda ra 31 (target.Num n)))
    number_of ra rb n e =
        replaced_of (op.AddrLda ra 31 (target.Num n)) (no_half_lit e) tt tt tt (λ q n. n) (λ l. l) (lit_weight e)
        (λ s h o. new.number_set p prog s b h o (s_order s h) (in_order b there) word ra rb n (lit_act e))

    -- a use of a load, over what the load was taken over
    pub gp_of :
        (load : Word) (i : Instr) (r rb n : ℕ) (region : Region) (z : ℤ) → (x.op).kind ≡ op.Plain i → IsLocalUse (block_words b) load word r →
        (load.act ≡ act.Lit r rb (target.Ptr region n)) ⊎ (load.act ≡ act.AddrLda r rb (target.Ptr region n)) → IsBaseUse r i z →
        Onward p g (replaced g id (op.UseGp i rb (target.Ptr region n)))
    gp_of load i r rb n region z e l t u =
        replaced_of (op.UseGp i rb (target.Ptr region n)) (no_half_plain e) tt (plain_form e) tt (λ q n. n) (λ l. l) (plain_weight e 1 (let k = base_weight r i z u in omega (arith, k)))
        (λ s h o. new.gp_set p prog s b h o (s_order s h) (in_order b there) word load i r rb n region z (ap (op_act (ops_of b)) e) l t u)

    pub byte_of :
        (load : Word) (i : Instr) (r rb n : ℕ) (region : Region) → (x.op).kind ≡ op.Plain i → IsLocalUse (block_words b) load word r →
        (load.act ≡ act.Lit r rb (target.Ptr region n)) ⊎ (load.act ≡ act.AddrLda r rb (target.Ptr region n)) → IsByteUse r i →
        Onward p g (replaced g id (op.Plain (with_literal (n % 8) i)))
    byte_of load i r rb n region e l t u =
        replaced_of (op.Plain (with_literal (n % 8) i)) (no_half_plain e) tt (literal_ends (n % 8) i r u) tt (λ q n. n) (literal_links (n % 8) i r u)
        (plain_weight e (1 + use_weight (with_literal (n % 8) i)) (let k = byte_weight r (n % 8) i u in let k0 = k.0 in let k1 = k.1 in omega (arith, k0, k1)))
        (λ s h o. new.byte_set p prog s b h o (s_order s h) (in_order b there) word load i r rb n region (ap (op_act (ops_of b)) e) l t u)

  -- ---- the last word of a block

  module _ (id : ℕ) (b : Block) (block : block_of g id ≡ Some b) where
    pub here : Has g.blocks b
    here = old_block (one.last_one g of.graph id b block b.last)

    pub last_set_of :
        (w : Word) (a : Act) (l : Last) → last_words b.last ≡ w ∷ [] → last_words l ≡ record { at = w.at; act = a } ∷ [] → LastForm l →
        (FallsOn l → FallsOn b.last) → ((q : Place) → names a q → IsInKeptSet g b.label → IsInKeptSet g q) → (Links a → Links w.act) → BranchInReach g.counts l →
        last_weight g.blocks l < last_weight g.blocks b.last →
        ((s : Shape) → Has (lifted_shapes p) s → IsBlockOf p s b → WordSet p (shape_words s) (block_words b) w a) → Onward p g (last_set g id l)
    last_set_of w a l was is form falls name link reaches light set = record {
      goes_on =
          goes_one p prog g (last_set g id l) b (record b { last = l }) (one.last_one g of.graph id b block l) refl refl refl refl (set_at w.at a) of (last_set_held g id l of.graph) kept reach edit
          (set_leads g b (record b { last = l }) w a here (in_order b here) last_there refl falls edit.words name link) reaches;
      lighter = one_lighter g (last_set g id l) b (record b { last = l }) (one.last_one g of.graph id b block l) refl refl (omega (arith, light));
    }
      where
        last_there : Has (block_words b) w
        last_there = append_right (map (op_word (ops_of b)) (ops_of b)) (last_words b.last) w (subst (λ (l : List Word). Has l w) (sym was) (inl refl))

        edit : BlockEdit p b (record b { last = l }) (set_at w.at a)
        edit =
            last_block p b (record b { last = l }) w a refl refl refl was is (in_order b here) (λ y h. of.form.ops b y here h) form
            (λ s h o. set_edit p (shape_words s) (block_words b) w a last_there (in_order b here) (set s h o))

    -- a block outside the kept set gone
    pub dropped_of : (IsInKeptSet g b.label → ⊥) → Onward p g (dropped g id)
    dropped_of out =
        let parts = one.block_parts g of.graph id b block in
        record {
          goes_on = record {
            graph =
                graph_stays p prog g (dropped g id) of (dropped_held g id of.graph)
                (record { counts = refl; roots = refl; tables = refl; labels = refl; each = λ n h. inl (one.dropped_blocks g of.graph id b block n h) });
            kept = dropped_stays g of.graph id b block out kept;
            reach = record { lasts = λ n h. reach.lasts n (one.dropped_blocks g of.graph id b block n h) };
            frame = record { counts = refl; roots = refl; tables = refl };
            targets = λ k t l.
                record { block = l.block; load = l.load; ra = l.ra; rb = l.rb; among = one.dropped_blocks g of.graph id b block l.block l.among; inside = l.inside; loads = l.loads; table_is = l.table_is };
          };
          lighter = fewer_lighter g (dropped g id) b parts.before parts.after parts.same (one.left_parts g of.graph id b block);
        }
