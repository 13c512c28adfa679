-- Where an image has one table, every pair of the objects is closed, and no other word of them writes r29, no half is kept.
use Rattle.std.proofs.Common.{◌≡◌, ◌⊎◌, inl, inr, ◌<◌, ◌≤◌, ◌+◌, ℕ, zero, suc, max, Bool, true, false, cond, List, [], ◌∷◌, ◌++◌, length, Some, refl, sym, ap, ◌∙◌, subst, arith}
use Rattle.std.specs.Prelude.{slice_index_or}
use Rattle.std.proofs.lemmas.Bool.{true≢false}
use Rattle.om_value.specs.declared.value.Place.{Place}
use Rattle.om_prog.specs.Act as act
use Rattle.om_prog.specs.Act.{Act, Word, Script, act_writes}
use Rattle.om_prog.specs.Flow.{Among}
use Rattle.om_prog.specs.Facts.{Fact, Any, Table, Unknown, changed_by, set_fact, unreached, unreached_write, fact_behind, IsFact, has}
use Rattle.om_prog.specs.View.{ProgramView}
use Rattle.om_prog.specs.Script.{program_fetch}
use Rattle.om_prog.specs.Valid.{IsProgram}
use Rattle.om_graph.specs.View.{Block, Shape, GraphView, Has}
use Rattle.om_graph.specs.Run.{block_words, shape_words, rev_onto, table_of, graph_script}
use Rattle.om_graph.specs.Form.{Ordered}
use Rattle.om_graph.specs.LeftIn.{is_kept}
use Rattle.om_graph.specs.Lifted.{lifted_shapes}
use Rattle.om_graph.specs.OfProgram.{IsBlockOf, IsGraphOf}
use Rattle.om_graph.specs.Checks.{ReachesBlock, at_entry, enters_next, onward}
use Rattle.om_graph.specs.Uses.{NoneWrites}
use Rattle.om_graph.proofs.Labels.{has_append, has_label, append_right}
use Rattle.om_graph.proofs.Masks.{among_true, has_among}
use Rattle.om_graph.proofs.Comes.{ordered_split}
use Rattle.om_graph.proofs.OfProgram.{shape_at, words_in_place, map_length}
use Rattle.om_image.specs.declared.image.Image.{Image}
use Rattle.om_layout.specs.Layout.{LayoutView}
use Rattle.om_layout.specs.Order.{IsDataLayout, table_count}
use Rattle.om_encode.specs.Data.{DataIsTrue, map_table}
use Rattle.om_encode.specs.Text.{TextIsTrue}
use Rattle.om_encode.specs.Fields.{FieldsAreTrue}
use Rattle.om_graph.specs.Left.{AreExactFacts, NoDrop, high_word}
use Rattle.om_graph.specs.Stands.{IsClosedIn, BasesStand, PairsWhole}
use Rattle.om_thorough.specs.Thorough.{is_half, AllClosed, OnlyPairsWrite, SettingsGone, kept_in_map}
use Rattle.om_passes.proofs.Origins.{KeptAs, kept_at, has_kept, source_fetch, same_shape, same_word, shape_of_block}
use Rattle.om_thorough.proofs.Images.{kept_from}
use Rattle.om_passes.proofs.Betweens.{first_in, last_in, after_has, ends_apart, in_mid}
use Rattle.om_passes.proofs.Locals.{source_ordered, block_ordered, block_object}
use Rattle.om_passes.proofs.Sources.{SourceIn, source_in, source_object, form_writes, same_fields, split_at}
use Rattle.om_passes.proofs.Whole.{entered_has}
use Rattle.om_thorough.proofs.Told.{IsTold, written_fact, unwritten_fact, told_stays}
use Rattle.om_thorough.proofs.Pairs.{PairOf, pair_of}
use Rattle.om_passes.proofs.Closed.{one_block, high_form, low_form, low_word, ClosedKept, closed_kept}

-- ---- the last word that writes r29

-- of words, the last one first: none writes r29, or w is the last one to write it
pub data LastWrite (c : Script) (bf : List Word) : Type 0 where
  unset : ((f : Fact) → changed_by c f bf ≡ f) → unreached bf ≡ Any → LastWrite c bf
  set_by :
      (xs : List Word) (w : Word) (ys : List Word) → bf ≡ xs ++ w ∷ ys → NoneWrites 29 xs → Among (act_writes w.act) 29 →
      ((f : Fact) → IsTold f → changed_by c f bf ≡ set_fact c w w.act) → unreached bf ≡ unreached_write w.act → LastWrite c bf

last_write : (c : Script) (bf : List Word) → LastWrite c bf
last_write c [] = unset (λ f. refl) refl
last_write c (w ∷ bf) = by_case (has (act_writes w.act) 29) refl (last_write c bf)
  where
    whole : (b : Bool) → has (act_writes w.act) 29 ≡ b → unreached (w ∷ bf) ≡ cond b (unreached_write w.act) (unreached bf)
    whole b e = ap (λ (b : Bool). cond b (unreached_write w.act) (unreached bf)) e

    none_more : (xs : List Word) → has (act_writes w.act) 29 ≡ false → NoneWrites 29 xs → NoneWrites 29 (w ∷ xs)
    none_more xs e n v (inl s) a = true≢false (sym (among_true (act_writes w.act) 29 (subst (λ (x : Word). Among (act_writes x.act) 29) (sym s) a)) ∙ e)
    none_more xs e n v (inr h) a = n v h a

    by_case : (b : Bool) → has (act_writes w.act) 29 ≡ b → LastWrite c bf → LastWrite c (w ∷ bf)
    by_case true e i =
        set_by [] w bf refl (λ v h a. h) (has_among (act_writes w.act) 29 e) (λ f o. written_fact c w (changed_by c f bf) (told_stays c bf f o) e) (whole true e)
    by_case false e (unset k u) = unset (λ f. unwritten_fact c w (changed_by c f bf) e ∙ k f) (whole false e ∙ u)
    by_case false e (set_by xs v ys s n a k u) =
        set_by (w ∷ xs) v ys (ap (λ (l : List Word). w ∷ l) s) (none_more xs e n) a (λ f o. unwritten_fact c w (changed_by c f bf) e ∙ k f o) (whole false e ∙ u)

-- what words leave is table 0 where it was, and where no walk comes each table
record IsGood (c : Script) (bf : List Word) : Type 0 where
  table : changed_by c (Table 0) bf ≡ Table 0
  free : unreached bf ≡ Any

-- ---- lists, the last one first

rev_has : (bf ws : List Word) (w : Word) → Has (rev_onto bf ws) w → Has bf w ⊎ Has ws w
rev_has [] ws w h = inr h
rev_has (x ∷ bf) ws w h = by_case (rev_has bf (x ∷ ws) w h)
  where
    by_case : Has bf w ⊎ Has (x ∷ ws) w → Has (x ∷ bf) w ⊎ Has ws w
    by_case (inl k) = inl (inr k)
    by_case (inr (inl e)) = inl (inl e)
    by_case (inr (inr k)) = inr k

has_rev : (bf ws : List Word) (w : Word) → Has bf w ⊎ Has ws w → Has (rev_onto bf ws) w
has_rev [] ws w (inl h) = absurd h
has_rev [] ws w (inr h) = h
has_rev (x ∷ bf) ws w (inl (inl e)) = has_rev bf (x ∷ ws) w (inr (inl e))
has_rev (x ∷ bf) ws w (inl (inr h)) = has_rev bf (x ∷ ws) w (inl h)
has_rev (x ∷ bf) ws w (inr h) = has_rev bf (x ∷ ws) w (inr (inr h))

rev_before : (ys zs : List Word) (v w : Word) → Ordered (rev_onto ys zs) → Has ys v → Has zs w → w.at.obj ≡ v.at.obj → v.at.off + 4 ≤ w.at.off
rev_before [] zs v w o h k e = absurd h
rev_before (y ∷ ys) zs v w o (inl s) k e =
    let a = after_has y w zs (ordered_split ys (y ∷ zs) o).0 k (e ∙ sym (ap (λ (x : Word). x.at.obj) s)) in
    let f = ap (λ (x : Word). x.at.off) s in
    omega (arith, a, f)
rev_before (y ∷ ys) zs v w o (inr h) k e = rev_before ys (y ∷ zs) v w o h (inr k) e

rev_append : (xs zs ws : List Word) → rev_onto (xs ++ zs) ws ≡ rev_onto zs (rev_onto xs ws)
rev_append [] zs ws = refl
rev_append (x ∷ xs) zs ws = rev_append xs zs (x ∷ ws)

rev_all : (acc ws : List Word) → (bf : List Word) × (rev_onto bf [] ≡ rev_onto acc ws)
rev_all acc [] = (acc, refl)
rev_all acc (x ∷ ws) = rev_all (x ∷ acc) ws

onward_rev : (c : Script) (f : Fact) (bf ws : List Word) → onward c f (rev_onto bf ws) ≡ onward c (changed_by c f bf) ws
onward_rev c f [] ws = refl
onward_rev c f (w ∷ bf) ws = onward_rev c f bf (w ∷ ws)

-- ---- one table

max_left : (m n : ℕ) → m ≤ max m n
max_left m n = grind arith

max_right : (m n : ℕ) → n ≤ max m n
max_right m n = grind arith

below_count : (ts : List ℕ) (o d : ℕ) → o < length ts → slice_index_or ts o d < table_count ts
below_count [] o d h = absurd (omega arith)
below_count (t ∷ ts) zero d h = let m = max_left (suc t) (table_count ts) in omega (arith, m)
below_count (t ∷ ts) (suc o) d h =
    let m = max_right (suc t) (table_count ts) in
    let i = below_count ts o d (omega (arith, h)) in
    omega (arith, m, i)

half_is : (a : Act) → is_half a ≡ true → ((ra rb : ℕ) × (base : Place) × (a ≡ act.GpHi ra rb base)) ⊎ ((ra rb : ℕ) × (hi : Place) × (a ≡ act.GpLo ra rb hi))
half_is (act.GpHi ra rb base) h = inl (ra, rb, base, refl)
half_is (act.GpLo ra rb hi) h = inr (ra, rb, hi, refl)
half_is (act.Plain i) h = cc
half_is (act.Lit ra rb t) h = cc
half_is (act.To o ra q) h = cc
half_is (act.AddrLda ra rb t) h = cc
half_is (act.AddrHi ra rb t) h = cc
half_is (act.UseLo i hi t) h = cc
half_is (act.UseGp i gp t) h = cc
half_is act.Wrong h = cc

module _ (p : ProgramView) (prog : IsProgram p) (g : GraphView) (of : IsGraphOf p g) (bases : BasesStand p g) (pairs : PairsWhole p g)
    (all : AllClosed p) (only : OnlyPairsWrite p) (single : table_count g.tables ≡ 1) where
  zero_table : (o : ℕ) → o < length g.tables → table_of g o ≡ 0
  zero_table o h = let b = below_count g.tables o o h in omega (arith, b, single)

  label_below : (b : Block) → Has g.blocks b → b.label.obj < length g.tables
  label_below b hb =
      let a = ((words_in_place p prog g of).labels b.label (of.graph.among b.label (has_label g.blocks b hb))).0 in
      let n = of.graph.tables in
      omega (arith, a, n)

  word_below : (b : Block) (w : Word) → Has g.blocks b → Has (block_words b) w → w.at.obj < length g.tables
  word_below b w hb hw =
      let o = ((words_in_place p prog g of).words b w hb hw).object in
      let a = label_below b hb in
      omega (arith, o, a)

  -- the closed pair of a half of a block of the program
  pub record ClosedHalf (s : Shape) (w : Word) : Type 0 where
    pub hi : Place
    pub lo : Place
    pub closed : IsClosedIn p s hi lo
    pub one : (w.at ≡ hi) ⊎ (w.at ≡ lo)

  closed_half : (s : Shape) (w : Word) → Has (lifted_shapes p) s → Has (shape_words s) w → is_half w.act ≡ true → ClosedHalf s w
  closed_half s w hs hw h = by_pair (pair_of p prog w.at w (source_fetch p prog g of s w hs hw) h)
    where
      by_pair : PairOf p prog w.at → ClosedHalf s w
      by_pair r = record { hi = r.hi; lo = r.lo; closed = subst (λ (x : Shape). IsClosedIn p x r.hi r.lo) (same r.one) c.2; one = r.one }
        where
          c : (t : Shape) × Has (lifted_shapes p) t × IsClosedIn p t r.hi r.lo
          c = all r.hi r.lo r.halves

          same : (w.at ≡ r.hi) ⊎ (w.at ≡ r.lo) → c.0 ≡ s
          same (inl e) =
              same_shape p prog g of c.0 s (high_word r.hi c.2.rb c.2.base) w c.1 hs
              (first_in (shape_words c.0) (high_word r.hi c.2.rb c.2.base) c.2.mid (low_word r.hi r.lo) c.2.stands) hw e
          same (inr e) =
              same_shape p prog g of c.0 s (low_word r.hi r.lo) w c.1 hs
              (last_in (shape_words c.0) (high_word r.hi c.2.rb c.2.base) c.2.mid (low_word r.hi r.lo) c.2.stands) hw e

  -- a closed pair of which the high half stands before, and the low half behind
  record Straddles (s : Shape) (bf rest : List Word) : Type 0 where
    hi : Place
    lo : Place
    closed : IsClosedIn p s hi lo
    high : Word
    before : Has bf high
    place : high.at ≡ hi
    behind : Has rest (low_word hi lo)

  module _ (b : Block) (hb : Has g.blocks b) (s : Shape) (hs : Has (lifted_shapes p) s) (k : IsBlockOf p s b) (bf rest : List Word) (split : rev_onto bf rest ≡ block_words b) where
    in_block : (w : Word) → Has bf w ⊎ Has rest w → Has (block_words b) w
    in_block w h = subst (λ (l : List Word). Has l w) split (has_rev bf rest w h)

    -- a high half that wrote r29 last: its low half stands behind
    high_last :
        (xs : List Word) (w : Word) (ys : List Word) → bf ≡ xs ++ w ∷ ys → NoneWrites 29 xs → Has bf w → (ra rb : ℕ) (base : Place) → w.act ≡ act.GpHi ra rb base →
        (q : SourceIn p prog g of s w) → ClosedHalf s q.word → Straddles s bf rest
    high_last xs w ys e none hw ra rb base a q c = by_half c.one
      where
        low : Word
        low = low_word c.hi c.lo

        low_source : Has (shape_words s) (low_word c.hi c.lo)
        low_source = last_in (shape_words s) (high_word c.hi c.closed.rb c.closed.base) c.closed.mid (low_word c.hi c.lo) c.closed.stands

        -- w is the high half
        by_half : (q.word.at ≡ c.hi) ⊎ (q.word.at ≡ c.lo) → Straddles s bf rest
        by_half (inr l) =
            let m = same_word p prog g of s s (low_word c.hi c.lo) q.word hs hs low_source q.has l in
            let f = low_form p (shape_words s) q.word w.act 29 29 c.hi q.form (ap (λ (x : Word). x.act) m) in
            cc
        by_half (inl h) = by_low (rev_has bf rest (low_word c.hi c.lo) (subst (λ (l : List Word). Has l (low_word c.hi c.lo)) (sym split) low_there))
          where
            high_place : w.at ≡ c.hi
            high_place = q.place ∙ h

            high_kept : is_kept g c.hi ≡ true
            high_kept = subst (λ (x : Place). is_kept g x ≡ true) high_place (has_kept p prog g of b w hb (in_block w (inl hw)))

            d : KeptAs p g s (low_word c.hi c.lo)
            d = kept_at p prog g of s (low_word c.hi c.lo) hs low_source (pairs.high s c.hi c.lo hs c.closed high_kept)

            low_there : Has (block_words b) (low_word c.hi c.lo)
            low_there =
                subst (λ (w : Word). Has (block_words b) w)
                (same_fields d.word c.lo (act.GpLo 29 29 c.hi) d.place (low_form p (shape_words s) (low_word c.hi c.lo) d.word.act 29 29 c.hi d.form refl))
                (subst (λ (x : Block). Has (block_words x) d.word) (one_block g.blocks d.block b of.graph.blocks d.among hb (d.of.label ∙ sym k.label)) d.has)

            order : c.hi.off + 4 ≤ c.lo.off
            order =
                ends_apart (shape_words s) (high_word c.hi c.closed.rb c.closed.base) c.closed.mid (low_word c.hi c.lo) c.closed.stands (source_ordered p prog g of s hs)
                (source_object p prog g of s hs)

            before_high : Has ys (low_word c.hi c.lo) → ⊥
            before_high m =
                let whole = subst (λ (l : List Word). Ordered l) (sym split ∙ ap (λ (l : List Word). rev_onto l rest) e ∙ rev_append xs (w ∷ ys) rest) (block_ordered p prog g of b hb) in
                let o = block_object p prog g of b hb w (low_word c.hi c.lo) (in_block w (inl hw)) low_there in
                let f = rev_before ys (w ∷ rev_onto xs rest) (low_word c.hi c.lo) w whole m (inl refl) o in
                let r = order in
                let z = ap (λ (x : Place). x.off) high_place in
                omega (arith, f, r, z)

            not_before_it : Has (xs ++ w ∷ ys) (low_word c.hi c.lo) → ⊥
            not_before_it m = by_piece (has_append xs (w ∷ ys) (low_word c.hi c.lo) m)
              where
                by_piece : Has xs (low_word c.hi c.lo) ⊎ Has (w ∷ ys) (low_word c.hi c.lo) → ⊥
                by_piece (inl x) = none (low_word c.hi c.lo) x (inl refl)
                by_piece (inr (inl x)) = let y = ap (λ (v : Word). v.act) x in cc
                by_piece (inr (inr x)) = before_high x

            by_low : Has bf (low_word c.hi c.lo) ⊎ Has rest (low_word c.hi c.lo) → Straddles s bf rest
            by_low (inl m) = absurd (not_before_it (subst (λ (l : List Word). Has l (low_word c.hi c.lo)) e m))
            by_low (inr m) = record { hi = c.hi; lo = c.lo; closed = c.closed; high = w; before = hw; place = high_place; behind = m }

    good_or : IsGood (graph_script p g) bf ⊎ Straddles s bf rest
    good_or = by_write (last_write (graph_script p g) bf)
      where
        by_write : LastWrite (graph_script p g) bf → IsGood (graph_script p g) bf ⊎ Straddles s bf rest
        by_write (unset f u) = inl (record { table = f (Table 0); free = u })
        by_write (set_by xs w ys e none a f u) = by_half (half_is q.word.act half)
          where
            hw : Has bf w
            hw = subst (λ (l : List Word). Has l w) (sym e) (append_right xs (w ∷ ys) w (inl refl))

            q : SourceIn p prog g of s w
            q = source_in p prog g of s b w hs k hb (in_block w (inl hw))

            half : is_half q.word.act ≡ true
            half = only q.word.at q.word (source_fetch p prog g of s q.word hs q.has) (subst (λ (l : List ℕ). Among l 29) (form_writes p (shape_words s) q.word w.act q.form) a)

            low_good : (ra rb : ℕ) (hi : Place) → w.act ≡ act.GpLo ra rb hi → IsGood (graph_script p g) bf
            low_good ra rb hi l = record {
              table =
                  f (Table 0) tt ∙ ap (λ (x : Act). set_fact (graph_script p g) w x) l
                  ∙ ap (λ (n : ℕ). Table n) (zero_table w.at.obj (word_below b w hb (in_block w (inl hw))));
              free = u ∙ ap unreached_write l;
            }

            by_half :
                ((ra rb : ℕ) × (base : Place) × (q.word.act ≡ act.GpHi ra rb base)) ⊎ ((ra rb : ℕ) × (hi : Place) × (q.word.act ≡ act.GpLo ra rb hi)) →
                IsGood (graph_script p g) bf ⊎ Straddles s bf rest
            by_half (inl (ra, rb, base, l)) =
                inr (high_last xs w ys e none hw ra rb base (high_form p (shape_words s) q.word w.act ra rb base q.form l) q (closed_half s q.word hs q.has half))
            by_half (inr (ra, rb, hi, l)) = inl (low_good ra rb hi (low_form p (shape_words s) q.word w.act ra rb hi q.form l))

  -- ---- facts

  reached_has : (b : Block) (f : Fact) → ReachesBlock (graph_script p g) g b f → Has g.blocks b
  reached_has b f (at_entry c h e) = h
  reached_has b f (enters_next c n h r e) = entered_has g c n e

  -- a block leaves table 0
  block_good : (b : Block) → Has g.blocks b → onward (graph_script p g) (Table 0) (block_words b) ≡ Table 0
  block_good b hb = by_case (good_or b hb (shape_at p prog g of b hb) (shape_of_block p prog g of b hb) (of.blocks b hb).2 r.0 [] r.1)
    where
      r : (bf : List Word) × (rev_onto bf [] ≡ block_words b)
      r = rev_all [] (block_words b)

      by_case : IsGood (graph_script p g) r.0 ⊎ Straddles (shape_at p prog g of b hb) r.0 [] → onward (graph_script p g) (Table 0) (block_words b) ≡ Table 0
      by_case (inl x) = ap (λ (l : List Word). onward (graph_script p g) (Table 0) l) (sym r.1) ∙ onward_rev (graph_script p g) (Table 0) r.0 [] ∙ x.table
      by_case (inr x) = absurd x.behind

  reached_zero : (b : Block) (f : Fact) → ReachesBlock (graph_script p g) g b f → f ≡ Table 0
  reached_zero b f (at_entry c h e) = ap (λ (n : ℕ). Table n) (ap (λ (q : Place). table_of g q.obj) (sym e) ∙ zero_table c.label.obj (label_below c h))
  reached_zero b f (enters_next c n h r e) =
      ap (λ (x : Fact). onward (graph_script p g) x (block_words c)) (reached_zero c h r) ∙ block_good c (reached_has c h r)

  module _ (facts : Place → Fact) (exact : AreExactFacts (graph_script p g) facts g) (left : NoDrop (graph_script p g) facts g) where
    -- behind words behind which no pair is open table 0 is a fact
    fact_zero : (b : Block) → Has g.blocks b → (bf : List Word) → IsGood (graph_script p g) bf → IsFact (fact_behind (graph_script p g) (facts b.label) bf) 0
    fact_zero b hb bf x = by_fact (facts b.label) refl
      where
        known : (f : Fact) (h : Fact) → f ≡ h → IsFact h 0 → IsFact f 0
        known f h e i = subst (λ (y : Fact). IsFact y 0) (sym e) i

        same_table : (u : ℕ) → Table u ≡ Table 0 → u ≡ 0
        same_table u e = cc

        never :
            ReachesBlock (graph_script p g) g b Unknown
            ⊎ ((t : ℕ) × (u : ℕ) × ReachesBlock (graph_script p g) g b (Table t) × ReachesBlock (graph_script p g) g b (Table u) × (t ≡ u → ⊥)) → ⊥
        never (inl r) = let e = reached_zero b Unknown r in cc
        never (inr (t, u, r, v, n)) = n (same_table t (reached_zero b (Table t) r) ∙ sym (same_table u (reached_zero b (Table u) v)))

        by_fact : (f : Fact) → facts b.label ≡ f → IsFact (fact_behind (graph_script p g) f bf) 0
        by_fact Any e = known (unreached bf) Any x.free tt
        by_fact (Table u) e =
            let z = reached_zero b (Table u) (exact.table b u hb e) in
            known (changed_by (graph_script p g) (Table u) bf) (Table 0) (ap (λ (y : Fact). changed_by (graph_script p g) y bf) z ∙ x.table) refl
        by_fact Unknown e = absurd (never (exact.unknown b hb e))

    -- a closed pair of which both halves are kept could be dropped
    no_pair : (s : Shape) (hs : Has (lifted_shapes p) s) (hi lo : Place) → IsClosedIn p s hi lo → is_kept g hi ≡ true → is_kept g lo ≡ true → ⊥
    no_pair s hs hi lo c kh kl = by_case (good_or r.block r.among s hs r.of k.0 (high ∷ k.1) k.2)
      where
        r : ClosedKept p g s hi lo
        r = closed_kept p prog g of bases s hs hi lo c kh kl

        high : Word
        high = high_word hi r.pair.rb r.pair.base

        k : (bf rest : List Word) × (rev_onto bf (high ∷ rest) ≡ block_words r.block)
        k = split_at [] (block_words r.block) high (first_in (block_words r.block) high r.pair.mid (low_word hi lo) r.pair.stands)

        high_there : Has (block_words r.block) high
        high_there = first_in (block_words r.block) high r.pair.mid (low_word hi lo) r.pair.stands

        in_order : Ordered (high ∷ k.1)
        in_order = ordered_split k.0 (high ∷ k.1) (subst (λ (l : List Word). Ordered l) (sym k.2) (block_ordered p prog g of r.block r.among))

        -- the other pair would have this one's high half between its halves
        open_pair : Straddles s k.0 (high ∷ k.1) → ⊥
        open_pair x = by_place x.behind
          where
            there : (v : Word) → Has k.0 v ⊎ Has (high ∷ k.1) v → Has (block_words r.block) v
            there v h = subst (λ (l : List Word). Has l v) k.2 (has_rev k.0 (high ∷ k.1) v h)

            before : x.high.at.off + 4 ≤ hi.off
            before =
                rev_before k.0 (high ∷ k.1) x.high high (subst (λ (l : List Word). Ordered l) (sym k.2) (block_ordered p prog g of r.block r.among)) x.before (inl refl)
                (block_object p prog g of r.block r.among high x.high high_there (there x.high (inl x.before)))

            source : SourceIn p prog g of s high
            source = source_in p prog g of s r.block high hs r.of r.among high_there

            writes : Among (act_writes source.word.act) 29
            writes = subst (λ (l : List ℕ). Among l 29) (form_writes p (shape_words s) source.word high.act source.form) (inl refl)

            by_place : Has (high ∷ k.1) (low_word x.hi x.lo) → ⊥
            by_place (inl e) = let a = ap (λ (v : Word). v.act) e in cc
            by_place (inr m) =
                let low = low_word x.hi x.lo in
                let a = after_has high low k.1 in_order.0 m (block_object p prog g of r.block r.among low high (there low (inr (inr m))) high_there) in
                let o = before in
                let f = ap (λ (q : Place). q.off) x.place in
                let z = ap (λ (q : Place). q.off) source.place in
                x.closed.unwritten source.word
                (in_mid (shape_words s) (high_word x.hi x.closed.rb x.closed.base) x.closed.mid low x.closed.stands (source_ordered p prog g of s hs)
                (source_object p prog g of s hs) source.word source.has (omega (arith, o, f, z)) (omega (arith, a, z)))
                writes

        by_case : IsGood (graph_script p g) k.0 ⊎ Straddles s k.0 (high ∷ k.1) → ⊥
        by_case (inr x) = open_pair x
        by_case (inl x) =
            let t = zero_table hi.obj (word_below r.block high r.among high_there) in
            left.pairs r.block k.0 k.1 hi lo r.pair (record { among = r.among; split = k.2 })
            (subst (λ (n : ℕ). IsFact (fact_behind (graph_script p g) (facts r.block.label) k.0) n) (sym t) (fact_zero r.block r.among k.0 x))

    -- a half of a pair is not kept
    pub no_half : (b : Block) (w : Word) → Has g.blocks b → Has (block_words b) w → (s : Shape) → Has (lifted_shapes p) s → (v : Word) → Has (shape_words s) v → w.at ≡ v.at → is_half v.act ≡ true → ⊥
    no_half b w hb hw s hs v hv e h = by_half c.one
      where
        c : ClosedHalf s v
        c = closed_half s v hs hv h

        here : is_kept g v.at ≡ true
        here = subst (λ (q : Place). is_kept g q ≡ true) e (has_kept p prog g of b w hb hw)

        by_half : (v.at ≡ c.hi) ⊎ (v.at ≡ c.lo) → ⊥
        by_half (inl q) =
            let k = subst (λ (x : Place). is_kept g x ≡ true) q here in
            no_pair s hs c.hi c.lo c.closed k (pairs.high s c.hi c.lo hs c.closed k)
        by_half (inr q) =
            let k = subst (λ (x : Place). is_kept g x ≡ true) q here in
            no_pair s hs c.hi c.lo c.closed (pairs.low s c.hi c.lo hs c.closed k) k

pub settings_gone :
    (p : ProgramView) (prog : IsProgram p) (g : GraphView) (of : IsGraphOf p g) (l : LayoutView) (i : Image) (text : TextIsTrue p g l i) (fields : FieldsAreTrue p g l i) →
    DataIsTrue p g l i → IsDataLayout p g l → BasesStand p g → PairsWhole p g → (facts : Place → Fact) → AreExactFacts (graph_script p g) facts g →
    NoDrop (graph_script p g) facts g → SettingsGone p i
settings_gone p prog g of l i text fields d lay bases pairs facts exact left = record { gone = gone }
  where
    gone :
        length i.map.tables ≡ 1 → AllClosed p → OnlyPairsWrite p → (q : Place) (w : Word) → program_fetch p q ≡ Some w → is_half w.act ≡ true →
        kept_in_map p i q ≡ true → ⊥
    gone one closed only q w e h k =
        let n : table_count g.tables ≡ 1 = sym lay.number ∙ sym (map_length map_table l.tables) ∙ sym (ap (λ ts. length ts) d.tables) ∙ one in
        let r = kept_from p prog g of l i text fields q w e k in
        no_half p prog g of bases pairs closed only n facts exact left r.block r.word r.among r.has r.source.shape r.source.among r.source.word r.source.has r.source.place
        (ap (λ (x : Word). is_half x.act) r.same ∙ h)
