-- What a check of facts or masks passes holds on every walk.
use Rattle.std.proofs.Common.{◌≡◌, ◌⊎◌, inl, inr, ◌<◌, ℕ, Bool, true, false, cond, List, [], ◌∷◌, Some, refl, sym, ap, ◌∙◌, subst, arith}
use Rattle.om_value.specs.declared.value.Place.{Place}
use Rattle.om_prog.specs.Act.{Act, GpLo, Word, Script, act_reads, act_writes}
use Rattle.om_prog.specs.Flow.{Among, act_jumps}
use Rattle.om_prog.specs.Facts.{Fact, Any, Table, Unknown, changed, changed_by, set_fact, unreached, unreached_write, fact_behind, Allows, IsFact, has}
use Rattle.om_graph.specs.View.{Block, GraphView, Has}
use Rattle.om_graph.specs.Run.{block_words, words, next_word, rev_onto}
use Rattle.om_graph.specs.Form.{InForm, After, Ordered}
use Rattle.om_graph.specs.Kept.{IsBlock, IsEnd, IsKeptLanding}
use Rattle.om_graph.specs.Checks.{GpChecked, MaskChecked, AreOuts, jumps_in}
use Rattle.om_graph.specs.Walks.{WalksTo, MayRead, reads, goes, Arrives, starts, goes_on, Reaches, IsGpFact}
use Rattle.om_graph.proofs.Labels.{same_place, self_eq, in_all}
use Rattle.om_graph.proofs.Itself.{before_words}
use Rattle.om_graph.proofs.Kept.{has_split}
use Rattle.om_graph.proofs.Comes.{ordered_split}
use Rattle.om_graph.proofs.Placed.{BeforeBlocks, Placed, IsLabel}
use Rattle.om_graph.proofs.Places.{InLabels, end_none, jumps_last}
use Rattle.om_graph.proofs.Blocks.{value_at, Edges, Laws, FoundAt, found_at, falls, come, land}
use Rattle.om_graph.proofs.GpFacts.{fact_at, allows_then, allows_changed}
use Rattle.om_graph.proofs.Masks.{live_at, among_true, has_among}
use Rattle.om_value.specs.Same.{place_eq}
use Rattle.om_graph.proofs.GpFacts as gp
use Rattle.om_graph.proofs.Masks as mask

-- ---- where a word stands in its block

apart :
    (bs : List Block) (d : Block) (w : Word) (ws : List Word) → BeforeBlocks ws bs → Placed bs → Has bs d → Has ws w → Has (block_words d) w → ⊥
apart bs d w ws f p h m n =
    let k = before_words ws bs w w f p m (in_all bs d w h n) refl in
    omega (arith, k)

not_there : (ws : List Word) (x w : Word) → After x ws → Has ws w → place_eq x.at w.at ≡ false
not_there ws x w a h = is_false _ (λ e. never ws (same_place x.at w.at e) a h)
  where
    is_false : (b : Bool) → (b ≡ true → ⊥) → b ≡ false
    is_false true f = absurd (f refl)
    is_false false f = refl

    never : (ws : List Word) → x.at ≡ w.at → After x ws → Has ws w → ⊥
    never [] e a h = h
    never (y ∷ ws) e a (inl j) =
        let o = ap (λ (z : Word). z.at.obj) j ∙ ap (λ (q : Place). q.obj) (sym e) in
        let f = ap (λ (z : Word). z.at.off) j ∙ ap (λ (q : Place). q.off) (sym e) in
        let b = a.0 o in
        omega (arith, f, b)
    never (y ∷ ws) e a (inr h) = never ws e a.1 h

pub own_order : (bs : List Block) (b : Block) → Placed bs → Has bs b → Ordered (block_words b)
own_order [] b p h = absurd h
own_order (x ∷ bs) b p (inl e) = subst (λ (y : Block). Ordered (block_words y)) e p.1
own_order (x ∷ bs) b p (inr h) = own_order bs b p.4 h

pub same_block :
    (bs : List Block) (b d : Block) (w : Word) → Placed bs → Has bs b → Has bs d → Has (block_words b) w → Has (block_words d) w → b ≡ d
same_block [] b d w p h i m n = absurd h
same_block (x ∷ bs) b d w p (inl h) (inl i) m n = sym h ∙ i
same_block (x ∷ bs) b d w p (inl h) (inr i) m n = absurd (apart bs d w (block_words x) p.2 p.4 i (subst (λ (y : Block). Has (block_words y) w) (sym h) m) n)
same_block (x ∷ bs) b d w p (inr h) (inl i) m n = absurd (apart bs b w (block_words x) p.2 p.4 h (subst (λ (y : Block). Has (block_words y) w) (sym i) n) m)
same_block (x ∷ bs) b d w p (inr h) (inr i) m n = same_block bs b d w p.4 h i m n

-- the words before a place, the last one first
abbrev before_of : List Word → List Word → Place → List Word
before_of acc [] q = acc
before_of acc (x ∷ xs) q = cond (place_eq x.at q) acc (before_of (x ∷ acc) xs q)

before_split : (bf ws : List Word) (w : Word) → Ordered (rev_onto bf ws) → Has ws w → before_of [] (rev_onto bf ws) w.at ≡ before_of bf ws w.at
before_split [] ws w o h = refl
before_split (x ∷ bf) ws w o h =
    let a = ordered_split bf (x ∷ ws) o in
    before_split bf (x ∷ ws) w o (inr h) ∙ ap (λ (b : Bool). cond b bf (before_of (x ∷ bf) ws w.at)) (not_there ws x w a.0 h)

-- the same word has the same words before it
pub same_before :
    (l bf bg ws xs : List Word) (w : Word) → Ordered l → rev_onto bf (w ∷ ws) ≡ l → rev_onto bg (w ∷ xs) ≡ l → bf ≡ bg
same_before l bf bg ws xs w o e f =
    sym (at_word bf ws) ∙ sym (before_split bf (w ∷ ws) w (subst (λ (k : List Word). Ordered k) (sym e) o) (inl refl))
    ∙ ap (λ (k : List Word). before_of [] k w.at) (e ∙ sym f)
    ∙ before_split bg (w ∷ xs) w (subst (λ (k : List Word). Ordered k) (sym f) o) (inl refl) ∙ at_word bg xs
  where
    at_word : (bf ws : List Word) → before_of bf (w ∷ ws) w.at ≡ bf
    at_word bf ws = ap (λ (b : Bool). cond b bf (before_of (w ∷ bf) ws w.at)) (self_eq w.at)

module _ (g : GraphView) (within : InLabels g) (placed : Placed g.blocks) (form : InForm g) where
  label_of_place : (q : Place) → IsBlock g q ⊎ IsEnd g q → IsLabel g.blocks q
  label_of_place q (inl n) = inl n
  label_of_place q (inr e) = inr (end_none g within q e)

  -- the relation of values along every step of a walk
  module _ (D : Type 0) (value : Block → List Word → List Word → D) (done : D) (enter : Block → D) (Flow : Word → D → D → Type 0) (Le : D → D → Type 0)
      (laws : Laws D value done enter Flow Le) (edges : Edges D value done enter Flow Le g.blocks)
      (jumps : (b n : Block) (bf : List Word) (w : Word) → Has g.blocks b → Has g.blocks n → rev_onto bf (w ∷ []) ≡ block_words b → act_jumps (IsKeptLanding g) w.act n.label → Flow w (value b bf (w ∷ [])) (enter n)) where
    jumped :
        (p : Place) (w : Word) (q : Place) → FoundAt D value done enter Flow Le laws g.blocks p w → act_jumps (IsKeptLanding g) w.act q → IsBlock g q ⊎ IsEnd g q →
        Flow w (value_at D value done g.blocks p) (value_at D value done g.blocks q)
    jumped p w q f j k = by_rest f.rest f.splits f.here (jumps_last (IsKeptLanding g) g form f.block f.before w f.rest q f.among f.splits j)
      where
        by_rest :
            (rest : List Word) → rev_onto f.before (w ∷ rest) ≡ block_words f.block → value_at D value done g.blocks p ≡ value f.block f.before (w ∷ rest) → rest ≡ [] →
            Flow w (value_at D value done g.blocks p) (value_at D value done g.blocks q)
        by_rest [] s h e =
            rw h (come D value done enter Flow Le laws g.blocks w (value f.block f.before (w ∷ [])) q placed edges (label_of_place q k)
            (λ n hn i. jumps f.block n f.before w f.among hn s (subst (λ (x : Place). act_jumps (IsKeptLanding g) w.act x) (sym i) j)))
        by_rest (x ∷ rest) s h e = cc

    pub walk_flow : (p : Place) (w : Word) (q : Place) → next_word (words g) p ≡ Some w → WalksTo g w q → Flow w (value_at D value done g.blocks p) (value_at D value done g.blocks q)
    walk_flow p w q e (inl t) =
        subst (λ (x : Place). Flow w (value_at D value done g.blocks p) (value_at D value done g.blocks x)) t.1
        (falls D value done enter Flow Le laws g.blocks p w placed edges e t.0)
    walk_flow p w q e (inr j) = jumped p w q (found_at D value done enter Flow Le laws g.blocks p w placed e) j.0 j.1

  -- ---- facts on r29

  -- what a walk leaves: a table or nothing known
  abbrev pub Told : Fact → Type 0
  Told Any = ⊥
  Told f = Unit {0}

  set_told : (c : Script) (w : Word) (a : Act) → Told (set_fact c w a)
  set_told c w (GpLo ra rb hi) = tt
  set_told c w a = tt

  changed_told : (c : Script) (w : Word) (f : Fact) → Told f → Told (changed c w f)
  changed_told c w Any t = t
  changed_told c w (Table x) t = by_case (has (act_writes w.act) 29)
    where
      by_case : (b : Bool) → Told (cond b (set_fact c w w.act) (Table x))
      by_case true = set_told c w w.act
      by_case false = tt
  changed_told c w Unknown t = by_case (has (act_writes w.act) 29)
    where
      by_case : (b : Bool) → Told (cond b (set_fact c w w.act) Unknown)
      by_case true = set_told c w w.act
      by_case false = tt

  module _ (c : Script) (facts : Place → Fact) (checked : GpChecked c facts g) where
    abbrev at_place : Place → Fact
    at_place q = fact_at c facts g.blocks q

    fact_flow : (p : Place) (w : Word) (q : Place) → next_word (words g) p ≡ Some w → WalksTo g w q → Allows (changed c w (at_place p)) (at_place q)
    fact_flow p w q e t =
        walk_flow Fact (gp.fact_in c facts) Unknown (gp.fact_enter c facts) (gp.fact_flow c facts) Allows (gp.laws c facts) (gp.gp_edges c facts g checked)
        (gp.gp_jumps c facts g checked) p w q e t

    entry_allows : IsBlock g c.entry → Allows (Table (c.table c.entry.obj)) (at_place c.entry)
    entry_allows n =
        allows_then (Table (c.table c.entry.obj)) (facts c.entry) (at_place c.entry) (by_entry checked.entry)
        (subst (λ (q : Place). Allows (facts q) (at_place q)) n.2
        (land Fact (gp.fact_in c facts) Unknown (gp.fact_enter c facts) (gp.fact_flow c facts) Allows (gp.laws c facts) g.blocks n.0 placed (gp.gp_edges c facts g checked) n.1))
      where
        by_entry : (facts c.entry ≡ Unknown) ⊎ (facts c.entry ≡ Table (c.table c.entry.obj)) → Allows (Table (c.table c.entry.obj)) (facts c.entry)
        by_entry (inl e) = subst (λ (f : Fact). Allows (Table (c.table c.entry.obj)) f) (sym e) tt
        by_entry (inr e) = subst (λ (f : Fact). Allows (Table (c.table c.entry.obj)) f) (sym e) refl

    -- a fact at a place allows what each walk leaves there
    pub arrives_allows : (q : Place) (f : Fact) → Arrives c g q f → Told f × Allows f (at_place q)
    arrives_allows q f (starts n) = (tt, entry_allows n)
    arrives_allows q f (goes_on p h w r a e t) =
        let i = arrives_allows p h a in
        (changed_told c w h i.0, allows_then (changed c w h) (changed c w (at_place p)) (at_place q) (allows_changed c w h (at_place p) i.1) (fact_flow p w q e t))

    told_table : (f h : Fact) (t : ℕ) → Told f → Allows f h → h ≡ Table t → f ≡ Table t
    told_table Any h t o a e = absurd o
    told_table (Table u) (Table v) t o a e = a ∙ e
    told_table (Table u) Any t o a e = cc
    told_table (Table u) Unknown t o a e = cc
    told_table Unknown (Table v) t o a e = cc
    told_table Unknown Any t o a e = cc
    told_table Unknown Unknown t o a e = cc

    told_any : (f h : Fact) → Told f → Allows f h → h ≡ Any → ⊥
    told_any Any h o a e = o
    told_any (Table u) (Table v) o a e = cc
    told_any (Table u) Any o a e = cc
    told_any (Table u) Unknown o a e = cc
    told_any Unknown (Table v) o a e = cc
    told_any Unknown Any o a e = cc
    told_any Unknown Unknown o a e = cc

    -- a table that is left was there from the start, or the last word to write r29 is a low half
    low_last : (f : Fact) (bf : List Word) (t : ℕ) → changed_by c f bf ≡ Table t → unreached bf ≡ Any
    low_last f [] t e = refl
    low_last f (w ∷ bf) t e = by_fact (changed_by c f bf) refl e (low_last f bf)
      where
        low_set : (a : Act) → set_fact c w a ≡ Table t → unreached_write a ≡ Any
        low_set (GpLo ra rb hi) e = refl
        low_set a e = cc

        by_write :
            (b : Bool) (h : Fact) → changed_by c f bf ≡ h → cond b (set_fact c w w.act) h ≡ Table t → ((u : ℕ) → changed_by c f bf ≡ Table u → unreached bf ≡ Any) →
            cond b (unreached_write w.act) (unreached bf) ≡ Any
        by_write true h x e i = low_set w.act e
        by_write false h x e i = i t (x ∙ e)

        by_fact :
            (h : Fact) → changed_by c f bf ≡ h → changed c w (changed_by c f bf) ≡ Table t → ((u : ℕ) → changed_by c f bf ≡ Table u → unreached bf ≡ Any) →
            cond (has (act_writes w.act) 29) (unreached_write w.act) (unreached bf) ≡ Any
        by_fact Any x e i = let y = ap (λ (k : Fact). changed c w k) (sym x) ∙ e in cc
        by_fact (Table u) x e i = by_write (has (act_writes w.act) 29) (Table u) x (ap (λ (k : Fact). changed c w k) (sym x) ∙ e) i
        by_fact Unknown x e i = by_write (has (act_writes w.act) 29) Unknown x (ap (λ (k : Fact). changed c w k) (sym x) ∙ e) i

    -- what a check tells of a block gives the GP fact in front of each of its words
    pub is_gp_fact :
        (b : Block) (bf : List Word) (w : Word) (ws : List Word) (t : ℕ) → Has g.blocks b → rev_onto bf (w ∷ ws) ≡ block_words b →
        IsFact (fact_behind c (facts b.label) bf) t → IsGpFact c g t bf w
    is_gp_fact b bf w ws t hb s is = record { walks = on_walk; none = λ n. on_none (facts b.label) is }
      where
        not_any : (f : Fact) (bf : List Word) → Told f → Told (changed_by c f bf)
        not_any f [] o = o
        not_any f (x ∷ bf) o = changed_told c x (changed_by c f bf) (not_any f bf o)

        any_stays : (bf : List Word) → changed_by c Any bf ≡ Any
        any_stays [] = refl
        any_stays (x ∷ bf) = ap (λ (f : Fact). changed c x f) (any_stays bf)

        write_is : (a : Act) (t : ℕ) → unreached_write a ≡ Table t → ⊥
        write_is (GpLo ra rb hi) t e = cc
        write_is a t e = cc

        none_is : (bf : List Word) (t : ℕ) → unreached bf ≡ Table t → ⊥
        none_is [] t e = cc
        none_is (x ∷ bf) t e = by_write (has (act_writes x.act) 29) e (none_is bf t)
          where
            by_write : (b : Bool) → cond b (unreached_write x.act) (unreached bf) ≡ Table t → (unreached bf ≡ Table t → ⊥) → ⊥
            by_write true e i = write_is x.act t e
            by_write false e i = i e

        of_none : (f : Fact) → f ≡ unreached bf → IsFact f t → unreached bf ≡ Any
        of_none Any e i = sym e
        of_none (Table u) e i = absurd (none_is bf u (sym e))
        of_none Unknown e i = absurd i

        of_some : (f h : Fact) → Told h → f ≡ changed_by c h bf → IsFact f t → unreached bf ≡ Any
        of_some Any h o e i = absurd (told_not (changed_by c h bf) (not_any h bf o) (sym e))
          where
            told_not : (k : Fact) → Told k → k ≡ Any → ⊥
            told_not Any o e = o
            told_not (Table u) o e = cc
            told_not Unknown o e = cc
        of_some (Table u) h o e i = low_last h bf u (sym e)
        of_some Unknown h o e i = absurd i

        on_none : (f : Fact) → IsFact (fact_behind c f bf) t → unreached bf ≡ Any
        on_none Any i = of_none (unreached bf) refl i
        on_none (Table u) i = of_some (changed_by c (Table u) bf) (Table u) tt refl i
        on_none Unknown i = of_some (changed_by c Unknown bf) Unknown tt refl i

        of_fact : (k f h : Fact) → Told f → Allows f h → h ≡ changed_by c k bf → IsFact (fact_behind c k bf) t → f ≡ Table t
        of_fact Any f h o a e i = absurd (told_any f h o a (e ∙ any_stays bf))
        of_fact (Table u) f h o a e i = by_table (changed_by c (Table u) bf) e i
          where
            by_table : (k : Fact) → h ≡ k → IsFact k t → f ≡ Table t
            by_table Any e i = absurd (told_any f h o a e)
            by_table (Table v) e i = told_table f h t o a (e ∙ ap (λ (x : ℕ). Table x) i)
            by_table Unknown e i = absurd i
        of_fact Unknown f h o a e i = by_table (changed_by c Unknown bf) e i
          where
            by_table : (k : Fact) → h ≡ k → IsFact k t → f ≡ Table t
            by_table Any e i = absurd (told_any f h o a e)
            by_table (Table v) e i = told_table f h t o a (e ∙ ap (λ (x : ℕ). Table x) i)
            by_table Unknown e i = absurd i

        on_walk : (f : Fact) → Reaches c g w f → f ≡ Table t
        on_walk f (p, a, e) =
            let x = found_at Fact (gp.fact_in c facts) Unknown (gp.fact_enter c facts) (gp.fact_flow c facts) Allows (gp.laws c facts) g.blocks p w placed e in
            let in_x = has_split x.before w x.rest (block_words x.block) x.splits in
            let in_b = has_split bf w ws (block_words b) s in
            let same = same_block g.blocks b x.block w placed hb x.among in_b in_x in
            let splits = subst (λ (d : Block). rev_onto x.before (w ∷ x.rest) ≡ block_words d) (sym same) x.splits in
            let before = same_before (block_words b) bf x.before ws x.rest w (own_order g.blocks b placed hb) s splits in
            let here : at_place p ≡ changed_by c (facts b.label) bf =
            x.here ∙ ap (λ (d : Block). changed_by c (facts d.label) x.before) (sym same) ∙ ap (λ (l : List Word). changed_by c (facts b.label) l) (sym before) in
            let i = arrives_allows p f a in
            of_fact (facts b.label) f (at_place p) i.0 i.1 here is

  -- ---- masks

  pub may_low : (r : ℕ) (p : Place) → MayRead g r p → r < 31
  may_low r p (reads q w e l m) = l
  may_low r p (goes q w x e n t m) = may_low r x m

  module _ (masks outs : Place → ℕ → Bool) (checked : MaskChecked masks g) (are : AreOuts masks outs g) where
    abbrev live : Place → ℕ → Bool
    live p = live_at masks outs g.blocks p

    mask_flow :
        (p : Place) (w : Word) (q : Place) → next_word (words g) p ≡ Some w → WalksTo g w q → (r : ℕ) → r < 31 → live q r ≡ true →
        Among (act_writes w.act) r ⊎ (live p r ≡ true)
    mask_flow p w q e t =
        walk_flow (mask.Mask masks outs) (mask.mask_in masks outs) (mask.no_mask masks outs) (mask.enter masks outs) (mask.Flow masks outs) (mask.Le masks outs) (mask.laws masks outs)
        (mask.edges masks outs g checked are)
        (λ b n bf w hb hn s j. mask.flow_out masks outs g checked are b bf w n (jumps_in w hb hn (bf, s) j)) p w q e t

    -- what some walk may read is in the mask at the place
    pub may_live : (r : ℕ) (p : Place) → MayRead g r p → live p r ≡ true
    may_live r p (reads q w e l m) =
        let f = found_at (mask.Mask masks outs) (mask.mask_in masks outs) (mask.no_mask masks outs) (mask.enter masks outs) (mask.Flow masks outs) (mask.Le masks outs) (mask.laws masks outs) g.blocks p w placed e in
        ap (λ (x : mask.Mask masks outs). x r) f.here ∙ rw (among_true (act_reads w.act) r m) refl
    may_live r p (goes q w x e n t m) = by_flow (mask_flow p w x e t r (may_low r x m) (may_live r x m))
      where
        by_flow : Among (act_writes w.act) r ⊎ (live p r ≡ true) → live p r ≡ true
        by_flow (inl i) = absurd (n i)
        by_flow (inr i) = i

    pub may_mask : (b : Block) (r : ℕ) → Has g.blocks b → MayRead g r b.label → masks b.label r ≡ true
    may_mask b r h m =
        land (mask.Mask masks outs) (mask.mask_in masks outs) (mask.no_mask masks outs) (mask.enter masks outs) (mask.Flow masks outs) (mask.Le masks outs) (mask.laws masks outs)
        g.blocks b placed (mask.edges masks outs g checked are) h r (may_low r b.label m) (may_live r b.label m)
