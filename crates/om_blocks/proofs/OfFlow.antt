-- Walks over the numbers of a flow are walks over the blocks of its graph.
use Rattle.std.proofs.Common.{◌≡◌, ◌≢◌, ◌⊎◌, inl, inr, ◌<◌, ◌≤◌, ℕ, Bool, true, false, cond, ◌==◌, List, [], ◌∷◌, Option, Some, None, get_or, length, refl, sym, ap, ◌∙◌, subst, arith}
use Rattle.std.specs.Prelude.{find, option_map}
use Rattle.std.specs.Int.{bit_at}
use Rattle.std.proofs.lemmas.List.{get_or_default}
use Rattle.std.proofs.lemmas.Bool.{eqb-true, eq-eqb}
use Rattle.om_value.specs.declared.value.Place.{Place}
use Rattle.om_value.specs.Same.{place_eq}
use Rattle.om_prog.specs.Act.{Script}
use Rattle.om_prog.specs.View.{ProgramView}
use Rattle.om_prog.specs.Facts as prog
use Rattle.om_flow.specs.declared.parts.Flow.{Flow}
use Rattle.om_flow.specs.declared.parts.Fact.{Fact}
use Rattle.om_flow.specs.declared.parts.Fact.TheVariants.{Any, Table, Unknown}
use Rattle.om_flow.specs.declared.parts.Transfer.{Transfer}
use Rattle.om_flow.specs.declared.parts.Transfer.TheVariants.{Keep, SetTable, SetUnknown}
use Rattle.om_flow.specs.Seen.{transfers_of, reads_of, writes_of, FlowGoes}
use Rattle.om_flow.specs.Facts.{transfer_at, fact_at, sent, Allows, left_by, Walk, Starts, Goes, Checked}
use Rattle.om_flow.specs.Masks.{number_at, Reads, Here, Later, MasksChecked}
use Rattle.om_flow.proofs.Spreading.{same_or_not}
use Rattle.om_graph.specs.View.{Block, GraphView, Has, InPlaceOrder, place_lt, has_label, labelled}
use Rattle.om_graph.specs.Held.{IsGraph, Apart, block_ids, label_list}
use Rattle.om_graph.specs.Run.{block_words, graph_script}
use Rattle.om_graph.specs.Checks.{Enters, falls_in, jumps_in, GpChecked, ReachesBlock, at_entry, enters_next, onward, MaskChecked, ReadsBlock, reads_in, reads_next}
use Rattle.om_graph.proofs.Labels.{same_place, self_eq, lt_cases}
use Rattle.om_graph.proofs.Blocks.{next_has}
use Rattle.om_blocks.specs.IsFlow.{IsFlow, NoNumber, behind}
use Rattle.om_blocks.specs.Found.{seen, fact_under, facts_in, mask_under, masks_in, all_registers, left_as}
use Rattle.om_blocks.specs.Laws.{FlowsTell, entry_table}

-- ---- lists of blocks

pub has_id : (bs : List Block) (b : Block) → Has bs b → Has (block_ids bs) b.id
has_id [] b h = absurd h
has_id (c ∷ bs) b (inl e) = inl (ap (λ (x : Block). x.id) e)
has_id (c ∷ bs) b (inr h) = inr (has_id bs b h)

-- an id names one block
pub same_id : (bs : List Block) (b c : Block) → Apart (block_ids bs) → Has bs b → Has bs c → b.id ≡ c.id → b ≡ c
same_id [] b c a h i e = absurd h
same_id (x ∷ bs) b c a (inl h) (inl i) e = sym h ∙ i
same_id (x ∷ bs) b c a (inl h) (inr i) e = absurd (a.0 (subst (λ (k : ℕ). Has (block_ids bs) k) (sym e ∙ ap (λ (y : Block). y.id) (sym h)) (has_id bs c i)))
same_id (x ∷ bs) b c a (inr h) (inl i) e = absurd (a.0 (subst (λ (k : ℕ). Has (block_ids bs) k) (e ∙ ap (λ (y : Block). y.id) (sym i)) (has_id bs b h)))
same_id (x ∷ bs) b c a (inr h) (inr i) e = same_id bs b c a.1 h i e

abbrev pub Numbered : List Block → ℕ → Type 0
Numbered bs i = (b : Block) × Has bs b × (b.id ≡ i)

-- a number is a block's or none's
pub numbered : (bs : List Block) (i : ℕ) → Numbered bs i ⊎ ((b : Block) → Has bs b → b.id ≡ i → ⊥)
numbered [] i = inr (λ b h e. h)
numbered (c ∷ bs) i = by_case (same_or_not c.id i) (numbered bs i)
  where
    by_case : (c.id ≡ i) ⊎ (c.id ≢ i) → Numbered bs i ⊎ ((b : Block) → Has bs b → b.id ≡ i → ⊥) → Numbered (c ∷ bs) i ⊎ ((b : Block) → Has (c ∷ bs) b → b.id ≡ i → ⊥)
    by_case (inl e) k = inl (c, inl refl, e)
    by_case (inr n) (inl k) = inl (k.0, inr k.1, k.2)
    by_case (inr n) (inr k) = inr (λ b h e. neither b h e)
      where
        neither : (b : Block) → Has (c ∷ bs) b → b.id ≡ i → ⊥
        neither b (inl s) e = n (ap (λ (x : Block). x.id) s ∙ e)
        neither b (inr h) e = k b h e

no_self : (p : Place) → place_lt p p ≡ true → ⊥
no_self p e = by_cases (lt_cases p p e)
  where
    by_cases : ((p.obj ≡ p.obj) × (p.off < p.off)) ⊎ (p.obj < p.obj) → ⊥
    by_cases (inl h) = let x = h.1 in omega (arith, x)
    by_cases (inr h) = omega (arith, h)

pub has_label_in : (bs : List Block) (b : Block) → Has bs b → Has (label_list bs) b.label
has_label_in [] b h = absurd h
has_label_in (c ∷ bs) b (inl e) = inl (ap (λ (x : Block). x.label) e)
has_label_in (c ∷ bs) b (inr h) = inr (has_label_in bs b h)

-- the block of its label
pub labelled_is : (bs : List Block) (b : Block) → InPlaceOrder (label_list bs) → Has bs b → find (has_label b.label) bs ≡ Some b
labelled_is [] b o h = absurd h
labelled_is (c ∷ bs) b o (inl e) = let s : place_eq c.label b.label ≡ true = subst (λ (x : Block). place_eq c.label x.label ≡ true) e (self_eq c.label) in rw s (ap Some e)
labelled_is (c ∷ bs) b o (inr h) = by_test (place_eq c.label b.label) refl (labelled_is bs b o.1 h)
  where
    by_test : (t : Bool) → place_eq c.label b.label ≡ t → find (has_label b.label) bs ≡ Some b → cond t (Some c) (find (has_label b.label) bs) ≡ Some b
    by_test true e k = absurd (no_self b.label (subst (λ (q : Place). place_lt q b.label ≡ true) (same_place c.label b.label e) (o.0 b.label (has_label_in bs b h))))
    by_test false e k = k

-- ---- facts

behind_left : (t : Transfer) (v : Option ℕ) → behind t (left_as v) ≡ left_as (left_by t v)
behind_left Keep v = refl
behind_left (SetTable t) None = refl
behind_left (SetTable t) (Some u) = refl
behind_left SetUnknown None = refl
behind_left SetUnknown (Some u) = refl

pub behind_seen : (t : Transfer) (x : Fact) → behind t (seen x) ≡ seen (sent t x)
behind_seen Keep x = refl
behind_seen (SetTable t) Any = refl
behind_seen (SetTable t) (Table u) = refl
behind_seen (SetTable t) Unknown = refl
behind_seen SetUnknown Any = refl
behind_seen SetUnknown (Table u) = refl
behind_seen SetUnknown Unknown = refl

pub allows_seen : (x y : Fact) → Allows x y → prog.Allows (seen x) (seen y)
allows_seen Any y a = tt
allows_seen (Table t) Any a = absurd a
allows_seen (Table t) (Table u) a = ap prog.Table a
allows_seen (Table t) Unknown a = tt
allows_seen Unknown Any a = absurd a
allows_seen Unknown (Table u) a = absurd a
allows_seen Unknown Unknown a = tt

module _ (g : GraphView) (f : Flow) (graph : IsGraph g) (is : IsFlow g f) where
  under : (b : Block) → Has g.blocks b → labelled g b.label ≡ Some b.id
  under b h = ap (option_map (λ (x : Block). x.id)) (labelled_is g.blocks b graph.blocks h)

  -- entering is of kept blocks
  between : (b n : Block) → Enters g b n → Has g.blocks b × Has g.blocks n
  between b n (falls_in h o k) = next_has g.blocks b n h
  between b n (jumps_in w hb hn l j) = (hb, hn)

  edge : (b n : Block) → Enters g b n → FlowGoes f b.id n.id
  edge b n e = let h = between b n e in (is.goes b n h.0 h.1).1 e

  abbrev transfer : ℕ → Transfer
  transfer = transfer_at (transfers_of f.blocks.items)

  module _ (p : ProgramView) where
    abbrev c : Script
    c = graph_script p g

    abbrev Walks : ℕ → Option ℕ → Type 0
    Walks = Walk (FlowGoes f) transfer f.entry (entry_table g)

    step : (b n : Block) (v w : Option ℕ) → Has g.blocks b → left_by (transfer b.id) v ≡ w → ReachesBlock c g b (left_as v) → Enters g b n → ReachesBlock c g n (left_as w)
    step b n v w h l r e =
        subst (λ (x : prog.Fact). ReachesBlock c g n x) (is.transfer p b (left_as v) h ∙ behind_left (transfer b.id) v ∙ ap left_as l) (enters_next b n (left_as v) r e)

    walk_at : (i : ℕ) (v : Option ℕ) → Walks i v → (b : Block) → Has g.blocks b → b.id ≡ i → ReachesBlock c g b (left_as v)
    walk_at i v (Starts j u e l) b h same =
        subst (λ (x : Option ℕ). ReachesBlock c g b (left_as x)) l (at_entry b h ((is.entry b h).0 (e ∙ sym same)))
    walk_at i w (Goes j k v u walk e l) n h same = by_number (numbered g.blocks j) (walk_at j v walk)
      where
        by_number : Numbered g.blocks j ⊎ NoNumber g j → ((b : Block) → Has g.blocks b → b.id ≡ j → ReachesBlock c g b (left_as v)) → ReachesBlock c g n (left_as w)
        by_number (inr none) again = absurd (is.others j i none e n h same)
        by_number (inl m) again =
            step m.0 n v w m.1 (subst (λ (x : ℕ). left_by (transfer x) v ≡ w) (sym m.2) l) (again m.0 m.1 m.2)
            ((is.goes m.0 n m.1 h).0 (subst (λ (x : ℕ). FlowGoes f m.0.id x) (sym same) (subst (λ (x : ℕ). FlowGoes f x i) (sym m.2) e)))

    pub reaches : (b : Block) (v : Option ℕ) → Has g.blocks b → Walks b.id v → ReachesBlock c g b (left_as v)
    reaches b v h walk = walk_at b.id v walk b h refl

    pub reached : (b : Block) (x : prog.Fact) → ReachesBlock c g b x → (v : Option ℕ) × (left_as v ≡ x) × Walks b.id v
    reached b x (at_entry d h e) = (Some (entry_table g), refl, Starts b.id (Some (entry_table g)) ((is.entry b h).1 e) refl)
    reached n x (enters_next b m y r e) =
        let k = reached b y r in
        let h = between b n e in (
          left_by (transfer b.id) k.0,
          sym (behind_left (transfer b.id) k.0) ∙ ap (behind (transfer b.id)) k.1 ∙ sym (is.transfer p b y h.0),
          Goes b.id n.id k.0 (left_by (transfer b.id) k.0) k.2 (edge b n e) refl,
        )

    module _ (facts : List Fact) (sized : length f.blocks.items ≤ length facts) (checked : Checked (FlowGoes f) (transfers_of f.blocks.items) f.entry (entry_table g) facts) where
      known : (b : Block) → Has g.blocks b → get_or facts b.id Unknown ≡ fact_at facts b.id
      known b h = let l = is.numbers b h in get_or_default facts b.id Unknown Any (omega (arith, l, sized))

      fact_is : (b : Block) → Has g.blocks b → facts_in g facts b.label ≡ seen (fact_at facts b.id)
      fact_is b h = ap (fact_under facts) (under b h) ∙ ap seen (known b h)

      at_start : (o : Option Block) → find (has_label c.entry) g.blocks ≡ o → (fact_under facts (option_map (λ (x : Block). x.id) o) ≡ prog.Unknown) ⊎ (fact_under facts (option_map (λ (x : Block). x.id) o) ≡ prog.Table (entry_table g))
      at_start None e = inl refl
      at_start (Some b) e =
          let k = found g.blocks e in
          let here : f.entry ≡ b.id = (is.entry b k.0).1 k.1 in
          by_fact (known b k.0) (subst (λ (i : ℕ). (fact_at facts i ≡ Table (entry_table g)) ⊎ (fact_at facts i ≡ Unknown)) here checked.entry_fact)
        where
          found : (bs : List Block) → find (has_label c.entry) bs ≡ Some b → Has bs b × (b.label ≡ c.entry)
          found [] e = cc
          found (x ∷ bs) e = by_test (place_eq x.label c.entry) refl e (found bs)
            where
              by_test : (t : Bool) → place_eq x.label c.entry ≡ t → cond t (Some x) (find (has_label c.entry) bs) ≡ Some b → (find (has_label c.entry) bs ≡ Some b → Has bs b × (b.label ≡ c.entry)) → Has (x ∷ bs) b × (b.label ≡ c.entry)
              by_test true q e k = let s : x ≡ b = cc in (inl s, ap (λ (y : Block). y.label) (sym s) ∙ same_place x.label c.entry q)
              by_test false q e k = let r = k e in (inr r.0, r.1)

          by_fact :
              get_or facts b.id Unknown ≡ fact_at facts b.id → (fact_at facts b.id ≡ Table (entry_table g)) ⊎ (fact_at facts b.id ≡ Unknown) →
              (seen (get_or facts b.id Unknown) ≡ prog.Unknown) ⊎ (seen (get_or facts b.id Unknown) ≡ prog.Table (entry_table g))
          by_fact q (inl e) = inr (ap seen (q ∙ e))
          by_fact q (inr e) = inl (ap seen (q ∙ e))

      enters_allow : (b n : Block) → Enters g b n → prog.Allows (onward c (facts_in g facts b.label) (block_words b)) (facts_in g facts n.label)
      enters_allow b n e =
          let h = between b n e in
          let x : onward c (facts_in g facts b.label) (block_words b) ≡ seen (sent (transfer b.id) (fact_at facts b.id)) =
          ap (λ (y : prog.Fact). onward c y (block_words b)) (fact_is b h.0) ∙ is.transfer p b (seen (fact_at facts b.id)) h.0 ∙ behind_seen (transfer b.id) (fact_at facts b.id) in
          subst (λ (y : prog.Fact). prog.Allows y (facts_in g facts n.label)) (sym x)
          (subst (λ (y : prog.Fact). prog.Allows (seen (sent (transfer b.id) (fact_at facts b.id))) y) (sym (fact_is n h.1))
          (allows_seen (sent (transfer b.id) (fact_at facts b.id)) (fact_at facts n.id) (checked.edges b.id n.id (edge b n e))))

      pub gp_checked : GpChecked c (facts_in g facts) g
      gp_checked = record { entry = at_start (find (has_label c.entry) g.blocks) refl; enters = enters_allow }

  -- ---- masks

  abbrev reads : ℕ → ℕ
  reads = number_at (reads_of f.blocks.items)

  abbrev writes : ℕ → ℕ
  writes = number_at (writes_of f.blocks.items)

  module _ (r : ℕ) (low : r < 31) where
    -- from other numbers on nothing is read
    never : (i : ℕ) → Reads (FlowGoes f) reads writes r i → NoNumber g i → ⊥
    never i (Here j e) none_at = let z = is.silent i r none_at in omega (arith, z, e)
    never i (Later j k e none walk) none_at = never k walk (is.others i k none_at e)

    read_at : (i : ℕ) → Reads (FlowGoes f) reads writes r i → (b : Block) → Has g.blocks b → b.id ≡ i → ReadsBlock g r b
    read_at i (Here j e) b h same = reads_in b h ((is.reads b r h low).0 (subst (λ (x : ℕ). bit_at (reads x) r ≡ 1) (sym same) e))
    read_at i (Later j k e none walk) b h same = by_number (numbered g.blocks k) (read_at k walk)
      where
        from : FlowGoes f b.id k
        from = subst (λ (x : ℕ). FlowGoes f x k) (sym same) e

        by_number : Numbered g.blocks k ⊎ NoNumber g k → ((n : Block) → Has g.blocks n → n.id ≡ k → ReadsBlock g r n) → ReadsBlock g r b
        by_number (inl m) again =
            reads_next b m.0 ((is.goes b m.0 h m.1).0 (subst (λ (x : ℕ). FlowGoes f b.id x) (sym m.2) from))
            ((is.writes b r h low).0 (subst (λ (x : ℕ). bit_at (writes x) r ≡ 0) (sym same) none)) (again m.0 m.1 m.2)
        by_number (inr none_at) again = absurd (never k walk none_at)

    read_of : (b : Block) → ReadsBlock g r b → Reads (FlowGoes f) reads writes r b.id
    read_of b (reads_in d h e) = Here b.id ((is.reads b r h low).1 e)
    read_of b (reads_next d n e none k) =
        let h = between b n e in
        Later b.id n.id (edge b n e) ((is.writes b r h.0 low).1 none) (read_of n k)

  module _ (masks : List ℕ) (sized : length f.blocks.items ≤ length masks) (checked : MasksChecked (FlowGoes f) (reads_of f.blocks.items) (writes_of f.blocks.items) masks) where
    mask_is : (b : Block) (r : ℕ) → Has g.blocks b → masks_in g masks b.label r ≡ (bit_at (number_at masks b.id) r == 1)
    mask_is b r h =
        let l = is.numbers b h in
        ap (λ (o : Option ℕ). mask_under masks o r) (under b h) ∙ ap (λ (m : ℕ). bit_at m r == 1) (get_or_default masks b.id all_registers 0 (omega (arith, l, sized)))

    has_bit : (b : Block) (r : ℕ) → Has g.blocks b → bit_at (number_at masks b.id) r ≡ 1 → masks_in g masks b.label r ≡ true
    has_bit b r h e = mask_is b r h ∙ eq-eqb (bit_at (number_at masks b.id) r) 1 e

    bit_of : (b : Block) (r : ℕ) → Has g.blocks b → masks_in g masks b.label r ≡ true → bit_at (number_at masks b.id) r ≡ 1
    bit_of b r h e = eqb-true (bit_at (number_at masks b.id) r) 1 (sym (mask_is b r h) ∙ e)

    pub mask_checked : MaskChecked (masks_in g masks) g
    mask_checked = record {
      reads = λ b r h low e. has_bit b r h (checked.own b.id r (omega (arith, low)) ((is.reads b r h low).1 e));
      enters = λ b n r e low m none. let h = between b n e in
          has_bit b r h.0 (checked.edges b.id n.id r (omega (arith, low)) (edge b n e) ((is.writes b r h.0 low).1 none) (bit_of n r h.1 m));
    }

pub flows_tell : FlowsTell
flows_tell = record {
  gp_checked = λ p g f facts graph is sized checked. gp_checked g f graph is p facts sized checked;
  reaches = λ p g f graph is b v h walk. reaches g f graph is p b v h walk;
  reached = λ p g f graph is b x r. reached g f graph is p b x r;
  mask_checked = λ g f masks graph is sized checked. mask_checked g f graph is masks sized checked;
  reads = λ g f graph is b r h low. (λ k. read_at g f graph is r low b.id k b h refl, λ k. read_of g f graph is r low b k);
}

-- what is found for a kept block
pub fact_of_block :
    (g : GraphView) (f : Flow) → IsGraph g → IsFlow g f → (facts : List Fact) → length f.blocks.items ≤ length facts → (b : Block) → Has g.blocks b → facts_in g facts b.label ≡ seen (fact_at facts b.id)
fact_of_block g f graph is facts sized b h =
    let l = is.numbers b h in
    ap (fact_under facts) (under g f graph is b h) ∙ ap seen (get_or_default facts b.id Unknown Any (omega (arith, l, sized)))

pub mask_of_block :
    (g : GraphView) (f : Flow) → IsGraph g → IsFlow g f → (masks : List ℕ) → length f.blocks.items ≤ length masks → (b : Block) (r : ℕ) → Has g.blocks b → masks_in g masks b.label r ≡ (bit_at (number_at masks b.id) r == 1)
mask_of_block g f graph is masks sized b r h =
    let l = is.numbers b h in
    ap (λ (o : Option ℕ). mask_under masks o r) (under g f graph is b h) ∙ ap (λ (m : ℕ). bit_at m r == 1) (get_or_default masks b.id all_registers 0 (omega (arith, l, sized)))

-- the fact of a kept block
pub known_fact : (g : GraphView) → IsGraph g → (facts : List Fact) (b : Block) → Has g.blocks b → facts_in g facts b.label ≡ seen (get_or facts b.id Unknown)
known_fact g graph facts b h = ap (λ (o : Option Block). fact_under facts (option_map (λ (x : Block). x.id) o)) (labelled_is g.blocks b graph.blocks h)

pub known_mask : (g : GraphView) → IsGraph g → (masks : List ℕ) (b : Block) (r : ℕ) → Has g.blocks b → masks_in g masks b.label r ≡ (bit_at (get_or masks b.id all_registers) r == 1)
known_mask g graph masks b r h = ap (λ (o : Option Block). mask_under masks (option_map (λ (x : Block). x.id) o) r) (labelled_is g.blocks b graph.blocks h)
