-- An LDAH whose result is dead has no use, so its deletion leaves what each use of a high half is a use of.
use Rattle.std.proofs.Common.{◌≡◌, inl, inr, ◌<◌, ℕ, Bool, true, false, cond, not, ◌&&◌, ◌||◌, ◌==◌, List, [], ◌∷◌, ◌++◌, map, Option, None, refl, sym, ap, ◌∙◌, subst}
use Rattle.std.specs.Prelude.{filter}
use Rattle.std.specs.Option.{option_or}
use Rattle.std.proofs.lemmas.Bool.{true≢false, eqb-true, eq-eqb}
use Rattle.om_isa.specs.declared.instr.Instr.{Instr}
use Rattle.om_value.specs.declared.value.Place.{Place}
use Rattle.om_value.specs.declared.value.Target.{Target}
use Rattle.om_value.specs.Same.{place_eq}
use Rattle.om_prog.specs.Act.{Act, AddrHi, UseLo, Word, act_reads, act_writes}
use Rattle.om_prog.specs.Flow.{Among}
use Rattle.om_prog.specs.Facts.{has}
use Rattle.om_graph.specs.declared.op.Op.{Op}
use Rattle.om_graph.specs.declared.op.OpKind.{OpKind}
use Rattle.om_graph.specs.declared.op.OpKind.TheVariants as op
use Rattle.om_graph.specs.View.{Node, Block, GraphView, Has, ops_of, is_node, delete_in, deleted}
use Rattle.om_graph.specs.Held.{IsGraph}
use Rattle.om_graph.specs.Run.{block_words, all_words, last_words, op_act, op_word, target_at, high_target}
use Rattle.om_graph.specs.Form.{InForm, InPlace, Ordered}
use Rattle.om_graph.specs.Checks.{MaskChecked, AreOuts, live_in}
use Rattle.om_prog.specs.View.{ProgramView}
use Rattle.om_graph.specs.Fits.{HighUseFits, OpFits, OpsFit}
use Rattle.om_graph.specs.Uses.{Between, IsLocalUse, NoneWrites}
use Rattle.om_graph.proofs.Labels.{same_place, append_left, append_right, in_all}
use Rattle.om_graph.proofs.Places.{placed}
use Rattle.om_graph.proofs.Itself.{unique, all_ordered}
use Rattle.om_checks.specs.Steps.{KeepsTargets, IsDeadHere, node_words, OpAt}
use Rattle.om_checks.proofs.Edges.{of_map}
use Rattle.om_checks.proofs.Edits.{left_nodes, to_map, mask_deleted}
use Rattle.om_checks.proofs.ToldAt.{one_split, words_assoc, mid_has, one_block}
use Rattle.om_checks.proofs.Single.{only, dead_nodes}

-- ---- registers of a list

has_among : (rs : List ℕ) (r : ℕ) → has rs r ≡ true → Among rs r
has_among [] r h = absurd (true≢false (sym h))
has_among (x ∷ rs) r h = by_test (x == r) refl h (has_among rs r)
  where
    by_test : (b : Bool) → (x == r) ≡ b → (b || has rs r) ≡ true → (has rs r ≡ true → Among rs r) → Among (x ∷ rs) r
    by_test true e h i = inl (eqb-true x r e)
    by_test false e h i = inr (i h)

among_has : (rs : List ℕ) (r : ℕ) → Among rs r → has rs r ≡ true
among_has [] r h = absurd h
among_has (x ∷ rs) r (inl e) = let t = eq-eqb x r e in rw t refl
among_has (x ∷ rs) r (inr h) = by_test (x == r) (among_has rs r h)
  where
    by_test : (b : Bool) → has rs r ≡ true → (b || has rs r) ≡ true
    by_test true i = refl
    by_test false i = i

-- ---- what is read behind words that do not write it is live in front of them

read_live : (mid after : List Word) (user : Word) (out : ℕ → Bool) (r : ℕ) → NoneWrites r mid → Among (act_reads user.act) r → live_in (mid ++ user ∷ after) out r ≡ true
read_live [] after user out r n h = ap (λ (b : Bool). b || (not (has (act_writes user.act) r) && live_in after out r)) (among_has (act_reads user.act) r h)
read_live (w ∷ mid) after user out r n h = by_test (has (act_reads w.act) r) (has (act_writes w.act) r) refl (read_live mid after user out r (λ x m. n x (inr m)) h)
  where
    by_test : (a b : Bool) → has (act_writes w.act) r ≡ b → live_in (mid ++ user ∷ after) out r ≡ true → (a || (not b && live_in (mid ++ user ∷ after) out r)) ≡ true
    by_test true b e i = refl
    by_test false true e i = absurd (n w (inl refl) (has_among (act_writes w.act) r e))
    by_test false false e i = i

same_rest : (xs ys zs us : List Word) (w : Word) → xs ++ w ∷ ys ≡ zs ++ w ∷ us → Ordered (xs ++ w ∷ ys) → ys ≡ us
same_rest xs ys zs us w e o = tail xs ys us (e ∙ ap (λ (l : List Word). l ++ w ∷ us) (sym (one_split xs ys zs us w e o)))
  where
    tail : (xs ys us : List Word) → xs ++ w ∷ ys ≡ xs ++ w ∷ us → ys ≡ us
    tail [] ys us e = cc
    tail (x ∷ xs) ys us e = tail xs ys us (cc)

-- a word with a later local use is not dead
used_not_dead :
    (ws before behind : List Word) (def user : Word) (out : ℕ → Bool) (r : ℕ) → Ordered ws → ws ≡ before ++ def ∷ behind → r < 31 → IsLocalUse ws def user r →
    IsDeadHere behind out def → ⊥
used_not_dead ws before behind def user out r o s l u dead =
    let a : before ++ def ∷ behind ≡ u.stands.0 ++ (def ∷ (u.mid ++ user ∷ u.stands.1)) = sym s ∙ u.stands.2 ∙ words_assoc u.stands.0 (def ∷ u.mid) (user ∷ u.stands.1) in
    let rest = same_rest before behind u.stands.0 (u.mid ++ user ∷ u.stands.1) def a (subst (λ (l : List Word). Ordered l) s o) in
    let live : live_in behind out r ≡ true = ap (λ (l : List Word). live_in l out r) rest ∙ read_live u.mid u.stands.1 user out r u.unwritten u.reads in
    true≢false (sym live ∙ dead r l (among_has (act_writes def.act) r u.writes))

-- ---- targets

-- where no node of the id is a load at a place that became LDAH, that place's target stays
targets_kept :
    (id : ℕ) (ns : List Node) (hi : Place) → ((n : Node) → Has ns n → n.id ≡ id → n.op.place ≡ hi → ⊥) →
    target_at (map (λ n. n.op) (filter (λ n. not (is_node id n)) ns)) hi ≡ target_at (map (λ n. n.op) ns) hi
targets_kept id [] hi h = refl
targets_kept id (n ∷ ns) hi h = by_id (n.id == id) refl (targets_kept id ns hi (λ m k e. h m (inr k) e))
  where
    none : (t : Bool) → place_eq n.op.place hi ≡ t → n.id ≡ id → cond (place_eq n.op.place hi) (high_target n.op.kind) None ≡ None
    none true e i = absurd (h n (inl refl) i (same_place n.op.place hi e))
    none false e i = ap (λ (b : Bool). cond b (high_target n.op.kind) None) e

    by_id :
        (t : Bool) → (n.id == id) ≡ t → target_at (map (λ n. n.op) (filter (λ n. not (is_node id n)) ns)) hi ≡ target_at (map (λ n. n.op) ns) hi →
        target_at (map (λ n. n.op) (cond (not t) (n ∷ filter (λ n. not (is_node id n)) ns) (filter (λ n. not (is_node id n)) ns))) hi ≡ target_at (map (λ n. n.op) (n ∷ ns)) hi
    by_id true e i = i ∙ ap (λ (x : Option Target). option_or x (target_at (map (λ n. n.op) ns) hi)) (sym (none (place_eq n.op.place hi) refl (eqb-true _ _ e)))
    by_id false e i = ap (λ (x : Option Target). option_or (cond (place_eq n.op.place hi) (high_target n.op.kind) None) x) i

left_has : (id : ℕ) (ns : List Node) (n : Node) → Has (left_nodes id ns) n → Has ns n
left_has id [] n h = h
left_has id (x ∷ ns) n h = by_id (x.id == id) h (left_has id ns n)
  where
    by_id : (t : Bool) → Has (cond (not t) (x ∷ left_nodes id ns) (left_nodes id ns)) n → (Has (left_nodes id ns) n → Has ns n) → Has (x ∷ ns) n
    by_id true h i = inr (i h)
    by_id false (inl e) i = inl e
    by_id false (inr h) i = inr (i h)

-- ---- a dead LDAH

-- each use of a high half is a local use of the op that gives it
pub UsesAreLocal : GraphView → Type 0
UsesAreLocal g =
    (b : Block) (o : Op) (i : Instr) (hi : Place) → Has g.blocks b → Has (ops_of b) o → o.kind ≡ op.UseLo i hi → (ra rb : ℕ) (t : Target) → Has (block_words b) (record { at = hi; act = AddrHi ra rb t }) →
    IsLocalUse (block_words b) (record { at = hi; act = AddrHi ra rb t }) (record { at = o.place; act = UseLo i hi t }) ra

pub mask_high_deleted :
    (masks outs : Place → ℕ → Bool) (g : GraphView) (graph : IsGraph g) (b : Block) (n : Node) (at : OpAt g b n) → InForm (deleted g n.id) → AreOuts masks outs g → ((x : Block) → Has g.blocks x → Ordered (block_words x)) →
    UsesAreLocal g → ((x : Block) (o : Op) (i : Instr) → Has g.blocks x → Has (ops_of x) o → o.kind ≡ op.UseLo i n.op.place → x ≡ b) →
    (ra rb : ℕ) (t : Target) → op_act (ops_of b) n.op.kind ≡ AddrHi ra rb t → ra < 31 → IsDeadHere (node_words (ops_of b) at.behind ++ last_words b.last) (outs b.label) (op_word (ops_of b) n.op) →
    MaskChecked masks g → MaskChecked masks (deleted g n.id)
unfolding UsesAreLocal
mask_high_deleted masks outs g graph b n at form are ordered local home ra rb t is small dead checked =
    mask_deleted masks outs g n.id form are targets (dead_nodes g graph b n at outs dead) checked
  where
    words_append : (os : List Op) (xs ys : List Node) → node_words os (xs ++ ys) ≡ node_words os xs ++ node_words os ys
    words_append os [] ys = refl
    words_append os (x ∷ xs) ys = ap (λ (l : List Word). op_word os x.op ∷ l) (words_append os xs ys)

    split : block_words b ≡ node_words (ops_of b) at.before ++ op_word (ops_of b) n.op ∷ (node_words (ops_of b) at.behind ++ last_words b.last)
    split =
        ap (λ (ns : List Node). node_words (ops_of b) ns ++ last_words b.last) at.ops
        ∙ ap (λ (l : List Word). l ++ last_words b.last) (words_append (ops_of b) at.before (n ∷ at.behind))
        ∙ words_assoc (node_words (ops_of b) at.before) (op_word (ops_of b) n.op ∷ node_words (ops_of b) at.behind) (last_words b.last)

    def : Word
    def = record { at = n.op.place; act = AddrHi ra rb t }

    same : op_word (ops_of b) n.op ≡ record { at = n.op.place; act = AddrHi ra rb t }
    same = ap (λ (a : Act). record { at = n.op.place; act = a }) is

    unused : (x : Block) (o : Op) (i : Instr) → Has g.blocks x → Has (ops_of x) o → o.kind ≡ op.UseLo i n.op.place → ⊥
    unused x o i hx ho k =
        let h = home x o i hx ho k in
        let ho' = subst (λ (y : Block). Has (ops_of y) o) h ho in
        let s : block_words b ≡ node_words (ops_of b) at.before ++ record { at = n.op.place; act = AddrHi ra rb t } ∷ (node_words (ops_of b) at.behind ++ last_words b.last) =
        split ∙ ap (λ (w : Word). node_words (ops_of b) at.before ++ w ∷ (node_words (ops_of b) at.behind ++ last_words b.last)) same in
        let w : Word = record { at = n.op.place; act = AddrHi ra rb t } in
        let there : Has (block_words b) w = subst (λ (ws : List Word). Has ws w) (sym s) (mid_has (node_words (ops_of b) at.before) (node_words (ops_of b) at.behind ++ last_words b.last) w) in
        used_not_dead (block_words b) (node_words (ops_of b) at.before) (node_words (ops_of b) at.behind ++ last_words b.last) w (record { at = o.place; act = UseLo i n.op.place t }) (outs b.label) ra
        (ordered b at.among) s small (local b o i n.op.place at.among ho' k ra rb t there) (subst (λ (v : Word). IsDeadHere (node_words (ops_of b) at.behind ++ last_words b.last) (outs b.label) v) same dead)

    targets : (x : Block) → Has g.blocks x → KeepsTargets x (delete_in n.id x)
    targets x hx o i hi m e =
        targets_kept n.id x.ops hi
        (λ y hy q at.
        let k = of_map (λ n. n.op) (left_nodes n.id x.ops) o m in
        let ho = subst (λ (z : Op). Has (ops_of x) z) k.2 (to_map (λ n. n.op) x.ops k.0 (left_has n.id x.ops k.0 k.1)) in
        let s = only g graph b n at0 x y hx hy q in
        unused x o i hx ho (e ∙ ap (λ (z : Place). op.UseLo i z) (sym at ∙ ap (λ (z : Node). z.op.place) s.1)))
      where
        at0 : OpAt g b n
        at0 = at

pub node_there : (g : GraphView) (b : Block) (n : Node) → OpAt g b n → Has (ops_of b) n.op
node_there g b n at = to_map (λ n. n.op) b.ops n (subst (λ (ns : List Node). Has ns n) (sym at.ops) (there at.before))
  where
    there : (xs : List Node) → Has (xs ++ n ∷ at.behind) n
    there [] = inl refl
    there (x ∷ xs) = inr (there xs)

-- ---- where address words fit

high_same : (a b c e : ℕ) (t u : Target) → AddrHi a b t ≡ AddrHi c e u → (a ≡ c) × (t ≡ u)
high_same a b c e t u h = (cc, cc)

between_has : (ws mid : List Word) (a z : Word) → Between ws a mid z → Has ws a
between_has ws mid a z s = subst (λ (l : List Word). Has l a) (sym s.2) (append_left (s.0 ++ a ∷ mid) (z ∷ s.1) a (append_right s.0 (a ∷ mid) a (inl refl)))

module _ (p : ProgramView) (gp : ℕ → ℕ) (address : Target → ℕ) (g : GraphView) (fit : OpsFit p gp address g) where
  high_use : (b : Block) (o : Op) (i : Instr) (hi : Place) → Has g.blocks b → Has (ops_of b) o → o.kind ≡ op.UseLo i hi → HighUseFits p gp address b o.place i hi
  high_use b o i hi hb ho k = subst (λ (x : OpKind). OpFits p gp address b o.place x) k (fit.ops b o hb ho)

  pub fits_local : ((b : Block) → Has g.blocks b → Ordered (block_words b)) → UsesAreLocal g
  unfolding UsesAreLocal
  fits_local ordered b o i hi hb ho k ra rb t m = by_use (high_use b o i hi hb ho k)
    where
      by_use : HighUseFits p gp address b o.place i hi → IsLocalUse (block_words b) (record { at = hi; act = AddrHi ra rb t }) (record { at = o.place; act = UseLo i hi t }) ra
      by_use f =
          let d : Word = record { at = hi; act = AddrHi f.ra f.rb f.target } in
          let w : Word = record { at = hi; act = AddrHi ra rb t } in
          let same : d ≡ w = unique (block_words b) w d (ordered b hb) m (between_has (block_words b) f.used.mid d _ f.used.stands) refl in
          let z = high_same f.ra f.rb ra rb f.target t (ap (λ (y : Word). y.act) same) in
          let r = z.0 in
          let x = z.1 in
          subst (λ (y : Target). IsLocalUse (block_words b) w (record { at = o.place; act = UseLo i hi y }) ra) x
          (subst (λ (q : ℕ). IsLocalUse (block_words b) w (record { at = o.place; act = UseLo i hi f.target }) q) r
          (subst (λ (y : Word). IsLocalUse (block_words b) y (record { at = o.place; act = UseLo i hi f.target }) f.ra) same f.used))

  -- the block of a use is that of its load
  pub fits_home : IsGraph g → InForm g → InPlace g → (b x : Block) (n o : Op) (i : Instr) → Has g.blocks b → Has (ops_of b) n → Has g.blocks x → Has (ops_of x) o → o.kind ≡ op.UseLo i n.place → x ≡ b
  fits_home graph form places b x n o i hb hn hx ho k = by_use (high_use x o i n.place hx ho k)
    where
      word_in : (b : Block) (n : Op) → Has (ops_of b) n → Has (block_words b) (op_word (ops_of b) n)
      word_in b n h = append_left (map (op_word (ops_of b)) (ops_of b)) (last_words b.last) (op_word (ops_of b) n) (to_map (op_word (ops_of b)) (ops_of b) n h)

      by_use : HighUseFits p gp address x o.place i n.place → x ≡ b
      by_use f =
          let u = word_in x (record { place = n.place; kind = op.AddrHi f.ra f.rb f.target f.least }) f.load in
          let v = word_in b n hn in
          let same =
          unique (all_words g.blocks) (op_word (ops_of x) (record { place = n.place; kind = op.AddrHi f.ra f.rb f.target f.least })) (op_word (ops_of b) n) (all_ordered g.blocks (placed g graph form places))
          (in_all g.blocks x _ hx u) (in_all g.blocks b _ hb v) refl in
          one_block g graph places x b _ hx hb u (subst (λ (w : Word). Has (block_words b) w) same v)
