-- What may be read from the ends of blocks on is as it was, where a load becomes LDAH with its uses: none of these words names a
-- place or jumps.
use Rattle.std.proofs.Common.{◌≡◌, ◌⊎◌, inl, inr, ℕ, Bool, true, false, cond, not, ◌&&◌, ◌||◌, ◌==◌, List, [], ◌∷◌, ◌++◌, map, Option, Some, None, refl, sym, ap, ◌∙◌, subst}
use Rattle.std.specs.Prelude.{ℤ, flat_map}
use Rattle.std.specs.List.{list_any}
use Rattle.std.proofs.lemmas.Bool.{true≢false, eqb-true, eq-eqb}
use Rattle.om_isa.specs.declared.instr.Instr.{Instr}
use Rattle.om_isa.specs.declared.instr.Instr.TheVariants.{Mem, Jump, Branch, Alu, Cmov, Misc, Fnop, Halt, Callsys}
use Rattle.om_value.specs.declared.value.Place.{Place}
use Rattle.om_value.specs.declared.value.Target.{Target}
use Rattle.om_value.specs.declared.value.Target.TheVariants as target
use Rattle.om_value.specs.Same.{place_eq}
use Rattle.om_prog.specs.Act as act
use Rattle.om_prog.specs.Act.{Act, Word}
use Rattle.om_prog.specs.Step.{next_place}
use Rattle.om_graph.specs.declared.op.Op.{Op}
use Rattle.om_graph.specs.declared.op.OpKind.{OpKind}
use Rattle.om_graph.specs.declared.op.OpKind.TheVariants as op
use Rattle.om_graph.specs.View.{Node, Block, GraphView, Has, ops_of, is_node, kind_set, replace_in, replaced}
use Rattle.om_graph.specs.Held.{IsGraph, node_ids, op_ids}
use Rattle.om_graph.specs.Run.{op_act, op_word, block_words, last_words, use_of, target_at, words}
use Rattle.om_graph.specs.Outs.{loads_code, act_links, names_landing, is_named, act_goes, last_goes, falls_on, are_next, enters, outs_of}
use Rattle.om_blocks.specs.Found.{masks_in}
use Rattle.om_passes.specs.Replaces.{OpEdit, all_replaced}
use Rattle.om_blocks.proofs.Walking.{apart_in}
use Rattle.om_checks.proofs.Closed.{one_home}
use Rattle.om_uses.proofs.LocalUses.{same_node}
use Rattle.om_addr.specs.declared.loads.Load.{Load}
use Rattle.om_addr.specs.Loads.{load_kind, HasPointer}
use Rattle.om_addr.specs.Near.{is_base_use}
use Rattle.om_addr.specs.FarRow.{edit_if, edits_of}
use Rattle.om_addr.specs.FarTest.{half_kind, writes_it}
use Rattle.om_addr.specs.FarEdit.{half_of, IsFarEdit}
use Rattle.om_addr.proofs.OpOnce.{masks_set}

-- ---- words that name no place and do not jump

pub record IsQuiet (a : Act) : Type 0 where
  pub goes : (named : Bool) (q : Place) → act_goes named q a ≡ false
  pub code : (q : Place) → loads_code q a ≡ false
  pub links : act_links a ≡ false

abbrev pub IsQuietKind : OpKind → Type 0
IsQuietKind k = (os : List Op) → IsQuiet (op_act os k)

quiet_use : (i : Instr) (hi : Place) (o : Option Target) → IsQuiet (use_of i hi o)
quiet_use i hi None = record { goes = λ n q. refl; code = λ q. refl; links = refl }
quiet_use i hi (Some t) = record { goes = λ n q. refl; code = λ q. refl; links = refl }

quiet_half : (i : Instr) (hi : Place) → IsQuietKind (op.UseLo i hi)
quiet_half i hi os = quiet_use i hi (target_at os hi)

quiet_high : (ra rb : ℕ) (t : Target) (z : ℤ) → IsQuietKind (op.AddrHi ra rb t z)
quiet_high ra rb t z os = record { goes = λ n q. refl; code = λ q. refl; links = refl }

quiet_base : (r : ℕ) (i : Instr) → is_base_use r i ≡ true → IsQuietKind (op.Plain i)
quiet_base r (Mem o ra rb d) e = λ os. record { goes = λ n q. refl; code = λ q. refl; links = refl }
quiet_base r (Jump k ra rb h) e = cc
quiet_base r (Branch o ra d) e = cc
quiet_base r (Alu o ra rb rc) e = cc
quiet_base r (Cmov k ra rb rc) e = cc
quiet_base r (Misc o ra rb) e = cc
quiet_base r Fnop e = cc
quiet_base r Halt e = cc
quiet_base r Callsys e = cc

quiet_load : (l : Load) → HasPointer l → IsQuietKind (load_kind l)
quiet_load l p os = by_slot l.from_slot
  where
    by_slot : (s : Bool) → IsQuiet (op_act os (cond s (op.Lit l.ra l.rb l.target) (op.AddrLda l.ra l.rb l.target)))
    by_slot true = subst (λ (t : Target). IsQuiet (act.Lit l.ra l.rb t)) (sym p.is) (record { goes = λ n q. refl; code = λ q. refl; links = refl })
    by_slot false = record { goes = λ n q. refl; code = λ q. refl; links = refl }

-- ---- two acts that name the same and go to the same places

record Same (a z : Act) : Type 0 where
  goes : (named : Bool) (q : Place) → act_goes named q z ≡ act_goes named q a
  code : (q : Place) → loads_code q z ≡ loads_code q a
  links : act_links z ≡ act_links a

same_quiet : (a z : Act) → IsQuiet a → IsQuiet z → Same a z
same_quiet a z x y = record { goes = λ n q. y.goes n q ∙ sym (x.goes n q); code = λ q. y.code q ∙ sym (x.code q); links = y.links ∙ sym x.links }

-- over other ops of its block
same_over : (os us : List Op) (k : OpKind) → Same (op_act os k) (op_act us k)
same_over os us (op.Plain i) = record { goes = λ n q. refl; code = λ q. refl; links = refl }
same_over os us (op.Lit ra rb t) = record { goes = λ n q. refl; code = λ q. refl; links = refl }
same_over os us (op.AddrLda ra rb t) = record { goes = λ n q. refl; code = λ q. refl; links = refl }
same_over os us (op.AddrHi ra rb t z) = record { goes = λ n q. refl; code = λ q. refl; links = refl }
same_over os us (op.UseLo i hi) = same_quiet (use_of i hi (target_at os hi)) (use_of i hi (target_at us hi)) (quiet_use i hi (target_at os hi)) (quiet_use i hi (target_at us hi))
same_over os us (op.UseGp i gp t) = record { goes = λ n q. refl; code = λ q. refl; links = refl }
same_over os us (op.GpHi ra rb base) = record { goes = λ n q. refl; code = λ q. refl; links = refl }
same_over os us (op.GpLo ra rb hi) = record { goes = λ n q. refl; code = λ q. refl; links = refl }

same_names : (at q : Place) (a z : Act) → Same a z → names_landing q (record { at = at; act = z }) ≡ names_landing q (record { at = at; act = a })
same_names at q a z s = ap (λ (b : Bool). b || (act_links z && place_eq (next_place at) q)) (s.code q) ∙ ap (λ (b : Bool). loads_code q a || (b && place_eq (next_place at) q)) s.links

-- ---- one op given another kind

module _ (id : ℕ) (kind : OpKind) (quiet : IsQuietKind kind) where
  abbrev set : Node → Node
  set = kind_set id kind

  node_same : (os us : List Op) (n : Node) → (n.id ≡ id → IsQuietKind n.op.kind) → Same (op_act os n.op.kind) (op_act us (set n).op.kind)
  node_same os us n was = by_test (n.id == id) refl
    where
      by_test : (t : Bool) → (n.id == id) ≡ t → Same (op_act os n.op.kind) (op_act us (cond t (record n { op = record (n.op) { kind = kind } }) n).op.kind)
      by_test true e = same_quiet (op_act os n.op.kind) (op_act us kind) (was (eqb-true n.id id e) os) (quiet us)
      by_test false e = same_over os us n.op.kind

  place_same : (n : Node) → (set n).op.place ≡ n.op.place
  place_same n = by_test (n.id == id)
    where
      by_test : (t : Bool) → (cond t (record n { op = record (n.op) { kind = kind } }) n).op.place ≡ n.op.place
      by_test true = refl
      by_test false = refl

  abbrev WasQuiet : List Node → Type 0
  WasQuiet ns = (n : Node) → Has ns n → n.id ≡ id → IsQuietKind n.op.kind

  names_same : (os us : List Op) (q : Place) (ns : List Node) (ws vs : List Word) → WasQuiet ns → list_any (names_landing q) vs ≡ list_any (names_landing q) ws →
      list_any (names_landing q) (map (op_word us) (map (λ (n : Node). n.op) (map set ns)) ++ vs) ≡ list_any (names_landing q) (map (op_word os) (map (λ (n : Node). n.op) ns) ++ ws)
  names_same os us q [] ws vs was e = e
  names_same os us q (n ∷ ns) ws vs was e =
      let s = node_same os us n (was n (inl refl)) in
      let again = names_same os us q ns ws vs (λ m h. was m (inr h)) e in
      let one : names_landing q (op_word us (set n).op) ≡ names_landing q (op_word os n.op) =
      ap (λ (at : Place). names_landing q (record { at = at; act = op_act us (set n).op.kind })) (place_same n) ∙ same_names n.op.place q (op_act os n.op.kind) (op_act us (set n).op.kind) s in
      rw (one, again) refl

  goes_same : (os us : List Op) (named : Bool) (q : Place) (ns : List Node) (ws : List Word) → WasQuiet ns →
      last_goes named q (map (op_word us) (map (λ (n : Node). n.op) (map set ns)) ++ ws) ≡ last_goes named q (map (op_word os) (map (λ (n : Node). n.op) ns) ++ ws)
  goes_same os us named q [] ws was = refl
  goes_same os us named q (n ∷ []) [] was = (node_same os us n (was n (inl refl))).goes named q
  goes_same os us named q (n ∷ []) (w ∷ ws) was = refl
  goes_same os us named q (n ∷ m ∷ ns) ws was = goes_same os us named q (m ∷ ns) ws (λ y h. was y (inr h))

  block_names : (q : Place) (b : Block) (ws vs : List Word) → WasQuiet b.ops → list_any (names_landing q) vs ≡ list_any (names_landing q) ws →
      list_any (names_landing q) (block_words (replace_in id kind b) ++ vs) ≡ list_any (names_landing q) (block_words b ++ ws)
  block_names q b ws vs was e =
      ap (list_any (names_landing q)) (over (map (op_word us) (map (λ (n : Node). n.op) (map set b.ops))) (last_words b.last) vs)
      ∙ names_same (ops_of b) us q b.ops (last_words b.last ++ ws) (last_words b.last ++ vs) was (behind (last_words b.last))
      ∙ sym (ap (list_any (names_landing q)) (over (map (op_word (ops_of b)) (ops_of b)) (last_words b.last) ws))
    where
      us : List Op
      us = ops_of (replace_in id kind b)

      over : (xs ys zs : List Word) → (xs ++ ys) ++ zs ≡ xs ++ (ys ++ zs)
      over [] ys zs = refl
      over (x ∷ xs) ys zs = ap (λ (l : List Word). x ∷ l) (over xs ys zs)

      behind : (ls : List Word) → list_any (names_landing q) (ls ++ vs) ≡ list_any (names_landing q) (ls ++ ws)
      behind [] = e
      behind (w ∷ ls) = ap (λ (b : Bool). names_landing q w || b) (behind ls)

  words_names : (q : Place) (bs : List Block) → ((b : Block) → Has bs b → WasQuiet b.ops) → list_any (names_landing q) (flat_map block_words (map (replace_in id kind) bs)) ≡ list_any (names_landing q) (flat_map block_words bs)
  words_names q [] was = refl
  words_names q (b ∷ bs) was = block_names q b (flat_map block_words bs) (flat_map block_words (map (replace_in id kind) bs)) (was b (inl refl)) (words_names q bs (λ c h. was c (inr h)))

  next_same : (bs : List Block) (p q : Place) → are_next (map (replace_in id kind) bs) p q ≡ are_next bs p q
  next_same [] p q = refl
  next_same (b ∷ []) p q = refl
  next_same (b ∷ n ∷ bs) p q = ap (λ (t : Bool). (place_eq b.label p && place_eq n.label q) || t) (next_same (n ∷ bs) p q)

  module _ (g : GraphView) (was : (b : Block) → Has g.blocks b → WasQuiet b.ops) where
    named_same : (q : Place) → is_named (replaced g id kind) q ≡ is_named g q
    named_same q = ap (λ (t : Bool). list_any (λ (r : Place). place_eq r q) g.roots || t) (words_names q g.blocks was)

    enters_same : (b n : Block) → Has g.blocks b → enters (replaced g id kind) (replace_in id kind b) (replace_in id kind n) ≡ enters g b n
    enters_same b n h =
        ap (λ (t : Bool). (t && (n.label.obj == b.label.obj) && falls_on b.last) || last_goes (is_named (replaced g id kind) n.label) n.label (block_words (replace_in id kind b))) (next_same g.blocks b.label n.label)
        ∙ ap (λ (t : Bool). (are_next g.blocks b.label n.label && (n.label.obj == b.label.obj) && falls_on b.last) || last_goes t n.label (block_words (replace_in id kind b))) (named_same n.label)
        ∙ ap (λ (t : Bool). (are_next g.blocks b.label n.label && (n.label.obj == b.label.obj) && falls_on b.last) || t)
        (goes_same (ops_of b) (ops_of (replace_in id kind b)) (is_named g n.label) n.label b.ops (last_words b.last) (was b h))

    any_map : (p r : Block → Bool) (bs : List Block) → ((b : Block) → Has bs b → p (replace_in id kind b) ≡ r b) → list_any p (map (replace_in id kind) bs) ≡ list_any r bs
    any_map p r [] e = refl
    any_map p r (b ∷ bs) e = let s = e b (inl refl) in let t = any_map p r bs (λ c h. e c (inr h)) in rw (s, t) refl

    outs_one : (masks others : Place → ℕ → Bool) → ((q : Place) (r : ℕ) → others q r ≡ masks q r) → (label : Place) (r : ℕ) → outs_of (replaced g id kind) others label r ≡ outs_of g masks label r
    outs_one masks others same label r =
        any_map (λ (b : Block). place_eq b.label label && list_any (λ (n : Block). enters (replaced g id kind) b n && others n.label r) (replaced g id kind).blocks)
        (λ (b : Block). place_eq b.label label && list_any (λ (n : Block). enters g b n && masks n.label r) g.blocks) g.blocks
        (λ b h. ap (λ (t : Bool). place_eq b.label label && t)
        (any_map (λ (n : Block). enters (replaced g id kind) (replace_in id kind b) n && others n.label r) (λ (n : Block). enters g b n && masks n.label r) g.blocks
        (λ n k. ap (λ (t : Bool). t && others n.label r) (enters_same b n h) ∙ ap (λ (t : Bool). enters g b n && t) (same n.label r))))

-- ---- several in a row

-- an op of an id is quiet, wherever it stands
abbrev pub QuietAt : GraphView → ℕ → Type 0
QuietAt g id = (b : Block) (n : Node) → Has g.blocks b → Has b.ops n → n.id ≡ id → IsQuietKind n.op.kind

quiet_set : (g : GraphView) (id j : ℕ) (kind : OpKind) → IsQuietKind kind → QuietAt g id → QuietAt (replaced g j kind) id
quiet_set g id j kind quiet was b n h k e = by_block g.blocks h (λ c d. d)
  where
    by_node : (c : Block) (ns : List Node) → Has g.blocks c → Has (map (kind_set j kind) ns) n → ((m : Node) → Has ns m → Has c.ops m) → IsQuietKind n.op.kind
    by_node c [] hc l into = absurd l
    by_node c (m ∷ ns) hc (inl s) into = subst (λ (y : Node). IsQuietKind y.op.kind) s (by_test (m.id == j) refl)
      where
        id_is : (t : Bool) → (cond t (record m { op = record (m.op) { kind = kind } }) m).id ≡ m.id
        id_is true = refl
        id_is false = refl

        by_test : (t : Bool) → (m.id == j) ≡ t → IsQuietKind (cond t (record m { op = record (m.op) { kind = kind } }) m).op.kind
        by_test true f = quiet
        by_test false f = was c m hc (into m (inl refl)) (sym (id_is (m.id == j)) ∙ ap (λ (y : Node). y.id) s ∙ e)
    by_node c (m ∷ ns) hc (inr l) into = by_node c ns hc l (λ y d. into y (inr d))

    by_block : (bs : List Block) → Has (map (replace_in j kind) bs) b → ((c : Block) → Has bs c → Has g.blocks c) → IsQuietKind n.op.kind
    by_block [] l into = absurd l
    by_block (c ∷ bs) (inl s) into = by_node c c.ops (into c (inl refl)) (subst (λ (y : Block). Has y.ops n) (sym s) k) (λ m d. d)
    by_block (c ∷ bs) (inr l) into = by_block bs l (λ y d. into y (inr d))

-- each edit is of a quiet op, to a quiet one
abbrev pub AreQuiet : GraphView → List OpEdit → Type 0
AreQuiet g [] = Unit {0}
AreQuiet g (e ∷ es) = QuietAt g e.id × IsQuietKind e.kind × AreQuiet g es

still_quiet : (g : GraphView) (j : ℕ) (kind : OpKind) (es : List OpEdit) → IsQuietKind kind → AreQuiet g es → AreQuiet (replaced g j kind) es
still_quiet g j kind [] quiet are = are
still_quiet g j kind (e ∷ es) quiet are = (quiet_set g e.id j kind quiet are.0, are.1, still_quiet g j kind es quiet are.2)

pub outs_all :
    (g : GraphView) (es : List OpEdit) → AreQuiet g es → (masks : List ℕ) (label : Place) (r : ℕ) →
    outs_of (all_replaced g es) (masks_in (all_replaced g es) masks) label r ≡ outs_of g (masks_in g masks) label r
outs_all g [] are masks label r = refl
outs_all g (e ∷ es) are masks label r =
    outs_all (replaced g e.id e.kind) es (still_quiet g e.id e.kind es are.1 are.2) masks label r
    ∙ outs_one e.id e.kind are.1 g (λ b h n k i. are.0 b n h k i) (masks_in g masks) (masks_in (replaced g e.id e.kind) masks) (masks_set g masks e.id e.kind) label r

-- ---- a load made far

module _ (g new : GraphView) (graph : IsGraph g) (load : Load) (least : ℤ) (pointer : HasPointer load) (far : IsFarEdit load least g new) where
  node_there : (n : Node) → Has far.block.ops n → Has (node_ids far.block.ops) n.id
  node_there n h = id_there far.block.ops h
    where
      id_there : (ns : List Node) → Has ns n → Has (node_ids ns) n.id
      id_there [] h = absurd h
      id_there (m ∷ ns) (inl e) = inl (ap (λ (y : Node). y.id) e)
      id_there (m ∷ ns) (inr h) = inr (id_there ns h)

  -- the one op of its id
  only : (n : Node) → Has far.block.ops n → IsQuietKind n.op.kind → QuietAt g n.id
  only n h quiet b m hb hm e = subst (λ (y : Node). IsQuietKind y.op.kind) (sym same) quiet
    where
      id_there : (ns : List Node) → Has ns m → Has (node_ids ns) m.id
      id_there [] h = absurd h
      id_there (x ∷ ns) (inl e) = inl (ap (λ (y : Node). y.id) e)
      id_there (x ∷ ns) (inr h) = inr (id_there ns h)

      home : b ≡ far.block
      home = one_home g.blocks b far.block n.id graph.op_ids hb far.among (subst (λ (i : ℕ). Has (node_ids b.ops) i) e (id_there b.ops hm)) (node_there n h)

      same : m ≡ n
      same = same_node far.block.ops m n (apart_in g.blocks far.block graph.op_ids far.among) (subst (λ (y : Block). Has y.ops m) home hm) h e

  edits_quiet : (ns : List Node) → ((n : Node) → Has ns n → Has far.block.ops n) → (es : List OpEdit) → AreQuiet g es → AreQuiet g (edits_of (half_kind load.ra far.place) (writes_it load.ra) ns ++ es)
  edits_quiet [] into es are = are
  edits_quiet (n ∷ ns) into es are = by_kind (half_kind load.ra far.place n.op.kind) refl (by_end (writes_it load.ra n.op.kind) (edits_quiet ns (λ m h. into m (inr h)) es are))
    where
      by_end :
          (t : Bool) → AreQuiet g (edits_of (half_kind load.ra far.place) (writes_it load.ra) ns ++ es) →
          AreQuiet g (cond t [] (edits_of (half_kind load.ra far.place) (writes_it load.ra) ns) ++ es)
      by_end true again = are
      by_end false again = again

      some_kind : (a b : OpKind) → Some a ≡ Some b → a ≡ b
      some_kind a b e = cc

      quiet_of : (a k : OpKind) → half_kind load.ra far.place a ≡ Some k → IsQuietKind a × IsQuietKind k
      quiet_of (op.Plain i) k e = by_use (is_base_use load.ra i) refl e
        where
          by_use : (t : Bool) → is_base_use load.ra i ≡ t → cond t (Some (op.UseLo i far.place)) None ≡ Some k → IsQuietKind (op.Plain i) × IsQuietKind k
          by_use true f h = (quiet_base load.ra i f, subst (λ (z : OpKind). IsQuietKind z) (some_kind (op.UseLo i far.place) k h) (quiet_half i far.place))
          by_use false f h = cc
      quiet_of (op.Lit ra rb t) k e = cc
      quiet_of (op.AddrLda ra rb t) k e = cc
      quiet_of (op.AddrHi ra rb t z) k e = cc
      quiet_of (op.UseLo i q) k e = cc
      quiet_of (op.UseGp i gp t) k e = cc
      quiet_of (op.GpHi ra rb q) k e = cc
      quiet_of (op.GpLo ra rb q) k e = cc

      by_kind :
          (o : Option OpKind) → half_kind load.ra far.place n.op.kind ≡ o → AreQuiet g (cond (writes_it load.ra n.op.kind) [] (edits_of (half_kind load.ra far.place) (writes_it load.ra) ns) ++ es) →
          AreQuiet g (edit_if n.id o (cond (writes_it load.ra n.op.kind) [] (edits_of (half_kind load.ra far.place) (writes_it load.ra) ns)) ++ es)
      by_kind None e rest = rest
      by_kind (Some k) e rest = let q = quiet_of n.op.kind k e in (only n (into n (inl refl)) q.0, q.1, rest)

  pub far_outs : (masks : List ℕ) (label : Place) (r : ℕ) → outs_of new (masks_in new masks) label r ≡ outs_of g (masks_in g masks) label r
  far_outs masks label r =
      subst (λ (h : GraphView). outs_of h (masks_in h masks) label r ≡ outs_of g (masks_in g masks) label r) (sym far.set)
      (outs_all g (edits_of (half_kind load.ra far.place) (writes_it load.ra) far.behind ++ record { id = load.id; kind = half_of load least } ∷ []) are masks label r)
    where
      has_both_right : (xs : List Node) (n m : Node) (ys : List Node) → Has ys m → Has (xs ++ n ∷ ys) m
      has_both_right [] n m ys h = inr h
      has_both_right (x ∷ xs) n m ys h = inr (has_both_right xs n m ys h)

      here : (xs : List Node) (n : Node) (ys : List Node) → Has (xs ++ n ∷ ys) n
      here [] n ys = inl refl
      here (x ∷ xs) n ys = inr (here xs n ys)

      load_quiet : QuietAt g load.id
      load_quiet =
          subst (λ (i : ℕ). QuietAt g i) far.is_id
          (only far.node (subst (λ (ns : List Node). Has ns far.node) (sym far.stands) (here far.before far.node far.behind)) (subst (λ (o : Op). IsQuietKind o.kind) (sym far.is) (quiet_load load pointer)))

      are : AreQuiet g (edits_of (half_kind load.ra far.place) (writes_it load.ra) far.behind ++ record { id = load.id; kind = half_of load least } ∷ [])
      are = edits_quiet far.behind (λ m h. subst (λ (ns : List Node). Has ns m) (sym far.stands) (has_both_right far.before far.node m far.behind h)) (record { id = load.id; kind = half_of load least } ∷ [])
          (load_quiet, quiet_high load.ra load.rb load.target least, tt)
