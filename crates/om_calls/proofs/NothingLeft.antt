-- Where no closed pair among the ops of any block sets what r29 holds, none is left to drop.
use Rattle.std.proofs.Common.{◌≡◌, inl, inr, ℕ, true, false, List, [], ◌∷◌, ◌++◌, get_or, Option, Some, None, refl, sym, ap, ◌∙◌, subst}
use Rattle.std.proofs.lemmas.Bool.{true≢false}
use Rattle.om_isa.specs.declared.instr.Instr.{Instr}
use Rattle.om_isa.specs.declared.instr.Instr.TheVariants.{Mem, Jump as Jumps, Branch, Alu, Cmov, Misc, Fnop, Halt, Callsys}
use Rattle.om_value.specs.declared.value.Place.{Place}
use Rattle.om_value.specs.declared.value.Target.{Target}
use Rattle.om_prog.specs.Act as act
use Rattle.om_prog.specs.Act.{Word}
use Rattle.om_prog.specs.View.{ProgramView}
use Rattle.om_prog.specs.Facts as prog
use Rattle.om_prog.specs.Facts.{fact_behind, IsFact}
use Rattle.om_flow.specs.declared.parts.Fact.{Fact}
use Rattle.om_flow.specs.declared.parts.Fact.TheVariants.{Unknown}
use Rattle.om_graph.specs.declared.op.Op.{Op}
use Rattle.om_graph.specs.declared.op.OpKind.{OpKind}
use Rattle.om_graph.specs.declared.op.OpKind.TheVariants as op
use Rattle.om_graph.specs.declared.op.Last.{Last}
use Rattle.om_graph.specs.declared.op.Last.TheVariants.{Fall, Off, Br, Cond, Call, CallBy, JumpBy}
use Rattle.om_graph.specs.View.{Node, Block, GraphView, Has, ops_of}
use Rattle.om_graph.specs.Held.{IsGraph}
use Rattle.om_graph.specs.Run.{block_words, last_words, op_act, op_word, cond_act, use_of, target_at, rev_onto, table_of, graph_script}
use Rattle.om_graph.specs.Form.{is_address, Ordered}
use Rattle.om_graph.specs.Uses.{NoneReads, NoneWrites, IsClosedPair, IsTextsLast}
use Rattle.om_graph.specs.Left.{StandsIn, NoDrop, high_word}
use Rattle.om_blocks.specs.IsFlow.{HasFlow}
use Rattle.om_blocks.specs.Found.{seen, facts_in}
use Rattle.om_blocks.proofs.Walking.{found_here, assoc}
use Rattle.om_blocks.proofs.OfFlow.{known_fact}
use Rattle.om_gpfacts.proofs.Inside.{rev_rev, rev_split}
use Rattle.om_checks.specs.Steps.{node_words}
use Rattle.om_passes.proofs.KnownCalls.{fronts_same}
use Rattle.om_calls.specs.Pairs.{PairAt, NoneSetsSameIn}

-- ---- words of ops

last_plain : (l : Last) (w : Word) → Has (last_words l) w → is_address w.act ≡ false
last_plain Fall w h = absurd h
last_plain Off w h = absurd h
last_plain (Br at o ra to) w (inl e) = ap (λ (y : Word). is_address y.act) (sym e)
last_plain (Br at o ra to) w (inr h) = absurd h
last_plain (Call at o ra to) w (inl e) = ap (λ (y : Word). is_address y.act) (sym e)
last_plain (Call at o ra to) w (inr h) = absurd h
last_plain (CallBy at i) w (inl e) = ap (λ (y : Word). is_address y.act) (sym e)
last_plain (CallBy at i) w (inr h) = absurd h
last_plain (JumpBy at i) w (inl e) = ap (λ (y : Word). is_address y.act) (sym e)
last_plain (JumpBy at i) w (inr h) = absurd h
last_plain (Cond at i to) w (inl e) = ap (λ (y : Word). is_address y.act) (sym e) ∙ by_instr i
  where
    by_instr : (i : Instr) → is_address (cond_act i to) ≡ false
    by_instr (Branch o ra d) = refl
    by_instr (Mem o ra rb d) = refl
    by_instr (Jumps k ra rb y) = refl
    by_instr (Alu o ra rb rc) = refl
    by_instr (Cmov k ra rb rc) = refl
    by_instr (Misc o ra rb) = refl
    by_instr Fnop = refl
    by_instr Halt = refl
    by_instr Callsys = refl
last_plain (Cond at i to) w (inr h) = absurd h

high_kind : (ops : List Op) (k : OpKind) (ra rb : ℕ) (base : Place) → op_act ops k ≡ act.GpHi ra rb base → k ≡ op.GpHi ra rb base
high_kind ops (op.GpHi a b q) ra rb base e = let x : a ≡ ra = cc in let y : b ≡ rb = cc in let z : q ≡ base = cc in cc
high_kind ops (op.Plain i) ra rb base e = cc
high_kind ops (op.Lit a b z) ra rb base e = cc
high_kind ops (op.AddrLda a b z) ra rb base e = cc
high_kind ops (op.AddrHi a b z least) ra rb base e = cc
high_kind ops (op.UseLo i hi) ra rb base e = by_target (target_at ops hi) e
  where
    by_target : (z : Option Target) → use_of i hi z ≡ act.GpHi ra rb base → op.UseLo i hi ≡ op.GpHi ra rb base
    by_target None e = cc
    by_target (Some z) e = cc
high_kind ops (op.UseGp i gp z) ra rb base e = cc
high_kind ops (op.GpLo a b hi) ra rb base e = cc

low_kind : (ops : List Op) (k : OpKind) (ra rb : ℕ) (hi : Place) → op_act ops k ≡ act.GpLo ra rb hi → k ≡ op.GpLo ra rb hi
low_kind ops (op.GpLo a b q) ra rb hi e = let x : a ≡ ra = cc in let y : b ≡ rb = cc in let z : q ≡ hi = cc in cc
low_kind ops (op.Plain i) ra rb hi e = cc
low_kind ops (op.Lit a b z) ra rb hi e = cc
low_kind ops (op.AddrLda a b z) ra rb hi e = cc
low_kind ops (op.AddrHi a b z least) ra rb hi e = cc
low_kind ops (op.UseLo i q) ra rb hi e = by_target (target_at ops q) e
  where
    by_target : (z : Option Target) → use_of i q z ≡ act.GpLo ra rb hi → op.UseLo i q ≡ op.GpLo ra rb hi
    by_target None e = cc
    by_target (Some z) e = cc
low_kind ops (op.UseGp i gp z) ra rb hi e = cc
low_kind ops (op.GpHi a b base) ra rb hi e = cc

-- ---- the op of a word

record NodeSplit (os : List Op) (ns : List Node) (ls before : List Word) (w : Word) (rest : List Word) : Type 0 where
  xs : List Node
  node : Node
  ys : List Node
  split : ns ≡ xs ++ node ∷ ys
  before_is : node_words os xs ≡ before
  word_is : op_word os node.op ≡ w
  rest_is : node_words os ys ++ ls ≡ rest

has_mid : (xs : List Word) (y : Word) (ys : List Word) → Has (xs ++ y ∷ ys) y
has_mid [] y ys = inl refl
has_mid (x ∷ xs) y ys = inr (has_mid xs y ys)

node_split : (os : List Op) (ns : List Node) (ls before : List Word) (w : Word) (rest : List Word) → (Has ls w → ⊥) → node_words os ns ++ ls ≡ before ++ w ∷ rest → NodeSplit os ns ls before w rest
node_split os [] ls before w rest out e = absurd (out (subst (λ (l : List Word). Has l w) (sym e) (has_mid before w rest)))
node_split os (n ∷ ns) ls [] w rest out e =
    let a : op_word os n.op ≡ w = cc in
    let b : node_words os ns ++ ls ≡ rest = cc in
    record { xs = []; node = n; ys = ns; split = refl; before_is = refl; word_is = a; rest_is = b }
node_split os (n ∷ ns) ls (v ∷ before) w rest out e =
    let a : op_word os n.op ≡ v = cc in
    let b : node_words os ns ++ ls ≡ before ++ w ∷ rest = cc in
    one_more n v a (node_split os ns ls before w rest out b)
  where
    one_more : (n : Node) (v : Word) → op_word os n.op ≡ v → NodeSplit os ns ls before w rest → NodeSplit os (n ∷ ns) ls (v ∷ before) w rest
    one_more n v a r = record {
      xs = n ∷ r.xs;
      node = r.node;
      ys = r.ys;
      split = ap (λ (l : List Node). n ∷ l) r.split;
      before_is = ap (λ (l : List Word). op_word os n.op ∷ l) r.before_is ∙ ap (λ (y : Word). y ∷ before) a;
      word_is = r.word_is;
      rest_is = r.rest_is;
    }

-- ---- nothing is left

module _ (g : GraphView) (graph : IsGraph g) (flow : HasFlow g) (facts : List Fact) (none : (b : Block) → Has g.blocks b → NoneSetsSameIn g facts b.id) where
  module _ (p : ProgramView) (b : Block) (bf ws : List Word) (hi lo : Place) (h : IsClosedPair g b hi lo) (s : StandsIn g b bf (high_word hi h.rb h.base) ws) where
    abbrev os : List Op
    os = ops_of b

    abbrev high : Word
    high = high_word hi h.rb h.base

    abbrev low : Word
    low = record { at = lo; act = act.GpLo 29 29 hi }

    before : List Word
    before = h.stands.0

    after : List Word
    after = h.stands.1

    no_last : (w : Word) → is_address w.act ≡ true → Has (last_words b.last) w → ⊥
    no_last w t m = true≢false (sym t ∙ last_plain b.last w m)

    words : node_words os b.ops ++ last_words b.last ≡ h.stands.0 ++ high ∷ (h.mid ++ low ∷ h.stands.1)
    words = h.stands.2 ∙ assoc h.stands.0 (high ∷ h.mid) (low ∷ h.stands.1)

    first : NodeSplit os b.ops (last_words b.last) h.stands.0 high (h.mid ++ low ∷ h.stands.1)
    first = node_split os b.ops (last_words b.last) h.stands.0 high (h.mid ++ low ∷ h.stands.1) (no_last high refl) words

    second : NodeSplit os first.ys (last_words b.last) h.mid low h.stands.1
    second = node_split os first.ys (last_words b.last) h.mid low h.stands.1 (no_last low refl) first.rest_is

    high_place : first.node.op.place ≡ hi
    high_place = ap (λ (w : Word). w.at) first.word_is

    low_place : second.node.op.place ≡ lo
    low_place = ap (λ (w : Word). w.at) second.word_is

    pair : PairAt g b b.ops first.xs first.node second.xs second.node second.ys
    pair = record {
      waits = record {
        split = refl;
        rb = h.rb;
        base = h.base;
        is_high = high_kind os first.node.op.kind 29 h.rb h.base (ap (λ (w : Word). w.act) first.word_is);
        unread = subst (λ (l : List Word). NoneReads 29 l) (sym second.before_is) h.unread;
        unwritten = subst (λ (l : List Word). NoneWrites 29 l) (sym second.before_is) h.unwritten;
      };
      split = first.split ∙ ap (λ (l : List Node). first.xs ++ first.node ∷ l) second.split ∙ sym (assoc first.xs (first.node ∷ second.xs) (second.node ∷ second.ys));
      is_low = low_kind os second.node.op.kind 29 29 first.node.op.place (ap (λ (w : Word). w.act) second.word_is ∙ ap (λ (q : Place). act.GpLo 29 29 q) (sym high_place));
      high_stays = λ e. h.high_stays (subst (λ (q : Place). IsTextsLast g q) high_place e);
      low_stays = λ e. h.low_stays (subst (λ (q : Place). IsTextsLast g q) low_place e);
    }

    bf_is : bf ≡ rev_onto (node_words os first.xs) []
    bf_is =
        let e : rev_onto bf [] ++ high ∷ ws ≡ block_words b = sym (rev_split bf (high ∷ ws)) ∙ s.split in
        let f : rev_onto bf [] ≡ h.stands.0 = fronts_same (rev_onto bf []) h.stands.0 ws (h.mid ++ low ∷ h.stands.1) high (subst (λ (l : List Word). Ordered l) (sym e) (flow.places.ordered b s.among)) (e ∙ words) in
        sym (rev_rev bf []) ∙ ap (λ (l : List Word). rev_onto l []) (f ∙ sym first.before_is)

    no_pair : IsFact (fact_behind (graph_script p g) (facts_in g facts b.label) bf) (table_of g hi.obj) → ⊥
    no_pair fact =
        let c = graph_script p g in
        let here = (found_here g graph b b.id s.among refl).0 in
        let f : fact_behind c (facts_in g facts b.label) bf ≡ fact_behind c (seen (get_or facts b.id Unknown)) (rev_onto (node_words os first.xs) []) =
        ap (λ (x : prog.Fact). fact_behind c x bf) (known_fact g graph facts b s.among) ∙ ap (λ (l : List Word). fact_behind c (seen (get_or facts b.id Unknown)) l) bf_is in
        (none b s.among b here).none c first.xs second.xs second.ys first.node second.node (λ o. refl) pair
        (subst (λ (x : prog.Fact). IsFact x (table_of g first.node.op.place.obj)) f (subst (λ (q : Place). IsFact (fact_behind c (facts_in g facts b.label) bf) (table_of g q.obj)) (sym high_place) fact))

  pub nothing_left : (p : ProgramView) → NoDrop (graph_script p g) (facts_in g facts) g
  nothing_left p = record { pairs = λ b bf ws hi lo h s fact. no_pair p b bf ws hi lo h s fact }
