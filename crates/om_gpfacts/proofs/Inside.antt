-- The fact on r29 from op to op of a block.
use Rattle.std.proofs.Common.{◌≡◌, ℕ, Bool, true, false, cond, ◌||◌, ◌==◌, List, [], ◌∷◌, ◌++◌, map, Option, Some, None, refl, sym, ap, ◌∙◌, subst}
use Rattle.std.proofs.lemmas.List.{append_cancel_right}
use Rattle.om_isa.specs.Registers.{mask_of}
use Rattle.om_value.specs.declared.value.Place.{Place}
use Rattle.om_value.specs.declared.value.Target.{Target}
use Rattle.om_prog.specs.Act.{Word, Script, act_writes}
use Rattle.om_prog.specs.Act as act
use Rattle.om_prog.specs.View.{ProgramView}
use Rattle.om_prog.specs.Facts as prog
use Rattle.om_prog.specs.Facts.{has, changed, set_fact, changed_by, unreached, fact_behind}
use Rattle.om_flow.specs.declared.parts.Fact.{Fact}
use Rattle.om_flow.specs.declared.parts.Fact.TheVariants.{Any, Table, Unknown}
use Rattle.om_flow.specs.declared.parts.Transfer.{Transfer}
use Rattle.om_flow.specs.declared.parts.Transfer.TheVariants.{Keep, SetTable, SetUnknown}
use Rattle.om_graph.specs.declared.op.Op.{Op}
use Rattle.om_graph.specs.declared.op.OpKind.{OpKind}
use Rattle.om_graph.specs.declared.op.OpKind.TheVariants as op
use Rattle.om_graph.specs.View.{Block, GraphView, Has, ops_of}
use Rattle.om_graph.specs.Run.{op_act, op_word, use_of, target_at, block_words, last_words, rev_onto, table_of, graph_script}
use Rattle.om_blocks.specs.IsFlow.{HasFlow, behind}
use Rattle.om_blocks.specs.Effects.{kind_reads, kind_writes, kind_transfer, other_value}
use Rattle.om_blocks.specs.Found.{seen}
use Rattle.om_blocks.proofs.Walking.{assoc, map_both}
use Rattle.om_blocks.proofs.Doing.{op_does}
use Rattle.om_blocks.proofs.OnEffects.{left_has, has_words}
use Rattle.om_gpfacts.specs.Inside.{table_or_any, IsBehindOp}
use Rattle.om_gpfacts.proofs.KnownFacts.{set_not_any, changed_is}

-- ---- one op

abbrev pub fact_then : Fact → Fact → Transfer → Fact
fact_then start before Keep = before
fact_then start before (SetTable t) = table_or_any start t
fact_then start before SetUnknown = Unknown

-- where a walk comes, each word leaves a fact
changed_not_any : (c : Script) (w : Word) (x : prog.Fact) → (x ≡ prog.Any → ⊥) → changed c w x ≡ prog.Any → ⊥
changed_not_any c w x n e = by_write (has (act_writes w.act) 29) (sym (changed_is c w x n) ∙ e)
  where
    by_write : (b : Bool) → cond b (set_fact c w w.act) x ≡ prog.Any → ⊥
    by_write true e = set_not_any c w w.act e
    by_write false e = n e

all_not_any : (c : Script) (x : prog.Fact) (bf : List Word) → (x ≡ prog.Any → ⊥) → changed_by c x bf ≡ prog.Any → ⊥
all_not_any c x [] n e = n e
all_not_any c x (w ∷ bf) n e = changed_not_any c w (changed_by c x bf) (all_not_any c x bf n) e

-- where a walk comes to the block
then_reached : (start before : Fact) (t : Transfer) → (start ≡ Any → ⊥) → (before ≡ Any → ⊥) → behind t (seen before) ≡ seen (fact_then start before t)
then_reached start before Keep n m = refl
then_reached Any before (SetTable t) n m = absurd (n refl)
then_reached (Table u) Any (SetTable t) n m = absurd (m refl)
then_reached (Table u) (Table v) (SetTable t) n m = refl
then_reached (Table u) Unknown (SetTable t) n m = refl
then_reached Unknown Any (SetTable t) n m = absurd (m refl)
then_reached Unknown (Table v) (SetTable t) n m = refl
then_reached Unknown Unknown (SetTable t) n m = refl
then_reached start Any SetUnknown n m = absurd (m refl)
then_reached start (Table v) SetUnknown n m = refl
then_reached start Unknown SetUnknown n m = refl

-- where none comes
then_other : (b : Bool) (x : prog.Fact) (before : Fact) → x ≡ seen before → cond b prog.Unknown x ≡ seen (fact_then Any before (other_value b))
then_other true x before e = refl
then_other false x before e = e

then_low : (ra table : ℕ) (x : prog.Fact) (before : Fact) → x ≡ seen before → cond (has (ra ∷ []) 29) prog.Any x ≡ seen (fact_then Any before (cond (ra == 29) (SetTable table) Keep))
then_low ra table x before e = by_case (ra == 29)
  where
    by_case : (b : Bool) → cond (b || false) prog.Any x ≡ seen (fact_then Any before (cond b (SetTable table) Keep))
    by_case true = refl
    by_case false = e

unreached_then :
    (ops : List Op) (at : Place) (k : OpKind) (table : ℕ) (bf : List Word) (before : Fact) → (op_act ops k ≡ act.Wrong → ⊥) → unreached bf ≡ seen before →
    unreached (record { at = at; act = op_act ops k } ∷ bf) ≡ seen (fact_then Any before (kind_transfer table k))
unreached_then ops at (op.Plain i) table bf before right e = then_other (has (kind_writes (op.Plain i)) 29) (unreached bf) before e
unreached_then ops at (op.Lit ra rb z) table bf before right e = then_other (has (kind_writes (op.Lit ra rb z)) 29) (unreached bf) before e
unreached_then ops at (op.AddrLda ra rb z) table bf before right e = then_other (has (kind_writes (op.AddrLda ra rb z)) 29) (unreached bf) before e
unreached_then ops at (op.AddrHi ra rb z least) table bf before right e = then_other (has (kind_writes (op.AddrHi ra rb z least)) 29) (unreached bf) before e
unreached_then ops at (op.UseLo i hi) table bf before right e = by_target (target_at ops hi) right
  where
    by_target : (z : Option Target) → (use_of i hi z ≡ act.Wrong → ⊥) → unreached (record { at = at; act = use_of i hi z } ∷ bf) ≡ seen (fact_then Any before (kind_transfer table (op.UseLo i hi)))
    by_target None right = absurd (right refl)
    by_target (Some z) right = then_other (has (kind_writes (op.UseLo i hi)) 29) (unreached bf) before e
unreached_then ops at (op.UseGp i gp z) table bf before right e = then_other (has (kind_writes (op.UseGp i gp z)) 29) (unreached bf) before e
unreached_then ops at (op.GpHi ra rb base) table bf before right e = then_other (has (kind_writes (op.GpHi ra rb base)) 29) (unreached bf) before e
unreached_then ops at (op.GpLo ra rb hi) table bf before right e = then_low ra table (unreached bf) before e

not_any : (start : Fact) → (start ≡ Any → ⊥) → seen start ≡ prog.Any → ⊥
not_any Any n e = n refl
not_any (Table t) n e = cc
not_any Unknown n e = cc

-- the word of an op changes a fact as the op's transfer
op_changes :
    (c : Script) (ops : List Op) (at : Place) (k : OpKind) (table : ℕ) (x : prog.Fact) → (op_act ops k ≡ act.Wrong → ⊥) → c.table at.obj ≡ table →
    changed c (record { at = at; act = op_act ops k }) x ≡ behind (kind_transfer table k) x
op_changes c ops at k table x right t =
    (op_does table ops (record { place = at; kind = k }) k (record { reads = mask_of (kind_reads k); writes = mask_of (kind_writes k); transfer = kind_transfer table k }) refl right refl refl refl).transfer c x t

pub behind_op : (k : OpKind) (table : ℕ) (start before now : Fact) → now ≡ fact_then start before (kind_transfer table k) → IsBehindOp k table start before now
behind_op k table start before now is = subst (λ (x : Fact). IsBehindOp k table start before x) (sym is) (record { is = λ c ops at bf right t e. by_start start c ops at bf right t e })
  where
    reached :
        (start : Fact) → (start ≡ Any → ⊥) → (c : Script) (ops : List Op) (at : Place) (bf : List Word) → (op_act ops k ≡ act.Wrong → ⊥) → c.table at.obj ≡ table →
        changed_by c (seen start) bf ≡ seen before → changed c (record { at = at; act = op_act ops k }) (changed_by c (seen start) bf) ≡ seen (fact_then start before (kind_transfer table k))
    reached start n c ops at bf right t e =
        op_changes c ops at k table (changed_by c (seen start) bf) right t ∙ ap (behind (kind_transfer table k)) e
        ∙ then_reached start before (kind_transfer table k) n (λ m. all_not_any c (seen start) bf (not_any start n) (e ∙ ap seen m))

    by_start :
        (start : Fact) (c : Script) (ops : List Op) (at : Place) (bf : List Word) → (op_act ops k ≡ act.Wrong → ⊥) → c.table at.obj ≡ table →
        fact_behind c (seen start) bf ≡ seen before → fact_behind c (seen start) (record { at = at; act = op_act ops k } ∷ bf) ≡ seen (fact_then start before (kind_transfer table k))
    by_start Any c ops at bf right t e = unreached_then ops at k table bf before right e
    by_start (Table u) c ops at bf right t e = reached (Table u) (λ n. cc) c ops at bf right t e
    by_start Unknown c ops at bf right t e = reached Unknown (λ n. cc) c ops at bf right t e

-- ---- words, the last one first

pub rev_more : (xs : List Word) (w : Word) (acc : List Word) → rev_onto (xs ++ w ∷ []) acc ≡ rev_onto (w ∷ []) (rev_onto xs acc)
rev_more [] w acc = refl
rev_more (x ∷ xs) w acc = rev_more xs w (x ∷ acc)

pub rev_rev : (xs acc : List Word) → rev_onto (rev_onto xs acc) [] ≡ rev_onto acc xs
rev_rev [] acc = refl
rev_rev (x ∷ xs) acc = rev_rev xs (x ∷ acc)

pub rev_split : (bf ws : List Word) → rev_onto bf ws ≡ rev_onto bf [] ++ ws
rev_split [] ws = refl
rev_split (w ∷ bf) ws = rev_split bf (w ∷ ws) ∙ sym (assoc (rev_onto bf []) (w ∷ []) ws) ∙ ap (λ (l : List Word). l ++ ws) (sym (rev_split bf (w ∷ [])))

-- what stands in front of some words, the last one first
pub front_is : (bf vs ws : List Word) → rev_onto bf ws ≡ vs ++ ws → bf ≡ rev_onto vs []
front_is bf vs ws e =
    let f : rev_onto bf [] ≡ vs = append_cancel_right (rev_onto bf []) vs ws (sym (rev_split bf ws) ∙ e) in
    sym (rev_rev bf []) ∙ ap (λ (l : List Word). rev_onto l []) f

-- ---- the ops of a block

-- the fact behind ops of a block
pub record Behind (g : GraphView) (start : Fact) (b : Block) (ops : List Op) (now : Fact) : Type 0 where
  pub is : (p : ProgramView) → fact_behind (graph_script p g) (seen start) (rev_onto (map (op_word (ops_of b)) ops) []) ≡ seen now

pub behind_none : (c : Script) (start : Fact) → fact_behind c (seen start) [] ≡ seen start
behind_none c Any = refl
behind_none c (Table t) = refl
behind_none c Unknown = refl

pub behind_first : (g : GraphView) (start : Fact) (b : Block) → Behind g start b [] start
behind_first g start b = record { is = λ p. behind_none (graph_script p g) start }

pub word_in : (b : Block) (o : Op) → Has (ops_of b) o → Has (block_words b) (op_word (ops_of b) o)
word_in b o h = left_has (map (op_word (ops_of b)) (ops_of b)) (last_words b.last) (op_word (ops_of b) o) (has_words (op_word (ops_of b)) (ops_of b) o h)

pub behind_more :
    (g : GraphView) → HasFlow g → (start : Fact) (b : Block) (ops : List Op) (o : Op) (table : ℕ) (before now : Fact) → Has g.blocks b → Has (ops_of b) o → table ≡ table_of g b.label.obj →
    IsBehindOp o.kind table start before now → Behind g start b ops before → Behind g start b (ops ++ o ∷ []) now
behind_more g flow start b ops o table before now hb ho same more old = record {
  is = λ p.
      let w = op_word (ops_of b) o in
      let f = map (op_word (ops_of b)) ops in
      let at : table_of g o.place.obj ≡ table = ap (table_of g) (flow.places.words b w hb (word_in b o ho)).object ∙ sym same in
      ap (λ (l : List Word). fact_behind (graph_script p g) (seen start) (rev_onto l [])) (map_both (op_word (ops_of b)) ops (o ∷ []))
      ∙ ap (fact_behind (graph_script p g) (seen start)) (rev_more f w [])
      ∙ more.is (graph_script p g) (ops_of b) o.place (rev_onto f []) (flow.right.none b w hb (word_in b o ho)) at (old.is p);
}

pub behind_last : (g : GraphView) (start : Fact) (b : Block) (now : Fact) (p : ProgramView) (bf : List Word) → Behind g start b (ops_of b) now → rev_onto bf (last_words b.last) ≡ block_words b →
    fact_behind (graph_script p g) (seen start) bf ≡ seen now
behind_last g start b now p bf done e =
    ap (fact_behind (graph_script p g) (seen start)) (front_is bf (map (op_word (ops_of b)) (ops_of b)) (last_words b.last) e) ∙ done.is p
