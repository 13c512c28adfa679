-- With one table that pairs alone set, each walk leaves it in r29.
use Rattle.std.proofs.Common.{◌≡◌, ◌⊎◌, inl, inr, ℕ, Bool, true, false, cond, List, [], ◌∷◌, refl, sym, ap, ◌∙◌, subst}
use Rattle.std.proofs.lemmas.Bool.{true≢false}
use Rattle.om_prog.specs.Act.{Act, Word, Script, act_writes}
use Rattle.om_prog.specs.Act as act
use Rattle.om_prog.specs.View.{ProgramView}
use Rattle.om_prog.specs.Facts.{Fact, Any, Table, Unknown, has, changed, set_fact}
use Rattle.om_flow.specs.declared.parts.Fact.{Fact as FoundFact}
use Rattle.om_graph.specs.View.{Block, GraphView, Has}
use Rattle.om_graph.specs.Run.{block_words, graph_script, rev_onto, table_of}
use Rattle.om_graph.specs.Checks.{ReachesBlock, at_entry, enters_next, onward, written_in}
use Rattle.om_blocks.specs.IsFlow.{HasFlow}
use Rattle.om_blocks.specs.Found.{facts_in}
use Rattle.om_blocks.specs.Laws.{entry_table}
use Rattle.om_blocks.proofs.Entering.{entering}
use Rattle.om_gpfacts.specs.Exact.{IsMixed, AreExact}
use Rattle.om_gpfacts.specs.OneTable.{IsLowHalf, HasOneTable, PairsLeave}
use Rattle.om_gpfacts.proofs.Exactness.{not_table, one_table}

set_low : (c : Script) (w : Word) (a : Act) → IsLowHalf a → set_fact c w a ≡ Table (c.table w.at.obj)
set_low c w (act.GpLo ra rb hi) h = refl
set_low c w (act.Plain i) h = absurd h
set_low c w (act.Lit ra rb t) h = absurd h
set_low c w (act.GpHi ra rb base) h = absurd h
set_low c w (act.To op ra to) h = absurd h
set_low c w (act.AddrLda ra rb t) h = absurd h
set_low c w (act.AddrHi ra rb t) h = absurd h
set_low c w (act.UseLo i hi t) h = absurd h
set_low c w (act.UseGp i gp t) h = absurd h
set_low c w act.Wrong h = absurd h

pub set_not_any : (c : Script) (w : Word) (a : Act) → set_fact c w a ≡ Any → ⊥
set_not_any c w (act.GpLo ra rb hi) e = cc
set_not_any c w (act.Plain i) e = cc
set_not_any c w (act.Lit ra rb t) e = cc
set_not_any c w (act.GpHi ra rb base) e = cc
set_not_any c w (act.To op ra to) e = cc
set_not_any c w (act.AddrLda ra rb t) e = cc
set_not_any c w (act.AddrHi ra rb t) e = cc
set_not_any c w (act.UseLo i hi t) e = cc
set_not_any c w (act.UseGp i gp t) e = cc
set_not_any c w act.Wrong e = cc

-- what a word makes of a fact where a walk comes
pub changed_is : (c : Script) (w : Word) (x : Fact) → (x ≡ Any → ⊥) → changed c w x ≡ cond (has (act_writes w.act) 29) (set_fact c w w.act) x
changed_is c w Any n = absurd (n refl)
changed_is c w (Table t) n = refl
changed_is c w Unknown n = refl

module _ (p : ProgramView) (g : GraphView) (flow : HasFlow g) (one : HasOneTable g) (leave : PairsLeave g) where
  abbrev c : Script
  c = graph_script p g

  abbrev t : ℕ
  t = entry_table g

  module _ (b : Block) (hb : Has g.blocks b) where
    word_in : (bf ws : List Word) (w : Word) → rev_onto bf (w ∷ ws) ≡ block_words b → Has (block_words b) w
    word_in bf ws w s = subst (λ (l : List Word). Has l w) s (onto bf (w ∷ ws) (inl refl))
      where
        onto : (bf l : List Word) → Has l w → Has (rev_onto bf l) w
        onto [] l h = h
        onto (v ∷ bf) l h = onto bf (v ∷ l) (inr h)

    table_here : (bf ws : List Word) (w : Word) → rev_onto bf (w ∷ ws) ≡ block_words b → c.table w.at.obj ≡ t
    table_here bf ws w s = ap (table_of g) (flow.places.words b w hb (word_in bf ws w s)).object ∙ one.same b hb

    leaves : (bf ws : List Word) (x : Fact) → (x ≡ Any → ⊥) → rev_onto bf ws ≡ block_words b → (x ≡ Table t) ⊎ (written_in ws 29 ≡ true) → onward c x ws ≡ Table t
    leaves bf [] x n s (inl e) = e
    leaves bf [] x n s (inr e) = absurd (true≢false (sym e))
    leaves bf (w ∷ ws) x n s k = by_rest (written_in ws 29) refl (has (act_writes w.act) 29) refl k (leaves (w ∷ bf) ws (changed c w x) known s)
      where
        is : changed c w x ≡ cond (has (act_writes w.act) 29) (set_fact c w w.act) x
        is = changed_is c w x n

        not_any : (h : Bool) → (cond h (set_fact c w w.act) x ≡ Any → ⊥)
        not_any true e = set_not_any c w w.act e
        not_any false e = n e

        known : changed c w x ≡ Any → ⊥
        known e = not_any (has (act_writes w.act) 29) (sym is ∙ e)

        by_rest :
            (r : Bool) → written_in ws 29 ≡ r → (h : Bool) → has (act_writes w.act) 29 ≡ h → (x ≡ Table t) ⊎ (written_in (w ∷ ws) 29 ≡ true) →
            ((changed c w x ≡ Table t) ⊎ (written_in ws 29 ≡ true) → onward c (changed c w x) ws ≡ Table t) → onward c (changed c w x) ws ≡ Table t
        by_rest true q h f k again = again (inr q)
        by_rest false q true f k again =
            again (inl (is ∙ ap (λ (h : Bool). cond h (set_fact c w w.act) x) f ∙ set_low c w w.act (leave.low b bf ws w hb s f q) ∙ ap Table (table_here bf ws w s)))
        by_rest false q false f (inl e) again = again (inl (is ∙ ap (λ (h : Bool). cond h (set_fact c w w.act) x) f ∙ e))
        by_rest false q false f (inr e) again = let none : written_in (w ∷ ws) 29 ≡ false = rw (f, q) refl in absurd (true≢false (sym e ∙ none))

  one_walk : (b : Block) (x : Fact) → ReachesBlock c g b x → x ≡ Table t
  one_walk b x (at_entry d h e) = refl
  one_walk n x (enters_next b m y r e) =
      let y_is = one_walk b y r in
      leaves b (entering g b n e).0 [] (block_words b) y (λ a. not_both y y_is a) refl (inl y_is)
    where
      not_both : (z : Fact) → z ≡ Table t → z ≡ Any → ⊥
      not_both z e a = cc

  not_one : (b : Block) → IsMixed c g b → ⊥
  not_one b (inl r) = not_table t (one_walk b Unknown r)
  not_one b (inr m) = m.4 (one_table m.0 m.1 t (one_walk b (Table m.0) m.2) (one_walk b (Table m.1) m.3))

  pub none_unknown : (facts : List FoundFact) → AreExact g facts → (b : Block) → Has g.blocks b → facts_in g facts b.label ≡ Unknown → ⊥
  none_unknown facts exact b h e = not_one b (((exact.exact p b h).unknown).0 e)
