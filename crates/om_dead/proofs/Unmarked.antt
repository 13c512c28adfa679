-- A graph without its marks: what holds of its blocks and masks holds of that too.
use Rattle.std.proofs.Common.{◌⊎◌, inl, inr, ℕ, Bool}
use Rattle.om_isa.specs.declared.instr.Instr.{Instr}
use Rattle.om_isa.specs.declared.instr.Instr.TheVariants.{Mem, Jump as Jumps, Branch, Alu, Cmov, Misc, Fnop, Halt, Callsys}
use Rattle.om_value.specs.declared.value.Place.{Place}
use Rattle.om_prog.specs.Act as act
use Rattle.om_prog.specs.Act.{Act}
use Rattle.om_prog.specs.Flow.{act_jumps, plain_jumps}
use Rattle.om_graph.specs.View.{Block, GraphView, cleared}
use Rattle.om_graph.specs.Kept.{IsInKeptSet, root, fall, named, behind, IsBlock, IsEnd, Named, by_root, by_load, by_link, IsKeptLanding}
use Rattle.om_graph.specs.Checks.{Enters, falls_in, jumps_in, ReadsBlock, reads_in, reads_next}
use Rattle.om_graph.specs.Left.{AreExactMasks, OnlyKeptSet}
use Rattle.om_dead.specs.Words.{IsWithoutDead}

jumps_more : (K L : Place → Type 0) (q : Place) (a : Act) → (K q → L q) → act_jumps K a q → act_jumps L a q
jumps_more K L q (act.Plain i) f j = by_instr i j
  where
    by_instr : (i : Instr) → plain_jumps K i q → plain_jumps L i q
    by_instr (Jumps k ra rb h) j = f j
    by_instr (Mem o ra rb d) j = j
    by_instr (Branch o ra d) j = j
    by_instr (Alu o ra rb rc) j = j
    by_instr (Cmov k ra rb rc) j = j
    by_instr (Misc o ra rb) j = j
    by_instr Fnop j = j
    by_instr Halt j = j
    by_instr Callsys j = j
jumps_more K L q (act.To o ra to) f j = j
jumps_more K L q (act.Lit ra rb t) f j = j
jumps_more K L q (act.GpHi ra rb b) f j = j
jumps_more K L q (act.GpLo ra rb h) f j = j
jumps_more K L q (act.AddrLda ra rb t) f j = j
jumps_more K L q (act.AddrHi ra rb t) f j = j
jumps_more K L q (act.UseLo i h t) f j = j
jumps_more K L q (act.UseGp i gp t) f j = j
jumps_more K L q act.Wrong f j = j

module _ (g : GraphView) where
  abbrev h : GraphView
  h = cleared g

  kept_on : (q : Place) → IsInKeptSet g q → IsInKeptSet h q
  kept_on _ (root q m) = root q m
  kept_on _ (fall b q m k f l) = fall b q m (kept_on b.label k) f l
  kept_on _ (named b w q m k i n) = named b w q m (kept_on b.label k) i n
  kept_on _ (behind b w m k i l) = behind b w m (kept_on b.label k) i l

  pub only_kept : OnlyKeptSet g → OnlyKeptSet h
  only_kept k = record { blocks = λ b m. kept_on b.label (k.blocks b m) }

  named_on : (q : Place) → Named g q → Named h q
  named_on q (by_root m) = by_root m
  named_on q (by_load b w m i l) = by_load b w m i l
  named_on q (by_link b w m i l e) = by_link b w m i l e

  named_back : (q : Place) → Named h q → Named g q
  named_back q (by_root m) = by_root m
  named_back q (by_load b w m i l) = by_load b w m i l
  named_back q (by_link b w m i l e) = by_link b w m i l e

  side_on : (q : Place) → IsBlock g q ⊎ IsEnd g q → IsBlock h q ⊎ IsEnd h q
  side_on q (inl b) = inl b
  side_on q (inr e) = inr (record { object = e.object; off = e.off })

  side_back : (q : Place) → IsBlock h q ⊎ IsEnd h q → IsBlock g q ⊎ IsEnd g q
  side_back q (inl b) = inl b
  side_back q (inr e) = inr (record { object = e.object; off = e.off })

  landing_on : (q : Place) → IsKeptLanding g q → IsKeptLanding h q
  landing_on q k = record { named = named_on q k.named; kept = side_on q k.kept }

  landing_back : (q : Place) → IsKeptLanding h q → IsKeptLanding g q
  landing_back q k = record { named = named_back q k.named; kept = side_back q k.kept }

  enters_on : (b n : Block) → Enters g b n → Enters h b n
  enters_on b n (falls_in x o f) = falls_in x o f
  enters_on b n (jumps_in w hb hn l j) = jumps_in w hb hn l (jumps_more (IsKeptLanding g) (IsKeptLanding h) n.label w.act (landing_on n.label) j)

  enters_back : (b n : Block) → Enters h b n → Enters g b n
  enters_back b n (falls_in x o f) = falls_in x o f
  enters_back b n (jumps_in w hb hn l j) = jumps_in w hb hn l (jumps_more (IsKeptLanding h) (IsKeptLanding g) n.label w.act (landing_back n.label) j)

  reads_on : (r : ℕ) (b : Block) → ReadsBlock g r b → ReadsBlock h r b
  reads_on r _ (reads_in b m e) = reads_in b m e
  reads_on r _ (reads_next b n e w k) = reads_next b n (enters_on b n e) w (reads_on r n k)

  exact_on : (masks outs : Place → ℕ → Bool) → AreExactMasks masks outs g → AreExactMasks masks outs h
  exact_on masks outs x =
      let c = x.checked in
      let e = x.ends in
      record {
        checked = record { reads = c.reads; enters = λ b n r i. c.enters b n r (enters_back b n i) };
        ends = record {
          covers = λ b n r i. e.covers b n r (enters_back b n i);
          only = λ b r m l k. let q = e.only b r m l k in (q.0, enters_on b q.0 q.1, q.2);
        };
        only = λ b r m l k. reads_on r b (x.only b r m l k);
      }

  pub without_on : IsWithoutDead g → IsWithoutDead h
  without_on w = record {
    masks = w.masks;
    outs = w.outs;
    exact = exact_on w.masks w.outs w.exact;
    none = record { words = λ b bf v ws r st. w.none.words b bf v ws r (record { among = st.among; split = st.split }) };
  }
