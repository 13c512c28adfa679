-- Where dead words are gone no half of a closed pair stands alone.
use Rattle.std.proofs.Common.{◌≡◌, ◌⊎◌, inl, inr, ◌<◌, ℕ, Bool, true, false, List, [], ◌∷◌, refl, sym, ap, subst}
use Rattle.om_value.specs.declared.value.Place.{Place}
use Rattle.om_prog.specs.Act.{Act, Word, act_writes}
use Rattle.om_prog.specs.Flow.{Among}
use Rattle.om_prog.specs.View.{ProgramView}
use Rattle.om_prog.specs.Valid.{IsProgram}
use Rattle.om_graph.specs.View.{Block, Shape, GraphView, Has}
use Rattle.om_graph.specs.Run.{block_words, shape_words, words}
use Rattle.om_graph.specs.Form.{is_address}
use Rattle.om_graph.specs.LeftIn.{is_kept}
use Rattle.om_graph.specs.Lifted.{lifted_shapes}
use Rattle.om_graph.specs.OfProgram.{IsGraphOf, IsFollowed}
use Rattle.om_graph.proofs.Labels.{has_in}
use Rattle.om_graph.proofs.OfProgram.{words_in_place}
use Rattle.om_graph.specs.Left.{AreExactMasks, NoDeadWord, high_word, StandsIn, IsDeadBy}
use Rattle.om_graph.specs.Stands.{IsClosedIn, PairsWhole, PairsStand}
use Rattle.om_passes.proofs.Origins.{kept_of, kept_here}
use Rattle.om_graph.specs.Walks.{IsDeadAfter}
use Rattle.om_passes.proofs.Betweens.{first_in}
use Rattle.om_passes.proofs.Closed.{high_form, low_word}
use Rattle.om_passes.proofs.Sources.{split_at, not_both}
use Rattle.om_graph.specs.Checks.{Next, Enters, falls_in, jumps_in, ReadsBlock, live_in}
use Rattle.om_graph.proofs.Read.{reads_behind}

next_has : (bs : List Block) (b n : Block) → Next bs b n → Has bs n
next_has [] b n h = absurd h
next_has (c ∷ []) b n h = absurd h
next_has (c ∷ d ∷ bs) b n (inl e) = inr (inl e.1)
next_has (c ∷ d ∷ bs) b n (inr h) = inr (next_has (d ∷ bs) b n h)

pub entered_has : (g : GraphView) (b n : Block) → Enters g b n → Has g.blocks n
entered_has g b n (falls_in x o f) = next_has g.blocks b n x
entered_has g b n (jumps_in w hb hn l j) = hn

pub not_true : (b : Bool) → (b ≡ true → ⊥) → b ≡ false
not_true true f = absurd (f refl)
not_true false f = refl

module _ (p : ProgramView) (prog : IsProgram p) (g : GraphView) (of : IsGraphOf p g) (masks outs : Place → ℕ → Bool) (exact : AreExactMasks masks outs g) where
  -- what a walk reads the masks have
  pub read_at_end : (b : Block) (r : ℕ) → Has g.blocks b → r < 31 → outs b.label r ≡ true → (n : Block) × Enters g b n × ReadsBlock g r n
  read_at_end b r hb low e =
      let o = exact.ends.only b r hb low e in
      (o.0, o.1, exact.only o.0 r (entered_has g b o.0 o.1) low o.2)

  -- dead on walks is dead by masks
  pub dead_by : (b : Block) (bf : List Word) (w : Word) (ws : List Word) (r : ℕ) → StandsIn g b bf w ws → IsDeadAfter g r w → IsDeadBy outs b ws r
  dead_by b bf w ws r s dead low = not_true (live_in ws (outs b.label) r) never
    where
      never : live_in ws (outs b.label) r ≡ true → ⊥
      never e =
          let k = reads_behind g of.graph of.form (words_in_place p prog g of) b bf w ws r (outs b.label) s.among low s.split (read_at_end b r s.among low) e in
          dead k.0 k.1 k.2

  module _ (left : NoDeadWord outs g) where
    pub not_dead : (b : Block) (w : Word) (r : ℕ) → Has g.blocks b → Has (block_words b) w → is_address w.act ≡ true → Among (act_writes w.act) r → IsDeadAfter g r w → IsFollowed p w.at → ⊥
    not_dead b w r hb hw a m dead f =
        let k = split_at [] (block_words b) w hw in
        let s : StandsIn g b k.0 w k.1 = record { among = hb; split = k.2 } in
        not_both p g of w.at (left.words b k.0 w k.1 r s a m (dead_by b k.0 w k.1 r s dead)) f

-- where dead words are gone no high half stands alone
pub pairs_whole :
    (p : ProgramView) (prog : IsProgram p) (g : GraphView) (of : IsGraphOf p g) (masks outs : Place → ℕ → Bool) → AreExactMasks masks outs g → NoDeadWord outs g →
    PairsStand p g → PairsWhole p g
pairs_whole p prog g of masks outs exact left stand = record { low = stand.low; high = high }
  where
    high : (s : Shape) (hi lo : Place) → Has (lifted_shapes p) s → IsClosedIn p s hi lo → is_kept g hi ≡ true → is_kept g lo ≡ true
    high s hi lo hs c k = by_case (stand.high s hi lo r.0 hs c r.1 r.2)
      where
        r : (w : Word) × Has (words g) w × (w.at ≡ hi)
        r = kept_here (words g) hi k

        by_case : (is_kept g lo ≡ true) ⊎ IsDeadAfter g 29 r.0 → is_kept g lo ≡ true
        by_case (inl e) = e
        by_case (inr d) =
            let h = has_in g.blocks r.0 r.1 in
            let x = first_in (shape_words s) (high_word hi c.rb c.base) c.mid (low_word hi lo) c.stands in
            let v = kept_of p prog g of s (high_word hi c.rb c.base) r.0 h.block hs x h.among h.word r.2 in
            let a = high_form p (shape_words s) (high_word hi c.rb c.base) r.0.act 29 c.rb c.base v.1 refl in
            absurd (not_dead p prog g of masks outs exact left h.block r.0 29 h.among h.word (ap is_address a)
            (subst (λ (y : Act). Among (act_writes y) 29) (sym a) (inl refl)) d (subst (λ (q : Place). IsFollowed p q) (sym r.2) c.high_stays))
