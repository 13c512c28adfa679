-- A dead word is deleted: what is left of its graph.
use Rattle.std.proofs.Common.{◌≡◌, ◌⊎◌, inl, inr, ◌<◌, ◌*◌, ℕ, length, Bool, true, false, cond, List, [], ◌∷◌, Option, Some, None, refl, sym, ap, ◌∙◌, subst}
use Rattle.std.specs.Prelude.{map, slice_index_or}
use Rattle.om_value.specs.declared.value.Place.{Place}
use Rattle.om_value.specs.Same.{place_eq}
use Rattle.om_prog.specs.Act.{Word, act_writes}
use Rattle.om_prog.specs.Flow.{Among}
use Rattle.om_prog.specs.View.{ProgramView}
use Rattle.om_graph.specs.View.{Block, GraphView, Has}
use Rattle.om_graph.specs.Run.{words, block_words}
use Rattle.om_graph.specs.Form.{is_address}
use Rattle.om_graph.specs.Kept.{IsBlock, IsEnd, Named, by_root, by_load, by_link}
use Rattle.om_graph.specs.Rewritten.{each_word, SameFrame, EachWord, BlockEnd, block_end, SameEnds}
use Rattle.om_graph.specs.Walks.{MayRead, reads, goes, IsDeadAfter}
use Rattle.om_graph.proofs.Ends.{each_from, each_words}
use Rattle.om_passes.specs.AtPlaces.{gone_at}
use Rattle.om_passes.specs.Keeping.{DeletesDead}

-- ---- blocks one by one

-- the block of the old graph of a block of the new one
record PairedWith (f : Word → Option Word) (bs : List Block) (n : Block) : Type 0 where
  block : Block
  among : Has bs block
  words : block_words n ≡ each_word f (block_words block)
  label : n.label ≡ block.label

paired :
    (f : Word → Option Word) (ns bs : List Block) (n : Block) → map block_words ns ≡ map (λ b. each_word f (block_words b)) bs → map block_end ns ≡ map block_end bs → Has ns n →
    PairedWith f bs n
paired f [] bs n e s h = absurd h
paired f (m ∷ ns) [] n e s h = cc
paired f (m ∷ ns) (b ∷ bs) n e s (inl k) =
    let w : block_words m ≡ each_word f (block_words b) = cc in
    let z : block_end m ≡ block_end b = cc in
    subst (λ (x : Block). PairedWith f (b ∷ bs) x) k (record { block = b; among = inl refl; words = w; label = ap (λ (x : BlockEnd). x.label) z })
paired f (m ∷ ns) (b ∷ bs) n e s (inr h) =
    let er : map block_words ns ≡ map (λ b. each_word f (block_words b)) bs = cc in
    let sr : map block_end ns ≡ map block_end bs = cc in
    let r = paired f ns bs n er sr h in
    record { block = r.block; among = inr r.among; words = r.words; label = r.label }

module _ (p : ProgramView) (f : Word → Option Word) (old new : GraphView) (each : EachWord f old new) (ends : SameEnds old new) (frame : SameFrame old new) where
  pair_of : (n : Block) → Has new.blocks n → PairedWith f old.blocks n
  pair_of n h = paired f new.blocks old.blocks n each.words ends.same h

  old_words : words new ≡ each_word f (words old)
  old_words = each_words f old.blocks new.blocks each.words

  pub old_block : (q : Place) → IsBlock new q → IsBlock old q
  old_block q n = let r = pair_of n.0 n.1 in (r.block, r.among, sym r.label ∙ n.2)

  pub old_end : (q : Place) → IsEnd new q → IsEnd old q
  old_end q e = record {
    object = subst (λ (c : List ℕ). q.obj < length c) frame.counts e.object;
    off = subst (λ (c : List ℕ). q.off ≡ 4 * slice_index_or c q.obj 0) frame.counts e.off;
  }

-- ---- a word is deleted

gone_same : (x : Place) (w u : Word) → gone_at x w ≡ Some u → w ≡ u
gone_same x w u e = by_test (place_eq w.at x) e
  where
    by_test : (b : Bool) → cond b None (Some w) ≡ Some u → w ≡ u
    by_test true e = cc
    by_test false e = cc

pub deletes :
    (old new : GraphView) (x : Word) → EachWord (gone_at x.at) old new → SameEnds old new → SameFrame old new → Has (words old) x → is_address x.act ≡ true →
    ((r : ℕ) → Among (act_writes x.act) r → IsDeadAfter old r x) → DeletesDead old new x
deletes old new x each ends frame h a dead = record {
  among = h;
  address = a;
  dead = dead;
  words = old_words old_program (gone_at x.at) old new each ends frame;
  landings = λ q k. record { named = named q k.named; kept = kept q k.kept };
  blocks = old_block old_program (gone_at x.at) old new each ends frame;
  ends = old_end old_program (gone_at x.at) old new each ends frame;
}
  where
    old_program : ProgramView
    old_program = record { texts = []; regions = []; entry = x.at }

    in_old : (b : Block) (w : Word) → Has new.blocks b → Has (block_words b) w → (d : Block) × Has old.blocks d × Has (block_words d) w
    in_old b w hb hw =
        let r = pair_of old_program (gone_at x.at) old new each ends frame b hb in
        let k = each_from (gone_at x.at) (block_words r.block) w (subst (λ (ws : List Word). Has ws w) r.words hw) in
        (r.block, r.among, subst (λ (y : Word). Has (block_words r.block) y) (gone_same x.at k.0 w k.2) k.1)

    named : (q : Place) → Named new q → Named old q
    named q (by_root r) = by_root (subst (λ (l : List Place). Has l q) frame.roots r)
    named q (by_load b w hb hw l) = let k = in_old b w hb hw in by_load k.0 w k.1 k.2 l
    named q (by_link b w hb hw l e) = let k = in_old b w hb hw in by_link k.0 w k.1 k.2 l e

    kept : (q : Place) → IsBlock new q ⊎ IsEnd new q → IsBlock old q ⊎ IsEnd old q
    kept q (inl b) = inl (old_block old_program (gone_at x.at) old new each ends frame q b)
    kept q (inr e) = inr (old_end old_program (gone_at x.at) old new each ends frame q e)

-- r31 is never read
pub read_below : (g : GraphView) (r : ℕ) (q : Place) → MayRead g r q → r < 31
read_below g r q (reads p w e l a) = l
read_below g r q (goes p w to e n t m) = read_below g r to m
