use Rattle.std.proofs.Common.{◌≡◌, ◌<◌, ◌+◌, ℕ, List, [], ◌∷◌, ◌++◌, get_or, take, length, refl, sym, ap, ◌∙◌, subst, arith}
use Rattle.std.specs.Prelude.{slice_set}
use Rattle.std.specs.Int.{bit_not, w32}
use Rattle.std.specs.Int.Bits.{bit_and}
use Rattle.std.proofs.lemmas.List.{take_more, take_all}
use Rattle.om_graph.specs.View.{Has}
use Rattle.om_dead.specs.Lowering.{IsLowered}
use Rattle.om_dead.proofs.OnLowering.{lowered_first, lowered_more, lowered_holds, has_at}
use Rattle.om_dead.proofs.masks.Masks.lower.Goals as goal

pub loop-b-init : goal.loop-b-init
loop-b-init c = (lowered_first c.args.r c.args.self.now.starts.items, refl)

room :
    (blocks starts now : List ℕ) (i b r : ℕ) → i < length blocks → b ≡ get_or blocks i b → ((id : ℕ) → Has blocks id → id < length starts) →
    IsLowered r (take i blocks) starts now → b < length now
room blocks starts now i b r l e live is = subst (λ (n : ℕ). b < n) (sym is.size) (live b (subst (λ (x : ℕ). Has blocks x) (sym e) (has_at blocks i b l)))

pub start-mask-requires : goal.start-mask-requires
start-mask-requires c =
    room c.args.blocks.now c.args.self.now.starts.items c.loop-b.self.starts.items c.loop-b.b-index c.b-item.result c.args.r c.loop-b-test.true c.b-item.is
    (λ id h. (c.requires.holds.room id (c.requires.live id h)).0) c.loop-b.invariant.0

pub set_start-requires : goal.set_start-requires
set_start-requires c =
    room c.args.blocks.now c.args.self.now.starts.items c.loop-b.self.starts.items c.loop-b.b-index c.b-item.result c.args.r c.loop-b-test.true c.b-item.is
    (λ id h. (c.requires.holds.room id (c.requires.live id h)).0) c.loop-b.invariant.0

pub loop-b-preserved : goal.loop-b-preserved
loop-b-preserved c =
    let blocks = c.args.blocks.now in
    let starts = c.args.self.now.starts.items in
    let now = c.loop-b.self.starts.items in
    let r = c.args.r in
    let b = c.b-item.result in
    let i = c.loop-b.b-index in
    let e = bit_and c.start-mask.result (bit_not w32 c.bit.result) in
    let l = c.requires.register in
    let here = room blocks starts now i b r c.loop-b-test.true c.b-item.is (λ id h. (c.requires.holds.room id (c.requires.live id h)).0) c.loop-b.invariant.0 in
    let more : IsLowered r (take i blocks ++ b ∷ []) starts (slice_set now b e) =
    lowered_more r (omega (arith, l)) c.bit.result c.bit.ensures (omega arith) (take i blocks) starts now b c.start-mask.result here c.start-mask.ensures c.loop-b.invariant.0 in
    let takes : take (i + 1) blocks ≡ take i blocks ++ b ∷ [] = take_more blocks i b c.loop-b-test.true ∙ ap (λ (x : ℕ). take i blocks ++ x ∷ []) (sym c.b-item.is) in (
      subst (λ (l : List ℕ). IsLowered r (take (i + 1) blocks) starts l) (sym c.set_start.ensures.starts)
          (subst (λ (d : List ℕ). IsLowered r d starts (slice_set now b e)) (sym takes) more),
      c.set_start.ensures.ends ∙ c.loop-b.invariant.1,
    )

pub returns : goal.returns
returns c =
    let blocks = c.args.blocks.now in
    let t = c.loop-b-test.false in
    let all : take c.loop-b.b-index blocks ≡ blocks = take_all c.loop-b.b-index blocks (omega (arith, t)) in
    let is = subst (λ (d : List ℕ). IsLowered c.args.r d c.args.self.now.starts.items c.loop-b.self.starts.items) all c.loop-b.invariant.0 in
    rw c.loop-b.invariant.1
    (lowered_holds c.args.g.now c.requires.graph c.requires.flow c.args.self.now.starts.items c.args.self.now.ends.items c.requires.holds c.args.r c.requires.register blocks c.requires.closed
    c.loop-b.self.starts.items is)
