use Rattle.std.proofs.Common.{ℕ, length, subst, arith}
use Rattle.om_uses.specs.Parts.{loads_of}
use Rattle.om_uses.specs.Tables.{AreOwned}
use Rattle.om_uses.proofs.uses.Uses.admit.Goals as goal

pub returns-clause-room : goal.returns-clause-room
returns-clause-room c = record {
  of = λ x e.
      let counted = c.in_ok-count.ensures.room x e in
      record {
        number = omega (arith, c.number.ensures, c.in_ok-extend_blocks.ensures.room);
        small = omega (arith, c.number.ensures, c.in_ok-extend_blocks.ensures.small);
        ops = counted.within;
        loads =
            subst (λ (n : ℕ). AreOwned c.admit_loads.new.loads.items c.in_ok-start.start n c.args.b) counted.loads
            (subst (λ (i : ℕ). AreOwned c.admit_loads.new.loads.items c.in_ok-start.start c.in_ok-count.count i) c.number-block.ensures c.in_ok-start.ensures.room);
        few = omega (arith, counted.loads, c.in_ok-count.ensures.few);
      };
}
