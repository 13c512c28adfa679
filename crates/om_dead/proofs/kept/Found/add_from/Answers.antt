use Rattle.std.proofs.Common.{◌≡◌, ◌<◌, ℕ, Bool, List, Option, Some, sym, ap, ◌∙◌, subst, arith}
use Rattle.std.specs.Prelude.{option_map}
use Rattle.om_graph.specs.declared.op.Last.{Last}
use Rattle.om_graph.specs.View.{Block}
use Rattle.om_blocks.proofs.Walking.{OnOps, ops_left, ops_begin, ops_more, ops_fewer, ops_end}
use Rattle.om_blocks.proofs.OnFilling.{found_id}
use Rattle.om_blocks.proofs.OnLands.{link_fits}
use Rattle.om_dead.specs.Finding.{Grown, LeadsTo}
use Rattle.om_dead.proofs.Reading.{OpsNamed, named_first, named_more, all_led}
use Rattle.om_dead.proofs.kept.Found.add_from.Goals as goal

some_same : (a b : Block) → Some a ≡ Some b → a ≡ b
some_same a b e = cc

some_last : (a b : Last) → Some a ≡ Some b → a ≡ b
some_last a b e = cc

pub loop-next-init : goal.loop-next-init
loop-next-init c =
    ops_begin (List Bool × List ℕ) (OpsNamed c.args.g.now c.args.self.now.set.items c.args.self.now.work.items) c.args.g.now c.requires.graph c.args.b c.first_op-next.result
    (c.args.self.now.set.items, c.args.self.now.work.items) c.requires.live c.first_op-next.ensures.first c.first_op-next.ensures.live
    (λ x. named_first c.args.g.now c.args.self.now.set.items c.args.self.now.work.items x)

on : (c : goal.After-next_op-next) → OnOps (List Bool × List ℕ) (OpsNamed c.args.g.now c.args.self.now.set.items c.args.self.now.work.items) c.args.g.now c.args.b (Some c.in-Some.o) (c.loop-next.self.set.items, c.loop-next.self.work.items)
on c =
    subst
    (λ (n : Option ℕ). OnOps (List Bool × List ℕ) (OpsNamed c.args.g.now c.args.self.now.set.items c.args.self.now.work.items) c.args.g.now c.args.b n (c.loop-next.self.set.items, c.loop-next.self.work.items))
    c.in-Some.is c.loop-next.invariant

pub loop-next-smaller : goal.loop-next-smaller
loop-next-smaller c =
    subst
    (λ (n : Option ℕ). ops_left (List Bool × List ℕ) (OpsNamed c.args.g.now c.args.self.now.set.items c.args.self.now.work.items) c.args.g.now c.args.b c.next_op-next.result
    < ops_left (List Bool × List ℕ) (OpsNamed c.args.g.now c.args.self.now.set.items c.args.self.now.work.items) c.args.g.now c.args.b n)
    (sym c.in-Some.is)
    (ops_fewer (List Bool × List ℕ) (OpsNamed c.args.g.now c.args.self.now.set.items c.args.self.now.work.items) c.args.g.now c.requires.graph c.args.b c.in-Some.o
    (c.loop-next.self.set.items, c.loop-next.self.work.items) c.next_op-next.result (on c) c.next_op-next.ensures.next)

pub add_code-requires : goal.add_code-requires
add_code-requires c = λ id live. let x = c.requires.rows id live in let y = c.loop-next.invariant.holds.are.size in omega (arith, x, y)

pub loop-next-preserved : goal.loop-next-preserved
loop-next-preserved c =
    let o = on c in
    ops_more (List Bool × List ℕ) (OpsNamed c.args.g.now c.args.self.now.set.items c.args.self.now.work.items) c.args.g.now c.requires.graph c.args.b c.in-Some.o
    (c.loop-next.self.set.items, c.loop-next.self.work.items) (c.add_code.new.self.set.items, c.add_code.new.self.work.items) c.next_op-next.result c.op-op.result o c.op-op.ensures
    (λ ops hb ho done.
    named_more c.args.g.now c.requires.flow c.args.self.now.set.items c.args.self.now.work.items o.block ops c.op-op.result c.loop-next.self.set.items c.loop-next.self.work.items c.add_code.new.self.set.items
    c.add_code.new.self.work.items hb ho c.in_ok-add_code.ensures done)
    c.next_op-next.ensures.next c.next_op-next.ensures.live

pub add_link-requires-clause-rows : goal.add_link-requires-clause-rows
add_link-requires-clause-rows c = λ id live. let x = c.requires.rows id live in let y = c.loop-next.invariant.holds.are.size in omega (arith, x, y)

pub add_link-requires-clause-fits : goal.add_link-requires-clause-fits
add_link-requires-clause-fits c = λ at e. link_fits c.args.g.now c.requires.flow c.args.b c.last-last.result c.last-last.ensures at e

pub add_exit-requires : goal.add_exit-requires
add_exit-requires c = λ id live.
    let x = c.requires.rows id live in let y = c.loop-next.invariant.holds.are.size in let z = c.in_ok-add_link.ensures.size in omega (arith, x, y, z)

pub add_fall-requires-clause-rows : goal.add_fall-requires-clause-rows
add_fall-requires-clause-rows c = λ id live.
    let x = c.requires.rows id live in let y = c.loop-next.invariant.holds.are.size in let z = c.in_ok-add_link.ensures.size in let w = c.in_ok-add_exit.ensures.size in omega (arith, x, y, z, w)

pub returns : goal.returns
returns c = λ x e.
    let o = subst
    (λ (n : Option ℕ). OnOps (List Bool × List ℕ) (OpsNamed c.args.g.now c.args.self.now.set.items c.args.self.now.work.items) c.args.g.now c.args.b n (c.loop-next.self.set.items, c.loop-next.self.work.items))
    c.in_default.is c.loop-next.invariant in
    let same : o.block ≡ x = some_same o.block x (sym o.is ∙ e) in
    let end = ops_end (List Bool × List ℕ) (OpsNamed c.args.g.now c.args.self.now.set.items c.args.self.now.work.items) c.args.g.now c.requires.graph c.args.b
    (c.loop-next.self.set.items, c.loop-next.self.work.items) o in
    let last : o.block.last ≡ c.last-last.result = some_last o.block.last c.last-last.result (sym (ap (option_map (λ (y : Block). y.last)) o.is) ∙ c.last-last.ensures) in
    subst (λ (y : Block). Grown (LeadsTo c.args.g.now y) c.args.self.now.set.items c.args.self.now.work.items c.add_fall.new.self.set.items c.add_fall.new.self.work.items) same
    (all_led c.args.g.now c.requires.flow o.block end.0 c.last-last.result last c.args.self.now.set.items c.args.self.now.work.items c.loop-next.self.set.items c.loop-next.self.work.items
    c.add_link.new.self.set.items c.add_link.new.self.work.items c.add_exit.new.self.set.items c.add_exit.new.self.work.items c.add_fall.new.self.set.items c.add_fall.new.self.work.items
    end.1 c.in_ok-add_link.ensures c.in_ok-add_exit.ensures
    (rw (found_id c.args.g.now.blocks c.args.b o.block o.is) c.in_ok-add_fall.ensures))
