use Rattle.std.proofs.Common.{Some, refl, ◌≤◌, List, length, ap, ◌∙◌, arith}
use Rattle.std.proofs.lemmas.List.{length_push}
use Rattle.std.proofs.lemmas.Iterator.Adapters.{YieldsList-from_vec}
use Rattle.std.proofs.lemmas.Iterator.Consumers.{YieldsList-turn}
use Rattle.om_value.specs.declared.value.Target.{Target}
use Rattle.om_layout.specs.Layout.{data_base}
use Rattle.om_layout.proofs.Behind.{table_step, table_stop_step}
use Rattle.om_layout.proofs.addresses.placed_tables.Goals as goal

few : (c : goal.In_ok-push) → length c.in-Some.s ≤ 8192
few c =
    let all = c.args.slots.items in
    let e = YieldsList-from_vec all c.into_iter-s-iterator.ensures.into_iter_gives.0 (c.into_iter-s-iterator.ensures.into_iter_gives.1 ∙ c.args.slots.ok.0) in
    let t = YieldsList-turn e c.loop-s.yielded c.loop-s.s-iterator c.loop-s.yielded_by (Some c.in-Some.s) c.next.new.self c.in-Some.s refl c.in-Some.ensures.steps in
    let h = c.requires.few (length c.loop-s.yielded) c.in-Some.s t.0 in
    let l = ap (λ (s : List Target). length s) t.1 in
    omega (arith, h, l)

pub loop-s-preserved : goal.loop-s-preserved
loop-s-preserved c =
    let h = c.loop-s.invariant in
    record {
      tables = table_step data_base c.loop-s.yielded c.in-Some.s c.loop-s.tables.items c.push.new.self.items c.new.result c.loop-s.at c.round_16-start.result h.tables h.stop c.round_16-start.ensures c.new.ensures c.in_ok-push.ensures.items;
      stop = table_stop_step data_base c.loop-s.yielded c.in-Some.s c.targets.result.now c.loop-s.at c.round_16-start.result h.stop c.round_16-start.ensures c.targets.ensures;
      small =
          let f = few c in
          let s = h.small in
          let r = c.round_16-start.ensures in
          let n = length_push c.loop-s.yielded c.in-Some.s in
          let t = ap (λ (l : List Target). length l) c.targets.ensures in
          omega (arith, f, s, r, n, t);
    }
