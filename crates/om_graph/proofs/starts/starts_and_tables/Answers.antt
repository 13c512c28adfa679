use Rattle.std.proofs.Common.{◌≡◌, ◌≤◌, ◌+◌, ◌*◌, ◌-◌, ◌^◌, ◌++◌, ◌∷◌, [], ℕ, List, length, get_or, take, sum, add-one, arith, sym, ap, ◌∙◌, subst}
use Rattle.std.proofs.lemmas.List.{take_more, length-take-le}
use Rattle.om_graph.specs.View.{numbers_from}
use Rattle.om_graph.specs.Laid.{AreStarts}
use Rattle.om_graph.proofs.StartSums.{starts_more, numbers_more, sum_push}
use Rattle.om_graph.proofs.starts.starts_and_tables.Goals as goal

pub loop-words-preserved : goal.loop-words-preserved
loop-words-preserved c =
    let i = c.loop-words.words-index in
    let texts = c.args.texts.now in
    let x = get_or c.args.texts.now c.loop-words.words-index 0 in
    let taken : take (i + 1) texts ≡ take i texts ++ x ∷ [] = take_more texts i 0 (omega arith) in
    let count : length (take i texts) ≡ i = length-take-le i texts (omega arith) in
    let below = c.type_inv.texts i in
    let start = c.loop-words.invariant.start in
    let small = c.loop-words.invariant.small in
    let enough : sum (take i texts) ≤ length (take i texts) * (2 ^ 32 - 1) = rw (count, ← start) small in
    let pushed : c.push.new.self.items ≡ c.loop-words.starts.items ++ sum (take i texts) ∷ [] = c.in_ok-push.ensures.items ∙ ap (λ (n : ℕ). c.loop-words.starts.items ++ n ∷ []) start in
    let number : c.loop-words.table ≡ 0 + i = let e = c.loop-words.invariant.table in omega (arith, e) in
    record {
      sums = subst (λ (l : List ℕ). AreStarts l c.push.new.self.items) (sym taken) (subst (λ (l : List ℕ). AreStarts (take i texts ++ x ∷ []) l) (sym pushed) (starts_more (take i texts) c.loop-words.starts.items x c.loop-words.invariant.sums enough));
      start = ap (λ (n : ℕ). n + x) start ∙ sym (sum_push (take i texts) x) ∙ ap sum (sym taken);
      small = omega (arith, small, below);
      tables =
          c.in_ok-push-2.ensures.items
          ∙ ap (λ (l : List ℕ). l ++ c.loop-words.table ∷ []) c.loop-words.invariant.tables
          ∙ ap (λ (n : ℕ). numbers_from 0 i ++ n ∷ []) number
          ∙ sym (numbers_more 0 i)
          ∙ ap (λ (n : ℕ). numbers_from 0 n) (sym (add-one i));
      table = ap (λ (n : ℕ). n + 1) c.loop-words.invariant.table;
    }
