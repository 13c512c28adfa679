use Rattle.std.proofs.Common.{◌≡◌, ◌++◌, ℕ, true, false, sym, ◌∙◌, ap}
use Rattle.std.specs.Prelude.{Option, is_some}
use Rattle.om_object.specs.Rules.{made_front, made_last, rules_9_to_12, rules_13_to_17, rules_21_to_23, first_broken}
use Rattle.om_object.proofs.FoundSpots.{broken_here, broken_later}
use Rattle.om_object.proofs.making.broken_rule.Goals as goal

pub returns-then-is_there : goal.returns-then-is_there
returns-then-is_there c =
    let p = c.args.p.now in
    let found : is_some (first_broken made_front p) ≡ true = ap (λ (o : Option ℕ). is_some o) (sym c.in_ok-front.ensures) ∙ sym c.is_there.ensures ∙ c.if-is_there.true in
    c.in_ok-front.ensures ∙ sym (broken_here made_front (rules_9_to_12 ++ (rules_13_to_17 ++ (rules_21_to_23 ++ made_last))) p found)

pub returns-then-is_there-2 : goal.returns-then-is_there-2
returns-then-is_there-2 c =
    let p = c.args.p.now in
    let a : is_some (first_broken made_front p) ≡ false = ap (λ (o : Option ℕ). is_some o) (sym c.in_ok-front.ensures) ∙ sym c.is_there.ensures ∙ c.if-is_there.false in
    let found : is_some (first_broken rules_9_to_12 p) ≡ true = ap (λ (o : Option ℕ). is_some o) (sym c.in_ok-first.ensures) ∙ sym c.is_there-2.ensures ∙ c.if-is_there-2.true in
    c.in_ok-first.ensures ∙ sym (
    broken_later made_front (rules_9_to_12 ++ (rules_13_to_17 ++ (rules_21_to_23 ++ made_last))) p a
    ∙ broken_here rules_9_to_12 (rules_13_to_17 ++ (rules_21_to_23 ++ made_last)) p found)

pub returns-then-is_there-3 : goal.returns-then-is_there-3
returns-then-is_there-3 c =
    let p = c.args.p.now in
    let a : is_some (first_broken made_front p) ≡ false = ap (λ (o : Option ℕ). is_some o) (sym c.in_ok-front.ensures) ∙ sym c.is_there.ensures ∙ c.if-is_there.false in
    let b : is_some (first_broken rules_9_to_12 p) ≡ false = ap (λ (o : Option ℕ). is_some o) (sym c.in_ok-first.ensures) ∙ sym c.is_there-2.ensures ∙ c.if-is_there-2.false in
    let found : is_some (first_broken rules_13_to_17 p) ≡ true = ap (λ (o : Option ℕ). is_some o) (sym c.in_ok-second.ensures) ∙ sym c.is_there-3.ensures ∙ c.if-is_there-3.true in
    c.in_ok-second.ensures ∙ sym (
    broken_later made_front (rules_9_to_12 ++ (rules_13_to_17 ++ (rules_21_to_23 ++ made_last))) p a
    ∙ broken_later rules_9_to_12 (rules_13_to_17 ++ (rules_21_to_23 ++ made_last)) p b
    ∙ broken_here rules_13_to_17 (rules_21_to_23 ++ made_last) p found)

pub returns-then-is_there-4 : goal.returns-then-is_there-4
returns-then-is_there-4 c =
    let p = c.args.p.now in
    let a : is_some (first_broken made_front p) ≡ false = ap (λ (o : Option ℕ). is_some o) (sym c.in_ok-front.ensures) ∙ sym c.is_there.ensures ∙ c.if-is_there.false in
    let b : is_some (first_broken rules_9_to_12 p) ≡ false = ap (λ (o : Option ℕ). is_some o) (sym c.in_ok-first.ensures) ∙ sym c.is_there-2.ensures ∙ c.if-is_there-2.false in
    let d : is_some (first_broken rules_13_to_17 p) ≡ false = ap (λ (o : Option ℕ). is_some o) (sym c.in_ok-second.ensures) ∙ sym c.is_there-3.ensures ∙ c.if-is_there-3.false in
    let found : is_some (first_broken rules_21_to_23 p) ≡ true = ap (λ (o : Option ℕ). is_some o) (sym c.in_ok-third.ensures) ∙ sym c.is_there-4.ensures ∙ c.if-is_there-4.true in
    c.in_ok-third.ensures ∙ sym (
    broken_later made_front (rules_9_to_12 ++ (rules_13_to_17 ++ (rules_21_to_23 ++ made_last))) p a
    ∙ broken_later rules_9_to_12 (rules_13_to_17 ++ (rules_21_to_23 ++ made_last)) p b
    ∙ broken_later rules_13_to_17 (rules_21_to_23 ++ made_last) p d
    ∙ broken_here rules_21_to_23 made_last p found)

pub returns : goal.returns
returns c =
    let p = c.args.p.now in
    let a : is_some (first_broken made_front p) ≡ false = ap (λ (o : Option ℕ). is_some o) (sym c.in_ok-front.ensures) ∙ sym c.is_there.ensures ∙ c.if-is_there.false in
    let b : is_some (first_broken rules_9_to_12 p) ≡ false = ap (λ (o : Option ℕ). is_some o) (sym c.in_ok-first.ensures) ∙ sym c.is_there-2.ensures ∙ c.if-is_there-2.false in
    let d : is_some (first_broken rules_13_to_17 p) ≡ false = ap (λ (o : Option ℕ). is_some o) (sym c.in_ok-second.ensures) ∙ sym c.is_there-3.ensures ∙ c.if-is_there-3.false in
    let e : is_some (first_broken rules_21_to_23 p) ≡ false = ap (λ (o : Option ℕ). is_some o) (sym c.in_ok-third.ensures) ∙ sym c.is_there-4.ensures ∙ c.if-is_there-4.false in
    c.in_ok-last.ensures ∙ sym (
    broken_later made_front (rules_9_to_12 ++ (rules_13_to_17 ++ (rules_21_to_23 ++ made_last))) p a
    ∙ broken_later rules_9_to_12 (rules_13_to_17 ++ (rules_21_to_23 ++ made_last)) p b
    ∙ broken_later rules_13_to_17 (rules_21_to_23 ++ made_last) p d
    ∙ broken_later rules_21_to_23 made_last p e)
