use Rattle.std.proofs.Common.{◌≡◌, ℕ, true, false, sym, ◌∙◌, ap}
use Rattle.std.specs.Prelude.{Option, is_some}
use Rattle.om_object.specs.Rules.{rules_9_to_12, rules_13_to_17, rules_21_to_23}
use Rattle.om_object.specs.Spots.{first_spot}
use Rattle.om_object.proofs.Chains.{spot-first, spot-second, spot-third}
use Rattle.om_object.proofs.faults.part_fault.Goals as goal

pub returns-then-is_there : goal.returns-then-is_there
returns-then-is_there c =
    let p = c.args.p.now in
    let o = c.args.o.now in
    let found : is_some (first_spot rules_9_to_12 p o) ≡ true =
    ap (λ (x : Option (ℕ × ℕ)). is_some x) (sym c.in_ok-first.ensures) ∙ sym c.is_there.ensures ∙ c.if-is_there.true in
    c.in_ok-first.ensures ∙ sym (spot-first rules_9_to_12 rules_13_to_17 rules_21_to_23 p o found)

pub returns-then-is_there-2 : goal.returns-then-is_there-2
returns-then-is_there-2 c =
    let p = c.args.p.now in
    let o = c.args.o.now in
    let none : is_some (first_spot rules_9_to_12 p o) ≡ false =
    ap (λ (x : Option (ℕ × ℕ)). is_some x) (sym c.in_ok-first.ensures) ∙ sym c.is_there.ensures ∙ c.if-is_there.false in
    let found : is_some (first_spot rules_13_to_17 p o) ≡ true =
    ap (λ (x : Option (ℕ × ℕ)). is_some x) (sym c.in_ok-second.ensures) ∙ sym c.is_there-2.ensures ∙ c.if-is_there-2.true in
    c.in_ok-second.ensures ∙ sym (spot-second rules_9_to_12 rules_13_to_17 rules_21_to_23 p o none found)

pub returns : goal.returns
returns c =
    let p = c.args.p.now in
    let o = c.args.o.now in
    let none : is_some (first_spot rules_9_to_12 p o) ≡ false =
    ap (λ (x : Option (ℕ × ℕ)). is_some x) (sym c.in_ok-first.ensures) ∙ sym c.is_there.ensures ∙ c.if-is_there.false in
    let more : is_some (first_spot rules_13_to_17 p o) ≡ false =
    ap (λ (x : Option (ℕ × ℕ)). is_some x) (sym c.in_ok-second.ensures) ∙ sym c.is_there-2.ensures ∙ c.if-is_there-2.false in
    c.in_ok-third.ensures ∙ sym (spot-third rules_9_to_12 rules_13_to_17 rules_21_to_23 p o none more)
