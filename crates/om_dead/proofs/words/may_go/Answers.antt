use Rattle.std.proofs.Common.{◌≡◌, Bool, true, false, not, refl, sym, arith}
use Rattle.std.proofs.lemmas.Bool.{true≢false}
use Rattle.om_dead.proofs.Shapes.{goes, stays_not_address, stays_live, stays_last}
use Rattle.om_dead.proofs.words.may_go.Goals as goal

pub returns-then-not-is_address-clause-stays : goal.returns-then-not-is_address-clause-stays
returns-then-not-is_address-clause-stays c = λ e out is. stays_not_address c.args.g.now c.args.op.now out (sym c.if-not-is_address.ensures)

pub returns-then-writes_of-live-ne0-clause-stays : goal.returns-then-writes_of-live-ne0-clause-stays
returns-then-writes_of-live-ne0-clause-stays c = λ e out is.
    stays_live c.args.g.now c.args.op.now c.writes_of.result c.args.live c.writes_of.ensures (omega arith) c.if-writes_of-live-ne0.true out is

not_true : (b : Bool) → not b ≡ false → b ≡ true
not_true true e = refl
not_true false e = sym e

is_not : (b : Bool) → not b ≡ true → b ≡ true → ⊥
is_not true e f = true≢false (sym e)
is_not false e f = true≢false (sym f)

pub returns-clause-goes : goal.returns-clause-goes
returns-clause-goes c = λ e out is.
    goes c.args.g.now c.args.op.now c.writes_of.result c.args.live (sym c.if-not-is_address.ensures) c.writes_of.ensures (omega arith) c.if-writes_of-live-ne0.false
    (λ l. is_not c.is_texts_last.result e (c.is_texts_last.ensures.1 l)) out is

pub returns-clause-stays : goal.returns-clause-stays
returns-clause-stays c = λ e out is.
    stays_last c.args.g.now c.args.op.now out (c.is_texts_last.ensures.0 (not_true c.is_texts_last.result e))
