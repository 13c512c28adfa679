use Rattle.std.proofs.Common.{◌≡◌, ℕ, refl, sym, ◌∙◌, subst, arith}
use Rattle.std.proofs.lemmas.Bool.{true≢false}
use Rattle.om_graph.specs.declared.op.Op.{Op}
use Rattle.om_blocks.specs.Effects.{kind_reads, kind_writes}
use Rattle.om_blocks.proofs.Walking.{some_is}
use Rattle.om_live.specs.Outs.{HasBits}
use Rattle.om_dead.specs.Sweeps.{live_over, MayGo, HasToStay}
use Rattle.om_dead.proofs.InTexts.{in_text}
use Rattle.om_dead.proofs.Shapes.{bits_in_front}
use Rattle.om_dead.proofs.words.sweep_op.Goals as goal

pub may_go-requires : goal.may_go-requires
may_go-requires c = in_text c.args.g.now c.requires.of c.args.o c.op-op.result c.op-op.ensures

pub returns-then-may_go : goal.returns-then-may_go
returns-then-may_go c = λ x e.
    let same : c.op-op.result ≡ x = some_is c.op-op.result x (sym c.op-op.ensures ∙ e) in
    record {
      gone = λ t. c.delete.ensures;
      same = λ t. refl;
      may = λ t out is. subst (λ (y : Op). MayGo c.args.g.now y out) same (c.if-may_go.ensures.goes refl out is);
      kept = λ t. absurd (true≢false t);
      told = λ t. absurd (true≢false t);
      stays = λ t. absurd (true≢false t);
      numbered = c.is_numbered.ensures;
    }

pub returns : goal.returns
returns c = λ x e.
    let same : c.op-op.result ≡ x = some_is c.op-op.result x (sym c.op-op.ensures ∙ e) in
    record {
      gone = λ t. absurd (true≢false (sym t));
      same = λ t. absurd (true≢false (sym t));
      may = λ t. absurd (true≢false (sym t));
      kept = λ t. refl;
      told = λ t out is.
          subst (λ (y : Op). HasBits c.in_front.result (live_over y.kind out)) same
          (subst (λ (n : ℕ). HasBits n (live_over (c.op-op.result).kind out)) (sym c.in_front.ensures)
          (bits_in_front (kind_reads (c.op-op.result).kind) (kind_writes (c.op-op.result).kind) c.reads_of-2.result c.writes_of.result c.args.live out c.reads_of-2.ensures c.writes_of.ensures (omega arith) is));
      stays = λ t out is. subst (λ (y : Op). HasToStay c.args.g.now y out) same (c.if-may_go.ensures.stays refl out is);
      numbered = c.is_numbered.ensures;
    }
