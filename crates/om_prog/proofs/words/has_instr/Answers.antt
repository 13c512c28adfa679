use Rattle.std.proofs.Common.{◌≡◌, ◌<◌, ◌^◌, ℕ, Some, sym, ◌∙◌, subst}
use Rattle.std.specs.Prelude.{IsTrue, ◌==◌}
use Rattle.std.proofs.lemmas.Bool.{eqb-true, eq-eqb}
use Rattle.om_isa.specs.declared.instr.Instr.{Instr}
use Rattle.om_isa.specs.Words.{instr_of, word_of}
use Rattle.om_isa.proofs.Reading.{sound}
use Rattle.om_prog.proofs.words.has_instr.Goals as goal

read_back : (r w : ℕ) (i : Instr) → instr_of r ≡ Some i → IsTrue (r == w) → instr_of w ≡ Some i
read_back r w i e t = subst (λ (x : ℕ). instr_of x ≡ Some i) (eqb-true r w t) e

same_word : (r w : ℕ) (i : Instr) → r ≡ word_of i → w < 2 ^ 32 → instr_of w ≡ Some i → IsTrue (r == w)
same_word r w i e h f = eq-eqb r w (e ∙ sym (sound w i h f).word)

pub returns : goal.returns
returns c = (
  read_back c.encode.result c.args.w c.args.i.now c.encode.ensures.back,
  (λ e. same_word c.encode.result c.args.w c.args.i.now c.encode.ensures.value c.ranges.w.fits e),
)
