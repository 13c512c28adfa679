use Rattle.std.proofs.Common.{◌≡◌, drop, bytes_eq}
use Rattle.std.specs.Prelude.{find}
use Rattle.om_asm.specs.Forms.{form_name}
use Rattle.om_asm.proofs.forms.first_named.Given as goal

abbrev pub invariant-loop-form : goal.invariant-loop-form
invariant-loop-form l =
    find (λ f. bytes_eq (form_name f) l.text) l.forms ≡ find (λ f. bytes_eq (form_name f) l.text) (drop l.form-index l.forms)
