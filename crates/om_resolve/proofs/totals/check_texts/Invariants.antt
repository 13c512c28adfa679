use Rattle.std.proofs.Common.{◌≡◌, take}
use Rattle.std.specs.Prelude.{None}
use Rattle.om_resolve.specs.declared.causes.Which.TheVariants.{ObjText}
use Rattle.om_resolve.specs.Causes.{first_given, over, text_size}
use Rattle.om_resolve.proofs.totals.check_texts.Given as goal

abbrev pub invariant-loop-i : goal.invariant-loop-i
invariant-loop-i l = first_given (λ p. over ObjText 4194304 (text_size p)) (take l.i l.objects) ≡ None
