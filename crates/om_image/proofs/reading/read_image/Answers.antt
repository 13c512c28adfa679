use Rattle.std.proofs.Common.{sym, ◌∙◌, arith}
use Rattle.om_image.proofs.Faults.{image_fault_is, image_unbroken}
use Rattle.om_image.proofs.Valid.{valid_image}
use Rattle.om_image.proofs.reading.read_image.Goals as goal

pub returns-in-Some : goal.returns-in-Some
returns-in-Some c = image_fault_is c.args.bytes.now c.in-Some.rule c.in-Some.at (sym c.image_fault.ensures.gives ∙ c.in-Some.is)

pub returns : goal.returns
returns c = record {
  image = c.in_ok-image_in.ensures.image;
  unbroken = image_unbroken c.args.bytes.now (sym c.image_fault.ensures.gives ∙ c.in_default.is);
  valid = valid_image c.args.bytes.now c.in_ok-image_in.field-0 c.in_default.ensures.none (c.in_ok-image_in.ensures.small) (λ j. omega (arith, c.type_inv.bytes j)) c.in_ok-image_in.ensures.image;
}
