use Rattle.std.proofs.Common.{List, subst}
use Rattle.std.specs.Prelude.{All}
use Rattle.std.proofs.lemmas.List.{take_all}
use Rattle.std.proofs.lemmas.List.Elements.{All-more}
use Rattle.om_value.specs.declared.value.Region.TheVariants.{Sec}
use Rattle.om_layout.specs.declared.sorting.Extent.{Extent}
use Rattle.om_layout.specs.Placing.{Fits}
use Rattle.om_layout.proofs.sorting.extents_fit.Goals as goal

pub loop-e-preserved : goal.loop-e-preserved
loop-e-preserved c = All-more (λ (e : Extent). Fits e.region) c.args.extents.now c.loop-e.e-index (record { size = 0; region = Sec 0 0 }) c.loop-e-test.true c.loop-e.invariant c.region_fits.ensures

pub returns : goal.returns
returns c = subst (λ (es : List Extent). All (λ (e : Extent). Fits e.region) es) (take_all c.loop-e.e-index c.args.extents.now c.loop-e-test.false) c.loop-e.invariant
