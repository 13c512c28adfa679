use Rattle.om_addr.proofs.FarServes.{serves}
use Rattle.om_addr.proofs.far.half_serves.Goals as goal

pub returns : goal.returns
returns c =
    serves c.args.at.now c.requires.tame c.args.least c.args.most c.ranges.least c.ranges.most c.distance_to.result c.distance_to-2.result c.high_part-high.result c.rest_of.result c.quotient.result c.quotient-2.result
    c.distance_to.ensures.value c.distance_to.ensures.low c.distance_to.ensures.up c.high_part-high.ensures c.distance_to-2.ensures.value c.distance_to-2.ensures.low c.distance_to-2.ensures.up
    c.rest_of.ensures c.if-not-is_small.ensures c.if-not-is_small-2.ensures c.quotient.ensures c.quotient-2.ensures c.is_at_most.result c.is_at_most.ensures
