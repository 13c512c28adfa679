use Rattle.om_image.proofs.Items.{map_made}
use Rattle.om_image.proofs.map_reading.read_map.Goals as goal

pub returns : goal.returns
returns c =
    map_made c.args.b.now c.shape_of-s.result c.in_ok-objects.field-0 c.in_ok-tables.field-0 c.in_ok-regions.field-0 c.in_ok-sources.field-0
    c.shape_of-s.ensures c.in_ok-objects.ensures c.in_ok-tables.ensures c.in_ok-regions.ensures c.in_ok-sources.ensures
