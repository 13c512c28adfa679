use Rattle.std.proofs.Common.{◌≡◌, ◌≤◌, subst, sym, length}
use Rattle.om_image.specs.MapFields.{map_end}
use Rattle.om_image.specs.Rules.{section_bytes}
use Rattle.om_image.proofs.MapFacts.{map_facts}
use Rattle.om_image.proofs.reading.image_in.Goals as goal

pub read_map-requires-clause-long : goal.read_map-requires-clause-long
read_map-requires-clause-long c =
    subst (λ b. 24 ≤ length b) (sym c.section_bytes-2.ensures.bytes) (map_facts _ (section_bytes c.args.bytes.now 3) c.requires.map).long

pub read_map-requires-clause-ends : goal.read_map-requires-clause-ends
read_map-requires-clause-ends c =
    subst (λ b. map_end b ≡ length b) (sym c.section_bytes-2.ensures.bytes) (map_facts _ (section_bytes c.args.bytes.now 3) c.requires.map).ends
