-- Ops that may be the halves of an opening pair of r29. No public clause cites this module.
use Rattle.std.specs.Prelude.{Bool, false, ◌&&◌, ◌==◌, List, ◌∷◌, Option, Some, None}
use Rattle.om_value.specs.declared.value.Place.{Place}
use Rattle.om_value.specs.Same.{place_eq}
use Rattle.om_graph.specs.declared.op.Op.{Op}
use Rattle.om_graph.specs.declared.op.OpKind.{OpKind}
use Rattle.om_graph.specs.declared.op.OpKind.TheVariants as op

abbrev pub is_gp_high : OpKind → Bool
is_gp_high (op.GpHi ra rb base) = ra == 29
is_gp_high _ = false

abbrev pub is_gp_low : Place → OpKind → Bool
is_gp_low high (op.GpLo ra rb hi) = (ra == 29) && (rb == 29) && place_eq hi high
is_gp_low high _ = false

-- the high half of a pair of r29 stands at a place
abbrev pub is_high_at : Place → Op → Bool
is_high_at at o = place_eq o.place at && is_gp_high o.kind

-- the low half of the pair whose high half is at another
abbrev pub is_low_at : Place → Place → Op → Bool
is_low_at high at o = place_eq o.place at && is_gp_low high o.kind

-- the first two of some ops
abbrev pub two_of : List Op → Option (Op × Op)
two_of (a ∷ b ∷ os) = Some (a, b)
two_of _ = None
