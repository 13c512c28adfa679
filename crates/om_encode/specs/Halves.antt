-- The numbers that symbolic values are in an image: addresses by its layout, and the halves that first instructions of
-- pairs give. LDAH adds 65536 times its displacement and LDA its own, both signed (Alpha Architecture Handbook, chapter 4,
-- "Memory Integer Load/Store Instructions"), so the high part of a distance is rounded to leave 16 signed bits.
use Rattle.std.specs.Prelude.{ℕ, ℤ, pos, ◌+ℤ◌, ◌-ℤ◌, ◌*ℤ◌, if◌then◌else◌, List, [], ◌∷◌, Option, Some, None}
use Rattle.std.specs.Int.{int_div_euclid}
use Rattle.std.specs.Option.{option_or}
use Rattle.om_value.specs.declared.value.Place.{Place}
use Rattle.om_value.specs.declared.value.Target.{Target}
use Rattle.om_value.specs.Same.{place_eq}
use Rattle.om_prog.specs.Act.{Act, GpHi, Word}
use Rattle.om_prog.specs.View.{ProgramView}
use Rattle.om_prog.specs.Script.{program_fetch}
use Rattle.om_graph.specs.declared.op.Op.{Op}
use Rattle.om_graph.specs.declared.op.OpKind.{OpKind}
use Rattle.om_graph.specs.declared.op.OpKind.TheVariants as op
use Rattle.om_graph.specs.View.{Block, GraphView, ops_of}
use Rattle.om_image.specs.NumAccess.{plus}
use Rattle.om_lockstep.specs.Addresses.{Addresses}
use Rattle.om_layout.specs.Layout.{LayoutView, region_at, code_at, gp_at, gp_of, address_of}

-- the high part of a distance, where the low part has 16 signed bits: the distance and 32768, over 65536, rounded down
abbrev pub high_part : ℤ → ℤ
high_part z = int_div_euclid (z +ℤ pos 32768) (pos 65536)

-- ---- loads that became LDAH

-- what such a load gives the half of, and the least displacement of its uses
abbrev pub FarLoad : Type 0
FarLoad = Target × ℤ

abbrev pub far_kind : OpKind → Option FarLoad
far_kind (op.AddrHi ra rb t least) = Some (t, least)
far_kind _ = None

abbrev pub far_op : Place → Op → Option FarLoad
far_op at o = if place_eq o.place at then far_kind o.kind else None

abbrev pub far_in : List Op → Place → Option FarLoad
far_in [] at = None
far_in (o ∷ os) at = option_or (far_op at o) (far_in os at)

-- the load at a place that became LDAH, if one did
abbrev pub far_of : List Block → Place → Option FarLoad
far_of [] at = None
far_of (b ∷ bs) at = option_or (far_in (ops_of b) at) (far_of bs at)

-- ---- halves

module _ (l : LayoutView) where
  -- how far a target lies behind the global pointer of an object, and that behind a place
  abbrev pub from_gp : ℕ → Target → ℤ
  from_gp obj t = pos (address_of l t) -ℤ pos (gp_of l obj)

  abbrev pub from_base : ℕ → Place → ℤ
  from_base obj base = pos (gp_of l obj) -ℤ pos (code_at l base)

  -- what the first half of a pair gives, whether it is kept or not
  abbrev pub pair_half : ℕ → Place → ℕ
  pair_half obj base = plus (code_at l base) (pos 65536 *ℤ high_part (from_base obj base))

  -- what a load that became LDAH gives
  abbrev pub far_half : ℕ → FarLoad → ℕ
  far_half obj f = plus (gp_of l obj) (pos 65536 *ℤ high_part (from_gp obj f.0 +ℤ f.1))

  abbrev pub far_or : ℕ → Option FarLoad → ℕ
  far_or obj None = 0
  far_or obj (Some f) = far_half obj f

  abbrev pub half_by : ℕ → Act → Option FarLoad → ℕ
  half_by obj (GpHi ra rb base) far = pair_half obj base
  half_by obj _ far = far_or obj far

  -- by the word of the program at the place
  abbrev pub half_of : ℕ → Option Word → Option FarLoad → ℕ
  half_of obj None far = far_or obj far
  half_of obj (Some w) far = half_by obj w.act far

-- ---- all numbers

abbrev pub addresses_of : ProgramView → GraphView → LayoutView → Addresses
addresses_of p g l = record {
  region = region_at l;
  code = code_at l;
  gp = gp_at l;
  half = λ at. half_of l at.obj (program_fetch p at) (far_of g.blocks at);
}
