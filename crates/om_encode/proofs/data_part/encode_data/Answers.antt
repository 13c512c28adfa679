use Rattle.std.proofs.Common.{ℕ, List, length, ap, ◌∙◌, arith}
use Rattle.std.specs.Prelude.{map}
use Rattle.om_value.specs.declared.value.Place.{Place}
use Rattle.om_layout.specs.Layout.{TableAt, RegionAt, code_at, gp_of}
use Rattle.om_encode.specs.Data.{map_table, map_region}
use Rattle.om_encode.proofs.Fitting.{fits_in_every_layout}
use Rattle.om_encode.proofs.DataIs.{has_data, data_is}
use Rattle.om_encode.proofs.data_part.encode_data.Goals as goal

pub data_bytes-requires : goal.data_bytes-requires
data_bytes-requires c =
    (fits_in_every_layout c.args.program.now c.args.graph.now c.args.layout.now c.program_fits.ensures.program c.requires.graph c.requires.limits c.requires.layout).distances

pub data_end-end-requires : goal.data_end-end-requires
data_end-end-requires c =
    has_data c.args.program.now c.args.graph.now c.args.layout.now c.program_fits.ensures.program c.requires.graph c.requires.limits c.requires.layout

pub returns-clause-data_part : goal.returns-clause-data_part
returns-clause-data_part c =
    data_is c.args.program.now c.args.graph.now c.args.layout.now c.program_fits.ensures.program c.requires.graph c.requires.limits c.requires.layout
    _ c.program_fits.ensures.widths
    (record {
      objects = c.in_ok-map_objects.ensures;
      tables = c.in_ok-map_tables.ensures ∙ ap (λ (ts : List TableAt). map map_table ts) c.tables.ensures;
      regions = c.in_ok-map_regions.ensures ∙ ap (λ (rs : List RegionAt). map map_region rs) c.regions.ensures;
      bytes = c.in_ok-bytes.ensures;
      bss =
          let less = c.saturating_sub-bss.ensures in
          let from = c.saturating_sub.ensures in
          let end = c.data_end-end.ensures in
          let bytes = ap (λ (xs : List ℕ). length xs) c.as_slice.ensures in
          omega (arith, less, from, end, bytes);
      entry = c.code.ensures ∙ ap (λ (q : Place). code_at c.args.layout.now q) c.entry-entry.ensures;
      gp = c.gp.ensures ∙ ap (λ (q : Place). gp_of c.args.layout.now q.obj) c.entry-entry.ensures;
    })
