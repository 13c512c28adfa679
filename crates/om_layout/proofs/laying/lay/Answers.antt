use Rattle.std.proofs.Common.{◌<◌, ◌+◌, ◌*◌, ◌^◌, List, ℕ, length, ap, sym, subst, ◌∙◌, arith}
use Rattle.std.specs.Prelude.{map, sum_by, slice_get, IsPermutation}
use Rattle.om_prog.specs.declared.region.RegionInit.{RegionInit}
use Rattle.om_graph.specs.Run.{words}
use Rattle.om_layout.specs.declared.sorting.Extent.{Extent}
use Rattle.om_layout.specs.Layout.{LayoutView, data_base}
use Rattle.om_layout.specs.Order.{extent_of, IsLayoutOf}
use Rattle.om_layout.specs.Placing.{AreOfObjects, AreFirsts, extent_pair, tables_stop, regions_from}
use Rattle.om_layout.proofs.Together.{small_counts, of_objects, few_each, many_slots, noted_of, few_places, table_limit, room, stand_of, places_of, laid}
use Rattle.om_layout.proofs.laying.lay.Goals as goal

pub positions_of-requires-clause-counts : goal.positions_of-requires-clause-counts
positions_of-requires-clause-counts c i n e =
    small_counts c.args.program.now c.regions-inits.ensures.program i n (sym (ap (λ (cs : List ℕ). slice_get cs i) (c.as_slice-2.ensures.value ∙ c.in_ok-counts.ensures)) ∙ e)

pub positions_of-requires-clause-places : goal.positions_of-requires-clause-places
positions_of-requires-clause-places c =
    few_places c.args.program.now c.regions-inits.ensures.program c.args.graph.now c.requires.graph c.requires.limits c.as_slice-3.result.now (c.as_slice-3.ensures.value ∙ c.in_ok-words.ensures.places)

pub slots_of-requires : goal.slots_of-requires
slots_of-requires c =
    subst (λ (ts : List ℕ). AreOfObjects ts c.as_slice-5.result.now) (sym (c.as_slice-4.ensures.value ∙ c.in_ok-object_tables.ensures))
    (of_objects c.args.program.now c.regions-inits.ensures.program c.args.graph.now c.requires.graph c.as_slice-5.result.now (c.as_slice-5.ensures.value ∙ c.in_ok-words.ensures.loads))

pub placed_tables-requires-clause-tables : goal.placed_tables-requires-clause-tables
placed_tables-requires-clause-tables c =
    let n = noted_of c.args.graph.now.tables c.as_slice-4.result.now c.in_ok-words.words.loads.items c.as_slice-5.result.now c.in_ok-slots.slots.items c.in_ok-slots.ensures
    (c.as_slice-4.ensures.value ∙ c.in_ok-object_tables.ensures) c.as_slice-5.ensures.value in
    let m = many_slots c.args.program.now c.regions-inits.ensures.program c.args.graph.now c.requires.graph c.in_ok-words.words.loads.items c.in_ok-slots.slots.items n in
    let l = table_limit c.args.program.now c.regions-inits.ensures.program c.args.graph.now c.requires.graph c.requires.limits in
    omega (arith, m, l)

pub placed_tables-requires-clause-few : goal.placed_tables-requires-clause-few
placed_tables-requires-clause-few c =
    let n = noted_of c.args.graph.now.tables c.as_slice-4.result.now c.in_ok-words.words.loads.items c.as_slice-5.result.now c.in_ok-slots.slots.items c.in_ok-slots.ensures
    (c.as_slice-4.ensures.value ∙ c.in_ok-object_tables.ensures) c.as_slice-5.ensures.value in
    few_each c.args.program.now c.regions-inits.ensures.program c.args.graph.now c.requires.graph c.in_ok-words.words.loads.items c.in_ok-slots.slots.items c.in_ok-words.ensures.loads n

pub placed_regions-requires-clause-room : goal.placed_regions-requires-clause-room
placed_regions-requires-clause-room c =
    let n = noted_of c.args.graph.now.tables c.as_slice-4.result.now c.in_ok-words.words.loads.items c.as_slice-5.result.now c.in_ok-slots.slots.items c.in_ok-slots.ensures
    (c.as_slice-4.ensures.value ∙ c.in_ok-object_tables.ensures) c.as_slice-5.ensures.value in
    let m = many_slots c.args.program.now c.regions-inits.ensures.program c.args.graph.now c.requires.graph c.in_ok-words.words.loads.items c.in_ok-slots.slots.items n in
    let l = table_limit c.args.program.now c.regions-inits.ensures.program c.args.graph.now c.requires.graph c.requires.limits in
    let f = few_each c.args.program.now c.regions-inits.ensures.program c.args.graph.now c.requires.graph c.in_ok-words.words.loads.items c.in_ok-slots.slots.items c.in_ok-words.ensures.loads n in
    subst (λ k. k + 15 * length c.as_slice-6.result.now + sum_by (λ (e : Extent). e.size) c.as_slice-6.result.now < 2 ^ 48) (sym c.in_ok-tables.ensures.end)
    (subst (λ (es : List Extent). tables_stop data_base c.in_ok-slots.slots.items + 15 * length es + sum_by (λ (e : Extent). e.size) es < 2 ^ 48) (sym c.as_slice-6.ensures.value)
    (room c.args.program.now c.regions-inits.ensures.program c.args.graph.now c.requires.graph c.requires.limits c.in_ok-slots.slots.items c.in_ok-extents.extents.items f (omega (arith, m, l))
    (subst (λ (is : List RegionInit). IsPermutation (map extent_pair c.in_ok-extents.extents.items) (map extent_of is)) c.regions-inits.ensures.value c.in_ok-extents.ensures.same)))

pub of-requires-2 : goal.of-requires-2
of-requires-2 c =
    places_of c.in_ok-counts.counts.items c.in_ok-starts.starts.items c.in_ok-positions.positions.items (words c.args.graph.now)
    (subst (λ (cs : List ℕ). AreFirsts cs c.in_ok-starts.starts.items) c.as_slice.ensures.value c.in_ok-starts.ensures)
    (stand_of c.args.program.now c.regions-inits.ensures.program c.args.graph.now c.requires.graph c.as_slice-2.result.now c.in_ok-counts.counts.items c.in_ok-positions.positions.items c.as_slice-3.result.now
    c.as_slice-2.ensures.value c.in_ok-counts.ensures (c.as_slice-3.ensures.value ∙ c.in_ok-words.ensures.places) c.in_ok-positions.ensures)

pub returns : goal.returns
returns c =
    let p = c.args.program.now in
    let g = c.args.graph.now in
    let prog = c.regions-inits.ensures.program in
    let n = noted_of g.tables c.as_slice-4.result.now c.in_ok-words.words.loads.items c.as_slice-5.result.now c.in_ok-slots.slots.items c.in_ok-slots.ensures
    (c.as_slice-4.ensures.value ∙ c.in_ok-object_tables.ensures) c.as_slice-5.ensures.value in
    subst (λ (l : LayoutView). IsLayoutOf p g l) (sym c.of-2.ensures)
    (laid p prog g c.requires.graph c.in_ok-counts.counts.items c.in_ok-object_tables.object_tables.items c.in_ok-words.words.loads.items c.in_ok-slots.slots.items c.in_ok-tables.tables.items c.in_ok-tables.end
    c.in_ok-extents.extents.items c.in_ok-regions.regions c.in_ok-positions.positions.items
    (record {
      counts_are = c.in_ok-counts.ensures;
      tables_are = c.in_ok-object_tables.ensures;
      loads_are = c.in_ok-words.ensures.loads;
      slots_noted = n;
      tables_stand = c.in_ok-tables.ensures.tables;
      stop_is = c.in_ok-tables.ensures.end;
      same = subst (λ (is : List RegionInit). IsPermutation (map extent_pair c.in_ok-extents.extents.items) (map extent_of is)) c.regions-inits.ensures.value c.in_ok-extents.ensures.same;
      order = c.in_ok-extents.ensures.order;
      regions_stand = c.in_ok-regions.ensures ∙ ap (regions_from c.in_ok-tables.end) c.as_slice-6.ensures.value;
      stand = stand_of p prog g c.requires.graph c.as_slice-2.result.now c.in_ok-counts.counts.items c.in_ok-positions.positions.items c.as_slice-3.result.now c.as_slice-2.ensures.value c.in_ok-counts.ensures
          (c.as_slice-3.ensures.value ∙ c.in_ok-words.ensures.places) c.in_ok-positions.ensures;
    }))
