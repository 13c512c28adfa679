-- From a true map to runs in lockstep.
use Rattle.std.proofs.Common.{◌≡◌, inl, inr, ℕ, zero, suc, ◌+◌, ◌*◌, ◌/◌, ◌%◌, ◌^◌, ◌<◌, ◌≤◌, Bool, true, false, cond, not, ◌==◌, nat_lt, nat_le, List, [], ◌∷◌, length, Option, Some, None, refl, ap, sym, subst, ◌∙◌, arith}
use Rattle.std.specs.Prelude.{slice_get, slice_index, slice_index_or, All, IsTrue}
use Rattle.std.proofs.lemmas.Bool.{ltb-true}
use Rattle.std.proofs.lemmas.Bool.Decides.{nat_tests}
use Rattle.om_value.specs.declared.value.Place.{Place}
use Rattle.om_value.specs.declared.value.Region.{Region}
use Rattle.om_value.specs.declared.value.Region.TheVariants.{Sec, Common, Stack, Heap}
use Rattle.om_value.specs.declared.value.Target.{Target}
use Rattle.om_value.specs.declared.value.Value.TheVariants.{Num, Code}
use Rattle.om_value.specs.Same.{region_eq}
use Rattle.om_prog.specs.declared.item.Field.{Field}
use Rattle.om_prog.specs.declared.region.RegionInit.{RegionInit}
use Rattle.om_prog.specs.View.{ProgramView, init_of, size_or_none, size_of}
use Rattle.om_prog.specs.Script.{initial, init_cell}
use Rattle.om_prog.specs.Valid.{IsProgram, width_of}
use Rattle.om_prog.specs.Step.{SymState, sized}
use Rattle.om_prog.specs.Runs.{sym_run, has_observed}
use Rattle.om_prog.specs.Within.{ValueWithin}
use Rattle.om_graph.specs.View.{GraphView, Has}
use Rattle.om_graph.specs.Run.{words, table_of, entry_of, is_word_in, graph_script}
use Rattle.om_graph.specs.Form.{Ordered}
use Rattle.om_graph.specs.Kept.{IsInKeptSet, KeptInBlocks, IsBlock, IsEnd, Comes, IsKeptLabel}
use Rattle.om_graph.specs.OfProgram.{IsGraphOf}
use Rattle.om_graph.specs.Whole.{IsWhole}
use Rattle.om_graph.proofs.Labels.{has_label, found_behind, is_true}
use Rattle.om_graph.proofs.Places.{placed}
use Rattle.om_graph.proofs.Itself.{all_ordered}
use Rattle.om_graph.proofs.OfProgram.{words_in_place}
use Rattle.om_graph.proofs.Forms.{whole_of}
use Rattle.om_graph.proofs.Whole.{run_comes, run_labels}
use Rattle.om_graph.proofs.LiftedOf.{lifted_of}
use Rattle.om_graph.proofs.LiftedKept.{lifted_whole}
use Rattle.om_graph.proofs.LiftedRun.{lifted_run}
use Rattle.om_image.specs.declared.image.Image.{Image}
use Rattle.om_image.specs.NumStep.{data_size, start_memory, is_text}
use Rattle.om_image.specs.NumRun.{num_run}
use Rattle.om_image.specs.Valid.{IsValidImage}
use Rattle.om_lockstep.specs.Addresses.{Addresses, IsLaidOut, IsCell, IsValue}
use Rattle.om_lockstep.specs.Goes.{cell_byte, most_of}
use Rattle.om_lockstep.specs.Forms.{IsEncoded, IsSlot}
use Rattle.om_lockstep.specs.Lockstep.{StartsAlike, AreBytes, KeepsCodes, InLockstep, Alike}
use Rattle.om_lockstep.proofs.Small.{same_region, and_true}
use Rattle.om_lockstep.proofs.Steps.{in_lockstep}
use Rattle.om_layout.specs.Layout.{LayoutView, TableAt, data_base, stack_base, position_of, code_at, region_at, start_at, start_or, gp_at}
use Rattle.om_layout.specs.Facts.{LaysOut}
use Rattle.om_layout.specs.Order.{tables_end, regions_end}
use Rattle.om_encode.specs.Halves.{addresses_of}
use Rattle.om_encode.specs.Data.{DataIsTrue, DistanceFits, region_byte, data_byte}
use Rattle.om_encode.specs.Runs.{TrueMapsRun, LiftedImagesRun}
use Rattle.om_encode.specs.TrueMap.{IsMapIn}
use Rattle.om_encode.proofs.Extents.{SizesMatch, sizes_match}
use Rattle.om_encode.proofs.Sources.{formed}
use Rattle.om_encode.proofs.Behind.{word_behind_label}
use Rattle.om_encode.proofs.Regions.{is_laid_out, all_mapped, slot_at, located, IsGiven, table_in, data_test, end_grows, got_in, given_low}
use Rattle.om_encode.proofs.Standing.{stands, text_lands}
use Rattle.om_encode.proofs.Start.{find_all, init_begins, Begins}

below_data : (a : ℕ) → a < data_base → nat_le data_base a ≡ false
below_data a h = grind (arith, nat_tests)

-- all of a list's elements have what each has by its place
pub all_of : {A : Type 0} (P : A → Type 0) (xs : List A) → ((k : ℕ) (x : A) → slice_get xs k ≡ Some x → P x) → All P xs
all_of P [] h k d lt = absurd (omega arith)
all_of P (x ∷ xs) h zero d lt = h 0 x refl
all_of P (x ∷ xs) h (suc k) d lt = all_of P xs (λ j y e. h (suc j) y e) k d (omega (arith, lt))

-- a place of the kept set that is no text's end is in its block
pub label_comes : (p : ProgramView) → IsProgram p → (g : GraphView) → IsGraphOf p g → (q : Place) → IsInKeptSet g q → IsBlock g q → Comes g q
label_comes p prog g of q k m =
    inl (
      m.0,
      record {
        among = m.1;
        kept = subst (IsInKeptSet g) (sym m.2) k;
        object = ap (λ (x : Place). x.obj) (sym m.2);
        after = let f = ap (λ (x : Place). x.off) m.2 in omega (arith, f);
        below =
            λ n f.
            let d = (is_true m.0.label n (found_behind g.labels m.0.label n f).0).1 in
            let o = ap (λ (x : Place). x.off) m.2 in
            omega (arith, d, o);
        in_text =
            let among = subst (Has g.labels) m.2 (of.graph.among m.0.label (has_label g.blocks m.0 m.1)) in
            ((words_in_place p prog g of).labels q among).1;
        aligned =
            let among = subst (Has g.labels) m.2 (of.graph.among m.0.label (has_label g.blocks m.0 m.1)) in
            (words_in_place p prog g of).aligned q among;
      },
    )

-- an image holds a graph of a program
record Holds (p : ProgramView) (g : GraphView) (l : LayoutView) (i : Image) : Type 0 where
  program : IsProgram p
  graph : IsGraphOf p g
  kept : KeptInBlocks g
  layout : LaysOut p g l (Comes g)
  map : IsMapIn p g l i
  valid : IsValidImage i

module _ (p : ProgramView) (g : GraphView) (l : LayoutView) (i : Image) (e : Holds p g l i) where
  addr : Addresses
  addr = addresses_of p g l

  whole : IsWhole p g
  whole = whole_of p e.program g e.graph e.kept

  data_is : DataIsTrue p g l i
  data_is = e.map.data_part

  sizes : SizesMatch p l
  sizes = sizes_match p l e.program.once e.layout.data_part.extents

  end_is : regions_end (tables_end data_base l.tables) l.regions ≤ data_base + 67108864
  end_is = let h = data_is.whole in let k = e.valid.bytes in omega (arith, h, k)

  size_is : data_base + data_size i ≡ regions_end (tables_end data_base l.tables) l.regions
  size_is = let h = data_is.whole in omega (arith, h)

  few : length (words g) ≤ 4194304
  few = let h = e.map.text.count in let k = e.valid.text in omega (arith, h, k)

  small : (q : Place) → position_of l q ≤ 4194304
  small q = let h = e.layout.words.most q in let k = few in omega (arith, h, k)

  laid : IsLaidOut (addresses_of p g l) (most_of (graph_script p g))
  laid = is_laid_out p l sizes e.layout.data_part.tables e.layout.data_part.regions end_is g small

  ordered : Ordered (words g)
  ordered = all_ordered g.blocks (placed g e.graph.graph e.graph.form (words_in_place p e.program g e.graph))

  slots : (k j : ℕ) (t : TableAt) (u : Target) → slice_get l.tables k ≡ Some t → slice_get t.slots j ≡ Some u → IsSlot (graph_script p g) (addresses_of p g l) i (start_at l k + 8 * j) u
  slots k j t u h f =
      slot_at p l sizes e.layout.data_part.tables e.layout.data_part.regions end_is i size_is g k j t u h f (λ b lt. data_is.slots k t j u b h f lt)

  slot_small : (k j : ℕ) (t : TableAt) (u : Target) → slice_get l.tables k ≡ Some t → slice_get t.slots j ≡ Some u → start_at l k + 8 * j < 2 ^ 63
  slot_small k j t u h f =
      let at : start_at l k ≡ t.start = ap start_or h in
      let b = (table_in data_base l.tables e.layout.data_part.tables k t h).below in
      let lt = got_in t.slots j u f in
      let grown = end_grows (tables_end data_base l.tables) l.regions in
      let z = end_is in
      omega (arith, at, b, lt, grown, z)

  -- ---- where a run may be

  not_end : (q : Place) → IsEnd g q → is_word_in g.counts q ≡ true → ⊥
  not_end q k z =
      let b = and_true (q.off % 4 == 0) (nat_lt (q.off / 4) (slice_index_or g.counts q.obj 0)) z in
      let lt = ltb-true (q.off / 4) (slice_index_or g.counts q.obj 0) b.1 in
      let o = k.off in
      omega (arith, lt, o)

  lands : (q : Place) → IsKeptLabel g q → is_word_in g.counts q ≡ true → is_text (length i.text) (code_at l q) ≡ true
  lands q (inr k) z = absurd (not_end q k z)
  lands q (inl k) z =
      let w = word_behind_label p e.program g e.graph e.kept q k.0 k.1 in
      text_lands p g l i e.layout.data_part.object_tables (Comes g) e.layout.words laid ordered e.map.fields slots slot_small q w.0 (label_comes p e.program g e.graph q k.0 k.1) w.1

  encoded : IsEncoded (graph_script p g) (addresses_of p g l) i (IsKeptLabel g) (Comes g)
  encoded = record {
    laid = laid;
    heap = refl;
    low = given_low p l sizes e.layout.data_part.tables e.layout.data_part.regions end_is;
    mapped = all_mapped p l sizes e.layout.data_part.tables e.layout.data_part.regions end_is i size_is;
    lands = lands;
    stands =
        λ q w good f.
        stands p g l i e.layout.data_part.object_tables (Comes g) e.layout.words laid ordered e.map.fields slots slot_small (formed p e.program data_is.widths g e.graph) q w good f;
  }

  -- ---- the start

  abbrev from_tables : List ℕ → ℕ → ℕ
  from_tables ts o = slice_index_or ts o o

  begins : (r : Region) (x : ℕ) (o : RegionInit) → init_of p r ≡ Some o → Begins (addresses_of p g l) (init_cell (table_of g) (Some o) x) (region_byte l o x)
  begins r x o f =
      let small = (find_all (λ (q : RegionInit). (k : ℕ) → slice_index q.bytes k < 256) (λ (q : RegionInit). region_eq q.region r) p.regions o data_is.widths.bytes f).0 in
      let values = (find_all (λ (q : RegionInit). All (λ (z : Field). IsValue z.value) q.fields) (λ (q : RegionInit). region_eq q.region r) p.regions o data_is.widths.fields f).0 in
      let widths = (find_all (λ (q : RegionInit). All (λ (z : Field). width_of p z.value ≡ Some z.width) q.fields) (λ (q : RegionInit). region_eq q.region r) p.regions o all_widths f).0 in
      let fits = (find_all (λ (q : RegionInit). All (λ (z : Field). DistanceFits l z.value) q.fields) (λ (q : RegionInit). region_eq q.region r) p.regions o data_is.fits f).0 in
      subst (λ (ts : List ℕ). Begins (addresses_of p g l) (init_cell (from_tables ts) (Some o) x) (region_byte l o x)) e.layout.data_part.object_tables
      (init_begins p l (addresses_of p g l) (λ r. refl) (λ q. refl) (λ t. refl)
      (λ q. let h = laid.code_below q in omega (arith, h)) (λ t. laid.gp t) o x small widths values fits)
    where
      all_widths : All (λ (q : RegionInit). All (λ (z : Field). width_of p z.value ≡ Some z.width) q.fields) p.regions
      all_widths =
          all_of (λ (q : RegionInit). All (λ (z : Field). width_of p z.value ≡ Some z.width) q.fields) p.regions
          (λ k q h. all_of (λ (z : Field). width_of p z.value ≡ Some z.width) q.fields (λ j z m. ((e.program.regions.each k q h).fields.each j z m).width))

  given_cells : (r : Region) (x : ℕ) (o : Option RegionInit) → init_of p r ≡ o → IsCell (addresses_of p g l) (init_cell (table_of g) o x)
  given_cells r x None f = omega arith
  given_cells r x (Some o) f = (begins r x o f).cell

  cells_are : (r : Region) (x : ℕ) → IsCell (addresses_of p g l) (initial p (table_of g) r x)
  cells_are (Sec o n) x = given_cells (Sec o n) x (init_of p (Sec o n)) refl
  cells_are (Common n) x = given_cells (Common n) x (init_of p (Common n)) refl
  cells_are Stack x = omega arith
  cells_are Heap x = omega arith

  given_agrees : (r : Region) (x : ℕ) → IsGiven r → (o : Option RegionInit) → init_of p r ≡ o → x < size_or_none o → start_memory i (region_at l r + x) ≡ cell_byte (addresses_of p g l) (init_cell (table_of g) o x)
  given_agrees r x given None f h = absurd (omega arith)
  given_agrees r x given (Some o) f h =
      let found = find_all (λ (q : RegionInit). (x : ℕ) → x < q.size → data_byte i (region_at l q.region + x) ≡ region_byte l q x) (λ (q : RegionInit). region_eq q.region r) p.regions o data_is.contents f in
      let same : o.region ≡ r = same_region o.region r found.1 in
      let at : data_byte i (region_at l r + x) ≡ region_byte l o x = subst (λ q. data_byte i (region_at l q + x) ≡ region_byte l o x) same (found.0 x h) in
      let place = located p l sizes e.layout.data_part.tables e.layout.data_part.regions end_is r given in
      let above = place.above in
      let low : nat_le data_base (region_at l r + x) ≡ true = data_test (region_at l r + x) (omega (arith, above)) in
      rw low (at ∙ (begins r x o f).same)

  stack_agrees : (x : ℕ) → x < 1048576 → start_memory i (stack_base + x) ≡ 0
  stack_agrees x h =
      let low : nat_le data_base (stack_base + x) ≡ false = below_data (stack_base + x) (omega arith) in
      rw low refl

  memory_agrees : (r : Region) (x : ℕ) → x < sized (size_of p) 0 r → start_memory i (region_at l r + x) ≡ cell_byte (addresses_of p g l) (initial p (table_of g) r x)
  memory_agrees (Sec o n) x h = given_agrees (Sec o n) x tt (init_of p (Sec o n)) refl h
  memory_agrees (Common n) x h = given_agrees (Common n) x tt (init_of p (Common n)) refl h
  memory_agrees Stack x h = stack_agrees x h
  memory_agrees Heap x h = absurd (omega arith)

  entry_is : entry_of g.roots ≡ p.entry
  entry_is = ap entry_of e.graph.roots

  starts : StartsAlike (graph_script p g) (addresses_of p g l) i
  starts = record {
    entry = data_is.entry ∙ ap (code_at l) (sym entry_is);
    gp = data_is.gp ∙ ap (λ (ts : List ℕ). gp_at l (slice_index_or ts p.entry.obj p.entry.obj)) e.layout.data_part.object_tables ∙ ap (λ (q : Place). gp_at l (table_of g q.obj)) (sym entry_is);
    stack = refl;
    cells = cells_are;
    memory = record { agrees = memory_agrees };
  }

  keeps_codes : (input : List ℕ) → KeepsCodes (graph_script p g) (IsKeptLabel g) (Comes g) input
  keeps_codes input = record {
    places = λ n z. run_comes p g whole input n;
    holds = λ n r q z. by_read n r q (r == 31) z;
  }
    where
      by_read : (n r : ℕ) (q : Place) (b : Bool) → cond b (Num 0) ((sym_run (graph_script p g) input n).regs r) ≡ Code q → IsKeptLabel g q
      by_read n r q true z = cc
      by_read n r q false z = subst (ValueWithin (IsKeptLabel g)) z ((run_labels p g whole input n).regs r)

  runs : (input : List ℕ) → AreBytes input → InLockstep (graph_script p g) (addresses_of p g l) i input
  runs input bytes = in_lockstep (graph_script p g) (addresses_of p g l) i (IsKeptLabel g) (Comes g) encoded starts input bytes (keeps_codes input)

pub true_maps_run : TrueMapsRun
true_maps_run p g l i prog of kept map valid input bytes =
    runs p g l i
    (record { program = prog; graph = of; kept = kept; layout = map.layout; map = map.map; valid = valid })
    input bytes

pub lifted_images_run : LiftedImagesRun
lifted_images_run p g l i prog lifted map valid input bytes n clean =
    let same = lifted_run p prog g lifted input n in
    let run = true_maps_run p g l i prog (lifted_of p prog g lifted) (lifted_whole p prog g lifted).kept map valid input bytes n
    (subst (λ (s : SymState). IsTrue (not (has_observed s.ended))) (sym same) clean) in
    subst (λ (s : SymState). Alike (addresses_of p g l) s (num_run i input n)) same run
