-- The worked image meets all that the law of true maps asks for.
use Rattle.std.proofs.Common.{◌≡◌, ◌⊎◌, inl, inr, ℕ, zero, suc, ◌+◌, ◌*◌, ◌/◌, ◌%◌, ◌<◌, ◌≤◌, Bool, true, false, cond, ◌==◌, List, [], ◌∷◌, length, Some, None, refl, ap, sym, subst, ◌∙◌, arith}
use Rattle.std.specs.Prelude.{slice_get, slice_index, slice_index_or, ◌^◌, option_and_then, is_some, negsuc, All}
use Rattle.std.proofs.lemmas.Int.{ints}
use Rattle.std.proofs.lemmas.Bool.{eqb-true}
use Rattle.std.proofs.lemmas.List.Sorted.{IsPermutation-refl}
use Rattle.om_isa.specs.declared.instr.BrOp.TheVariants.{Br}
use Rattle.om_isa.specs.Words.{Encodes, instr_of}
use Rattle.om_isa.proofs.Reading.{branch_complete}
use Rattle.om_value.specs.declared.value.Place.{Place}
use Rattle.om_value.specs.declared.value.Target.{Target}
use Rattle.om_value.specs.Same.{region_eq}
use Rattle.om_prog.specs.declared.item.Item.{Item}
use Rattle.om_prog.specs.declared.item.Field.{Field}
use Rattle.om_prog.specs.declared.region.RegionInit.{RegionInit}
use Rattle.om_prog.specs.Act.{To, Word}
use Rattle.om_prog.specs.View.{item_at}
use Rattle.om_prog.specs.Valid.{IsProgram, IsItem, IsText, IsRegionInit}
use Rattle.om_graph.specs.View.{Has}
use Rattle.om_graph.specs.Run.{words}
use Rattle.om_graph.specs.Kept.{Comes}
use Rattle.om_graph.specs.Lifted.{IsLifted}
use Rattle.om_graph.specs.Index.{index_of}
use Rattle.om_graph.proofs.LiftedOf.{lifted_of}
use Rattle.om_image.specs.declared.map.MapObj.{MapObj}
use Rattle.om_image.specs.declared.map.MapTable.{MapTable}
use Rattle.om_image.specs.declared.map.MapRegion.{MapRegion}
use Rattle.om_image.specs.declared.map.MapWord.{MapWord}
use Rattle.om_image.specs.Valid.{IsValidImage, IsSlot, IsInMap}
use Rattle.om_lockstep.specs.Addresses.{IsValue}
use Rattle.om_layout.specs.Layout.{TableAt, position_of, region_at}
use Rattle.om_layout.specs.Order.{slots_of, words_before, IsPlaceOf, IsLayoutOf}
use Rattle.om_layout.proofs.Natural.{lays_out}
use Rattle.om_encode.specs.Data.{DataIsTrue, DistanceFits, RoleFits, data_byte, region_byte}
use Rattle.om_encode.specs.Text.{TextIsTrue, map_word}
use Rattle.om_encode.specs.Fields.{FieldsAreTrue, IsTrueWord}
use Rattle.om_encode.specs.TrueMap.{IsTrueMap}
use Rattle.om_encode.specs.Rows.{first_place, the_item, the_region, the_program, the_graph, the_layout, the_image, TheImageRuns}
use Rattle.om_encode.proofs.Whole.{lifted_images_run}

its_word : Encodes 0xc3ffffff the_item.instr
its_word = record { fields = (omega arith, (omega (arith, ints), omega (arith, ints))); word = refl }

-- ---- the program

its_item : (k : ℕ) (i : Item) → slice_get (the_item ∷ []) k ≡ Some i → IsItem the_program (the_item ∷ []) (record { obj = 0; off = 4 * k }) i
its_item zero i e =
    let s : the_item ≡ i = cc in
    subst (IsItem the_program (the_item ∷ []) first_place) s
    (record { instr = branch_complete 0xc3ffffff Br 31 (negsuc 0) its_word; role = refl })
its_item (suc k) i e = cc

its_text : (obj : ℕ) (text : List Item) → slice_get the_program.texts obj ≡ Some text → IsText the_program obj text
its_text zero text e =
    let s : the_item ∷ [] ≡ text = cc in
    subst (IsText the_program 0) s (record { words = omega arith; few = omega arith; items = record { each = its_item } })
its_text (suc o) text e = cc

no_field : {P : Type 0} (k : ℕ) (f : Field) → slice_get the_region.fields k ≡ Some f → P
no_field k f e = cc

its_region : (k : ℕ) (i : RegionInit) → slice_get the_program.regions k ≡ Some i → IsRegionInit the_program i
its_region zero i e =
    let s : the_region ≡ i = cc in
    subst (IsRegionInit the_program) s
    (record {
      form = record { given = refl; even = refl; bytes = omega arith; zero = λ z. (refl, refl) };
      fields = record { each = λ k f e. no_field k f e; apart = record { apart = λ j k f g l a b. no_field j f a } };
    })
its_region (suc k) i e = cc

is_program : IsProgram the_program
is_program = record {
  objects = omega arith;
  texts = record { each = its_text };
  entry = refl;
  regions = record { each = its_region };
  once = record { apart = once };
}
  where
    once : (j k : ℕ) (a b : RegionInit) → j < k → slice_get the_program.regions j ≡ Some a → slice_get the_program.regions k ≡ Some b → region_eq a.region b.region ≡ false
    once j zero a b l e f = absurd (omega arith)
    once j (suc k) a b l e f = cc

is_lifted : IsLifted the_program the_graph
is_lifted = record {
  graph = record {
    objects = omega arith;
    tables = refl;
    roots = λ e. cc;
    labels = ((λ q h. absurd h), tt);
    blocks = ((λ q h. absurd h), tt);
    among = λ q h. h;
    marks = tt;
    touched = λ q h. absurd h;
    block_ids = ((λ h. h), tt);
    op_ids = tt;
  };
  counts = refl;
  roots = refl;
  tables = refl;
  blocks = refl;
  labels = refl;
  touched = refl;
}

-- ---- its layout

at_object : (o : ℕ) → o < 1 → o ≡ 0
at_object o h = omega arith

is_layout : IsLayoutOf the_program the_graph the_layout
is_layout = record {
  data_part = record {
    counts = refl;
    object_tables = refl;
    number = refl;
    slots = slots;
    tables = (refl, tt);
    extents = IsPermutation-refl _;
    order = tt;
    regions = (refl, tt);
  };
  places = refl;
  positions = positions;
}
  where
    slots : (k : ℕ) (t : TableAt) → slice_get the_layout.tables k ≡ Some t → t.slots ≡ slots_of the_graph k
    slots zero t h = let e : record { start = 0x140000000; slots = [] } ≡ t = cc in ap (λ (t : TableAt). t.slots) (sym e)
    slots (suc k) t h = cc

    at_offset : (f : ℕ) → f % 4 ≡ 0 → f / 4 ≤ 1 → (f ≡ 0) ⊎ (f ≡ 4)
    at_offset f a b = by_quotient (f / 4) refl b
      where
        by_quotient : (k : ℕ) → f / 4 ≡ k → k ≤ 1 → (f ≡ 0) ⊎ (f ≡ 4)
        by_quotient zero e h = inl (omega arith)
        by_quotient (suc zero) e h = inr (omega arith)
        by_quotient (suc (suc k)) e h = absurd (omega arith)

    by_place : (o f : ℕ) → o ≡ 0 → (f ≡ 0) ⊎ (f ≡ 4) → position_of the_layout (record { obj = o; off = f }) ≡ words_before (words the_graph) (record { obj = o; off = f })
    by_place o f e (inl z) =
        subst (λ o. position_of the_layout (record { obj = o; off = f }) ≡ words_before (words the_graph) (record { obj = o; off = f })) (sym e)
        (subst (λ f. position_of the_layout (record { obj = 0; off = f }) ≡ words_before (words the_graph) (record { obj = 0; off = f })) (sym z) refl)
    by_place o f e (inr z) =
        subst (λ o. position_of the_layout (record { obj = o; off = f }) ≡ words_before (words the_graph) (record { obj = o; off = f })) (sym e)
        (subst (λ f. position_of the_layout (record { obj = 0; off = f }) ≡ words_before (words the_graph) (record { obj = 0; off = f })) (sym z) refl)

    positions : (q : Place) → IsPlaceOf the_graph.counts q → position_of the_layout q ≡ words_before (words the_graph) q
    positions q h =
        let o = at_object q.obj h.object in
        let c : q.off / 4 ≤ 1 = subst (λ o. q.off / 4 ≤ slice_index_or the_graph.counts o 0) o h.inside in
        by_place q.obj q.off o (at_offset q.off h.aligned c)

-- ---- its image

data_is : DataIsTrue the_program the_graph the_layout the_image
data_is = record {
  counts = refl;
  object_tables = refl;
  tables = refl;
  regions = refl;
  slots = λ k t j u b h f lt. no_slot k t j u h f;
  contents = only (λ (r : RegionInit). (x : ℕ) → x < r.size → data_byte the_image (region_at the_layout r.region + x) ≡ region_byte the_layout r x) (λ x lt. refl);
  fits = only (λ (r : RegionInit). All (λ (f : Field). DistanceFits the_layout f.value) r.fields) (λ k d lt. absurd (omega arith));
  widths = record {
    targets = only_text (λ (text : List Item). All (λ (i : Item). RoleFits i.role) text) (λ k d lt. by_item k d lt);
    bytes = only (λ (r : RegionInit). (k : ℕ) → slice_index r.bytes k < 256) (λ k. omega arith);
    fields = only (λ (r : RegionInit). All (λ (f : Field). IsValue f.value) r.fields) (λ k d lt. absurd (omega arith));
  };
  others = λ a h s r. refl;
  given = refl;
  whole = refl;
  entry = refl;
  gp = refl;
}
  where
    only : (P : RegionInit → Type 0) → P the_region → All P the_program.regions
    only P h zero d lt = h
    only P h (suc k) d lt = absurd (omega arith)

    only_text : (P : List Item → Type 0) → P (the_item ∷ []) → All P the_program.texts
    only_text P h zero d lt = h
    only_text P h (suc k) d lt = absurd (omega arith)

    by_item : All (λ i. RoleFits i.role) (the_item ∷ [])
    by_item zero d lt = tt
    by_item (suc k) d lt = absurd (omega arith)

    no_slot : {P : Type 0} (k : ℕ) (t : TableAt) (j : ℕ) (u : Target) → slice_get the_layout.tables k ≡ Some t → slice_get t.slots j ≡ Some u → P
    no_slot zero t j u h f =
        let e : record { start = 0x140000000; slots = [] } ≡ t = cc in
        absurd (none (subst (λ (t : TableAt). slice_get t.slots j ≡ Some u) (sym e) f))
      where
        none : slice_get [] j ≡ Some u → ⊥
        none e = cc
    no_slot (suc k) t j u h f = cc

only_item : (o f k : ℕ) (item : Item) → k ≡ f / 4 → cond (f % 4 == 0) (option_and_then (λ (t : List Item). slice_get t k) (slice_get the_program.texts o)) None ≡ Some item → (o ≡ 0) × (f ≡ 0) × (item ≡ the_item)
only_item o f k item e h = by_test (f % 4 == 0) refl h
  where
    by_index : (o k : ℕ) → option_and_then (λ (t : List Item). slice_get t k) (slice_get the_program.texts o) ≡ Some item → (o ≡ 0) × (k ≡ 0) × (item ≡ the_item)
    by_index zero zero h = (refl, refl, cc)
    by_index zero (suc k) h = cc
    by_index (suc o) k h = cc

    by_test : (b : Bool) → (f % 4 == 0) ≡ b → cond b (option_and_then (λ (t : List Item). slice_get t k) (slice_get the_program.texts o)) None ≡ Some item → (o ≡ 0) × (f ≡ 0) × (item ≡ the_item)
    by_test true t h =
        let z = eqb-true (f % 4) 0 t in
        let r = by_index o k h in
        (r.0, omega (arith, z, e, r.1), r.2)
    by_test false t h = cc

text_is : TextIsTrue the_program the_graph the_layout the_image
text_is = record { total = refl; each = each; count = refl }
  where
    at_first : (q : Place) (item : Item) → q ≡ first_place → item ≡ the_item → slice_get the_image.map.words (index_of the_graph.counts q) ≡ Some (map_word the_graph the_layout q item)
    at_first q item e f =
        subst (λ q. slice_get the_image.map.words (index_of the_graph.counts q) ≡ Some (map_word the_graph the_layout q item)) (sym e)
        (subst (λ (item : Item). slice_get the_image.map.words 0 ≡ Some (record { old = item.word; position = 0; kept = true })) (sym f) refl)

    each : (q : Place) (item : Item) → item_at the_program q ≡ Some item → slice_get the_image.map.words (index_of the_graph.counts q) ≡ Some (map_word the_graph the_layout q item)
    each q item h =
        let r = only_item q.obj q.off (q.off / 4) item refl h in
        at_first q item (ap (λ o. record { obj = o; off = q.off }) r.0 ∙ ap (λ f. record { obj = 0; off = f }) r.1) r.2

abbrev the_word : Word
the_word = record { at = first_place; act = To Br 31 first_place }

one_word : (w : Word) → Has (words the_graph) w → the_word ≡ w
one_word w (inl e) = e
one_word w (inr k) = absurd k

fields_are : FieldsAreTrue the_program the_graph the_layout the_image
fields_are = record {
  forms =
      λ w h. subst (IsTrueWord the_program the_graph the_layout the_image) (one_word w h)
      (record { word = 0xc3ffffff; found = refl; form = (negsuc 0, its_word, refl) });
}

is_true : IsTrueMap the_program the_graph the_layout the_image
is_true = record { layout = lays_out the_program is_program the_graph (lifted_of the_program is_program the_graph is_lifted) the_layout is_layout (Comes the_graph); map = record { data_part = data_is; text = text_is; fields = fields_are } }

is_valid : IsValidImage the_image
is_valid = record {
  text = omega arith;
  bytes = omega arith;
  entry = refl;
  map = record {
    few_objects = omega arith;
    few_tables = omega arith;
    few_slots = one (λ (t : MapTable). length t.slots < 2 ^ 32) _ (omega arith);
    few_regions = omega arith;
    few_words = omega arith;
    fits = omega arith;
    total = refl;
    objects = one (λ (o : MapObj). o.table < 1) _ (omega arith);
    slots = one (λ (t : MapTable). All IsSlot t.slots) _ (λ k d lt. absurd (omega arith));
    regions = one (λ (r : MapRegion). IsInMap r.region) _ tt;
    words = one (λ (w : MapWord). w.position < cond w.kept 1 2) _ (omega arith);
  };
  words = one (λ (w : ℕ). is_some (instr_of w) ≡ true) _ (ap is_some (branch_complete 0xc3ffffff Br 31 (negsuc 0) its_word));
}
  where
    one : {A : Type 0} (P : A → Type 0) (x : A) → P x → All P (x ∷ [])
    one P x h zero d lt = h
    one P x h (suc k) d lt = absurd (omega arith)

pub the_image_runs : TheImageRuns
the_image_runs input bytes = lifted_images_run the_program the_graph the_layout the_image is_program is_lifted is_true is_valid input bytes
