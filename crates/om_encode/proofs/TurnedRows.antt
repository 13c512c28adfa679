-- The worked image in another order meets what the encoder and the laws ask for.
use Rattle.std.proofs.Common.{◌≡◌, ◌⊎◌, inl, inr, ℕ, zero, suc, ◌+◌, ◌*◌, ◌/◌, ◌%◌, ◌<◌, ◌≤◌, Bool, true, false, cond, ◌==◌, List, [], ◌∷◌, length, Some, None, refl, ap, sym, subst, ◌∙◌, arith}
use Rattle.std.specs.Prelude.{slice_get, slice_index_or, ◌^◌, option_and_then, is_some, pos, negsuc, All}
use Rattle.std.proofs.lemmas.Int.{ints}
use Rattle.std.proofs.lemmas.Bool.{eqb-true}
use Rattle.std.proofs.lemmas.List.Sorted.{IsPermutation-refl}
use Rattle.om_isa.specs.declared.instr.BrOp.TheVariants.{Br}
use Rattle.om_isa.specs.Words.{Encodes, instr_of}
use Rattle.om_isa.proofs.Reading.{branch_complete}
use Rattle.om_value.specs.declared.value.Place.{Place}
use Rattle.om_value.specs.declared.value.Target.{Target}
use Rattle.om_prog.specs.declared.item.Item.{Item}
use Rattle.om_prog.specs.declared.region.RegionInit.{RegionInit}
use Rattle.om_prog.specs.Act.{To, Word}
use Rattle.om_prog.specs.Step.{next_place}
use Rattle.om_prog.specs.View.{item_at}
use Rattle.om_prog.specs.Valid.{IsProgram, IsItem, IsText}
use Rattle.om_graph.specs.declared.op.Op.{Op}
use Rattle.om_graph.specs.View.{Block, Has, ops_of, place_lt}
use Rattle.om_graph.specs.Run.{words, next_word}
use Rattle.om_graph.specs.Kept.{IsInside, Comes}
use Rattle.om_graph.specs.Lifted.{IsLifted}
use Rattle.om_graph.specs.Index.{index_of}
use Rattle.om_graph.proofs.Labels.{equal_places}
use Rattle.om_graph.proofs.LiftedKept.{lifted_whole}
use Rattle.om_graph.proofs.LiftedOf.{lifted_of}
use Rattle.om_image.specs.declared.map.MapObj.{MapObj}
use Rattle.om_image.specs.declared.map.MapTable.{MapTable}
use Rattle.om_image.specs.declared.map.MapWord.{MapWord}
use Rattle.om_image.specs.Valid.{IsValidImage, IsSlot}
use Rattle.om_layout.specs.Layout.{TableAt, position_of, place_number}
use Rattle.om_layout.specs.Order.{slots_of, IsDataLayout}
use Rattle.om_layout.specs.Facts.{LaysOut, ArePositions, GoesOn}
use Rattle.om_encode.specs.Data.{DataIsTrue, RoleFits}
use Rattle.om_encode.specs.Encoded.{IsEncodable}
use Rattle.om_encode.specs.Fields.{FieldsAreTrue, IsTrueWord}
use Rattle.om_encode.specs.Fitting.{BranchFits}
use Rattle.om_encode.specs.Text.{TextIsTrue, map_word}
use Rattle.om_encode.specs.TrueMap.{IsTrueMap}
use Rattle.om_encode.specs.TurnedRows.{place_0, place_4, first_item, second_item, two_words, two_blocks, turned_layout, turned_image, TurnedWordsRun}
use Rattle.om_encode.proofs.Whole.{lifted_images_run}

up_word : Encodes 0xc3e00000 first_item.instr
up_word = record { fields = (omega arith, (omega (arith, ints), omega (arith, ints))); word = refl }

down_word : Encodes 0xc3fffffe second_item.instr
down_word = record { fields = (omega arith, (omega (arith, ints), omega (arith, ints))); word = refl }

-- ---- the program

each_item : (k : ℕ) (i : Item) → slice_get (first_item ∷ second_item ∷ []) k ≡ Some i → IsItem two_words (first_item ∷ second_item ∷ []) (record { obj = 0; off = 4 * k }) i
each_item zero i e =
    let s : first_item ≡ i = cc in
    subst (IsItem two_words (first_item ∷ second_item ∷ []) place_0) s (record { instr = branch_complete 0xc3e00000 Br 31 (pos 0) up_word; role = refl })
each_item (suc zero) i e =
    let s : second_item ≡ i = cc in
    subst (IsItem two_words (first_item ∷ second_item ∷ []) place_4) s (record { instr = branch_complete 0xc3fffffe Br 31 (negsuc 1) down_word; role = refl })
each_item (suc (suc k)) i e = cc

each_text : (obj : ℕ) (text : List Item) → slice_get two_words.texts obj ≡ Some text → IsText two_words obj text
each_text zero text e =
    let s : first_item ∷ second_item ∷ [] ≡ text = cc in
    subst (IsText two_words 0) s (record { words = omega arith; few = omega arith; items = record { each = each_item } })
each_text (suc o) text e = cc

no_region : {P : Type 0} (k : ℕ) (r : RegionInit) → slice_get two_words.regions k ≡ Some r → P
no_region k r e = cc

is_program : IsProgram two_words
is_program = record {
  objects = omega arith;
  texts = record { each = each_text };
  entry = refl;
  regions = record { each = λ k r e. no_region k r e };
  once = record { apart = λ j k a b l e f. no_region k b f };
}

is_lifted : IsLifted two_words two_blocks
is_lifted = record {
  graph = record {
    objects = omega arith;
    tables = refl;
    roots = λ e. cc;
    labels = ((λ q h. behind q h), ((λ q h. absurd h), tt));
    blocks = ((λ q h. behind q h), ((λ q h. absurd h), tt));
    among = λ q h. h;
    marks = tt;
    touched = λ q h. absurd h;
    block_ids = ((λ h. ids h), ((λ h. h), tt));
    op_ids = tt;
  };
  counts = refl;
  roots = refl;
  tables = refl;
  blocks = refl;
  labels = refl;
  touched = refl;
}
  where
    behind : (q : Place) → Has (place_4 ∷ []) q → place_lt place_0 q ≡ true
    behind q (inl e) = subst (λ (x : Place). place_lt place_0 x ≡ true) e refl
    behind q (inr h) = absurd h

    ids : Has {A = ℕ} (1 ∷ []) 0 → ⊥
    ids (inl e) = omega (arith, e)
    ids (inr h) = h

-- ---- the layout

abbrev word_0 : Word
word_0 = record { at = place_0; act = To Br 31 place_4 }

abbrev word_4 : Word
word_4 = record { at = place_4; act = To Br 31 place_0 }

by_word : (P : Word → Type 0) → P word_0 → P word_4 → (w : Word) → Has (words two_blocks) w → P w
by_word P a b w (inl e) = subst P e a
by_word P a b w (inr (inl e)) = subst P e b
by_word P a b w (inr (inr h)) = absurd h

small : (k : ℕ) → slice_index_or (1 ∷ 0 ∷ 2 ∷ []) k 0 ≤ 2
small zero = omega arith
small (suc zero) = omega arith
small (suc (suc zero)) = omega arith
small (suc (suc (suc k))) = omega arith

is_data : IsDataLayout two_words two_blocks turned_layout
is_data = record {
  counts = refl;
  object_tables = refl;
  number = refl;
  slots = slots;
  tables = (refl, tt);
  extents = IsPermutation-refl _;
  order = tt;
  regions = tt;
}
  where
    slots : (k : ℕ) (t : TableAt) → slice_get turned_layout.tables k ≡ Some t → t.slots ≡ slots_of two_blocks k
    slots zero t h = let e : record { start = 0x140000000; slots = [] } ≡ t = cc in ap (λ (t : TableAt). t.slots) (sym e)
    slots (suc k) t h = cc

-- a run comes to the two words alone, and to the text's end, behind which no word stands
found : (q : Place) (w : Word) → Comes two_blocks q → next_word (words two_blocks) q ≡ Some w → position_of turned_layout q ≡ position_of turned_layout w.at
found q w c e = by_place c e
  where
    at_0 : q ≡ place_0 → next_word (words two_blocks) q ≡ Some w → position_of turned_layout q ≡ position_of turned_layout w.at
    at_0 s e =
        let f : Some word_0 ≡ Some w = ap (next_word (words two_blocks)) (sym s) ∙ e in
        let t : word_0 ≡ w = cc in
        ap (position_of turned_layout) (s ∙ ap (λ (x : Word). x.at) t)

    at_4 : q ≡ place_4 → next_word (words two_blocks) q ≡ Some w → position_of turned_layout q ≡ position_of turned_layout w.at
    at_4 s e =
        let f : Some word_4 ≡ Some w = ap (next_word (words two_blocks)) (sym s) ∙ e in
        let t : word_4 ≡ w = cc in
        ap (position_of turned_layout) (s ∙ ap (λ (x : Word). x.at) t)

    at_end : q ≡ record { obj = 0; off = 8 } → next_word (words two_blocks) q ≡ Some w → position_of turned_layout q ≡ position_of turned_layout w.at
    at_end s e = let f : None ≡ Some w = ap (next_word (words two_blocks)) (sym s) ∙ e in cc

    by_block : (b : Block) → Has two_blocks.blocks b → IsInside two_blocks b q → next_word (words two_blocks) q ≡ Some w → position_of turned_layout q ≡ position_of turned_layout w.at
    by_block b (inl s) i e =
        let i0 = subst (λ (x : Block). IsInside two_blocks x q) (sym s) i in
        let lt = i0.below place_4 refl in
        let al = i0.aligned in
        at_0 (equal_places q place_0 i0.object (omega (arith, lt, al))) e
    by_block b (inr (inl s)) i e =
        let i0 = subst (λ (x : Block). IsInside two_blocks x q) (sym s) i in
        let after = i0.after in
        let al = i0.aligned in
        let obj = i0.object in
        let lt : q.off < 8 = subst (λ (o : ℕ). q.off < 4 * slice_index_or two_blocks.counts o 0) obj i0.in_text in
        at_4 (equal_places q place_4 obj (omega (arith, after, al, lt))) e
    by_block b (inr (inr h)) i e = absurd h

    by_place : Comes two_blocks q → next_word (words two_blocks) q ≡ Some w → position_of turned_layout q ≡ position_of turned_layout w.at
    by_place (inl m) e = by_block m.0 m.1.among m.1 e
    by_place (inr n) e =
        let o = n.object in
        let obj : q.obj ≡ 0 = omega (arith, o) in
        let off : q.off ≡ 8 = subst (λ (k : ℕ). q.off ≡ 4 * slice_index_or two_blocks.counts k 0) obj n.off in
        at_end (equal_places q (record { obj = 0; off = 8 }) obj off) e

are_positions : ArePositions (Comes two_blocks) (words two_blocks) (position_of turned_layout)
are_positions = record {
  inside = by_word (λ w. position_of turned_layout w.at < 2) (omega arith) (omega arith);
  once = λ v w hv hw. by_word (λ v. position_of turned_layout v.at ≡ position_of turned_layout w.at → v ≡ w) (first w hw) (second w hw) v hv;
  follows = by_word (λ w. GoesOn w.act → position_of turned_layout (next_place w.at) ≡ position_of turned_layout w.at + 1) (λ h. absurd (stays place_4 h)) (λ h. absurd (stays place_0 h));
  found = found;
  most = λ q. small (place_number turned_layout.counts q);
}
  where
    first : (w : Word) → Has (words two_blocks) w → 1 ≡ position_of turned_layout w.at → word_0 ≡ w
    first w h = by_word (λ w. 1 ≡ position_of turned_layout w.at → word_0 ≡ w) (λ e. refl) (λ e. absurd (omega (arith, e))) w h

    second : (w : Word) → Has (words two_blocks) w → 0 ≡ position_of turned_layout w.at → word_4 ≡ w
    second w h = by_word (λ w. 0 ≡ position_of turned_layout w.at → word_4 ≡ w) (λ e. absurd (omega (arith, e))) (λ e. refl) w h

    stays : (q : Place) → GoesOn (To Br 31 q) → ⊥
    stays q (inl h) = h
    stays q (inr h) = h refl

laid : LaysOut two_words two_blocks turned_layout (Comes two_blocks)
laid = record { data_part = is_data; words = are_positions }

is_encodable : IsEncodable two_words two_blocks turned_layout
is_encodable = record {
  program = is_program;
  graph = lifted_of two_words is_program two_blocks is_lifted;
  limits = record { objects = omega arith; words = omega arith; sizes = omega arith; regions = omega arith };
  layout = laid;
  fits = record { ops = λ b o h m. no_op b o h m };
  branches = record { lasts = branches };
}
  where
    no_op : {P : Type 0} (b : Block) (o : Op) → Has two_blocks.blocks b → Has (ops_of b) o → P
    no_op b o (inl s) m = absurd (subst (λ (x : Block). Has (ops_of x) o) (sym s) m)
    no_op b o (inr (inl s)) m = absurd (subst (λ (x : Block). Has (ops_of x) o) (sym s) m)
    no_op b o (inr (inr h)) m = absurd h

    branches : (b : Block) → Has two_blocks.blocks b → BranchFits turned_layout b.last
    branches b (inl s) = subst (λ (x : Block). BranchFits turned_layout x.last) s (omega (arith, ints), omega (arith, ints))
    branches b (inr (inl s)) = subst (λ (x : Block). BranchFits turned_layout x.last) s (omega (arith, ints), omega (arith, ints))
    branches b (inr (inr h)) = absurd h

-- ---- the image

data_is : DataIsTrue two_words two_blocks turned_layout turned_image
data_is = record {
  counts = refl;
  object_tables = refl;
  tables = refl;
  regions = refl;
  slots = λ k t j u b h f lt. no_slot k t j u h f;
  contents = λ k d lt. absurd (omega arith);
  fits = λ k d lt. absurd (omega arith);
  widths = record {
    targets = only_text (λ (text : List Item). All (λ (i : Item). RoleFits i.role) text) by_item;
    bytes = λ k d lt. absurd (omega arith);
    fields = λ k d lt. absurd (omega arith);
  };
  others = λ a h s r. refl;
  given = refl;
  whole = refl;
  entry = refl;
  gp = refl;
}
  where
    only_text : (P : List Item → Type 0) → P (first_item ∷ second_item ∷ []) → All P two_words.texts
    only_text P h zero d lt = h
    only_text P h (suc k) d lt = absurd (omega arith)

    by_item : All (λ i. RoleFits i.role) (first_item ∷ second_item ∷ [])
    by_item zero d lt = tt
    by_item (suc zero) d lt = tt
    by_item (suc (suc k)) d lt = absurd (omega arith)

    no_slot : {P : Type 0} (k : ℕ) (t : TableAt) (j : ℕ) (u : Target) → slice_get turned_layout.tables k ≡ Some t → slice_get t.slots j ≡ Some u → P
    no_slot zero t j u h f =
        let e : record { start = 0x140000000; slots = [] } ≡ t = cc in
        absurd (none (subst (λ (t : TableAt). slice_get t.slots j ≡ Some u) (sym e) f))
      where
        none : slice_get [] j ≡ Some u → ⊥
        none e = cc
    no_slot (suc k) t j u h f = cc

item_place :
    (o f k : ℕ) (item : Item) → k ≡ f / 4 → cond (f % 4 == 0) (option_and_then (λ (t : List Item). slice_get t k) (slice_get two_words.texts o)) None ≡ Some item →
    (o ≡ 0) × (((f ≡ 0) × (item ≡ first_item)) ⊎ ((f ≡ 4) × (item ≡ second_item)))
item_place o f k item e h = by_test (f % 4 == 0) refl h
  where
    by_index : f % 4 ≡ 0 → (o k : ℕ) → k ≡ f / 4 → option_and_then (λ (t : List Item). slice_get t k) (slice_get two_words.texts o) ≡ Some item → (o ≡ 0) × (((f ≡ 0) × (item ≡ first_item)) ⊎ ((f ≡ 4) × (item ≡ second_item)))
    by_index z zero zero e h = (refl, inl (omega (arith, z, e), cc))
    by_index z zero (suc zero) e h = (refl, inr (omega (arith, z, e), cc))
    by_index z zero (suc (suc k)) e h = cc
    by_index z (suc o) k e h = cc

    by_test : (b : Bool) → (f % 4 == 0) ≡ b → cond b (option_and_then (λ (t : List Item). slice_get t k) (slice_get two_words.texts o)) None ≡ Some item → (o ≡ 0) × (((f ≡ 0) × (item ≡ first_item)) ⊎ ((f ≡ 4) × (item ≡ second_item)))
    by_test true t h = by_index (eqb-true (f % 4) 0 t) o k e h
    by_test false t h = cc

abbrev Told : Place → Item → Type 0
Told q item = slice_get turned_image.map.words (index_of two_blocks.counts q) ≡ Some (map_word two_blocks turned_layout q item)

text_is : TextIsTrue two_words two_blocks turned_layout turned_image
text_is = record { total = refl; each = each; count = refl }
  where
    put : (x y : Place) (a b : Item) → x ≡ y → a ≡ b → Told y b → Told x a
    put x y a b s t h = subst (λ (q : Place). Told q a) (sym s) (subst (Told y) (sym t) h)

    by_case : (q : Place) (item : Item) → q.obj ≡ 0 → ((q.off ≡ 0) × (item ≡ first_item)) ⊎ ((q.off ≡ 4) × (item ≡ second_item)) → Told q item
    by_case q item o (inl h) = put q place_0 item first_item (equal_places q place_0 o h.0) h.1 refl
    by_case q item o (inr h) = put q place_4 item second_item (equal_places q place_4 o h.0) h.1 refl

    each : (q : Place) (item : Item) → item_at two_words q ≡ Some item → slice_get turned_image.map.words (index_of two_blocks.counts q) ≡ Some (map_word two_blocks turned_layout q item)
    each q item h = let r = item_place q.obj q.off (q.off / 4) item refl h in by_case q item r.0 r.1

fields_are : FieldsAreTrue two_words two_blocks turned_layout turned_image
fields_are = record {
  forms =
      by_word (IsTrueWord two_words two_blocks turned_layout turned_image)
      (record { word = 0xc3fffffe; found = refl; form = (negsuc 1, down_word, refl) })
      (record { word = 0xc3e00000; found = refl; form = (pos 0, up_word, refl) });
}

is_true : IsTrueMap two_words two_blocks turned_layout turned_image
is_true = record { layout = laid; map = record { data_part = data_is; text = text_is; fields = fields_are } }

is_valid : IsValidImage turned_image
is_valid = record {
  text = omega arith;
  bytes = omega arith;
  entry = refl;
  map = record {
    few_objects = omega arith;
    few_tables = omega arith;
    few_slots = one (λ (t : MapTable). length t.slots < 2 ^ 32) _ (omega arith);
    few_regions = omega arith;
    few_words = omega arith;
    fits = omega arith;
    total = refl;
    objects = one (λ (o : MapObj). o.table < 1) _ (omega arith);
    slots = one (λ (t : MapTable). All IsSlot t.slots) _ (λ k d lt. absurd (omega arith));
    regions = λ k d lt. absurd (omega arith);
    words = two (λ (w : MapWord). w.position < cond w.kept 2 3) _ _ (omega arith) (omega arith);
  };
  words =
      two (λ (w : ℕ). is_some (instr_of w) ≡ true) _ _ (ap is_some (branch_complete 0xc3e00000 Br 31 (pos 0) up_word))
      (ap is_some (branch_complete 0xc3fffffe Br 31 (negsuc 1) down_word));
}
  where
    one : {A : Type 0} (P : A → Type 0) (x : A) → P x → All P (x ∷ [])
    one P x h zero d lt = h
    one P x h (suc k) d lt = absurd (omega arith)

    two : {A : Type 0} (P : A → Type 0) (x y : A) → P x → P y → All P (x ∷ y ∷ [])
    two P x y h j zero d lt = h
    two P x y h j (suc zero) d lt = j
    two P x y h j (suc (suc k)) d lt = absurd (omega arith)

pub turned_words_run : TurnedWordsRun
turned_words_run = record {
  encodable = is_encodable;
  kept = (lifted_whole two_words is_program two_blocks is_lifted).kept;
  runs = λ input bytes. lifted_images_run two_words two_blocks turned_layout turned_image is_program is_lifted is_true is_valid input bytes;
}
