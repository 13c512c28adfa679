-- An image with a true map, of a graph within the limits of a link, is valid.
use Rattle.std.proofs.Common.{◌≡◌, ◌⊎◌, inl, inr, if◌then◌else◌, ℕ, zero, suc, ◌+◌, ◌-◌, ◌*◌, ◌/◌, ◌%◌, ◌^◌, ◌<◌, ◌≤◌, max, Bool, true, false, cond, ◌==◌, List, [], ◌∷◌, length, Option, Some, None, refl, ap, sym, subst, ◌∙◌, arith, slice_index_or}
use Rattle.std.specs.Prelude.{map, find, is_some, All, Contains, slice_get, sum, sum_by, take, min, option_and_then}
use Rattle.std.proofs.Math.Decide.{dec_le}
use Rattle.std.proofs.lemmas.Bool.{eqb-true}
use Rattle.std.proofs.lemmas.Bool.Decides.{nat_tests}
use Rattle.std.proofs.lemmas.List.Sums.{sum_by-cons}
use Rattle.std.proofs.lemmas.List.Sorted.{Contains-permutation, length_permutation}
use Rattle.om_isa.specs.Words.{instr_of}
use Rattle.om_value.specs.declared.value.Place.{Place}
use Rattle.om_value.specs.declared.value.Region.{Region}
use Rattle.om_value.specs.declared.value.Target.{Target}
use Rattle.om_value.specs.Same.{place_eq}
use Rattle.om_prog.specs.declared.item.Item.{Item}
use Rattle.om_prog.specs.Act.{Word}
use Rattle.om_prog.specs.View.{ProgramView, item_in, item_at, is_word}
use Rattle.om_prog.specs.Valid.{IsProgram, is_given}
use Rattle.om_graph.specs.View.{GraphView, Has}
use Rattle.om_graph.specs.Run.{words}
use Rattle.om_graph.specs.LeftIn.{is_kept}
use Rattle.om_graph.specs.Kept.{KeptInBlocks, IsInKeptSet, root, IsBlock, IsEnd, Comes}
use Rattle.om_graph.specs.Index.{index_of}
use Rattle.om_graph.specs.OfProgram.{IsGraphOf}
use Rattle.om_graph.proofs.OfProgram.{map_length, count_is, index_below, same_some}
use Rattle.om_image.specs.declared.image.Image.{Image}
use Rattle.om_image.specs.declared.map.Target.{Target as SlotTarget}
use Rattle.om_image.specs.declared.map.MapObj.{MapObj}
use Rattle.om_image.specs.declared.map.MapTable.{MapTable}
use Rattle.om_image.specs.declared.map.MapRegion.{MapRegion}
use Rattle.om_image.specs.declared.map.MapWord.{MapWord}
use Rattle.om_image.specs.Rules.{is_entry}
use Rattle.om_image.specs.Valid.{IsInMap, IsSlot, IsMap, IsValidImage}
use Rattle.om_lockstep.proofs.Small.{same_place}
use Rattle.om_layout.specs.Layout.{LayoutView, TableAt, RegionAt, position_of}
use Rattle.om_layout.specs.Order.{table_count, extent_at, extent_of}
use Rattle.om_layout.specs.Limits.{IsWithinLimits, StaysInLimits}
use Rattle.om_layout.specs.Facts.{LaysOut}
use Rattle.om_layout.proofs.Limits.{stays}
use Rattle.om_layout.proofs.Placing.{found_has}
use Rattle.om_layout.proofs.Sorted.{AreWordsOf, words_of}
use Rattle.om_encode.specs.Data.{DataIsTrue, slot_target, map_table, map_region}
use Rattle.om_encode.specs.Text.{TextIsTrue, map_word}
use Rattle.om_encode.specs.TrueMap.{IsTrueMap}
use Rattle.om_encode.specs.Valid.{TrueMapsAreValid}
use Rattle.om_encode.proofs.Apart.{every_position}
use Rattle.om_encode.proofs.Behind.{word_behind_label}
use Rattle.om_encode.proofs.Whole.{all_of, label_comes}
use Rattle.om_encode.proofs.Readable.{form_reads}
use Rattle.om_encode.proofs.Targets.{given_in_map, slot_in_map}

-- ---- lists

pub got_map : {A B : Type 0} (f : A → B) (xs : List A) (k : ℕ) (y : B) → slice_get (map f xs) k ≡ Some y → (x : A) × (slice_get xs k ≡ Some x) × (f x ≡ y)
got_map f [] k y e = cc
got_map f (x ∷ xs) zero y e = (x, refl, cc)
got_map f (x ∷ xs) (suc k) y e = got_map f xs k y e

pub map_got : {A B : Type 0} (f : A → B) (xs : List A) (k : ℕ) (x : A) → slice_get xs k ≡ Some x → slice_get (map f xs) k ≡ Some (f x)
map_got f [] k x e = cc
map_got f (y ∷ ys) zero x e = let s : y ≡ x = cc in ap (λ z. Some (f z)) s
map_got f (y ∷ ys) (suc k) x e = map_got f ys k x e

pub some_at : {A : Type 0} (xs : List A) (k : ℕ) → k < length xs → (x : A) × (slice_get xs k ≡ Some x)
some_at [] k h = absurd (omega arith)
some_at (x ∷ xs) zero h = (x, refl)
some_at (x ∷ xs) (suc k) h = some_at xs k (omega (arith, h))

pub has_at : {A : Type 0} (xs : List A) (k : ℕ) (x : A) → slice_get xs k ≡ Some x → Has xs x
has_at [] k x e = cc
has_at (y ∷ ys) zero x e = inl cc
has_at (y ∷ ys) (suc k) x e = inr (has_at ys k x e)

sum_of : {A : Type 0} (f : A → ℕ) (xs : List A) → sum_by f xs ≡ sum (map f xs)
sum_of f [] = refl
sum_of f (x ∷ xs) = sum_by-cons f x xs ∙ ap (λ n. f x + n) (sum_of f xs) ∙ sym (sum_by-cons (λ n. n) (f x) (map f xs))

sum_most : {A : Type 0} (f : A → ℕ) (xs : List A) (n : ℕ) → ((k : ℕ) (x : A) → slice_get xs k ≡ Some x → f x ≤ n) → sum_by f xs ≤ n * length xs
sum_most f [] n h = omega arith
sum_most f (x ∷ xs) n h =
    let s = sum_by-cons f x xs in
    let a = h 0 x refl in
    let r = sum_most f xs n (λ k y e. h (suc k) y e) in
    omega (arith, s, a, r)

pub index_at : {A : Type 0} (xs : List A) (k : ℕ) (x d : A) → slice_get xs k ≡ Some x → x ≡ slice_index_or xs k d
index_at [] k x d e = cc
index_at (y ∷ ys) zero x d e = cc
index_at (y ∷ ys) (suc k) x d e = index_at ys k x d e

pub contains_at : {A : Type 0} (xs : List A) (k : ℕ) (x : A) → slice_get xs k ≡ Some x → Contains xs x
contains_at xs k x e = (k, index_below xs k x e, sym (index_at xs k x x e))

some_below : (xs : List ℕ) (k : ℕ) → 0 < slice_index_or xs k 0 → k < length xs
some_below [] k h = absurd (omega arith)
some_below (x ∷ xs) zero h = omega arith
some_below (x ∷ xs) (suc k) h = let i = some_below xs k h in omega (arith, i)

-- ---- tables

below_count : (ts : List ℕ) (k t : ℕ) → slice_get ts k ≡ Some t → t < table_count ts
below_count [] k t e = cc
below_count (u ∷ us) zero t e = let s : u ≡ t = cc in grind (arith, s)
below_count (u ∷ us) (suc k) t e = let h = below_count us k t e in grind (arith, h)

count_most : (ts : List ℕ) (n : ℕ) → ((k t : ℕ) → slice_get ts k ≡ Some t → t < n) → table_count ts ≤ n
count_most [] n h = omega arith
count_most (t ∷ ts) n h = most (let a = h 0 t refl in omega (arith, a)) (count_most ts n (λ k u e. h (suc k) u e))
  where
    most : suc t ≤ n → table_count ts ≤ n → max (suc t) (table_count ts) ≤ n
    most a b = grind arith

-- ---- words of texts

record IsItemAt (texts : List (List Item)) (q : Place) (item : Item) : Type 0 where
  text : List Item
  there : slice_get texts q.obj ≡ Some text
  aligned : q.off % 4 ≡ 0
  found : slice_get text (q.off / 4) ≡ Some item

item_there : (texts : List (List Item)) (q : Place) (item : Item) → item_in texts q ≡ Some item → IsItemAt texts q item
item_there texts q item e = by_off (q.off % 4 == 0) refl e
  where
    by_text :
        q.off % 4 ≡ 0 → (o : Option (List Item)) → slice_get texts q.obj ≡ o →
        option_and_then (λ (t : List Item). slice_get t (q.off / 4)) o ≡ Some item → IsItemAt texts q item
    by_text a None f e = cc
    by_text a (Some text) f e = record { text = text; there = f; aligned = a; found = e }

    by_off :
        (b : Bool) → (q.off % 4 == 0) ≡ b →
        cond b (option_and_then (λ (t : List Item). slice_get t (q.off / 4)) (slice_get texts q.obj)) None ≡ Some item → IsItemAt texts q item
    by_off true t e = by_text (eqb-true (q.off % 4) 0 t) (slice_get texts q.obj) refl e
    by_off false t e = cc

word_there : (p : ProgramView) (q : Place) → is_word p q ≡ true → (item : Item) × (item_at p q ≡ Some item)
word_there p q e = by_item (item_at p q) refl e
  where
    by_item : (o : Option Item) → item_at p q ≡ o → is_some o ≡ true → (item : Item) × (item_at p q ≡ Some item)
    by_item None f e = cc
    by_item (Some item) f e = (item, f)

-- each number below that of all words is that of a word
record IsNumbered (texts : List (List Item)) (k : ℕ) : Type 0 where
  place : Place
  item : Item
  there : item_in texts place ≡ Some item
  index : index_of (map (λ t. length t) texts) place ≡ k

further : (n : ℕ) (ns : List ℕ) (o f : ℕ) → index_of (n ∷ ns) (record { obj = suc o; off = f }) ≡ n + index_of ns (record { obj = o; off = f })
further n ns o f = let s = sum_by-cons (λ x. x) n (take o ns) in omega (arith, s)

min_is : (m n : ℕ) → n ≤ m → min m n ≡ n
min_is m n h = grind arith

every_word : (texts : List (List Item)) (k : ℕ) → k < sum (map (λ t. length t) texts) → IsNumbered texts k
every_word [] k h = absurd (omega (arith, h))
every_word (t ∷ ts) k h =
    by_size (dec_le (length t) k)
    (λ le. every_word ts (k - length t) (let s = sum_by-cons (λ (x : ℕ). x) (length t) (map (λ u. length u) ts) in omega (arith, h, s, le)))
  where
    first : k < length t → IsNumbered (t ∷ ts) k
    first lt =
        let x = some_at t k lt in
        let a : (4 * k % 4 == 0) ≡ true = grind (arith, nat_tests) in
        let b : 4 * k / 4 ≡ k = omega arith in
        let m = min_is (length t) ((4 * k + 3) / 4) (omega (arith, lt)) in
        record {
          place = record { obj = 0; off = 4 * k };
          item = x.0;
          there = rw a (ap (slice_get t) b ∙ x.1);
          index = omega (arith, m);
        }

    later : IsNumbered ts (k - length t) → length t ≤ k → IsNumbered (t ∷ ts) k
    later r le = record {
      place = record { obj = suc r.place.obj; off = r.place.off };
      item = r.item;
      there = r.there;
      index = let e = further (length t) (map (λ u. length u) ts) r.place.obj r.place.off in let f = r.index in omega (arith, e, f, le);
    }

    by_size : Dec (length t ≤ k) → (length t ≤ k → IsNumbered ts (k - length t)) → IsNumbered (t ∷ ts) k
    by_size (yes le) again = later (again le) le
    by_size (no lt) again = first (omega (arith, lt))

-- ---- a word that is kept

kept_word : (ws : List Word) (q : Place) → is_some (find (λ (w : Word). place_eq w.at q) ws) ≡ true → (w : Word) × Has ws w × (w.at ≡ q)
kept_word [] q e = cc
kept_word (v ∷ vs) q e = by_test (kept_word vs q) (place_eq v.at q) refl e
  where
    by_test :
        (is_some (find (λ (w : Word). place_eq w.at q) vs) ≡ true → (w : Word) × Has vs w × (w.at ≡ q)) → (b : Bool) → place_eq v.at q ≡ b →
        is_some (cond b (Some v) (find (λ (w : Word). place_eq w.at q) vs)) ≡ true → (w : Word) × Has (v ∷ vs) w × (w.at ≡ q)
    by_test again true t e = (v, inl refl, same_place v.at q t)
    by_test again false t e = let r = again e in (r.0, inr r.1, r.2)

-- ---- the image

module _ (p : ProgramView) (g : GraphView) (l : LayoutView) (i : Image) (prog : IsProgram p) (of : IsGraphOf p g) (kept : KeptInBlocks g) (limits : IsWithinLimits p) (true_map : IsTrueMap p g l i) where
  lay : LaysOut p g l (Comes g)
  lay = true_map.layout

  data_is : DataIsTrue p g l i
  data_is = true_map.map.data_part

  text_is : TextIsTrue p g l i
  text_is = true_map.map.text

  inside : StaysInLimits g l
  inside = stays p prog g of limits l lay.data_part

  ordered : AreWordsOf g.counts (words g)
  ordered = words_of p prog g of

  -- ---- the entry

  word_below : (q : Place) (item : Item) → item_at p q ≡ Some item → q.off / 4 < slice_index_or g.counts q.obj 0
  word_below q item e =
      let h = item_there p.texts q item e in
      let n : slice_index_or g.counts q.obj 0 ≡ length h.text = ap (λ (cs : List ℕ). slice_index_or cs q.obj 0) of.counts ∙ count_is p.texts q.obj h.text h.there in
      let lt = index_below h.text (q.off / 4) item h.found in
      omega (arith, n, lt)

  entry_kept : IsInKeptSet g p.entry
  entry_kept = root p.entry (subst (λ (qs : List Place). Has qs p.entry) (sym of.roots) (inl refl))

  entry_block : IsBlock g p.entry ⊎ IsEnd g p.entry → IsBlock g p.entry
  entry_block (inl b) = b
  entry_block (inr e) =
      let w = word_there p p.entry prog.entry in
      let lt = word_below p.entry w.0 w.1 in
      let o = e.off in
      absurd (omega (arith, lt, o))

  entry_below : position_of l p.entry < length i.text
  entry_below =
      let b = entry_block (kept.label p.entry entry_kept) in
      let w = word_behind_label p prog g of kept p.entry entry_kept b in
      let h = found_has (words g) p.entry w.0 w.1 in
      let same = lay.words.found p.entry w.0 (label_comes p prog g of p.entry entry_kept b) w.1 in
      let lt = lay.words.inside w.0 h.0 in
      let n = text_is.count in
      omega (arith, same, lt, n)

  entry_is : is_entry (4 * length i.text) i.entry ≡ true
  entry_is =
      let e = data_is.entry in
      let lt = entry_below in
      subst (λ n. is_entry (4 * length i.text) n ≡ true) (sym e) (entry_test (position_of l p.entry) (length i.text) lt)
    where
      entry_test : (k n : ℕ) → k < n → is_entry (4 * n) (0x120000000 + 4 * k) ≡ true
      entry_test k n h = grind (arith, nat_tests)

  -- ---- the text

  word_reads : (k word : ℕ) → slice_get i.text k ≡ Some word → is_some (instr_of word) ≡ true
  word_reads k word e =
      let n = text_is.count in
      let lt = index_below i.text k word e in
      let w = every_position (position_of l) (Comes g) (words g) lay.words ordered.sorted k (omega (arith, n, lt)) in
      let t = true_map.map.fields.forms w.0 w.1 in
      let found : slice_get i.text k ≡ Some t.word = ap (slice_get i.text) (sym w.2) ∙ t.found in
      let same : t.word ≡ word = same_some (sym found ∙ e) in
      subst (λ (n : ℕ). is_some (instr_of n) ≡ true) same (form_reads p g l w.0.at w.0.act t.word t.form)

  -- ---- the map

  table_number : length i.map.tables ≡ table_count g.tables
  table_number = ap (λ (ts : List MapTable). length ts) data_is.tables ∙ map_length map_table l.tables ∙ lay.data_part.number

  object_number : length i.map.objects ≡ length p.texts
  object_number =
      sym (map_length (λ (o : MapObj). o.words) i.map.objects)
      ∙ ap (λ (ns : List ℕ). length ns) data_is.counts
      ∙ map_length (λ (t : List Item). length t) p.texts

  region_number : length i.map.regions ≡ length p.regions
  region_number =
      ap (λ (rs : List MapRegion). length rs) data_is.regions ∙ map_length map_region l.regions
      ∙ sym (map_length extent_at l.regions) ∙ sym (length_permutation (map extent_at l.regions) (map extent_of p.regions) lay.data_part.extents)
      ∙ map_length extent_of p.regions

  few_tables : length i.map.tables ≤ 256
  few_tables =
      let a = count_most g.tables (length g.counts) of.tables in
      let n = ap (λ (c : List ℕ). length c) of.counts ∙ map_length (λ (t : List Item). length t) p.texts in
      let b = table_number in
      let o = limits.objects in
      omega (arith, a, n, b, o)

  counts_sum : sum g.counts ≡ sum (map (λ (t : List Item). length t) p.texts)
  counts_sum = ap sum of.counts

  few_words : length i.map.words ≤ 4194304
  few_words = let a = text_is.total in let b = counts_sum in let c = limits.words in omega (arith, a, b, c)

  table_from : (k : ℕ) (t : MapTable) → slice_get i.map.tables k ≡ Some t → (u : TableAt) × (slice_get l.tables k ≡ Some u) × (map_table u ≡ t)
  table_from k t e = got_map map_table l.tables k t (ap (λ (ts : List MapTable). slice_get ts k) (sym data_is.tables) ∙ e)

  few_slots : (k : ℕ) (t : MapTable) → slice_get i.map.tables k ≡ Some t → length t.slots ≤ 8192
  few_slots k t e =
      let u = table_from k t e in
      let n = inside.slots k u.0 u.1 in
      let m = map_length slot_target u.0.slots in
      let s = ap (λ (x : MapTable). length x.slots) u.2 in
      omega (arith, n, m, s)

  slots_are : (k : ℕ) (t : MapTable) → slice_get i.map.tables k ≡ Some t → All IsSlot t.slots
  slots_are k t e = all_of IsSlot t.slots each
    where
      each : (j : ℕ) (s : SlotTarget) → slice_get t.slots j ≡ Some s → IsSlot s
      each j s f =
          let u = table_from k t e in
          let h : slice_get (map slot_target u.0.slots) j ≡ Some s = ap (λ (x : MapTable). slice_get x.slots j) u.2 ∙ f in
          let v = got_map slot_target u.0.slots j s h in
          let has = has_at u.0.slots j v.0 v.1 in
          subst IsSlot v.2 (slot_in_map p prog g of k v.0 (subst (λ (ts : List Target). Has ts v.0) (lay.data_part.slots k u.0 u.1) has))

  regions_are : (k : ℕ) (r : MapRegion) → slice_get i.map.regions k ≡ Some r → IsInMap r.region
  regions_are k r e =
      let u = got_map map_region l.regions k r (ap (λ (rs : List MapRegion). slice_get rs k) (sym data_is.regions) ∙ e) in
      subst (λ (x : MapRegion). IsInMap x.region) u.2 (given_in_map u.0.region (extent_given u.0 k u.1))
    where
      extent_given : (u : RegionAt) (k : ℕ) → slice_get l.regions k ≡ Some u → is_given u.region ≡ true
      extent_given u k e =
          let c = Contains-permutation (map extent_at l.regions) (map extent_of p.regions) (extent_at u) lay.data_part.extents
          (contains_at (map extent_at l.regions) k (extent_at u) (map_got extent_at l.regions k u e)) in
          let s = some_at (map extent_of p.regions) c.0 c.1 in
          let q = got_map extent_of p.regions c.0 s.0 s.1 in
          let same : s.0 ≡ extent_at u = index_at (map extent_of p.regions) c.0 s.0 (extent_at u) s.1 ∙ c.2 in
          let region : q.0.region ≡ u.region = ap (λ (x : Region × ℕ). x.0) (q.2 ∙ same) in
          subst (λ (r : Region). is_given r ≡ true) region (prog.regions.each c.0 q.0 q.1).form.given

  objects_are : (k : ℕ) (o : MapObj) → slice_get i.map.objects k ≡ Some o → o.table < length i.map.tables
  objects_are k o e =
      let m = map_got (λ (x : MapObj). x.table) i.map.objects k o e in
      let t : slice_get g.tables k ≡ Some o.table = ap (λ (ts : List ℕ). slice_get ts k) (sym data_is.object_tables) ∙ m in
      let lt = below_count g.tables k o.table t in
      let n = table_number in
      omega (arith, lt, n)

  positions_are : (k : ℕ) (w : MapWord) → slice_get i.map.words k ≡ Some w → w.position < (if w.kept then length i.text else length i.text + 1)
  positions_are k w e =
      let lt = index_below i.map.words k w e in
      let n = text_is.total in
      let c = counts_sum in
      let q = every_word p.texts k (omega (arith, lt, n, c)) in
      let at : index_of g.counts q.place ≡ k = ap (λ (cs : List ℕ). index_of cs q.place) of.counts ∙ q.index in
      let found : slice_get i.map.words k ≡ Some (map_word g l q.place q.item) = ap (slice_get i.map.words) (sym at) ∙ text_is.each q.place q.item q.there in
      let same : map_word g l q.place q.item ≡ w = same_some (sym found ∙ e) in
      subst (λ (x : MapWord). x.position < (if x.kept then length i.text else length i.text + 1)) same (by_kept q.place (is_kept g q.place) refl)
    where
      by_kept : (q : Place) (b : Bool) → is_kept g q ≡ b → position_of l q < (if b then length i.text else length i.text + 1)
      by_kept q true t =
          let w = kept_word (words g) q t in
          let lt = lay.words.inside w.0 w.1 in
          let s = ap (position_of l) w.2 in
          let n = text_is.count in
          omega (arith, lt, s, n)
      by_kept q false t = let m = lay.words.most q in let n = text_is.count in omega (arith, m, n)

  map_is : IsMap (length i.text) i.map
  map_is = record {
    few_objects = let n = object_number in let o = limits.objects in omega (arith, n, o);
    few_tables = let n = few_tables in omega (arith, n);
    few_slots = all_of (λ (t : MapTable). length t.slots < 2 ^ 32) i.map.tables (λ k t e. let n = few_slots k t e in omega (arith, n));
    few_regions = let n = region_number in let r = limits.regions in omega (arith, n, r);
    few_words = let n = few_words in omega (arith, n);
    fits =
        let a = object_number in
        let b = limits.objects in
        let c = few_tables in
        let d = sum_most (λ (t : MapTable). length t.slots) i.map.tables 8192 few_slots in
        let e = region_number in
        let f = limits.regions in
        let h = few_words in
        omega (arith, a, b, c, d, e, f, h);
    total = sum_of (λ (o : MapObj). o.words) i.map.objects ∙ ap sum data_is.counts ∙ sym counts_sum ∙ sym text_is.total;
    objects = all_of (λ (o : MapObj). o.table < length i.map.tables) i.map.objects objects_are;
    slots = all_of (λ (t : MapTable). All IsSlot t.slots) i.map.tables slots_are;
    regions = all_of (λ (r : MapRegion). IsInMap r.region) i.map.regions regions_are;
    words = all_of (λ (w : MapWord). w.position < (if w.kept then length i.text else length i.text + 1)) i.map.words positions_are;
  }

  valid : IsValidImage i
  valid = record {
    text = let n = text_is.count in let m = inside.words in omega (arith, n, m);
    bytes = let a = data_is.whole in let m = inside.data_part in omega (arith, a, m);
    entry = entry_is;
    map = map_is;
    words = all_of (λ (w : ℕ). is_some (instr_of w) ≡ true) i.text word_reads;
  }

pub true_maps_are_valid : TrueMapsAreValid
true_maps_are_valid p g l i prog of kept limits m = valid p g l i prog of kept limits m
