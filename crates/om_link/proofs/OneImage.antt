-- All plain images of a program are one.
use Rattle.std.proofs.Common.{◌≡◌, ◌⊎◌, inl, inr, ◌<◌, ◌≤◌, ℕ, zero, suc, ◌+◌, ◌-◌, ◌*◌, ◌/◌, ◌%◌, List, [], ◌∷◌, length, Option, Some, sym, ap, ◌∙◌, subst, arith}
use Rattle.std.specs.Prelude.{sum, slice_get, slice_index, option_map}
use Rattle.std.proofs.Math.Decide.{dec_le}
use Rattle.om_alpha.specs.declared.op.Level.TheVariants as level
use Rattle.om_value.specs.declared.value.Place.{Place}
use Rattle.om_value.specs.declared.value.Region.{Region}
use Rattle.om_prog.specs.declared.item.Item.{Item}
use Rattle.om_prog.specs.declared.region.RegionInit.{RegionInit}
use Rattle.om_prog.specs.Act.{Word}
use Rattle.om_prog.specs.View.{ProgramView}
use Rattle.om_prog.specs.Script.{act_of, program_fetch}
use Rattle.om_prog.specs.Valid.{IsProgram}
use Rattle.om_graph.specs.View.{GraphView}
use Rattle.om_graph.specs.Run.{words}
use Rattle.om_graph.specs.Lifted.{IsLifted}
use Rattle.om_graph.proofs.LiftedRun.{lifted_words}
use Rattle.om_graph.proofs.OfProgram.{same_some}
use Rattle.om_image.specs.declared.image.Image.{Image}
use Rattle.om_image.specs.declared.map.Map.{Map}
use Rattle.om_image.specs.declared.map.MapObj.{MapObj}
use Rattle.om_image.specs.declared.map.MapTable.{MapTable}
use Rattle.om_image.specs.declared.map.MapRegion.{MapRegion}
use Rattle.om_image.specs.declared.map.MapWord.{MapWord}
use Rattle.om_layout.specs.Layout.{LayoutView, TableAt, RegionAt, position_of, region_at, data_base}
use Rattle.om_layout.specs.Order.{IsDataLayout}
use Rattle.om_image.specs.Written.{file_of}
use Rattle.om_encode.specs.Data.{DataIsTrue, data_byte, region_byte}
use Rattle.om_encode.specs.Fields.{IsTrueWord}
use Rattle.om_encode.specs.TrueMap.{IsMapIn}
use Rattle.om_encode.proofs.Regions.{got_in}
use Rattle.om_encode.proofs.Slotted.{got_some}
use Rattle.om_encode.proofs.Valid.{has_at}
use Rattle.om_resolve.specs.Program.{program_of}
use Rattle.om_counted.specs.Levels.{counts_of, IsImageAt}
use Rattle.om_link.specs.Laws.{OnePlainImage}
use Rattle.om_link.proofs.Numbered.{every_word, words_length, all_at, region_of, region_is}
use Rattle.om_link.proofs.OneLayout.{one_layout}
use Rattle.om_link.proofs.OwnNumbers.{place_is}
use Rattle.om_link.proofs.Reach.{stands_in}
use Rattle.om_link.proofs.SourceWords.{of_item, one_form, same_list, same_objects, some_or_none}

-- ---- data

get_value : (xs : List ℕ) (k x : ℕ) → slice_get xs k ≡ Some x → slice_index xs k ≡ x
get_value [] k x e = cc
get_value (y ∷ ys) zero x e = cc
get_value (y ∷ ys) (suc k) x e = get_value ys k x e

module _ (p : ProgramView) (prog : IsProgram p) (g h : GraphView) (l : LayoutView) (lay : IsDataLayout p g l) (i j : Image) (a : DataIsTrue p g l i) (b : DataIsTrue p h l j) where
  is_within : (from to n : ℕ) → ((from ≤ n) × (n < to)) ⊎ ((from ≤ n) × (n < to) → ⊥)
  is_within from to n = by_from (dec_le from n) (dec_le (suc n) to)
    where
      by_from : Dec (from ≤ n) → Dec (suc n ≤ to) → ((from ≤ n) × (n < to)) ⊎ ((from ≤ n) × (n < to) → ⊥)
      by_from (yes x) (yes y) = inl (x, omega (arith, y))
      by_from (yes x) (no y) = inr (λ w. let z = w.1 in y (omega (arith, z)))
      by_from (no x) d = inr (λ w. x w.0)

  slot_same : (n k : ℕ) (t : TableAt) → slice_get l.tables k ≡ Some t → t.start ≤ n → n < t.start + 8 * length t.slots → data_byte i n ≡ data_byte j n
  slot_same n k t e lo hi =
      let u = got_some t.slots ((n - t.start) / 8) (omega (arith, lo, hi)) in
      let m : t.start + 8 * ((n - t.start) / 8) + (n - t.start) % 8 ≡ n = omega (arith, lo) in
      ap (data_byte i) (sym m)
      ∙ a.slots k t ((n - t.start) / 8) u.0 ((n - t.start) % 8) e u.1 (omega arith)
      ∙ sym (b.slots k t ((n - t.start) / 8) u.0 ((n - t.start) % 8) e u.1 (omega arith))
      ∙ ap (data_byte j) m

  region_same : (n k : ℕ) (r : RegionAt) → slice_get l.regions k ≡ Some r → r.address ≤ n → n < r.address + r.size → data_byte i n ≡ data_byte j n
  region_same n k r e lo hi =
      let has = has_at l.regions k r e in
      let m = region_of p prog g l lay r has in
      let at = region_is p prog g l lay r has m in
      let size : m.init.size ≡ r.size = ap (λ (x : Region × ℕ). x.1) m.extent in
      let here : region_at l m.init.region + (n - r.address) ≡ n = omega (arith, at, lo) in
      let x = all_at (λ (q : RegionInit). (x : ℕ) → x < q.size → data_byte i (region_at l q.region + x) ≡ region_byte l q x) p.regions m.number m.init a.contents m.there (n - r.address) (omega (arith, lo, hi, size)) in
      let y = all_at (λ (q : RegionInit). (x : ℕ) → x < q.size → data_byte j (region_at l q.region + x) ≡ region_byte l q x) p.regions m.number m.init b.contents m.there (n - r.address) (omega (arith, lo, hi, size)) in
      ap (data_byte i) (sym here) ∙ x ∙ sym y ∙ ap (data_byte j) here

  byte_same : (n : ℕ) → data_base ≤ n → data_byte i n ≡ data_byte j n
  byte_same n le =
      by_slot (some_or_none (λ (t : TableAt). (t.start ≤ n) × (n < t.start + 8 * length t.slots)) (λ t. is_within t.start (t.start + 8 * length t.slots) n) l.tables)
      (some_or_none (λ (r : RegionAt). (r.address ≤ n) × (n < r.address + r.size)) (λ r. is_within r.address (r.address + r.size) n) l.regions)
    where
      by_slot :
          ((k : ℕ) × (t : TableAt) × (slice_get l.tables k ≡ Some t) × ((t.start ≤ n) × (n < t.start + 8 * length t.slots)))
          ⊎ ((k : ℕ) (t : TableAt) → slice_get l.tables k ≡ Some t → (t.start ≤ n) × (n < t.start + 8 * length t.slots) → ⊥) →
          ((k : ℕ) × (r : RegionAt) × (slice_get l.regions k ≡ Some r) × ((r.address ≤ n) × (n < r.address + r.size)))
          ⊎ ((k : ℕ) (r : RegionAt) → slice_get l.regions k ≡ Some r → (r.address ≤ n) × (n < r.address + r.size) → ⊥) →
          data_byte i n ≡ data_byte j n
      by_slot (inl s) r = slot_same n s.0 s.1 s.2 s.3.0 s.3.1
      by_slot (inr s) (inl r) = region_same n r.0 r.1 r.2 r.3.0 r.3.1
      by_slot (inr s) (inr r) =
          a.others n le (λ x. s x.0 x.1 x.2 (x.3, x.4)) (λ x. r x.0 x.1 x.2 (x.3, x.4))
          ∙ sym (b.others n le (λ x. s x.0 x.1 x.2 (x.3, x.4)) (λ x. r x.0 x.1 x.2 (x.3, x.4)))

  bytes_same : i.bytes ≡ j.bytes
  bytes_same =
      same_list i.bytes j.bytes (let x = a.given in let y = b.given in omega (arith, x, y))
      (λ k x y e f.
      let n : data_base + k - data_base ≡ k = omega arith in
      sym (get_value i.bytes k x e) ∙ ap (slice_index i.bytes) (sym n) ∙ byte_same (data_base + k) (omega arith)
      ∙ ap (slice_index j.bytes) n ∙ get_value j.bytes k y f)

  bss_same : i.bss ≡ j.bss
  bss_same = let x = a.whole in let y = b.whole in let z = ap (λ (xs : List ℕ). length xs) bytes_same in omega (arith, x, y, z)

-- ---- two plain images of a program

module _ (p : ProgramView) (i j : Image) (x : IsImageAt level.Plain p i) (y : IsImageAt level.Plain p j) where
  x_lifted : IsLifted p x.graph
  x_lifted = subst (IsLifted p) (sym x.finished.graph) x.origin

  y_lifted : IsLifted p y.graph
  y_lifted = subst (IsLifted p) (sym y.finished.graph) y.origin

  one : x.layout ≡ y.layout
  one = one_layout p x.program x.graph y.graph x.layout y.layout x_lifted y_lifted x.laid y.laid

  y_map : IsMapIn p y.graph x.layout j
  y_map = subst (λ (l : LayoutView). IsMapIn p y.graph l j) (sym one) y.true_map

  y_form : (q : Place) (w : Word) → program_fetch p q ≡ Some w → IsTrueWord p y.graph x.layout j w
  y_form = subst (λ (l : LayoutView). (q : Place) (w : Word) → program_fetch p q ≡ Some w → IsTrueWord p y.graph l j w) (sym one) y.finished.forms

  text_count : (g : GraphView) → IsLifted p g → (n : ℕ) → n ≡ length (words g) → n ≡ sum (counts_of p)
  text_count g lifted n e = e ∙ ap (λ (ws : List Word). length ws) (lifted_words p x.program g lifted) ∙ words_length 0 p.texts

  word_same : (k v w : ℕ) → slice_get i.text k ≡ Some v → slice_get j.text k ≡ Some w → v ≡ w
  word_same k v w e f =
      let n = text_count x.graph x_lifted (length i.text) x.true_map.text.count in
      let lt = got_in i.text k v e in
      let q = every_word p.texts k (omega (arith, n, lt)) in
      let word : Word = record { at = q.place; act = act_of q.item.role q.item.instr } in
      let fetched : program_fetch p q.place ≡ Some word = ap (λ (o : Option Item). option_map (λ (m : Item). let z : Word = record { at = q.place; act = act_of m.role m.instr } in z) o) q.there in
      let at : position_of x.layout q.place ≡ k = x.finished.positions q.place (place_is p q.place q.item (stands_in p q.place q.item q.there)) ∙ q.index in
      let a = x.finished.forms q.place word fetched in
      let b = y_form q.place word fetched in
      let va : a.word ≡ v = same_some (sym a.found ∙ ap (slice_get i.text) at ∙ e) in
      let wb : b.word ≡ w = same_some (sym b.found ∙ ap (slice_get j.text) at ∙ f) in
      sym va ∙ one_form p x.graph y.graph x.layout x.laid.data_part q.place word.act a.word b.word (of_item q.item.role q.item.instr) a.form b.form ∙ wb

  text_same : i.text ≡ j.text
  text_same =
      same_list i.text j.text
      (let n = text_count x.graph x_lifted (length i.text) x.true_map.text.count in
      let m = text_count y.graph y_lifted (length j.text) y.true_map.text.count in
      omega (arith, n, m))
      word_same

  told_same : i.map.words ≡ j.map.words
  told_same =
      same_list i.map.words j.map.words
      (x.true_map.text.total ∙ ap sum (x_lifted.counts ∙ sym y_lifted.counts) ∙ sym y.true_map.text.total)
      (λ k v w e f.
      let n : length i.map.words ≡ sum (counts_of p) = x.true_map.text.total ∙ ap sum x_lifted.counts in
      let lt = got_in i.map.words k v e in
      let q = every_word p.texts k (omega (arith, n, lt)) in
      let a = x.finished.words q.place q.item q.there in
      let b = y.finished.words q.place q.item q.there in
      same_some (sym e ∙ ap (slice_get i.map.words) (sym q.index) ∙ a ∙ sym b ∙ ap (slice_get j.map.words) q.index ∙ f))

  objects_same : i.map.objects ≡ j.map.objects
  objects_same =
      same_objects i.map.objects j.map.objects (x.true_map.data_part.counts ∙ sym y.true_map.data_part.counts) (x.finished.tables ∙ sym y.finished.tables)

  map_same : i.map ≡ j.map
  map_same =
      ap (λ (z : List MapObj). let m : Map = record { objects = z; tables = i.map.tables; regions = i.map.regions; words = i.map.words } in m) objects_same
      ∙ ap (λ (z : List MapTable). let m : Map = record { objects = j.map.objects; tables = z; regions = i.map.regions; words = i.map.words } in m) (x.true_map.data_part.tables ∙ sym y_map.data_part.tables)
      ∙ ap (λ (z : List MapRegion). let m : Map = record { objects = j.map.objects; tables = j.map.tables; regions = z; words = i.map.words } in m) (x.true_map.data_part.regions ∙ sym y_map.data_part.regions)
      ∙ ap (λ (z : List MapWord). let m : Map = record { objects = j.map.objects; tables = j.map.tables; regions = j.map.regions; words = z } in m) told_same

  pub same_image : i ≡ j
  same_image =
      let data_bytes = bytes_same p x.program x.graph y.graph x.layout x.laid.data_part i j x.true_map.data_part y_map.data_part in
      let bss = bss_same p x.program x.graph y.graph x.layout x.laid.data_part i j x.true_map.data_part y_map.data_part in
      ap (λ (z : ℕ). let m : Image = record { entry = z; gp = i.gp; text = i.text; bytes = i.bytes; bss = i.bss; map = i.map } in m) (x.true_map.data_part.entry ∙ sym y_map.data_part.entry)
      ∙ ap (λ (z : ℕ). let m : Image = record { entry = j.entry; gp = z; text = i.text; bytes = i.bytes; bss = i.bss; map = i.map } in m) (x.true_map.data_part.gp ∙ sym y_map.data_part.gp)
      ∙ ap (λ (z : List ℕ). let m : Image = record { entry = j.entry; gp = j.gp; text = z; bytes = i.bytes; bss = i.bss; map = i.map } in m) text_same
      ∙ ap (λ (z : List ℕ). let m : Image = record { entry = j.entry; gp = j.gp; text = j.text; bytes = z; bss = i.bss; map = i.map } in m) data_bytes
      ∙ ap (λ (z : ℕ). let m : Image = record { entry = j.entry; gp = j.gp; text = j.text; bytes = j.bytes; bss = z; map = i.map } in m) bss
      ∙ ap (λ (z : Map). let m : Image = record { entry = j.entry; gp = j.gp; text = j.text; bytes = j.bytes; bss = j.bss; map = z } in m) map_same

pub one_plain_image : OnePlainImage
one_plain_image = record {
  image = λ p i j x y. same_image p i j x y;
  bytes = λ objects a b x y.
      x.written ∙ ap file_of (same_image (program_of objects) a.image b.image x.link.image y.link.image) ∙ sym y.written;
}
