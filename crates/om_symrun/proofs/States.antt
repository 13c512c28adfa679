-- States of a machine whose memory has changed.
use Rattle.std.proofs.Common.{◌≡◌, ◌≤◌, ◌<◌, ℕ, ◌+◌, ◌/◌, ◌%◌, ◌^◌, ◌==◌, Bool, true, false, cond, List, Option, Some, None, Result, Ok, Err, refl, ap, sym, subst, ◌∙◌, arith}
use Rattle.std.specs.Prelude.{slice_get, option_and_then, IsSome, OnOk, OnErr}
use Rattle.std.proofs.lemmas.Bool.{eqb-true}
use Rattle.om_isa.specs.SystemCall.{heap_limit}
use Rattle.om_value.specs.declared.value.Place.{Place}
use Rattle.om_value.specs.declared.value.Region.{Region}
use Rattle.om_value.specs.declared.value.Region.TheVariants.{Sec, Common, Stack, Heap}
use Rattle.om_isa.specs.Effect.{Store}
use Rattle.om_value.specs.declared.value.Value.TheVariants.{Num, Ptr}
use Rattle.om_prog.specs.declared.item.Item.{Item}
use Rattle.om_prog.specs.Cells.{Cell}
use Rattle.om_prog.specs.Step.{SymState, sized, writes_cells, resized_cells, next_place, after, answers, resizes}
use Rattle.om_prog.specs.Valid.{IsProgram, IsText}
use Rattle.om_prog.specs.View.{ProgramView, item_at, size_of}
use Rattle.om_prog.proofs.Found.{get_below}
use Rattle.om_symrun.specs.RegionCells.{Regions}
use Rattle.om_symrun.specs.CellsIn.{byte_cells}
use Rattle.om_symrun.specs.Memory.{memory_cells, memory_size, heap_size, WritesRegion, SameCells, ResizesHeap, IsMemoryOf}
use Rattle.om_symrun.specs.Calls.{took}
use Rattle.om_symrun.specs.View.{View, state_of}
use mathlib.Core.Path.{fun_ext}

abbrev pub with_memory : View → Regions → View
with_memory v m = record v { memory = m }

-- ---- sizes

pub memory_kept : (p : ProgramView) (old new : Regions) → IsMemoryOf p old → ((r : Region) → memory_size new r ≡ memory_size old r) → IsMemoryOf p new
memory_kept p old new is same =
    record {
      program = is.program;
      sizes = λ r. same r ∙ is.sizes r ∙ ap (λ n. sized (size_of p) n r) (sym (same Heap));
      limit = subst (λ n. n ≤ heap_limit) (sym (same Heap)) is.limit;
    }

sized_twice : (f : Region → ℕ) (size n : ℕ) (g : Region → ℕ) → ((r : Region) → f r ≡ sized g n r) → (r : Region) → sized f size r ≡ sized g size r
sized_twice f size n g e (Sec o k) = e (Sec o k)
sized_twice f size n g e (Common s) = e (Common s)
sized_twice f size n g e Stack = e Stack
sized_twice f size n g e Heap = refl

pub memory_resized : (p : ProgramView) (old new : Regions) (size : ℕ) → IsMemoryOf p old → ResizesHeap old new size → size ≤ heap_limit → IsMemoryOf p new
memory_resized p old new size is now limit =
    record {
      program = is.program;
      sizes = λ r.
          now.sizes r
          ∙ sized_twice (memory_size old) size (heap_size old) (size_of p) is.sizes r
          ∙ ap (λ n. sized (size_of p) n r) (sym now.size_is);
      limit = subst (λ n. n ≤ heap_limit) (sym now.size_is) limit;
    }

-- ---- states

module _ (v : View) (m : Regions) (i o e : List ℕ) where
  pub same_state : SameCells v.memory m → state_of (with_memory v m) i o e ≡ state_of v i o e
  same_state same =
      let cells : memory_cells m ≡ memory_cells v.memory = fun_ext (λ r. fun_ext (λ x. same.places r x)) in
      let heap : heap_size m ≡ heap_size v.memory = same.sizes Heap in
      cc (cells, heap)

  pub written_state : (region : Region) (at : ℕ) (cs : List Cell) → WritesRegion v.memory m region at cs → state_of (with_memory v m) i o e ≡ record (state_of v i o e) { cells = writes_cells (state_of v i o e) v.place (region, at, cs) }
  written_state region at cs now =
      let cells : memory_cells m ≡ writes_cells (state_of v i o e) v.place (region, at, cs) = fun_ext (λ r. fun_ext (λ x. now.places r x)) in
      let heap : heap_size m ≡ heap_size v.memory = now.sizes Heap in
      cc (cells, heap)

  resized_at : (size : ℕ) → ResizesHeap v.memory m size → (r : Region) (x : ℕ) → memory_cells m r x ≡ resized_cells (state_of v i o e) v.place size r x
  resized_at size now (Sec a b) x = now.places (Sec a b) x refl
  resized_at size now (Common s) x = now.places (Common s) x refl
  resized_at size now Stack x = now.places Stack x refl
  resized_at size now Heap x = now.heap x

  pub resized_state : (size : ℕ) → ResizesHeap v.memory m size → state_of (with_memory v m) i o e ≡ record (state_of v i o e) { heap = size; cells = resized_cells (state_of v i o e) v.place size }
  resized_state size now =
      let cells : memory_cells m ≡ resized_cells (state_of v i o e) v.place size =
      fun_ext (λ r. fun_ext (λ x. resized_at size now r x)) in
      let heap = now.size_is in
      cc (cells, heap)

-- a memory that took bytes, in a state
pub took_state : (v : View) (m : Regions) (region : Region) (at : ℕ) (bytes : List ℕ) (i o e rest : List ℕ) → WritesRegion v.memory m region at (byte_cells bytes) → state_of (with_memory v m) rest o e ≡ took (state_of v i o e) (Ptr region at) bytes rest
took_state v m region at bytes i o e rest now =
    let cells : memory_cells m ≡ writes_cells (state_of v i o e) v.place (region, at, byte_cells bytes) = fun_ext (λ r. fun_ext (λ x. now.places r x)) in
    let heap : heap_size m ≡ heap_size v.memory = now.sizes Heap in
    cc (cells, heap)

-- ---- the place behind a word

module _ (p : ProgramView) (at : Place) (is : IsProgram p) where
  of_text : (o : Option (List Item)) → slice_get p.texts at.obj ≡ o → (i : Item) → at.off % 4 ≡ 0 → option_and_then (λ text. slice_get text (at.off / 4)) o ≡ Some i → at.off + 4 < 2 ^ 32
  of_text None t i even e = cc
  of_text (Some text) t i even e =
      let below = get_below text (at.off / 4) i e in
      let words : IsText p at.obj text = is.texts.each at.obj text t in
      omega (arith, below, words.words, even)

  pub small_place : (i : Item) → item_at p at ≡ Some i → at.off + 4 < 2 ^ 32
  small_place i e = by_test (at.off % 4 == 0) refl e
    where
      by_test : (b : Bool) → (at.off % 4 == 0) ≡ b → cond b (option_and_then (λ text. slice_get text (at.off / 4)) (slice_get p.texts at.obj)) None ≡ Some i → at.off + 4 < 2 ^ 32
      by_test true t f = of_text (slice_get p.texts at.obj) refl i (eqb-true (at.off % 4) 0 t) f
      by_test false t f = cc

  pub small_if : (o : Option Item) → o ≡ item_at p at → IsSome o → at.off + 4 < 2 ^ 32
  small_if (Some i) e h = small_place i (sym e)
  small_if None e h = cc

-- ---- answers that may want memory

on_ok : {T E : Type 0} {P Q : Type 0} → (r : Result T E) → OnOk r P → (P → Q) → OnOk r Q
on_ok (Ok x) p f = f p
on_ok (Err e) p f = tt

on_err : {T E : Type 0} {P Q : Type 0} → (r : Result T E) → OnErr r P → (P → Q) → OnErr r Q
on_err (Ok x) p f = tt
on_err (Err e) p f = f p

pub kept_either : {T E : Type 0} → (p : ProgramView) (old new : Regions) (region : Region) (at : ℕ) (cs : List Cell) (r : Result T E) → OnOk r (WritesRegion old new region at cs) → OnErr r (SameCells old new) → IsMemoryOf p old → IsMemoryOf p new
kept_either p old new region at cs (Ok x) now same is = memory_kept p old new is now.sizes
kept_either p old new region at cs (Err e) now same is = memory_kept p old new is same.sizes

pub resized_either : {T E : Type 0} → (p : ProgramView) (old new : Regions) (size : ℕ) (r : Result T E) → OnOk r (ResizesHeap old new size) → OnErr r (SameCells old new) → IsMemoryOf p old → size ≤ heap_limit → IsMemoryOf p new
resized_either p old new size (Ok x) now same is limit = memory_resized p old new size is now limit
resized_either p old new size (Err e) now same is limit = memory_kept p old new is same.sizes

module _ (u v : View) (m : Regions) (view_is : u ≡ v) where
  pub same_result : {T E : Type 0} → (r : Result T E) → OnErr r (SameCells u.memory m) → OnErr r ((i o e : List ℕ) → state_of (with_memory u m) i o e ≡ state_of v i o e)
  same_result r h = on_err r h (λ same i o e. same_state u m i o e same ∙ ap (λ (x : View). state_of x i o e) view_is)

  pub written_result : {T E : Type 0} → (region : Region) (at : ℕ) (cs : List Cell) (r : Result T E) → OnOk r (WritesRegion u.memory m region at cs) → OnOk r ((i o e : List ℕ) → state_of (with_memory u m) i o e ≡ record (state_of v i o e) { cells = writes_cells (state_of v i o e) v.place (region, at, cs) })
  written_result region at cs r h =
      on_ok r h (λ now i o e.
      written_state u m i o e region at cs now
      ∙ ap (λ (x : View). record (state_of x i o e) { cells = writes_cells (state_of x i o e) x.place (region, at, cs) }) view_is)

  pub resized_result : {T E : Type 0} → (size : ℕ) (r : Result T E) → OnOk r (ResizesHeap u.memory m size) → OnOk r ((i o e : List ℕ) → state_of (with_memory u m) i o e ≡ record (state_of v i o e) { heap = size; cells = resized_cells (state_of v i o e) v.place size })
  resized_result size r h =
      on_ok r h (λ now i o e.
      resized_state u m i o e size now
      ∙ ap (λ (x : View). record (state_of x i o e) { heap = size; cells = resized_cells (state_of x i o e) x.place size }) view_is)

-- ---- the next place follows

pub stored_next :
    (v s a : View) (i o e : List ℕ) (region : Region) (at : ℕ) (cs : List Cell) →
    state_of s i o e ≡ record (state_of v i o e) { cells = writes_cells (state_of v i o e) v.place (region, at, cs) } →
    s ≡ with_memory v s.memory → a ≡ record s { place = next_place s.place } →
    state_of a i o e ≡ after (state_of v i o e) v.place (Store (region, at, cs))
stored_next v s a i o e region at cs state rest next =
    let there : s.place ≡ v.place = ap (λ (x : View). x.place) rest in
    ap (λ (x : View). state_of x i o e) next
    ∙ ap (λ (t : SymState). record t { place = next_place s.place }) state
    ∙ ap (λ (p : Place). record (state_of v i o e) { place = next_place p; cells = writes_cells (state_of v i o e) v.place (region, at, cs) }) there

pub resized_next :
    (v s a : View) (i o e : List ℕ) (size : ℕ) →
    state_of s i o e ≡ record (state_of v i o e) { heap = size; cells = resized_cells (state_of v i o e) v.place size } →
    s ≡ with_memory v s.memory → state_of a i o e ≡ answers (state_of s i o e) s.place (Num 0) 0 →
    state_of a i o e ≡ resizes (state_of v i o e) v.place size
resized_next v s a i o e size state rest next =
    let there : s.place ≡ v.place = ap (λ (x : View). x.place) rest in
    next
    ∙ ap (λ (t : SymState). answers t s.place (Num 0) 0) state
    ∙ ap (λ (p : Place). answers (record (state_of v i o e) { heap = size; cells = resized_cells (state_of v i o e) v.place size }) p (Num 0) 0) there
