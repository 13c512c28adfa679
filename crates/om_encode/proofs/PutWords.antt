-- Words that are put at their positions and marked: walks over a graph's kept words, and what is there when all are put in.
use Rattle.std.proofs.Common.{◌≡◌, inl, inr, ℕ, zero, suc, ◌+◌, ◌<◌, Bool, true, false, ◌||◌, ◌==◌, List, [], ◌∷◌, ◌++◌, length, Option, Some, None, refl, ap, sym, subst, ◌∙◌, arith, append_assoc}
use Rattle.std.specs.Prelude.{map, is_some, slice_get, slice_set, slice_index_or, option_map, option_and_then}
use Rattle.std.proofs.lemmas.Bool.{eqb-true, eq-eqb}
use Rattle.om_value.specs.declared.value.Place.{Place}
use Rattle.om_prog.specs.Act.{Word}
use Rattle.om_graph.specs.declared.op.Op.{Op}
use Rattle.om_graph.specs.declared.op.Last.{Last}
use Rattle.om_graph.specs.declared.op.Last.TheVariants.{Fall, Off, Br, Cond, Call, CallBy, JumpBy}
use Rattle.om_graph.specs.View.{Node, Block, GraphView, Has, ops_of, block_of, is_live_block, first_op_of, next_op_of, op_of, last_of, block_id_after, first_block_id, first_id, is_live_op}
use Rattle.om_graph.specs.Run.{words, all_words, block_words, op_word, last_words}
use Rattle.om_graph.specs.Held.{IsGraph}
use Rattle.om_graph.specs.Index.{index_of}
use Rattle.om_graph.proofs.Labels.{append_left, append_right}
use Rattle.om_image.specs.declared.map.MapWord.{MapWord}
use Rattle.om_layout.specs.Layout.{LayoutView, position_of}
use Rattle.om_encode.specs.Encoded.{op_words}
use Rattle.om_encode.specs.Positions.{Filled, no_word, marked, with_word, with_words, with_last, last_place, HasRoom}
use Rattle.om_encode.proofs.UsesOfHighs.{map_append}
use Rattle.om_encode.proofs.TextWalks.{block_at, all_words_more}
use Rattle.om_encode.proofs.Walks.{AtBlock, ThisBlock, this_block, behind_block, AtOp, ThisOp, this_op, live_here, op_here, behind_op, all_ops, all_blocks, fewer_ops, fewer_blocks, ops_left, blocks_left, start_blocks}

-- ---- lists

set_length : {A : Type 0} (xs : List A) (k : ℕ) (x : A) → length (slice_set xs k x) ≡ length xs
set_length [] k x = refl
set_length (y ∷ ys) zero x = refl
set_length (y ∷ ys) (suc k) x = ap suc (set_length ys k x)

set_here : {A : Type 0} (xs : List A) (k : ℕ) (x : A) → k < length xs → slice_get (slice_set xs k x) k ≡ Some x
set_here [] k x h = absurd (omega arith)
set_here (y ∷ ys) zero x h = refl
set_here (y ∷ ys) (suc k) x h = set_here ys k x (omega (arith, h))

set_elsewhere : {A : Type 0} (xs : List A) (k j : ℕ) (x : A) → (j ≡ k → ⊥) → slice_get (slice_set xs k x) j ≡ slice_get xs j
set_elsewhere [] k j x n = refl
set_elsewhere (y ∷ ys) zero zero x n = absurd (n refl)
set_elsewhere (y ∷ ys) zero (suc j) x n = refl
set_elsewhere (y ∷ ys) (suc k) zero x n = refl
set_elsewhere (y ∷ ys) (suc k) (suc j) x n = set_elsewhere ys k j x (λ e. n (ap suc e))

got_or : {A : Type 0} (xs : List A) (k : ℕ) (d : A) → k < length xs → slice_get xs k ≡ Some (slice_index_or xs k d)
got_or [] k d h = absurd (omega arith)
got_or (y ∷ ys) zero d h = refl
got_or (y ∷ ys) (suc k) d h = got_or ys k d (omega (arith, h))

both_length : {A : Type 0} (xs ys : List A) → length (xs ++ ys) ≡ length xs + length ys
both_length [] ys = omega arith
both_length (x ∷ xs) ys = let i = both_length xs ys in omega (arith, i)

-- ---- what is asked of words

-- no two of them have one position
abbrev pub AreApart : LayoutView → List Word → Type 0
AreApart l [] = Unit {0}
AreApart l (w ∷ ws) = ((v : Word) → Has ws v → position_of l v.at ≡ position_of l w.at → ⊥) × AreApart l ws

-- one of them has a number
abbrev pub is_among : GraphView → List Word → ℕ → Bool
is_among g [] k = false
is_among g (w ∷ ws) k = (index_of g.counts w.at == k) || is_among g ws k

abbrev pub marked_if : Bool → MapWord → MapWord
marked_if true w = marked w
marked_if false w = w

-- ---- words one after the other

module _ (g : GraphView) (l : LayoutView) (listed : List ℕ) where
  pub with_more : (f : Filled) (vs ws : List Word) → with_words g l listed f (vs ++ ws) ≡ with_words g l listed (with_words g l listed f vs) ws
  with_more f [] ws = refl
  with_more f (v ∷ vs) ws = with_more (with_word g l listed f v.at) vs ws

  text_length : (f : Filled) (ws : List Word) → length (with_words g l listed f ws).text ≡ length f.text
  text_length f [] = refl
  text_length f (w ∷ ws) = text_length (with_word g l listed f w.at) ws ∙ set_length f.text (position_of l w.at) (slice_index_or listed f.count 0)

  marks_length : (f : Filled) (ws : List Word) → length (with_words g l listed f ws).words ≡ length f.words
  marks_length f [] = refl
  marks_length f (w ∷ ws) =
      marks_length (with_word g l listed f w.at) ws
      ∙ set_length f.words (index_of g.counts w.at) (marked (slice_index_or f.words (index_of g.counts w.at) no_word))

  count_is : (f : Filled) (ws : List Word) → (with_words g l listed f ws).count ≡ f.count + length ws
  count_is f [] = omega arith
  count_is f (w ∷ ws) = let i = count_is (with_word g l listed f w.at) ws in omega (arith, i)

  pub room_front : (f : Filled) (vs ws : List Word) → HasRoom g l listed f (vs ++ ws) → HasRoom g l listed f vs
  room_front f vs ws r = record {
    object = λ w h. r.object w (append_left vs ws w h);
    text = λ w h. r.text w (append_left vs ws w h);
    words = λ w h. r.words w (append_left vs ws w h);
    count = let c = r.count in let n = both_length vs ws in omega (arith, c, n);
  }

  pub room_back : (f : Filled) (vs ws : List Word) → HasRoom g l listed f (vs ++ ws) → HasRoom g l listed (with_words g l listed f vs) ws
  room_back f vs ws r = record {
    object = λ w h. r.object w (append_right vs ws w h);
    text = λ w h. let a = r.text w (append_right vs ws w h) in let n = text_length f vs in omega (arith, a, n);
    words = λ w h. let a = r.words w (append_right vs ws w h) in let n = marks_length f vs in omega (arith, a, n);
    count = let c = r.count in let n = both_length vs ws in let m = count_is f vs in omega (arith, c, n, m);
  }

  -- ---- the words of a block's ops

  pub record OpsPut (id : ℕ) (next : Option ℕ) (first now : Filled) : Type 0 where
    pub block : Block
    pub found : block_of g id ≡ Some block
    pub among : Has g.blocks block
    pub done : List Node
    pub left : List Node
    pub stands : AtOp block next done left
    pub room : HasRoom g l listed first (op_words block)
    pub is : now ≡ with_words g l listed first (map (op_word (ops_of block)) (map (λ n. n.op) done))

  module _ (id : ℕ) where
    pub ops_start : (next : Option ℕ) (f : Filled) → is_live_block g id ≡ true → next ≡ first_op_of g id → ((b : Block) → block_of g id ≡ Some b → HasRoom g l listed f (op_words b)) → OpsPut id next f f
    ops_start next f live e room =
        let b = block_at g id live in
        record {
          block = b.block;
          found = b.found;
          among = b.among;
          done = [];
          left = b.block.ops;
          stands = record { split = refl; next_is = e ∙ ap (λ (o : Option Block). option_and_then (λ (x : Block). first_id x.ops) o) b.found };
          room = room b.block b.found;
          is = refl;
        }

    module _ (graph : IsGraph g) (o : ℕ) (next : Option ℕ) (first now : Filled) (so : OpsPut id next first now) (here : next ≡ Some o) where
      this : ThisOp g so.block o so.done
      this = this_op g graph so.block so.among o next so.done so.left so.stands here

      pub op_live : is_live_op g o ≡ true
      op_live = live_here g graph so.block so.among o so.done this

      same_op : (x : Op) → op_of g o ≡ Some x → x ≡ this.node.op
      same_op x e = same (sym e ∙ op_here g graph so.block so.among o so.done this)
        where
          same : Some x ≡ Some this.node.op → x ≡ this.node.op
          same e = cc

      abbrev word_of : Op → Word
      word_of x = op_word (ops_of so.block) x

      abbrev done_words : List Word
      done_words = map (op_word (ops_of so.block)) (map (λ n. n.op) so.done)

      abbrev rest_words : List Word
      rest_words = map (op_word (ops_of so.block)) (map (λ n. n.op) this.rest)

      split_words : op_words so.block ≡ done_words ++ word_of this.node.op ∷ rest_words
      split_words =
          ap (λ (ns : List Node). map (op_word (ops_of so.block)) (map (λ n. n.op) ns)) this.split
          ∙ ap (λ (os : List Op). map (op_word (ops_of so.block)) os) (map_append (λ (n : Node). n.op) so.done (this.node ∷ this.rest))
          ∙ map_append (op_word (ops_of so.block)) (map (λ n. n.op) so.done) (this.node.op ∷ map (λ n. n.op) this.rest)

      room_now : HasRoom g l listed now (word_of this.node.op ∷ rest_words)
      room_now =
          subst (λ (f : Filled). HasRoom g l listed f (word_of this.node.op ∷ rest_words)) (sym so.is)
          (room_back first done_words (word_of this.node.op ∷ rest_words) (subst (λ (ws : List Word). HasRoom g l listed first ws) split_words so.room))

      -- there is room for the word of this op
      pub op_room : (x : Op) → op_of g o ≡ Some x → HasRoom g l listed now (word_of x ∷ [])
      op_room x e =
          subst (λ (y : Op). HasRoom g l listed now (word_of y ∷ [])) (sym (same_op x e))
          (room_front now (word_of this.node.op ∷ []) rest_words room_now)

      pub ops_step : (x : Op) (now2 : Filled) (next2 : Option ℕ) → op_of g o ≡ Some x → now2 ≡ with_word g l listed now x.place → next2 ≡ next_op_of g o → OpsPut id next2 first now2
      ops_step x now2 next2 e w n = record {
        block = so.block;
        found = so.found;
        among = so.among;
        done = so.done ++ this.node ∷ [];
        left = this.rest;
        stands = behind_op g graph so.block so.among o so.done this next2 n;
        room = so.room;
        is =
            w
            ∙ ap (λ (y : Op). with_word g l listed now y.place) (same_op x e)
            ∙ ap (λ (f : Filled). with_word g l listed f this.node.op.place) so.is
            ∙ sym (with_more first done_words (word_of this.node.op ∷ []))
            ∙ ap (λ (ws : List Word). with_words g l listed first ws) (sym words_more);
      }
        where
          words_more : map (op_word (ops_of so.block)) (map (λ n. n.op) (so.done ++ this.node ∷ [])) ≡ done_words ++ word_of this.node.op ∷ []
          words_more =
              ap (λ (os : List Op). map (op_word (ops_of so.block)) os) (map_append (λ (y : Node). y.op) so.done (this.node ∷ []))
              ∙ map_append (op_word (ops_of so.block)) (map (λ n. n.op) so.done) (this.node.op ∷ [])

      pub ops_fewer : (next2 : Option ℕ) → next2 ≡ next_op_of g o → ops_left g id next2 < ops_left g id next
      ops_fewer next2 n = subst (λ (x : Option ℕ). ops_left g id next2 < ops_left g id x) (sym here) (fewer_ops g graph so.block so.among o so.done this id so.found next2 n)

    pub ops_end : (next : Option ℕ) (first now : Filled) → OpsPut id next first now → next ≡ None → (b : Block) → block_of g id ≡ Some b → now ≡ with_words g l listed first (op_words b)
    ops_end next first now so e b f =
        let s : so.block ≡ b = same (sym so.found ∙ f) in
        let d = all_ops so.block next so.done so.left so.stands e in
        subst (λ (x : Block). now ≡ with_words g l listed first (op_words x)) s
        (so.is ∙ ap (λ (ns : List Node). with_words g l listed first (map (op_word (ops_of so.block)) (map (λ n. n.op) ns))) (sym d))
      where
        same : Some so.block ≡ Some b → so.block ≡ b
        same e = cc

  -- ---- a block

  pub last_put : (x : Last) (f : Filled) → with_last g l listed f (last_place x) ≡ with_words g l listed f (last_words x)
  last_put Fall f = refl
  last_put Off f = refl
  last_put (Br at o ra q) f = refl
  last_put (Cond at i q) f = refl
  last_put (Call at o ra q) f = refl
  last_put (CallBy at i) f = refl
  last_put (JumpBy at i) f = refl

  -- the word at a block's end is the only one
  pub last_only : (x : Last) (at : Place) → last_place x ≡ Some at → (w : Word) × (last_words x ≡ w ∷ []) × (w.at ≡ at)
  last_only Fall at e = cc
  last_only Off at e = cc
  last_only (Br at o ra q) at2 e = (_, refl, cc)
  last_only (Cond at i q) at2 e = (_, refl, cc)
  last_only (Call at o ra q) at2 e = (_, refl, cc)
  last_only (CallBy at i) at2 e = (_, refl, cc)
  last_only (JumpBy at i) at2 e = (_, refl, cc)

  module _ (id : ℕ) where
    last_is : (b : Block) (x : Last) → block_of g id ≡ Some b → last_of g id ≡ Some x → x ≡ b.last
    last_is b x f e = same (sym e ∙ ap (λ (o : Option Block). option_map (λ (y : Block). y.last) o) f)
      where
        same : Some x ≡ Some b.last → x ≡ b.last
        same e = cc

    pub block_put :
        (x : Last) (first mid now : Filled) → last_of g id ≡ Some x → ((b : Block) → block_of g id ≡ Some b → mid ≡ with_words g l listed first (op_words b)) →
        now ≡ with_last g l listed mid (last_place x) → (b : Block) → block_of g id ≡ Some b → now ≡ with_words g l listed first (block_words b)
    block_put x first mid now e ops w b f =
        w ∙ last_put x mid
        ∙ ap (λ (y : Last). with_words g l listed mid (last_words y)) (last_is b x f e)
        ∙ ap (λ (m : Filled). with_words g l listed m (last_words b.last)) (ops b f)
        ∙ sym (with_more first (op_words b) (last_words b.last))

    -- there is room for the word at the block's end
    pub last_room :
        (x : Last) (at : Place) (first mid : Filled) → is_live_block g id ≡ true → last_of g id ≡ Some x → last_place x ≡ Some at →
        ((b : Block) → block_of g id ≡ Some b → HasRoom g l listed first (block_words b)) →
        ((b : Block) → block_of g id ≡ Some b → mid ≡ with_words g l listed first (op_words b)) →
        (w : Word) × HasRoom g l listed mid (w ∷ []) × (w.at ≡ at)
    last_room x at first mid live e p room ops =
        let b = block_at g id live in
        let o = last_only x at p in
        let s = last_is b.block x b.found e in
        let r = room_back first (op_words b.block) (last_words b.block.last) (room b.block b.found) in
        let r2 = subst (λ (m : Filled). HasRoom g l listed m (last_words b.block.last)) (sym (ops b.block b.found)) r in
        let r3 = subst (λ (y : Last). HasRoom g l listed mid (last_words y)) (sym s) r2 in
        (o.0, subst (λ (ws : List Word). HasRoom g l listed mid ws) o.1 r3, o.2)

  -- ---- block by block

  pub record WordsPut (next : Option ℕ) (first now : Filled) : Type 0 where
    pub done : List Block
    pub left : List Block
    pub stands : AtBlock g next done left
    pub is : now ≡ with_words g l listed first (all_words done)

  pub words_start : (next : Option ℕ) (first : Filled) → next ≡ first_block_id g.blocks → WordsPut next first first
  words_start next first e = record { done = []; left = g.blocks; stands = start_blocks g next e; is = refl }

  module _ (graph : IsGraph g) (id : ℕ) (next : Option ℕ) (first now : Filled) (so : WordsPut next first now) (here : next ≡ Some id) where
    this_one : ThisBlock g id so.done
    this_one = this_block g id next so.done so.left graph so.stands here

    pub block_live : is_live_block g id ≡ true
    block_live = ap (λ (x : Option Block). is_some x) this_one.found

    all_split : words g ≡ all_words so.done ++ (block_words this_one.block ++ all_words this_one.rest)
    all_split = ap all_words this_one.split ∙ all_both so.done (this_one.block ∷ this_one.rest)
      where
        all_both : (bs cs : List Block) → all_words (bs ++ cs) ≡ all_words bs ++ all_words cs
        all_both [] cs = refl
        all_both (b ∷ bs) cs = ap (λ (ws : List Word). block_words b ++ ws) (all_both bs cs) ∙ sym (append_assoc (block_words b) (all_words bs) (all_words cs))

    pub block_room : HasRoom g l listed first (words g) → (b : Block) → block_of g id ≡ Some b → HasRoom g l listed now (block_words b)
    block_room room b f =
        let s : this_one.block ≡ b = same (sym this_one.found ∙ f) in
        let r = room_back first (all_words so.done) (block_words this_one.block ++ all_words this_one.rest) (subst (λ (ws : List Word). HasRoom g l listed first ws) all_split room) in
        subst (λ (x : Block). HasRoom g l listed now (block_words x)) s
        (subst (λ (f : Filled). HasRoom g l listed f (block_words this_one.block)) (sym so.is)
        (room_front (with_words g l listed first (all_words so.done)) (block_words this_one.block) (all_words this_one.rest) r))
      where
        same : Some this_one.block ≡ Some b → this_one.block ≡ b
        same e = cc

    pub words_step :
        (now2 : Filled) (next2 : Option ℕ) → ((b : Block) → block_of g id ≡ Some b → now2 ≡ with_words g l listed now (block_words b)) →
        next2 ≡ block_id_after id g.blocks → WordsPut next2 first now2
    words_step now2 next2 w n = record {
      done = so.done ++ this_one.block ∷ [];
      left = this_one.rest;
      stands = behind_block g id so.done this_one graph next2 n;
      is =
          w this_one.block this_one.found
          ∙ ap (λ (f : Filled). with_words g l listed f (block_words this_one.block)) so.is
          ∙ sym (with_more first (all_words so.done) (block_words this_one.block))
          ∙ ap (λ (ws : List Word). with_words g l listed first ws) (sym (all_words_more so.done this_one.block));
    }

    pub words_fewer : (next2 : Option ℕ) → next2 ≡ block_id_after id g.blocks → blocks_left g next2 < blocks_left g next
    words_fewer next2 n = subst (λ (x : Option ℕ). blocks_left g next2 < blocks_left g x) (sym here) (fewer_blocks g id so.done this_one graph next2 n)

  pub words_end : (next : Option ℕ) (first now : Filled) → WordsPut next first now → next ≡ None → now ≡ with_words g l listed first (words g)
  words_end next first now so e =
      let d = all_blocks g next so.done so.left so.stands e in
      so.is ∙ ap (λ (bs : List Block). with_words g l listed first (all_words bs)) (sym d)

  -- ---- what is there when words are put in

  -- a position that none of them has is as it was
  text_kept : (f : Filled) (ws : List Word) (k : ℕ) → ((w : Word) → Has ws w → position_of l w.at ≡ k → ⊥) → slice_get (with_words g l listed f ws).text k ≡ slice_get f.text k
  text_kept f [] k n = refl
  text_kept f (w ∷ ws) k n =
      text_kept (with_word g l listed f w.at) ws k (λ v h. n v (inr h))
      ∙ set_elsewhere f.text (position_of l w.at) k (slice_index_or listed f.count 0) (λ e. n w (inl refl) (sym e))

  pub text_put :
      (f : Filled) (ws : List Word) (k : ℕ) (w : Word) → AreApart l ws → HasRoom g l listed f ws → slice_get ws k ≡ Some w →
      slice_get (with_words g l listed f ws).text (position_of l w.at) ≡ Some (slice_index_or listed (f.count + k) 0)
  text_put f [] k w a r e = cc
  text_put f (v ∷ vs) zero w a r e =
      let s : v ≡ w = cc in
      subst (λ (x : Word). slice_get (with_words g l listed f (v ∷ vs)).text (position_of l x.at) ≡ Some (slice_index_or listed (f.count + 0) 0)) s
      (text_kept (with_word g l listed f v.at) vs (position_of l v.at) a.0
      ∙ set_here f.text (position_of l v.at) (slice_index_or listed f.count 0) (r.text v (inl refl))
      ∙ ap (λ (n : ℕ). Some (slice_index_or listed n 0)) (omega arith))
  text_put f (v ∷ vs) (suc k) w a r e =
      text_put (with_word g l listed f v.at) vs k w a.1 (room_back f (v ∷ []) vs r) e
      ∙ ap (λ (n : ℕ). Some (slice_index_or listed n 0)) (omega arith)

  pub text_count : (f : Filled) (ws : List Word) → length (with_words g l listed f ws).text ≡ length f.text
  text_count f ws = text_length f ws

  pub marks_count : (f : Filled) (ws : List Word) → length (with_words g l listed f ws).words ≡ length f.words
  marks_count f ws = marks_length f ws

  -- the words of these numbers are marked, and all else is as it was
  pub marks_put :
      (f : Filled) (ws : List Word) (k : ℕ) (m : MapWord) → HasRoom g l listed f ws → slice_get f.words k ≡ Some m →
      slice_get (with_words g l listed f ws).words k ≡ Some (marked_if (is_among g ws k) m)
  marks_put f [] k m r e = e
  marks_put f (w ∷ ws) k m r e =
      by_test (index_of g.counts w.at == k) refl
      (λ x h. marks_put (with_word g l listed f w.at) ws k x (room_back f (w ∷ []) ws r) h)
    where
      twice : (b : Bool) (x : MapWord) → marked_if b (marked x) ≡ marked x
      twice true x = refl
      twice false x = refl

      by_test :
          (b : Bool) → (index_of g.counts w.at == k) ≡ b →
          ((x : MapWord) → slice_get (with_word g l listed f w.at).words k ≡ Some x → slice_get (with_words g l listed f (w ∷ ws)).words k ≡ Some (marked_if (is_among g ws k) x)) →
          slice_get (with_words g l listed f (w ∷ ws)).words k ≡ Some (marked_if (is_among g (w ∷ ws) k) m)
      by_test true t again =
          let s : index_of g.counts w.at ≡ k = eqb-true (index_of g.counts w.at) k t in
          let below = r.words w (inl refl) in
          let old : slice_get f.words (index_of g.counts w.at) ≡ Some m = ap (slice_get f.words) s ∙ e in
          let same : slice_index_or f.words (index_of g.counts w.at) no_word ≡ m = one (slice_index_or f.words (index_of g.counts w.at) no_word) (sym (got_or f.words (index_of g.counts w.at) no_word below) ∙ old) in
          let now : slice_get (with_word g l listed f w.at).words k ≡ Some (marked m) =
          ap (slice_get (with_word g l listed f w.at).words) (sym s)
          ∙ set_here f.words (index_of g.counts w.at) (marked (slice_index_or f.words (index_of g.counts w.at) no_word)) below
          ∙ ap (λ (x : MapWord). Some (marked x)) same in
          again (marked m) now ∙ ap (λ (x : MapWord). Some x) (twice (is_among g ws k) m)
          ∙ ap (λ (b : Bool). Some (marked_if (b || is_among g ws k) m)) (sym t)
        where
          one : (x : MapWord) → Some x ≡ Some m → x ≡ m
          one x e = cc
      by_test false t again =
          again m (set_elsewhere f.words (index_of g.counts w.at) k (marked (slice_index_or f.words (index_of g.counts w.at) no_word)) (λ q. differ (sym (eq-eqb (index_of g.counts w.at) k (sym q)) ∙ t)) ∙ e)
          ∙ ap (λ (b : Bool). Some (marked_if (b || is_among g ws k) m)) (sym t)
        where
          differ : true ≡ false → ⊥
          differ e = cc
