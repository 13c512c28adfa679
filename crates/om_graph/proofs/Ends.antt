-- A pass that drops blocks that no run comes to, and leaves the Lasts that go past pairs, keeps more than meaning: what
-- goes past a pair still does.
use Rattle.std.proofs.Common.{◌≡◌, inl, inr, ℕ, Bool, true, false, cond, ◌&&◌, List, [], ◌∷◌, ◌++◌, Option, Some, None, refl, sym, ap, ◌∙◌, subst, arith}
use Rattle.std.specs.Prelude.{map, filter, find, is_some}
use Rattle.om_value.specs.declared.value.Place.{Place}
use Rattle.om_value.specs.declared.value.Value.{Value}
use Rattle.om_isa.specs.declared.instr.BrOp.TheVariants.{Bsr}
use Rattle.om_prog.specs.Act as act
use Rattle.om_prog.specs.Act.{Word}
use Rattle.om_prog.specs.View.{ProgramView}
use Rattle.om_prog.specs.Step.{SymState}
use Rattle.om_prog.specs.Runs.{trace, IsClean}
use Rattle.om_graph.specs.declared.op.Last.{Last}
use Rattle.om_graph.specs.View.{Block, GraphView, Has}
use Rattle.om_graph.specs.Run.{block_words, all_words, words, next_word, last_words, graph_script}
use Rattle.om_graph.specs.Form.{After, Ordered, is_address}
use Rattle.om_graph.specs.LeftIn.{is_kept, ends_past, goes_past, holds_word, passes, StillPasses, Keeps}
use Rattle.om_graph.specs.Pairs.{last_place, PairsApart}
use Rattle.om_graph.specs.Pass.{Pass}
use Rattle.om_graph.specs.Rewritten.{onto_words, each_word, SameFrame, BlockEnd, block_end, SameEnds, EachWord, ended_by, Edited}
use Rattle.om_graph.proofs.Labels.{append_right, in_all, has_in}
use Rattle.om_graph.proofs.Compose.{has_kept, kept_word}
use Rattle.om_graph.proofs.Itself.{past_pair, past_call, free_passed, unique}
use Rattle.om_graph.proofs.Passing.{pass_keeps_meaning, pass_straight}

-- ---- words that a pass leaves

pub each_from : (f : Word → Option Word) (ws : List Word) (u : Word) → Has (each_word f ws) u → (w : Word) × Has ws w × (f w ≡ Some u)
each_from f [] u h = absurd h
each_from f (w ∷ ws) u h = by_word (f w) refl h (each_from f ws u)
  where
    by_word :
        (o : Option Word) → f w ≡ o → Has (onto_words o (each_word f ws)) u → (Has (each_word f ws) u → (x : Word) × Has ws x × (f x ≡ Some u)) →
        (x : Word) × Has (w ∷ ws) x × (f x ≡ Some u)
    by_word None e h i = let r = i h in (r.0, inr r.1, r.2)
    by_word (Some x) e (inl m) i = (w, inl refl, e ∙ ap (λ (y : Word). Some y) m)
    by_word (Some x) e (inr h) i = let r = i h in (r.0, inr r.1, r.2)

pub each_append : (f : Word → Option Word) (xs ys : List Word) → each_word f (xs ++ ys) ≡ each_word f xs ++ each_word f ys
each_append f [] ys = refl
each_append f (x ∷ xs) ys = by_word (f x) (each_append f xs ys)
  where
    by_word : (o : Option Word) → each_word f (xs ++ ys) ≡ each_word f xs ++ each_word f ys → onto_words o (each_word f (xs ++ ys)) ≡ onto_words o (each_word f xs) ++ each_word f ys
    by_word None i = i
    by_word (Some w) i = ap (λ (l : List Word). w ∷ l) i

pub each_has : (f : Word → Option Word) (ws : List Word) (w u : Word) → Has ws w → f w ≡ Some u → Has (each_word f ws) u
each_has f [] w u h e = h
each_has f (x ∷ ws) w u (inl i) e = let k : f x ≡ Some u = ap f i ∙ e in rw k (inl refl)
each_has f (x ∷ ws) w u (inr h) e = onto (f x) (each_has f ws w u h e)
  where
    onto : (o : Option Word) → Has (each_word f ws) u → Has (onto_words o (each_word f ws)) u
    onto None h = h
    onto (Some y) h = inr h

-- where each block's words are as the pass leaves them, the words are
pub each_words :
    (f : Word → Option Word) (olds news : List Block) → map block_words news ≡ map (λ b. each_word f (block_words b)) olds →
    all_words news ≡ each_word f (all_words olds)
each_words f [] [] e = refl
each_words f [] (n ∷ news) e = cc
each_words f (b ∷ olds) [] e = cc
each_words f (b ∷ olds) (n ∷ news) e =
    let x : block_words n ≡ each_word f (block_words b) = cc in
    let r = each_words f olds news cc in
    ap (λ (l : List Word). l ++ all_words news) x ∙ ap (λ (l : List Word). each_word f (block_words b) ++ l) r ∙ sym (each_append f (block_words b) (all_words olds))

-- ---- words in order

pub after_apart : (ws : List Word) (x u : Word) → After x ws → Has ws u → u.at ≡ x.at → ⊥
after_apart [] x u a i e = i
after_apart (y ∷ ws) x u a (inl j) e =
    let o = ap (λ (z : Word). z.at.obj) j ∙ ap (λ (q : Place). q.obj) e in
    let f = ap (λ (z : Word). z.at.off) j ∙ ap (λ (q : Place). q.off) e in
    let b = a.0 o in
    omega (arith, f, b)
after_apart (y ∷ ws) x u a (inr j) e = after_apart ws x u a.1 j e

pub ordered_right : (xs ys : List Word) → Ordered (xs ++ ys) → Ordered ys
ordered_right [] ys o = o
ordered_right (x ∷ xs) ys o = ordered_right xs ys o.1

pub words_apart : (xs ys : List Word) (w v : Word) → Ordered (xs ++ ys) → Has xs w → Has ys v → w.at ≡ v.at → ⊥
words_apart [] ys w v o h k e = h
words_apart (x ∷ xs) ys w v o (inl m) k e = after_apart (xs ++ ys) x v o.0 (append_right xs ys v k) (sym e ∙ ap (λ (y : Word). y.at) (sym m))
words_apart (x ∷ xs) ys w v o (inr m) k e = words_apart xs ys w v o.1 m k e

-- ---- blocks that stay

pub in_filter : {A : Type 0} (t : A → Bool) (xs : List A) (x : A) → Has (filter t xs) x → Has xs x × (t x ≡ true)
in_filter t [] x h = absurd h
in_filter {A = A} t (y ∷ xs) x h = by_test (t y) refl h (in_filter t xs x)
  where
    by_test : (b : Bool) → t y ≡ b → Has (cond b (y ∷ filter t xs) (filter t xs)) x → (Has (filter t xs) x → Has xs x × (t x ≡ true)) → Has (y ∷ xs) x × (t x ≡ true)
    by_test true e (inl m) i = (inl m, ap t (sym m) ∙ e)
    by_test true e (inr m) i = let r = i m in (inr r.0, r.1)
    by_test false e m i = let r = i m in (inr r.0, r.1)

pub to_filter : {A : Type 0} (t : A → Bool) (xs : List A) (x : A) → Has xs x → t x ≡ true → Has (filter t xs) x
to_filter t [] x h e = h
to_filter t (y ∷ xs) x (inl m) e = let k : t y ≡ true = ap t m ∙ e in rw k (inl m)
to_filter {A = A} t (y ∷ xs) x (inr m) e = onto (t y) (to_filter t xs x m e)
  where
    onto : (b : Bool) → Has (filter t xs) x → Has (cond b (y ∷ filter t xs) (filter t xs)) x
    onto true h = inr h
    onto false h = h

-- what has become of a block that stays
pub record Became (f : Word → Option Word) (last : Block → Last) (news : List Block) (b : Block) : Type 0 where
  pub block : Block
  pub among : Has news block
  pub ends : block_end block ≡ ended_by last b
  pub words : block_words block ≡ each_word f (block_words b)

-- what a new block was
pub record Was (f : Word → Option Word) (last : Block → Last) (olds : List Block) (n : Block) : Type 0 where
  pub block : Block
  pub among : Has olds block
  pub ends : block_end n ≡ ended_by last block
  pub words : block_words n ≡ each_word f (block_words block)

module _ (f : Word → Option Word) (last : Block → Last) where
  became :
      (olds news : List Block) (b : Block) → map block_end news ≡ map (ended_by last) olds →
      map block_words news ≡ map (λ b. each_word f (block_words b)) olds → Has olds b → Became f last news b
  became [] news b e w h = absurd h
  became (x ∷ olds) [] b e w h = cc
  became (x ∷ olds) (n ∷ news) b e w (inl i) =
      let ends : block_end n ≡ ended_by last x = cc in
      let words : block_words n ≡ each_word f (block_words x) = cc in
      record {
        block = n;
        among = inl refl;
        ends = ends ∙ ap (ended_by last) i;
        words = words ∙ ap (λ (y : Block). each_word f (block_words y)) i;
      }
  became (x ∷ olds) (n ∷ news) b e w (inr h) =
      let ends : map block_end news ≡ map (ended_by last) olds = cc in
      let words : map block_words news ≡ map (λ b. each_word f (block_words b)) olds = cc in
      let r = became olds news b ends words h in
      record { block = r.block; among = inr r.among; ends = r.ends; words = r.words }

  was :
      (olds news : List Block) (n : Block) → map block_end news ≡ map (ended_by last) olds →
      map block_words news ≡ map (λ b. each_word f (block_words b)) olds → Has news n → Was f last olds n
  was olds [] n e w h = absurd h
  was [] (m ∷ news) n e w h = cc
  was (x ∷ olds) (m ∷ news) n e w (inl i) =
      let ends : block_end m ≡ ended_by last x = cc in
      let words : block_words m ≡ each_word f (block_words x) = cc in
      record {
        block = x;
        among = inl refl;
        ends = ap block_end (sym i) ∙ ends;
        words = ap block_words (sym i) ∙ words;
      }
  was (x ∷ olds) (m ∷ news) n e w (inr h) =
      let ends : map block_end news ≡ map (ended_by last) olds = cc in
      let words : map block_words news ≡ map (λ b. each_word f (block_words b)) olds = cc in
      let r = was olds news n ends words h in
      record { block = r.block; among = inr r.among; ends = r.ends; words = r.words }

pub found_some : (f : Block → Bool) (bs : List Block) (b : Block) → Has bs b → f b ≡ true → is_some (find f bs) ≡ true
found_some f [] b h e = absurd h
found_some f (x ∷ bs) b (inl i) e = let k : f x ≡ true = ap f i ∙ e in rw k refl
found_some f (x ∷ bs) b (inr h) e = by_test (f x) (found_some f bs b h e)
  where
    by_test : (t : Bool) → is_some (find f bs) ≡ true → is_some (cond t (Some x) (find f bs)) ≡ true
    by_test true i = refl
    by_test false i = i

-- a word stands in one block
pub one_block : (bs : List Block) (b c : Block) (w : Word) → Ordered (all_words bs) → Has bs b → Has bs c → Has (block_words b) w → Has (block_words c) w → b ≡ c
one_block [] b c w o hb hc mb mc = absurd hb
one_block (x ∷ bs) b c w o (inl i) (inl j) mb mc = sym i ∙ j
one_block (x ∷ bs) b c w o (inl i) (inr j) mb mc =
    absurd (words_apart (block_words x) (all_words bs) w w o (subst (λ (y : Block). Has (block_words y) w) (sym i) mb) (in_all bs c w j mc) refl)
one_block (x ∷ bs) b c w o (inr i) (inl j) mb mc =
    absurd (words_apart (block_words x) (all_words bs) w w o (subst (λ (y : Block). Has (block_words y) w) (sym j) mc) (in_all bs b w i mb) refl)
one_block (x ∷ bs) b c w o (inr i) (inr j) mb mc = one_block bs b c w (ordered_right (block_words x) (all_words bs) o) i j mb mc

module _ (p : ProgramView) (old new : GraphView) (frame : SameFrame old new) (K : Place → Type 0) (live : List Place → Place → ℕ → Bool) (Meet : List Place → Place → Place → Type 0)
    (I : SymState → Type 0) (L : List Place → Place → (ℕ → Value) → Type 0) (pass : Pass (graph_script p old) (next_word (words new)) K new live Meet I L)
    (f : Word → Option Word) (keep : Block → Bool) (last : Block → Last) (edited : Edited f keep last old new) (ordered : Ordered (words old)) (apart : PairsApart new)
    -- no clean run comes to the Last of a block that goes
    (comes : (input : List ℕ) (n : ℕ) (c : Place) → IsClean (graph_script p old) input n → Has (trace (graph_script p old) input n) c → (b : Block) → Has old.blocks b → last_place b.last ≡ Some c → keep b ≡ true)
    -- a Last that goes past a pair still does
    (past : (b pair : Block) (c : Place) → Has old.blocks b → keep b ≡ true → Has old.blocks pair → pair.opening ≡ true → ends_past c pair.label b.last ≡ true → ends_past c pair.label (last b) ≡ true) where
  olds : List Block
  olds = filter keep old.blocks

  -- a word of the new graph, with what it was
  record From (u : Word) : Type 0 where
    word : Word
    block : Block
    among : Has old.blocks block
    kept : keep block ≡ true
    inside : Has (block_words block) word
    becomes : f word ≡ Some u

  from : (u : Word) → Has (words new) u → From u
  from u h =
      let n = has_in new.blocks u h in
      let w = was f last (filter keep old.blocks) new.blocks n.block edited.ends edited.words n.among in
      let k = in_filter keep old.blocks w.block w.among in
      let x = each_from f (block_words w.block) u (subst (λ (l : List Word). Has l u) w.words n.word) in
      record { word = x.0; block = w.block; among = k.0; kept = k.1; inside = x.1; becomes = x.2 }

  in_old : {u : Word} (x : From u) → Has (words old) x.word
  in_old x = in_all old.blocks x.block x.word x.among x.inside

  fewer : (q : Place) → is_kept new q ≡ true → is_kept old q ≡ true
  fewer q h =
      let u = kept_word (words new) q h in
      let x = from u.word u.among in
      subst (λ (y : Place). is_kept old y ≡ true) (sym (edited.places x.word u.word (in_old x) x.becomes) ∙ u.place) (has_kept (words old) x.word (in_old x))

  -- the word that goes past a pair ends a block of the new graph too
  call_kept : (c q : Place) → passes new c q ≡ true → is_kept new c ≡ true
  call_kept c q h =
      let y = past_pair new c q h in
      let k = past_call c y.pair.label y.call.last y.ends in
      let w : Word = record { at = c; act = act.To Bsr k.ra k.to } in
      let there : Has (block_words y.call) w = append_right _ (last_words y.call.last) w (subst (λ (l : List Word). Has l w) (sym k.word) (inl refl)) in
      has_kept (words new) w (in_all new.blocks y.call w y.has_call there)

  -- a word of a pair that is passed, where it is kept, still is
  still_passes : (c q : Place) → ((b : Block) → Has old.blocks b → last_place b.last ≡ Some c → keep b ≡ true) → passes old c q ≡ true → is_kept new q ≡ true → passes new c q ≡ true
  still_passes c q stays h k =
      let y = past_pair old c q h in
      let w = kept_word (block_words y.pair) q y.holds in
      let u = kept_word (words new) q k in
      let x = from u.word u.among in
      let same = unique (words old) w.word x.word ordered (in_all old.blocks y.pair w.word y.has_pair w.among) (in_old x) (sym (edited.places x.word u.word (in_old x) x.becomes) ∙ u.place ∙ sym w.place) in
      let block : x.block ≡ y.pair = one_block old.blocks x.block y.pair x.word ordered x.among y.has_pair x.inside (subst (λ (v : Word). Has (block_words y.pair) v) (sym same) w.among) in
      let n = became f last (filter keep old.blocks) new.blocks y.pair edited.ends edited.words (to_filter keep old.blocks y.pair y.has_pair (ap keep (sym block) ∙ x.kept)) in
      let goes_by = past_call c y.pair.label y.call.last y.ends in
      let stays_call = stays y.call y.has_call goes_by.at in
      let m = became f last (filter keep old.blocks) new.blocks y.call edited.ends edited.words (to_filter keep old.blocks y.call y.has_call stays_call) in
      let there : Has (block_words n.block) u.word =
      subst (λ (l : List Word). Has l u.word) (sym n.words) (each_has f (block_words y.pair) w.word u.word w.among (ap f (sym same) ∙ x.becomes)) in
      let holds : holds_word q n.block ≡ true =
      subst (λ (z : Place). holds_word z n.block ≡ true) u.place (has_kept (block_words n.block) u.word there) in
      let opens : n.block.opening ≡ true = ap (λ (e : BlockEnd). e.opening) n.ends ∙ y.opens in
      let label : n.block.label ≡ y.pair.label = ap (λ (e : BlockEnd). e.label) n.ends in
      let end : m.block.last ≡ last y.call = ap (λ (e : BlockEnd). e.last) m.ends in
      let calls : ends_past c y.pair.label m.block.last ≡ true = ap (ends_past c y.pair.label) end ∙ past y.call y.pair c y.has_call stays_call y.has_pair y.opens y.ends in
      let inside = y.inside in
      let goes : goes_past new c y.pair.label q ≡ true =
      rw inside (found_some (λ b. ends_past c y.pair.label b.last) new.blocks m.block m.among calls) in
      let by : goes_past new c n.block.label q ≡ true = subst (λ (l : Place). goes_past new c l q ≡ true) (sym label) goes in
      found_some (λ b. b.opening && holds_word q b && goes_past new c b.label q) new.blocks n.block n.among (rw (opens, holds, by) refl)

  still : (c q : Place) → ((b : Block) → Has old.blocks b → last_place b.last ≡ Some c → keep b ≡ true) → passes old c q ≡ true → is_kept new q ≡ true → StillPasses new c q
  still c q stays h k =
      let n = still_passes c q stays h k in
      record { kept = call_kept c q n; free = λ x. free_passed new apart c q x n; goes = n }

  addresses : (w u : Word) → Has (words old) w → Has (words new) u → u.at ≡ w.at → is_address u.act ≡ true → is_address w.act ≡ true
  addresses w u hw hu e h =
      let x = from u hu in
      let same = unique (words old) w x.word ordered hw (in_old x) (sym (edited.places x.word u (in_old x) x.becomes) ∙ e) in
      subst (λ (y : Word). is_address y.act ≡ true) same (edited.addresses x.word u (in_old x) x.becomes h)

  -- such a pass keeps all that passes in a row need
  pub ends_keep : Keeps p old new
  ends_keep = record {
    meaning = pass_keeps_meaning p old new frame K live Meet I L pass;
    fewer = fewer;
    calls = λ input n c q clean r e k. still c q (λ b h l. comes input n c clean r b h l) e k;
    straight = λ input n w clean going found out. pass_straight p old new frame K live Meet I L pass input n w going found out;
    address = addresses;
  }

-- ---- where all blocks stay, with their ends

pub all_stay : (bs : List Block) → filter (λ b. true) bs ≡ bs
all_stay [] = refl
all_stay (b ∷ bs) = ap (λ (l : List Block). b ∷ l) (all_stay bs)

pub same_edited : (f : Word → Option Word) (old new : GraphView) → SameEnds old new → EachWord f old new → Edited f (λ b. true) (λ b. b.last) old new
same_edited f old new s e = record {
  ends = s.same ∙ ap (map block_end) (sym (all_stay old.blocks));
  words = e.words ∙ ap (map (λ (b : Block). each_word f (block_words b))) (sym (all_stay old.blocks));
  places = λ w u h. e.places w u;
  addresses = λ w u h. e.addresses w u;
}
