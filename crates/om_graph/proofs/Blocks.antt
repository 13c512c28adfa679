-- From values at blocks to values at places.
use Rattle.std.proofs.Common.{◌≡◌, inl, inr, ◌≤◌, ℕ, ◌+◌, Bool, true, false, cond, List, [], ◌∷◌, ◌++◌, Option, Some, None, refl, sym, ap, ◌∙◌, subst, arith}
use Rattle.std.specs.Prelude.{flat_map}
use Rattle.std.specs.Option.{option_or}
use Rattle.om_value.specs.declared.value.Place.{Place}
use Rattle.om_prog.specs.Act.{Word}
use Rattle.om_prog.specs.Step.{next_place}
use Rattle.om_prog.specs.Flow.{act_falls, act_jumps, GoesTo}
use Rattle.om_graph.specs.declared.op.Last.{Last}
use Rattle.om_graph.specs.declared.op.Last.TheVariants.{Fall, Off, Br, Cond, Call, CallBy, JumpBy}
use Rattle.om_graph.specs.View.{Block, Has}
use Rattle.om_graph.specs.Run.{block_words, from_place, next_word, all_words, rev_onto}
use Rattle.om_graph.specs.Form.{After, Ordered}
use Rattle.om_graph.specs.Kept.{FallsOn}
use Rattle.om_graph.specs.Checks.{Next}
use Rattle.om_graph.proofs.Placed.{FromLabel, BeforeLabel, BeforeBlocks, NoBlocks, falls_to, Exits, Placed, JumpsLast, IsLabel}
use Rattle.om_graph.proofs.Fetching.{is_from, found_from, not_later, from_true}

-- a word is not from the place behind it
behind : (w : Word) → from_place (next_place w.at) w ≡ false
behind w = by_case _ refl
  where
    by_case : (b : Bool) → from_place (next_place w.at) w ≡ b → from_place (next_place w.at) w ≡ false
    by_case false e = e
    by_case true e = let v = (is_from (next_place w.at) w e).1 in absurd (omega (arith, v))

-- no word before a label is from it
pub before_not : (l : Place) (w : Word) → (w.at.obj ≡ l.obj → w.at.off + 4 ≤ l.off) → from_place l w ≡ false
before_not l w h = by_case _ refl
  where
    by_case : (b : Bool) → from_place l w ≡ b → from_place l w ≡ false
    by_case false e = e
    by_case true e =
        let v = is_from l w e in
        let v1 = v.1 in
        let i = h v.0 in
        absurd (omega (arith, v1, i))

-- the value at a place: before the next word of its block, with the words before and after
module _ (D : Type 0) (value : Block → List Word → List Word → D) (done : D) where
  abbrev pub value_in : Block → List Word → List Word → Place → Option D
  value_in b bf [] p = None
  value_in b bf (w ∷ ws) p = cond (from_place p w) (Some (value b bf (w ∷ ws))) (value_in b (w ∷ bf) ws p)

  abbrev pub or_else : Option D → D → D
  or_else None y = y
  or_else (Some x) y = x

  abbrev pub value_at : List Block → Place → D
  value_at [] p = done
  value_at (b ∷ bs) p = or_else (value_in b [] (block_words b) p) (value_at bs p)

  -- the value behind the words bf
  abbrev pub next_value : Block → List Word → List Word → Option D
  next_value b bf [] = None
  next_value b bf (w ∷ ws) = Some (value b bf (w ∷ ws))

  -- where a word is found
  pub record Found (b : Block) (bf ws : List Word) (p : Place) (w : Word) : Type 0 where
    pub before : List Word
    pub rest : List Word
    pub splits : rev_onto before (w ∷ rest) ≡ rev_onto bf ws
    pub here : value_in b bf ws p ≡ Some (value b before (w ∷ rest))
    pub next : value_in b bf ws (next_place w.at) ≡ next_value b (w ∷ before) rest

  next_found :
      (b : Block) (l : Place) (x : Word) (bf ws : List Word) → x.at.obj ≡ l.obj → After x ws → FromLabel l ws → value_in b bf ws (next_place x.at) ≡ next_value b bf ws
  next_found b l x bf [] o a f = refl
  next_found b l x bf (y ∷ ws) o a f =
      let same : y.at.obj ≡ x.at.obj = f.0.0 ∙ sym o in
      let t : from_place (next_place x.at) y ≡ true = from_true (next_place x.at) y same (a.0 same) in
      rw t refl

  found_here :
      (b : Block) (l : Place) (bf : List Word) (x : Word) (ws : List Word) (p : Place) (w : Word) → x ≡ w → from_place p x ≡ true →
      After x ws → FromLabel l (x ∷ ws) → Found b bf (x ∷ ws) p w
  found_here b l bf x ws p w e h a f =
      subst (λ (y : Word). Found b bf (x ∷ ws) p y) e (record {
        before = bf;
        rest = ws;
        splits = refl;
        here = rw h refl;
        next = rw (behind x) (next_found b l x (x ∷ bf) ws f.0.0 a f.1);
      })

  found_there :
      (b : Block) (bf : List Word) (x : Word) (ws : List Word) (p : Place) (w : Word) → from_place p x ≡ false → next_word ws p ≡ Some w →
      Found b (x ∷ bf) ws p w → Found b bf (x ∷ ws) p w
  found_there b bf x ws p w h e i =
      let u = found_from ws p w e in
      let n = not_later p w x u.0 u.1 h in
      record { before = i.before; rest = i.rest; splits = i.splits; here = rw h (i.here); next = rw n (i.next) }

  pub found :
      (b : Block) (l : Place) (bf ws : List Word) (p : Place) (w : Word) → next_word ws p ≡ Some w → Ordered ws → FromLabel l ws → Found b bf ws p w
  found b l bf [] p w e o f = cc
  found b l bf (x ∷ ws) p w e o f = by_case _ refl e (λ i. found b l (x ∷ bf) ws p w i o.1 f.1)
    where
      by_case :
          (t : Bool) → from_place p x ≡ t → cond t (Some x) (next_word ws p) ≡ Some w → (next_word ws p ≡ Some w → Found b (x ∷ bf) ws p w) → Found b bf (x ∷ ws) p w
      by_case true h e i = found_here b l bf x ws p w (cc) h o.0 f
      by_case false h e i = found_there b bf x ws p w h e (i e)

-- the label of the block that holds the next word from a place on
abbrev pub block_label : Block → List Word → List Word → Option Place
block_label b bf ws = Some b.label

abbrev pub block_at : List Block → Place → Option Place
block_at bs p = value_at (Option Place) block_label None bs p

-- that block is one of P
abbrev pub InBlocks : (Place → Type 0) → List Block → Place → Type 0
InBlocks P bs p = (l : Place) → block_at bs p ≡ Some l → P l

none_label : (b : Block) (bf ws : List Word) (p : Place) → next_word ws p ≡ None → value_in (Option Place) block_label None b bf ws p ≡ None
none_label b bf [] p e = refl
none_label b bf (x ∷ ws) p e = by_case _ refl e (none_label b (x ∷ bf) ws p)
  where
    by_case :
        (t : Bool) → from_place p x ≡ t → cond t (Some x) (next_word ws p) ≡ None → (next_word ws p ≡ None → value_in (Option Place) block_label None b (x ∷ bf) ws p ≡ None) →
        cond (from_place p x) (Some (Some b.label)) (value_in (Option Place) block_label None b (x ∷ bf) ws p) ≡ None
    by_case true h e i = cc
    by_case false h e i = rw h (i e)

-- ---- one block right before another

pub next_has : (bs : List Block) (b x : Block) → Next bs b x → Has bs b × Has bs x
next_has [] b x h = absurd h
next_has (c ∷ []) b x h = absurd h
next_has (c ∷ n ∷ bs) b x (inl h) = (inl h.0, inr (inl h.1))
next_has (c ∷ n ∷ bs) b x (inr h) = let i = next_has (n ∷ bs) b x h in (inr i.0, inr i.1)

-- ---- lists

pub find_append : (xs ys : List Word) (p : Place) (o : Option Word) → next_word xs p ≡ o → next_word (xs ++ ys) p ≡ option_or o (next_word ys p)
find_append [] ys p o e = ap (λ (x : Option Word). option_or x (next_word ys p)) e
find_append (x ∷ xs) ys p o e = by_case _ refl e (find_append xs ys p o)
  where
    by_case :
        (t : Bool) → from_place p x ≡ t → cond t (Some x) (next_word xs p) ≡ o → (next_word xs p ≡ o → next_word (xs ++ ys) p ≡ option_or o (next_word ys p)) →
        cond (from_place p x) (Some x) (next_word (xs ++ ys) p) ≡ option_or o (next_word ys p)
    by_case true h e i = rw h (ap (λ (y : Option Word). option_or y (next_word ys p)) e)
    by_case false h e i = rw h (i e)

before_split : (l : Place) (bf ws : List Word) → BeforeLabel l (rev_onto bf ws) → BeforeLabel l ws
before_split l [] ws h = h
before_split l (x ∷ bf) ws h = (before_split l bf (x ∷ ws) h).1

pub from_split : (l : Place) (bf ws : List Word) → FromLabel l (rev_onto bf ws) → FromLabel l ws
from_split l [] ws h = h
from_split l (x ∷ bf) ws h = (from_split l bf (x ∷ ws) h).1

module _ (D : Type 0) (value : Block → List Word → List Word → D) (done : D) where
  none_in : (b : Block) (bf ws : List Word) (p : Place) → next_word ws p ≡ None → value_in D value done b bf ws p ≡ None
  none_in b bf [] p e = refl
  none_in b bf (x ∷ ws) p e = by_case _ refl e (none_in b (x ∷ bf) ws p)
    where
      by_case :
          (t : Bool) → from_place p x ≡ t → cond t (Some x) (next_word ws p) ≡ None → (next_word ws p ≡ None → value_in D value done b (x ∷ bf) ws p ≡ None) →
          cond (from_place p x) (Some (value b bf (x ∷ ws))) (value_in D value done b (x ∷ bf) ws p) ≡ None
      by_case true h e i = cc
      by_case false h e i = rw h (i e)

  none_next : (w : Word) (ws : List Word) (p : Place) → w.at.obj ≡ p.obj → p.off ≤ w.at.off → next_word ws p ≡ None → next_word ws (next_place w.at) ≡ None
  none_next w [] p o l e = refl
  none_next w (x ∷ ws) p o l e = by_case _ refl e (none_next w ws p o l)
    where
      by_case :
          (t : Bool) → from_place p x ≡ t → cond t (Some x) (next_word ws p) ≡ None → (next_word ws p ≡ None → next_word ws (next_place w.at) ≡ None) →
          cond (from_place (next_place w.at) x) (Some x) (next_word ws (next_place w.at)) ≡ None
      by_case true h e i = cc
      by_case false h e i = rw (not_later p w x o l h) (i e)

  before_none : (l : Place) (ws : List Word) → BeforeLabel l ws → next_word ws l ≡ None
  before_none l [] h = refl
  before_none l (x ∷ ws) h = rw (before_not l x h.0) (before_none l ws h.1)

  other_none : (l q : Place) (ws : List Word) → FromLabel l ws → (l.obj ≡ q.obj → ⊥) → next_word ws q ≡ None
  other_none l q [] f n = refl
  other_none l q (x ∷ ws) f n =
      let t : from_place q x ≡ false = before_not q x (λ e. absurd (n (sym f.0.0 ∙ e))) in
      rw t (other_none l q ws f.1 n)

  none_done : (bs : List Block) (q : Place) → NoBlocks q.obj bs → Placed bs → value_at D value done bs q ≡ done
  none_done [] q n p = refl
  none_done (b ∷ bs) q n p =
      let e = none_in b [] (block_words b) q (other_none b.label q (block_words b) p.0 n.0) in
      rw e (none_done bs q n.1 p.4)

  module _ (enter : Block → D) (Flow : Word → D → D → Type 0) (Le : D → D → Type 0) where
    -- what is said of a block and the one into which control falls
    pub record EdgeTo (b n : Block) : Type 0 where
      pub ends : (bf : List Word) (w : Word) → rev_onto bf (w ∷ []) ≡ block_words b → Flow w (value b bf (w ∷ [])) (enter n)
      pub empty : block_words b ≡ [] → Le (enter b) (enter n)

    abbrev pub FallEdge : Last → Block → List Block → Type 0
    FallEdge Fall b (n ∷ bs) = n.label.obj ≡ b.label.obj → EdgeTo b n
    FallEdge (Cond at i to) b (n ∷ bs) = n.label.obj ≡ b.label.obj → EdgeTo b n
    FallEdge _ b bs = Unit {0}

    abbrev pub Starts : Block → Type 0
    Starts b = (w : Word) (ws : List Word) → block_words b ≡ w ∷ ws → Le (enter b) (value b [] (w ∷ ws))

    abbrev pub Edges : List Block → Type 0
    Edges [] = Unit {0}
    Edges (b ∷ bs) = Starts b × FallEdge b.last b bs × Edges bs

    fall_edge :
        (last : Last) (b n : Block) (bs : List Block) → last ≡ b.last →
        (n.label.obj ≡ b.label.obj → FallsOn b.last → EdgeTo b n) → FallEdge last b (n ∷ bs)
    fall_edge Fall b n bs e f = λ o. f o (subst (λ (l : Last). FallsOn l) e tt)
    fall_edge (Cond at i to) b n bs e f = λ o. f o (subst (λ (l : Last). FallsOn l) e tt)
    fall_edge Off b n bs e f = tt
    fall_edge (Br at op ra to) b n bs e f = tt
    fall_edge (Call at op ra to) b n bs e f = tt
    fall_edge (CallBy at i) b n bs e f = tt
    fall_edge (JumpBy at i) b n bs e f = tt

    last_edge : (last : Last) (b : Block) → FallEdge last b []
    last_edge Fall b = tt
    last_edge (Cond at i to) b = tt
    last_edge Off b = tt
    last_edge (Br at op ra to) b = tt
    last_edge (Call at op ra to) b = tt
    last_edge (CallBy at i) b = tt
    last_edge (JumpBy at i) b = tt

    -- the edges of some of all blocks, from what is said of each and of each one into which control falls
    pub edges_of :
        (all bs : List Block) → ((b : Block) → Has bs b → Has all b) → ((b n : Block) → Next bs b n → Next all b n) →
        ((b : Block) → Has all b → Starts b) →
        ((b n : Block) → Next all b n → n.label.obj ≡ b.label.obj → FallsOn b.last → EdgeTo b n) → Edges bs
    edges_of all [] has next s f = tt
    edges_of all (b ∷ []) has next s f = (s b (has b (inl refl)), last_edge b.last b, tt)
    edges_of all (b ∷ n ∷ bs) has next s f = (
      s b (has b (inl refl)),
      fall_edge b.last b n bs refl (f b n (next b n (inl (refl, refl)))),
      edges_of all (n ∷ bs) (λ x h. has x (inr h)) (λ c x h. next c x (inr h)) s f,
    )

    pub record Laws : Type 0 where
      pub inner : (b : Block) (bf : List Word) (w x : Word) (ws : List Word) → Flow w (value b bf (w ∷ x ∷ ws)) (value b (w ∷ bf) (x ∷ ws))
      pub le_done : (x : D) → Le x done
      pub flow_done : (w : Word) (x : D) → Flow w x done
      pub le_trans : (x y z : D) → Le x y → Le y z → Le x z
      pub flow_le : (w : Word) (x y z : D) → Flow w x y → Le y z → Flow w x z

    module _ (laws : Laws) where
      abbrev Reached : List Block → Place → Type 0
      Reached [] q = Unit {0}
      Reached (n ∷ bs) q = q.obj ≡ n.label.obj → q.off ≤ n.label.off → Le (enter n) (value_at D value done (n ∷ bs) q)

      ends_text : (b : Block) (bs : List Block) (q : Place) → NoBlocks b.label.obj bs → Placed bs → q.obj ≡ b.label.obj → value_at D value done bs q ≡ done
      ends_text b bs q n p o = none_done bs q (subst (λ (k : ℕ). NoBlocks k bs) (sym o) n) p

      -- past a block with no words
      past_empty :
          (last : Last) (b : Block) (bs : List Block) (q : Place) → Exits last b bs → FallEdge last b bs → Placed bs → block_words b ≡ [] →
          q.obj ≡ b.label.obj → q.off ≤ b.label.off → Reached bs q → Le (enter b) (value_at D value done bs q)
      past_empty Fall b (n ∷ bs) q (inl x) f p e o l r = let x1 = x.1 in laws.le_trans _ (enter n) _ ((f x.0).empty e) (r (o ∙ sym x.0) (omega (arith, x1, l)))
      past_empty Fall b (n ∷ bs) q (inr x) f p e o l r = subst (λ (y : D). Le (enter b) y) (sym (ends_text b (n ∷ bs) q x p o)) (laws.le_done (enter b))
      past_empty Fall b [] q x f p e o l r = laws.le_done (enter b)
      past_empty (Cond at i to) b (n ∷ bs) q (inl x) f p e o l r = let x1 = x.1 in laws.le_trans _ (enter n) _ ((f x.0).empty e) (r (o ∙ sym x.0) (omega (arith, x1, l)))
      past_empty (Cond at i to) b (n ∷ bs) q (inr x) f p e o l r = subst (λ (y : D). Le (enter b) y) (sym (ends_text b (n ∷ bs) q x p o)) (laws.le_done (enter b))
      past_empty (Cond at i to) b [] q x f p e o l r = laws.le_done (enter b)
      past_empty Off b bs q x f p e o l r = subst (λ (y : D). Le (enter b) y) (sym (ends_text b bs q x p o)) (laws.le_done (enter b))
      past_empty (Br at op ra to) b bs q x f p e o l r = absurd (x.1 e)
      past_empty (Call at op ra to) b bs q x f p e o l r = absurd (x.1 e)
      past_empty (CallBy at i) b bs q x f p e o l r = absurd (x.1 e)
      past_empty (JumpBy at i) b bs q x f p e o l r = absurd (x.1 e)

      reach_block : (b : Block) (bs : List Block) (q : Place) → Placed (b ∷ bs) → Edges (b ∷ bs) → Reached bs q → Reached (b ∷ bs) q
      reach_block b bs q p es r o l = by_words (block_words b) refl
        where
          by_words : (ws : List Word) → block_words b ≡ ws → Le (enter b) (or_else D value done (value_in D value done b [] ws q) (value_at D value done bs q))
          by_words (w ∷ ws) e =
              let f : FromLabel b.label (w ∷ ws) = subst (λ (l : List Word). FromLabel b.label l) e p.0 in
              let f0 = f.0 in
              let t : from_place q w ≡ true = from_true q w (f0.0 ∙ sym o) (omega (arith, f0, l)) in
              rw t (es.0 w ws e)
          by_words [] e = past_empty b.last b bs q p.3 es.1 p.4 e o l r

      -- from a block's label, or a place before it with no word between
      pub reach : (bs : List Block) (q : Place) → Placed bs → Edges bs → Reached bs q
      reach [] q p es = tt
      reach (b ∷ bs) q p es = reach_block b bs q p es (reach bs q p.4 es.2)

      -- control that comes to a block's label
      pub land : (bs : List Block) (b : Block) → Placed bs → Edges bs → Has bs b → Le (enter b) (value_at D value done bs b.label)
      land [] b p es h = absurd h
      land (x ∷ bs) b p es (inl e) = subst (λ (y : Block). Le (enter y) (value_at D value done (x ∷ bs) y.label)) e (reach (x ∷ bs) x.label p es refl (omega arith))
      land (x ∷ bs) b p es (inr h) =
          let n = none_in x [] (block_words x) b.label (before_none b.label (block_words x) (before_block (block_words x) bs b p.2 h)) in
          rw n (land bs b p.4 es.2 h)
        where
          before_block : (ws : List Word) (bs : List Block) (b : Block) → BeforeBlocks ws bs → Has bs b → BeforeLabel b.label ws
          before_block ws [] b f h = absurd h
          before_block ws (y ∷ bs) b f (inl e) = subst (λ (z : Block). BeforeLabel z.label ws) e f.0
          before_block ws (y ∷ bs) b f (inr h) = before_block ws bs b f.1 h

      -- behind the last word of a block
      past_last :
          (last : Last) (b : Block) (bs : List Block) (bf : List Word) (w : Word) → Exits last b bs → FallEdge last b bs → Placed (b ∷ bs) → Edges bs →
          rev_onto bf (w ∷ []) ≡ block_words b → act_falls w.act → Flow w (value b bf (w ∷ [])) (value_at D value done bs (next_place w.at))
      past_last last b bs bf w x f p es e falls = by_last last bs x f p es
        where
          at_label : (w.at.obj ≡ b.label.obj) × (b.label.off ≤ w.at.off)
          at_label = (from_split b.label bf (w ∷ []) (subst (λ (l : List Word). FromLabel b.label l) (sym e) p.0)).0

          ends : (bs : List Block) → NoBlocks b.label.obj bs → Placed bs → Flow w (value b bf (w ∷ [])) (value_at D value done bs (next_place w.at))
          ends bs x p = subst (λ (y : D). Flow w (value b bf (w ∷ [])) y) (sym (ends_text b bs (next_place w.at) x p at_label.0)) (laws.flow_done w (value b bf (w ∷ [])))

          goes : (n : Block) (bs : List Block) → falls_to b (n ∷ bs) → (n.label.obj ≡ b.label.obj → EdgeTo b n) → Placed (b ∷ n ∷ bs) → Edges (n ∷ bs) → Flow w (value b bf (w ∷ [])) (value_at D value done (n ∷ bs) (next_place w.at))
          goes n bs (inr x) f p es = ends (n ∷ bs) x p.4
          goes n bs (inl x) f p es =
              let o : w.at.obj ≡ n.label.obj = at_label.0 ∙ sym x.0 in
              let k = (before_split n.label bf (w ∷ []) (subst (λ (l : List Word). BeforeLabel n.label l) (sym e) p.2.0)).0 o in
              laws.flow_le w _ (enter n) _ ((f x.0).ends bf w e) (reach (n ∷ bs) (next_place w.at) p.4 es o k)

          by_last :
              (last : Last) (bs : List Block) → Exits last b bs → FallEdge last b bs → Placed (b ∷ bs) → Edges bs → Flow w (value b bf (w ∷ [])) (value_at D value done bs (next_place w.at))
          by_last Fall (n ∷ bs) x f p es = goes n bs x f p es
          by_last Fall [] x f p es = ends [] tt p.4
          by_last (Cond at i to) (n ∷ bs) x f p es = goes n bs x f p es
          by_last (Cond at i to) [] x f p es = ends [] tt p.4
          by_last Off bs x f p es = ends bs x p.4
          by_last (Br at op ra to) bs x f p es = absurd (x.0 bf w e falls)
          by_last (Call at op ra to) bs x f p es = absurd (x.0 bf w e falls)
          by_last (CallBy at i) bs x f p es = absurd (x.0 bf w e falls)
          by_last (JumpBy at i) bs x f p es = absurd (x.0 bf w e falls)

      -- behind a word of a block
      past_word :
          (b : Block) (bs : List Block) (p : Place) (w : Word) → Placed (b ∷ bs) → Edges (b ∷ bs) → Found D value done b [] (block_words b) p w → act_falls w.act →
          Flow w (value_at D value done (b ∷ bs) p) (value_at D value done (b ∷ bs) (next_place w.at))
      past_word b bs p w pl es f falls = by_rest f.rest f.splits f.here f.next
        where
          by_rest :
              (rest : List Word) → rev_onto f.before (w ∷ rest) ≡ block_words b → value_in D value done b [] (block_words b) p ≡ Some (value b f.before (w ∷ rest)) →
              value_in D value done b [] (block_words b) (next_place w.at) ≡ next_value D value done b (w ∷ f.before) rest →
              Flow w (value_at D value done (b ∷ bs) p) (value_at D value done (b ∷ bs) (next_place w.at))
          by_rest [] s h n = rw (h, n) (past_last b.last b bs f.before w pl.3 es.1 pl es.2 s falls)
          by_rest (x ∷ rest) s h n = rw (h, n) (laws.inner b f.before w x rest)

      -- control that goes on behind a word
      pub falls : (bs : List Block) (p : Place) (w : Word) → Placed bs → Edges bs → next_word (flat_map block_words bs) p ≡ Some w → act_falls w.act →
          Flow w (value_at D value done bs p) (value_at D value done bs (next_place w.at))
      falls [] p w pl es e f = cc
      falls (b ∷ bs) p w pl es e f =
          by_found (next_word (block_words b) p) refl (sym (find_append (block_words b) (flat_map block_words bs) p _ refl) ∙ e) (λ i. falls bs p w pl.4 es.2 i f)
        where
          by_found :
              (o : Option Word) → next_word (block_words b) p ≡ o → option_or o (next_word (flat_map block_words bs) p) ≡ Some w →
              (next_word (flat_map block_words bs) p ≡ Some w → Flow w (value_at D value done bs p) (value_at D value done bs (next_place w.at))) →
              Flow w (value_at D value done (b ∷ bs) p) (value_at D value done (b ∷ bs) (next_place w.at))
          by_found (Some x) h e i =
              let same : x ≡ w = cc in
              past_word b bs p w pl es (found D value done b b.label [] (block_words b) p w (h ∙ ap Some same) pl.1 pl.0) f
          by_found None h e i =
              let u = found_from (flat_map block_words bs) p w e in
              let here = none_in b [] (block_words b) p h in
              let there = none_in b [] (block_words b) (next_place w.at) (none_next w (block_words b) p u.0 u.1 h) in
              rw (here, there) (i e)

      -- where a word is found, with its block
      pub record FoundAt (bs : List Block) (p : Place) (w : Word) : Type 0 where
        pub block : Block
        pub among : Has bs block
        pub before : List Word
        pub rest : List Word
        pub splits : rev_onto before (w ∷ rest) ≡ block_words block
        pub here : value_at D value done bs p ≡ value block before (w ∷ rest)
        pub label : block_at bs p ≡ Some block.label

      pub found_at : (bs : List Block) (p : Place) (w : Word) → Placed bs → next_word (all_words bs) p ≡ Some w → FoundAt bs p w
      found_at [] p w pl e = cc
      found_at (b ∷ bs) p w pl e = by_found (next_word (block_words b) p) refl (sym (find_append (block_words b) (flat_map block_words bs) p _ refl) ∙ e) (found_at bs p w pl.4)
        where
          by_found :
              (o : Option Word) → next_word (block_words b) p ≡ o → option_or o (next_word (flat_map block_words bs) p) ≡ Some w →
              (next_word (all_words bs) p ≡ Some w → FoundAt bs p w) → FoundAt (b ∷ bs) p w
          by_found (Some x) h e i =
              let same : x ≡ w = cc in
              let f = found D value done b b.label [] (block_words b) p w (h ∙ ap Some same) pl.1 pl.0 in
              record { block = b; among = inl refl; before = f.before; rest = f.rest; splits = f.splits; here = rw (f.here) refl; label = let y = found (Option Place) block_label None b b.label [] (block_words b) p w (h ∙ ap Some same) pl.1 pl.0 in rw (y.here) refl }
          by_found None h e i =
              let f = i e in
              let here = none_in b [] (block_words b) p h in
              record { block = f.block; among = inr f.among; before = f.before; rest = f.rest; splits = f.splits; here = rw here (f.here); label = let y = none_label b [] (block_words b) p h in rw y (f.label) }

      pub none_at : (bs : List Block) (q : Place) → next_word (all_words bs) q ≡ None → value_at D value done bs q ≡ done
      none_at [] q e = refl
      none_at (b ∷ bs) q e = by_found (next_word (block_words b) q) refl (sym (find_append (block_words b) (flat_map block_words bs) q _ refl) ∙ e) (none_at bs q)
        where
          by_found :
              (o : Option Word) → next_word (block_words b) q ≡ o → option_or o (next_word (flat_map block_words bs) q) ≡ None →
              (next_word (all_words bs) q ≡ None → value_at D value done bs q ≡ done) → value_at D value done (b ∷ bs) q ≡ done
          by_found (Some x) h e i = cc
          by_found None h e i = let n = none_in b [] (block_words b) q h in rw n (i e)

      -- control that comes to a label, or to a text's end
      pub come : (bs : List Block) (w : Word) (x : D) (q : Place) → Placed bs → Edges bs → IsLabel bs q → ((n : Block) → Has bs n → n.label ≡ q → Flow w x (enter n)) → Flow w x (value_at D value done bs q)
      come bs w x q pl es (inl n) f =
          subst (λ (y : Place). Flow w x (value_at D value done bs y)) n.2 (laws.flow_le w x (enter n.0) _ (f n.0 n.1 n.2) (land bs n.0 pl es n.1))
      come bs w x q pl es (inr e) f = subst (λ (y : D). Flow w x y) (sym (none_at bs q e)) (laws.flow_done w x)

      -- the relation along every step of a walk
      module _ (K : Place → Type 0) (bs : List Block) (pl : Placed bs) (es : Edges bs) (last : JumpsLast K bs) (P : Place → Type 0)
          (jumps : (b : Block) (bf : List Word) (w : Word) (q : Place) → Has bs b → P b.label → rev_onto bf (w ∷ []) ≡ block_words b → act_jumps K w.act q → Flow w (value b bf (w ∷ [])) (value_at D value done bs q)) where
        jumped : (p : Place) (w : Word) (q : Place) → InBlocks P bs p → FoundAt bs p w → act_jumps K w.act q → Flow w (value_at D value done bs p) (value_at D value done bs q)
        jumped p w q k f j = by_rest f.rest f.splits f.here (last f.block f.before w f.rest q f.among f.splits j)
          where
            by_rest :
                (rest : List Word) → rev_onto f.before (w ∷ rest) ≡ block_words f.block → value_at D value done bs p ≡ value f.block f.before (w ∷ rest) → rest ≡ [] →
                Flow w (value_at D value done bs p) (value_at D value done bs q)
            by_rest [] s h e = rw h (jumps f.block f.before w q f.among (k f.block.label f.label) s j)
            by_rest (x ∷ rest) s h e = cc

        pub flows_at : (p : Place) (w : Word) (q : Place) → InBlocks P bs p → next_word (all_words bs) p ≡ Some w → GoesTo K w q → Flow w (value_at D value done bs p) (value_at D value done bs q)
        flows_at p w q k e (inl g) = subst (λ (x : Place). Flow w (value_at D value done bs p) (value_at D value done bs x)) g.1 (falls bs p w pl es e g.0)
        flows_at p w q k e (inr j) = jumped p w q k (found_at bs p w pl e) j
