-- The last word of a block, and the blocks behind others.
use Rattle.std.proofs.Common.{◌≡◌, ◌⊎◌, inl, inr, ℕ, Bool, true, false, cond, ◌==◌, List, [], ◌∷◌, ◌++◌, Option, Some, None, refl, sym, ap, ◌∙◌, subst}
use Rattle.std.specs.Prelude.{map, flat_map, find, option_map}
use Rattle.std.proofs.lemmas.Bool.{true≢false, eqb-true, eq-eqb}
use Rattle.om_isa.specs.declared.instr.Instr.{Instr}
use Rattle.om_isa.specs.declared.instr.Instr.TheVariants.{Mem, Jump, Branch, Alu, Cmov, Misc, Fnop, Halt, Callsys}
use Rattle.om_value.specs.declared.value.Place.{Place}
use Rattle.om_value.specs.declared.value.Target.{Target}
use Rattle.om_value.specs.declared.value.Target.TheVariants as target
use Rattle.om_value.specs.Same.{place_eq}
use Rattle.om_prog.specs.Act.{Act, Word, Lit}
use Rattle.om_prog.specs.Act as act
use Rattle.om_prog.specs.Flow.{act_jumps, plain_jumps}
use Rattle.om_prog.specs.Step.{next_place}
use Rattle.om_graph.specs.declared.op.Op.{Op}
use Rattle.om_graph.specs.declared.op.OpKind.{OpKind}
use Rattle.om_graph.specs.declared.op.OpKind.TheVariants as op
use Rattle.om_graph.specs.View.{Block, GraphView, Has, ops_of, has_label, labelled, block_id_after}
use Rattle.om_graph.specs.Held.{Apart, block_ids}
use Rattle.om_graph.specs.Form.{InForm, OpForm, ends_block}
use Rattle.om_graph.specs.Kept.{loads, names_target, Named, by_root, by_load, by_link}
use Rattle.om_graph.specs.Outs.{act_links}
use Rattle.om_graph.specs.Run.{op_act, op_word, use_of, target_at, last_words, block_words, words, rev_onto}
use Rattle.om_graph.specs.Checks.{Next, IsLastWord}
use Rattle.om_graph.proofs.Labels.{same_place}
use Rattle.om_graph.proofs.Outs.{links_of, of_links}
use Rattle.om_blocks.specs.Filling.{code_of, act_codes, word_lands}
use Rattle.om_blocks.proofs.Walking.{not_same}

-- ---- the last word

abbrev last_list : List Word → Option Word
last_list [] = None
last_list (w ∷ []) = Some w
last_list (w ∷ x ∷ ws) = last_list (x ∷ ws)

last_added : (ws : List Word) (x : Word) → last_list (ws ++ x ∷ []) ≡ Some x
last_added [] x = refl
last_added (w ∷ []) x = refl
last_added (w ∷ v ∷ ws) x = last_added (v ∷ ws) x

last_rev : (bf : List Word) (w : Word) (ws : List Word) → last_list (rev_onto bf (w ∷ ws)) ≡ last_list (w ∷ ws)
last_rev [] w ws = refl
last_rev (v ∷ bf) w ws = last_rev bf v (w ∷ ws)

pub is_last : (bf : List Word) (w : Word) (ws : List Word) (x : Word) → rev_onto bf (w ∷ []) ≡ ws ++ x ∷ [] → w ≡ x
is_last bf w ws x e =
    let k : Some w ≡ Some x = sym (last_rev bf w []) ∙ ap last_list e ∙ last_added ws x in
    cc

end_split : (done ys : List Word) (x : Word) → (bf : List Word) × (rev_onto bf (x ∷ []) ≡ rev_onto done (ys ++ x ∷ []))
end_split done [] x = (done, refl)
end_split done (y ∷ ys) x = end_split (y ∷ done) ys x

pub last_splits : (ws : List Word) (x : Word) → (bf : List Word) × (rev_onto bf (x ∷ []) ≡ ws ++ x ∷ [])
last_splits ws x = end_split [] ws x

has_onto : (bf ws : List Word) (w : Word) → Has ws w → Has (rev_onto bf ws) w
has_onto [] ws w h = h
has_onto (v ∷ bf) ws w h = has_onto bf (v ∷ ws) w (inr h)

-- ---- an op jumps nowhere

plain_stays : (K : Place → Type 0) (i : Instr) (q : Place) → ends_block i ≡ false → plain_jumps K i q → ⊥
plain_stays K (Jump k ra rb h) q e j = true≢false e
plain_stays K (Mem op ra rb d) q e j = j
plain_stays K (Branch op ra d) q e j = j
plain_stays K (Alu op ra rb rc) q e j = j
plain_stays K (Cmov k ra rb rc) q e j = j
plain_stays K (Misc op ra rb) q e j = j
plain_stays K Fnop q e j = j
plain_stays K Halt q e j = j
plain_stays K Callsys q e j = j

kind_stays : (K : Place → Type 0) (ops : List Op) (k : OpKind) (q : Place) → OpForm k → act_jumps K (op_act ops k) q → ⊥
kind_stays K ops (op.Plain i) q f j = plain_stays K i q f j
kind_stays K ops (op.Lit ra rb t) q f j = j
kind_stays K ops (op.AddrLda ra rb t) q f j = j
kind_stays K ops (op.AddrHi ra rb t least) q f j = j
kind_stays K ops (op.UseGp i gp t) q f j = j
kind_stays K ops (op.GpHi ra rb base) q f j = j
kind_stays K ops (op.GpLo ra rb hi) q f j = j
kind_stays K ops (op.UseLo i hi) q f j = by_target (target_at ops hi) j
  where
    by_target : (o : Option Target) → act_jumps K (use_of i hi o) q → ⊥
    by_target None j = j
    by_target (Some t) j = j

pub has_op : (f : Op → Word) (ops : List Op) (w : Word) → Has (map f ops) w → (o : Op) × Has ops o × (f o ≡ w)
has_op f [] w h = absurd h
has_op f (o ∷ ops) w (inl e) = (o, inl refl, e)
has_op f (o ∷ ops) w (inr h) = let k = has_op f ops w h in (k.0, inr k.1, k.2)

no_end : {A : Type 0} (xs : List A) → xs ++ [] ≡ xs
no_end [] = refl
no_end (x ∷ xs) = ap (λ l. x ∷ l) (no_end xs)

-- where a block has no word at its end, its last word jumps nowhere
pub op_stays :
    (K : Place → Type 0) (g : GraphView) → InForm g → (b : Block) (w : Word) (q : Place) → Has g.blocks b → last_words b.last ≡ [] → IsLastWord b w → act_jumps K w.act q → ⊥
op_stays K g form b w q hb none (bf, s) j =
    let e : rev_onto bf (w ∷ []) ≡ map (op_word (ops_of b)) (ops_of b) = s ∙ ap (λ (l : List Word). map (op_word (ops_of b)) (ops_of b) ++ l) none ∙ no_end (map (op_word (ops_of b)) (ops_of b)) in
    let h : Has (map (op_word (ops_of b)) (ops_of b)) w = subst (λ (l : List Word). Has l w) e (has_onto bf (w ∷ []) w (inl refl)) in
    let o = has_op (op_word (ops_of b)) (ops_of b) w h in
    kind_stays K (ops_of b) (o.0).kind q (form.ops b o.0 hb o.1) (subst (λ (v : Word). act_jumps K v.act q) (sym o.2) j)

-- ---- the block behind another

pub next_after : (bs : List Block) (b n : Block) → Apart (block_ids bs) → Next bs b n → block_id_after b.id bs ≡ Some n.id
next_after [] b n a h = absurd h
next_after (c ∷ []) b n a h = absurd h
next_after (c ∷ d ∷ bs) b n a (inl h) = let e = eq-eqb c.id b.id (ap (λ (x : Block). x.id) h.0) in rw e (ap (λ (x : Block). Some x.id) h.1)
next_after (c ∷ d ∷ bs) b n a (inr h) =
    let e = not_same c.id b.id (λ s. a.0 (subst (λ (i : ℕ). Has (block_ids (d ∷ bs)) i) (sym s) (first_in (d ∷ bs) b n h))) in
    rw e (next_after (d ∷ bs) b n a.1 h)
  where
    first_in : (bs : List Block) (b n : Block) → Next bs b n → Has (block_ids bs) b.id
    first_in [] b n h = absurd h
    first_in (c ∷ []) b n h = absurd h
    first_in (c ∷ d ∷ bs) b n (inl h) = inl (ap (λ (x : Block). x.id) h.0)
    first_in (c ∷ d ∷ bs) b n (inr h) = inr (first_in (d ∷ bs) b n h)

pub after_next : (bs : List Block) (id k : ℕ) → block_id_after id bs ≡ Some k → (b : Block) × (n : Block) × Next bs b n × (b.id ≡ id) × (n.id ≡ k)
after_next [] id k e = cc
after_next (c ∷ []) id k e = by_test (c.id == id) e
  where
    by_test : (t : Bool) → cond t None None ≡ Some k → (b : Block) × (n : Block) × Next (c ∷ []) b n × (b.id ≡ id) × (n.id ≡ k)
    by_test true e = cc
    by_test false e = cc
after_next (c ∷ d ∷ bs) id k e = by_test (c.id == id) refl e (after_next (d ∷ bs) id k)
  where
    by_test :
        (t : Bool) → (c.id == id) ≡ t → cond t (Some d.id) (block_id_after id (d ∷ bs)) ≡ Some k →
        (block_id_after id (d ∷ bs) ≡ Some k → (b : Block) × (n : Block) × Next (d ∷ bs) b n × (b.id ≡ id) × (n.id ≡ k)) →
        (b : Block) × (n : Block) × Next (c ∷ d ∷ bs) b n × (b.id ≡ id) × (n.id ≡ k)
    by_test true q e i = (c, d, inl (refl, refl), eqb-true c.id id q, cc)
    by_test false q e i = let r = i e in (r.0, r.1, inr r.2, r.3, r.4)

-- ---- what is named

pub has_both : {A : Type 0} (xs ys : List A) (x : A) → Has (xs ++ ys) x → Has xs x ⊎ Has ys x
has_both [] ys x h = inr h
has_both (y ∷ xs) ys x (inl e) = inl (inl e)
has_both (y ∷ xs) ys x (inr h) = elim (has_both xs ys x h) [ inl k ↦ inl (inr k) | inr k ↦ inr k ]

pub has_left : {A : Type 0} (xs ys : List A) (x : A) → Has xs x → Has (xs ++ ys) x
has_left [] ys x h = absurd h
has_left (y ∷ xs) ys x (inl e) = inl e
has_left (y ∷ xs) ys x (inr h) = inr (has_left xs ys x h)

pub has_right : {A : Type 0} (xs ys : List A) (x : A) → Has ys x → Has (xs ++ ys) x
has_right [] ys x h = h
has_right (y ∷ xs) ys x h = inr (has_right xs ys x h)

pub flat_has : {A B : Type 0} (f : A → List B) (xs : List A) (y : B) → Has (flat_map f xs) y → (x : A) × Has xs x × Has (f x) y
flat_has f [] y h = absurd h
flat_has f (x ∷ xs) y h = by_case (has_both (f x) (flat_map f xs) y h) (flat_has f xs y)
  where
    by_case : Has (f x) y ⊎ Has (flat_map f xs) y → (Has (flat_map f xs) y → (z : _) × Has xs z × Has (f z) y) → (z : _) × Has (x ∷ xs) z × Has (f z) y
    by_case (inl k) i = (x, inl refl, k)
    by_case (inr k) i = let r = i k in (r.0, inr r.1, r.2)

pub has_flat : {A B : Type 0} (f : A → List B) (xs : List A) (x : A) (y : B) → Has xs x → Has (f x) y → Has (flat_map f xs) y
has_flat f [] x y h k = absurd h
has_flat f (z ∷ xs) x y (inl e) k = has_left (f z) (flat_map f xs) y (subst (λ v. Has (f v) y) (sym e) k)
has_flat f (z ∷ xs) x y (inr h) k = has_right (f z) (flat_map f xs) y (has_flat f xs x y h k)

code_is : (t : Target) (q : Place) → Has (code_of t) q → names_target t q
code_is (target.Code c) q (inl e) = e
code_is (target.Code c) q (inr h) = absurd h
code_is (target.Num n) q h = absurd h
code_is (target.Ptr r x) q h = absurd h

is_code : (t : Target) (q : Place) → names_target t q → Has (code_of t) q
is_code (target.Code c) q e = inl e
is_code (target.Num n) q h = absurd h
is_code (target.Ptr r x) q h = absurd h

pub codes_load : (a : Act) (q : Place) → Has (act_codes a) q → loads a q
codes_load (act.Lit ra rb t) q h = code_is t q h
codes_load (act.Plain i) q h = absurd h
codes_load (act.GpHi ra rb base) q h = absurd h
codes_load (act.GpLo ra rb hi) q h = absurd h
codes_load (act.To op ra to) q h = absurd h
codes_load (act.AddrLda ra rb t) q h = absurd h
codes_load (act.AddrHi ra rb t) q h = absurd h
codes_load (act.UseLo i hi t) q h = absurd h
codes_load (act.UseGp i gp t) q h = absurd h
codes_load act.Wrong q h = absurd h

pub load_codes : (a : Act) (q : Place) → loads a q → Has (act_codes a) q
load_codes (act.Lit ra rb t) q h = is_code t q h
load_codes (act.Plain i) q h = absurd h
load_codes (act.GpHi ra rb base) q h = absurd h
load_codes (act.GpLo ra rb hi) q h = absurd h
load_codes (act.To op ra to) q h = absurd h
load_codes (act.AddrLda ra rb t) q h = absurd h
load_codes (act.AddrHi ra rb t) q h = absurd h
load_codes (act.UseLo i hi t) q h = absurd h
load_codes (act.UseGp i gp t) q h = absurd h
load_codes act.Wrong q h = absurd h

abbrev pub link_list : Bool → Place → List Place
link_list t q = cond t (q ∷ []) []

pub link_has : (t : Bool) (p q : Place) → Has (link_list t p) q → (t ≡ true) × (p ≡ q)
link_has true p q (inl e) = (refl, e)
link_has true p q (inr h) = absurd h
link_has false p q h = absurd h

-- the places that are listed are those that are named
pub listed_named : (g : GraphView) (q : Place) → Has (g.roots ++ flat_map word_lands (words g)) q → Named g q
listed_named g q h = by_case (has_both g.roots (flat_map word_lands (words g)) q h)
  where
    by_word : (b : Block) (w : Word) → Has g.blocks b → Has (block_words b) w → Has (act_codes w.act) q ⊎ Has (link_list (act_links w.act) (next_place w.at)) q → Named g q
    by_word b w hb hw (inl k) = by_load b w hb hw (codes_load w.act q k)
    by_word b w hb hw (inr k) = let r = link_has (act_links w.act) (next_place w.at) q k in by_link b w hb hw (links_of w.act r.0) r.1

    by_case : Has g.roots q ⊎ Has (flat_map word_lands (words g)) q → Named g q
    by_case (inl k) = by_root k
    by_case (inr k) =
        let r = flat_has word_lands (words g) q k in
        let s = flat_has block_words g.blocks r.0 r.1 in
        by_word s.0 r.0 s.1 s.2 (has_both (act_codes (r.0).act) (link_list (act_links (r.0).act) (next_place (r.0).at)) q r.2)

pub named_listed : (g : GraphView) (q : Place) → Named g q → Has (g.roots ++ flat_map word_lands (words g)) q
named_listed g q (by_root h) = has_left g.roots (flat_map word_lands (words g)) q h
named_listed g q (by_load b w hb hw l) =
    has_right g.roots (flat_map word_lands (words g)) q
    (has_flat word_lands (words g) w q (has_flat block_words g.blocks b w hb hw)
    (has_left (act_codes w.act) (link_list (act_links w.act) (next_place w.at)) q (load_codes w.act q l)))
named_listed g q (by_link b w hb hw l e) =
    has_right g.roots (flat_map word_lands (words g)) q
    (has_flat word_lands (words g) w q (has_flat block_words g.blocks b w hb hw)
    (has_right (act_codes w.act) (link_list (act_links w.act) (next_place w.at)) q (subst (λ (t : Bool). Has (link_list t (next_place w.at)) q) (sym (of_links w.act l)) (inl e))))

-- ---- labels

pub data AtLabel (g : GraphView) (q : Place) (o : Option ℕ) : Type 0 where
  at_none : o ≡ None → AtLabel g q o
  at_block : (n : Block) → Has g.blocks n → n.label ≡ q → o ≡ Some n.id → AtLabel g q o

pub at_label : (g : GraphView) (q : Place) → AtLabel g q (labelled g q)
at_label g q = by_found (find (has_label q) g.blocks) refl
  where
    found : (bs : List Block) (x : Block) → find (has_label q) bs ≡ Some x → Has bs x × (x.label ≡ q)
    found [] x e = cc
    found (b ∷ bs) x e = by_test (place_eq b.label q) refl e (found bs x)
      where
        by_test : (t : Bool) → place_eq b.label q ≡ t → cond t (Some b) (find (has_label q) bs) ≡ Some x → (find (has_label q) bs ≡ Some x → Has bs x × (x.label ≡ q)) → Has (b ∷ bs) x × (x.label ≡ q)
        by_test true p e i = let s : b ≡ x = cc in (inl s, ap (λ (y : Block). y.label) (sym s) ∙ same_place b.label q p)
        by_test false p e i = let r = i e in (inr r.0, r.1)

    by_found : (o : Option Block) → find (has_label q) g.blocks ≡ o → AtLabel g q (option_map (λ (b : Block). b.id) o)
    by_found None e = at_none refl
    by_found (Some x) e = let r = found g.blocks x e in at_block x r.0 r.1 refl
