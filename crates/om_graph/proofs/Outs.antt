-- The registers computed for a block's end are those that may be read from there on.
use Rattle.std.proofs.Common.{◌≡◌, ◌⊎◌, ◌<◌, inl, inr, ℕ, Bool, true, false, ◌&&◌, ◌||◌, ◌==◌, List, [], ◌∷◌, refl, sym, ap, ◌∙◌, subst, arith}
use Rattle.std.specs.Prelude.{not}
use Rattle.std.specs.List.{list_any}
use Rattle.std.proofs.lemmas.Bool.{true≢false, eqb-true, eq-eqb}
use Rattle.om_isa.specs.declared.instr.BrOp.{BrOp}
use Rattle.om_isa.specs.declared.instr.BrOp.TheVariants.{Br as Straight, Bsr, If}
use Rattle.om_isa.specs.declared.instr.Instr.{Instr}
use Rattle.om_isa.specs.declared.instr.Instr.TheVariants.{Mem, Jump as Jumps, Branch, Alu, Cmov, Misc, Fnop, Halt, Callsys}
use Rattle.om_value.specs.declared.value.Place.{Place}
use Rattle.om_value.specs.declared.value.Target.{Target}
use Rattle.om_value.specs.declared.value.Target.TheVariants as target
use Rattle.om_value.specs.Same.{place_eq}
use Rattle.om_prog.specs.Act.{Act, Plain, Lit, GpHi, GpLo, To, AddrLda, AddrHi, UseLo, UseGp, Wrong, Word}
use Rattle.om_prog.specs.Step.{next_place}
use Rattle.om_prog.specs.Flow.{plain_jumps, act_jumps}
use Rattle.om_graph.specs.declared.op.Last.{Last}
use Rattle.om_graph.specs.declared.op.Last.TheVariants.{Fall, Off, Br, Cond, Call, CallBy, JumpBy}
use Rattle.om_graph.specs.View.{Block, GraphView, Has, InPlaceOrder, place_lt}
use Rattle.om_graph.specs.Held.{label_list}
use Rattle.om_graph.specs.Run.{block_words, words, rev_onto}
use Rattle.om_graph.specs.Kept.{names_target, loads, BranchLinks, PlainLinks, Links, FallsOn, Named, by_root, by_load, by_link, IsKeptLanding}
use Rattle.om_graph.specs.Landing.{names_place}
use Rattle.om_graph.specs.Checks.{Next, Enters, falls_in, jumps_in, AreOuts}
use Rattle.om_graph.specs.Outs.{loads_code, plain_links, branch_links, act_links, names_landing, is_named, plain_goes, act_goes, last_goes, falls_on, are_next, enters, outs_of}
use Rattle.om_graph.proofs.Labels.{same_place, self_eq, lt_cases, has_label, HasIn, has_in, in_all}
use Rattle.om_graph.proofs.Blocks.{next_has}

-- ---- tests of lists

pub any_has : {A : Type 0} (f : A → Bool) (xs : List A) (x : A) → Has xs x → f x ≡ true → list_any f xs ≡ true
any_has f [] x h e = absurd h
any_has f (y ∷ xs) x (inl i) e = let k : f y ≡ true = ap f i ∙ e in rw k refl
any_has f (y ∷ xs) x (inr h) e = let r = any_has f xs x h e in rw r (or_true (f y))
  where
    or_true : (b : Bool) → (b || true) ≡ true
    or_true true = refl
    or_true false = refl

pub has_any : {A : Type 0} (f : A → Bool) (xs : List A) → list_any f xs ≡ true → (x : A) × Has xs x × (f x ≡ true)
has_any f [] h = absurd (true≢false (sym h))
has_any {A = A} f (x ∷ xs) h = by_case (f x) refl h (has_any f xs)
  where
    by_case :
        (b : Bool) → f x ≡ b → (b || list_any f xs) ≡ true → (list_any f xs ≡ true → (y : A) × Has xs y × (f y ≡ true)) →
        (y : A) × Has (x ∷ xs) y × (f y ≡ true)
    by_case true e h i = (x, inl refl, e)
    by_case false e h i = let r = i h in (r.0, inr r.1, r.2)

both : (a b : Bool) → (a && b) ≡ true → (a ≡ true) × (b ≡ true)
both true b h = (refl, h)
both false b h = absurd (true≢false (sym h))

either : (a b : Bool) → (a || b) ≡ true → (a ≡ true) ⊎ (b ≡ true)
either true b h = inl refl
either false b h = inr h

first_true : (a b : Bool) → a ≡ true → (a || b) ≡ true
first_true true b e = refl
first_true false b e = absurd (true≢false (sym e))

second_true : (a b : Bool) → b ≡ true → (a || b) ≡ true
second_true true b e = refl
second_true false b e = e

same_eq : (p q : Place) → p ≡ q → place_eq p q ≡ true
same_eq p q e = subst (λ (x : Place). place_eq p x ≡ true) e (self_eq p)

-- ---- links

not_31 : (ra : ℕ) → not (ra == 31) ≡ true → ra ≡ 31 → ⊥
not_31 ra h e = let k = eq-eqb ra 31 e in true≢false (sym h ∙ rw k refl)

is_31 : (ra : ℕ) → (ra ≡ 31 → ⊥) → not (ra == 31) ≡ true
is_31 ra f = by_case (ra == 31) refl
  where
    by_case : (b : Bool) → (ra == 31) ≡ b → not b ≡ true
    by_case true e = absurd (f (eqb-true ra 31 e))
    by_case false e = refl

plain_of : (i : Instr) → plain_links i ≡ true → PlainLinks i
plain_of (Jumps kind ra rb hint) h = not_31 ra h
plain_of (Mem op ra rb d) h = true≢false (sym h)
plain_of (Branch op ra d) h = true≢false (sym h)
plain_of (Alu op ra rb rc) h = true≢false (sym h)
plain_of (Cmov k ra rb rc) h = true≢false (sym h)
plain_of (Misc op ra rb) h = true≢false (sym h)
plain_of Fnop h = true≢false (sym h)
plain_of Halt h = true≢false (sym h)
plain_of Callsys h = true≢false (sym h)

of_plain : (i : Instr) → PlainLinks i → plain_links i ≡ true
of_plain (Jumps kind ra rb hint) h = is_31 ra h
of_plain (Mem op ra rb d) h = absurd h
of_plain (Branch op ra d) h = absurd h
of_plain (Alu op ra rb rc) h = absurd h
of_plain (Cmov k ra rb rc) h = absurd h
of_plain (Misc op ra rb) h = absurd h
of_plain Fnop h = absurd h
of_plain Halt h = absurd h
of_plain Callsys h = absurd h

branch_of : (op : BrOp) (ra : ℕ) → branch_links op ra ≡ true → BranchLinks op ra
branch_of Straight ra h = not_31 ra h
branch_of Bsr ra h = not_31 ra h
branch_of (If k) ra h = true≢false (sym h)

of_branch : (op : BrOp) (ra : ℕ) → BranchLinks op ra → branch_links op ra ≡ true
of_branch Straight ra h = is_31 ra h
of_branch Bsr ra h = is_31 ra h
of_branch (If k) ra h = absurd h

pub links_of : (a : Act) → act_links a ≡ true → Links a
links_of (Plain i) h = plain_of i h
links_of (To op ra to) h = branch_of op ra h
links_of (Lit ra rb t) h = true≢false (sym h)
links_of (GpHi ra rb base) h = true≢false (sym h)
links_of (GpLo ra rb hi) h = true≢false (sym h)
links_of (AddrLda ra rb t) h = true≢false (sym h)
links_of (AddrHi ra rb t) h = true≢false (sym h)
links_of (UseLo i hi t) h = true≢false (sym h)
links_of (UseGp i gp t) h = true≢false (sym h)
links_of Wrong h = true≢false (sym h)

pub of_links : (a : Act) → Links a → act_links a ≡ true
of_links (Plain i) h = of_plain i h
of_links (To op ra to) h = of_branch op ra h
of_links (Lit ra rb t) h = absurd h
of_links (GpHi ra rb base) h = absurd h
of_links (GpLo ra rb hi) h = absurd h
of_links (AddrLda ra rb t) h = absurd h
of_links (AddrHi ra rb t) h = absurd h
of_links (UseLo i hi t) h = absurd h
of_links (UseGp i gp t) h = absurd h
of_links Wrong h = absurd h

-- ---- loads

target_of : (q : Place) (t : Target) → names_place q t ≡ true → names_target t q
target_of q (target.Code c) h = same_place c q h
target_of q (target.Num n) h = true≢false (sym h)
target_of q (target.Ptr r x) h = true≢false (sym h)

of_target : (q : Place) (t : Target) → names_target t q → names_place q t ≡ true
of_target q (target.Code c) h = same_eq c q h
of_target q (target.Num n) h = absurd h
of_target q (target.Ptr r x) h = absurd h

loads_of : (q : Place) (a : Act) → loads_code q a ≡ true → loads a q
loads_of q (Lit ra rb t) h = target_of q t h
loads_of q (Plain i) h = true≢false (sym h)
loads_of q (To op ra to) h = true≢false (sym h)
loads_of q (GpHi ra rb base) h = true≢false (sym h)
loads_of q (GpLo ra rb hi) h = true≢false (sym h)
loads_of q (AddrLda ra rb t) h = true≢false (sym h)
loads_of q (AddrHi ra rb t) h = true≢false (sym h)
loads_of q (UseLo i hi t) h = true≢false (sym h)
loads_of q (UseGp i gp t) h = true≢false (sym h)
loads_of q Wrong h = true≢false (sym h)

of_loads : (q : Place) (a : Act) → loads a q → loads_code q a ≡ true
of_loads q (Lit ra rb t) h = of_target q t h
of_loads q (Plain i) h = absurd h
of_loads q (To op ra to) h = absurd h
of_loads q (GpHi ra rb base) h = absurd h
of_loads q (GpLo ra rb hi) h = absurd h
of_loads q (AddrLda ra rb t) h = absurd h
of_loads q (AddrHi ra rb t) h = absurd h
of_loads q (UseLo i hi t) h = absurd h
of_loads q (UseGp i gp t) h = absurd h
of_loads q Wrong h = absurd h

-- ---- one block of a label

never : (p q : Place) → place_lt p q ≡ true → p ≡ q → ⊥
never p q l e = by_cases (lt_cases p q l)
  where
    by_cases : ((p.obj ≡ q.obj) × (p.off < q.off)) ⊎ (p.obj < q.obj) → ⊥
    by_cases (inl h) = let f = ap (λ (x : Place). x.off) e in let k = h.1 in omega (arith, f, k)
    by_cases (inr h) = let f = ap (λ (x : Place). x.obj) e in omega (arith, f, h)

one_block : (bs : List Block) (b c : Block) → InPlaceOrder (label_list bs) → Has bs b → Has bs c → b.label ≡ c.label → b ≡ c
one_block [] b c o h i e = absurd h
one_block (x ∷ bs) b c o (inl h) (inl i) e = sym h ∙ i
one_block (x ∷ bs) b c o (inl h) (inr i) e = absurd (never x.label c.label (o.0 c.label (has_label bs c i)) (ap (λ (y : Block). y.label) h ∙ e))
one_block (x ∷ bs) b c o (inr h) (inl i) e = absurd (never x.label b.label (o.0 b.label (has_label bs b h)) (ap (λ (y : Block). y.label) i ∙ sym e))
one_block (x ∷ bs) b c o (inr h) (inr i) e = one_block bs b c o.1 h i e

-- ---- the last word of a block

pub record Ending (named : Bool) (q : Place) (all : List Word) : Type 0 where
  pub word : Word
  pub before : List Word
  pub splits : rev_onto before (word ∷ []) ≡ all
  pub goes : act_goes named q word.act ≡ true

ending : (named : Bool) (q : Place) (bf ws : List Word) → last_goes named q ws ≡ true → Ending named q (rev_onto bf ws)
ending named q bf [] h = absurd (true≢false (sym h))
ending named q bf (w ∷ []) h = record { word = w; before = bf; splits = refl; goes = h }
ending named q bf (w ∷ x ∷ ws) h = ending named q (w ∷ bf) (x ∷ ws) h

last_split : (named : Bool) (q : Place) (bf : List Word) (w : Word) (ws : List Word) → last_goes named q (rev_onto bf (w ∷ ws)) ≡ last_goes named q (w ∷ ws)
last_split named q [] w ws = refl
last_split named q (x ∷ bf) w ws = last_split named q bf x (w ∷ ws)

falls_of : (last : Last) → falls_on last ≡ true → FallsOn last
falls_of Fall h = tt
falls_of (Cond at i to) h = tt
falls_of Off h = true≢false (sym h)
falls_of (Br at op ra to) h = true≢false (sym h)
falls_of (Call at op ra to) h = true≢false (sym h)
falls_of (CallBy at i) h = true≢false (sym h)
falls_of (JumpBy at i) h = true≢false (sym h)

of_falls : (last : Last) → FallsOn last → falls_on last ≡ true
of_falls Fall h = refl
of_falls (Cond at i to) h = refl
of_falls Off h = absurd h
of_falls (Br at op ra to) h = absurd h
of_falls (Call at op ra to) h = absurd h
of_falls (CallBy at i) h = absurd h
of_falls (JumpBy at i) h = absurd h

-- ---- from block to block

next_is : (bs : List Block) (b n : Block) → Next bs b n → are_next bs b.label n.label ≡ true
next_is [] b n h = absurd h
next_is (c ∷ []) b n h = absurd h
next_is (c ∷ d ∷ bs) b n (inl h) =
    let x = same_eq c.label b.label (ap (λ (y : Block). y.label) h.0) in
    let y = same_eq d.label n.label (ap (λ (y : Block). y.label) h.1) in
    rw (x, y) refl
next_is (c ∷ d ∷ bs) b n (inr h) = second_true _ _ (next_is (d ∷ bs) b n h)

module _ (g : GraphView) (order : InPlaceOrder (label_list g.blocks)) where
  is_next :
      (bs : List Block) (b n : Block) → ((x : Block) → Has bs x → Has g.blocks x) → Has g.blocks b → Has g.blocks n →
      are_next bs b.label n.label ≡ true → Next bs b n
  is_next [] b n sub hb hn h = true≢false (sym h)
  is_next (c ∷ []) b n sub hb hn h = true≢false (sym h)
  is_next (c ∷ d ∷ bs) b n sub hb hn h = by_case (either _ _ h) (λ e. is_next (d ∷ bs) b n (λ x i. sub x (inr i)) hb hn e)
    where
      by_case :
          ((place_eq c.label b.label && place_eq d.label n.label) ≡ true) ⊎ (are_next (d ∷ bs) b.label n.label ≡ true) →
          (are_next (d ∷ bs) b.label n.label ≡ true → Next (d ∷ bs) b n) → ((c ≡ b) × (d ≡ n)) ⊎ Next (d ∷ bs) b n
      by_case (inl e) k =
          let r = both _ _ e in
          inl (
            one_block g.blocks c b order (sub c (inl refl)) hb (same_place c.label b.label r.0),
            one_block g.blocks d n order (sub d (inr (inl refl))) hn (same_place d.label n.label r.1),
          )
      by_case (inr e) k = inr (k e)

  -- ---- places that are named

  named_of : (q : Place) → is_named g q ≡ true → Named g q
  named_of q h = by_case (either _ _ h)
    where
      by_word : (w : Word) → HasIn g.blocks w → (loads_code q w.act ≡ true) ⊎ ((act_links w.act && place_eq (next_place w.at) q) ≡ true) → Named g q
      by_word w i (inl e) = by_load i.block w i.among i.word (loads_of q w.act e)
      by_word w i (inr e) =
          let r = both _ _ e in
          by_link i.block w i.among i.word (links_of w.act r.0) (same_place (next_place w.at) q r.1)

      by_case : (list_any (λ r. place_eq r q) g.roots ≡ true) ⊎ (list_any (names_landing q) (words g) ≡ true) → Named g q
      by_case (inl e) =
          let r = has_any (λ r. place_eq r q) g.roots e in
          by_root (subst (λ (x : Place). Has g.roots x) (same_place r.0 q r.2) r.1)
      by_case (inr e) =
          let r = has_any (names_landing q) (words g) e in
          by_word r.0 (has_in g.blocks r.0 r.1) (either _ _ r.2)

  of_named : (q : Place) → Named g q → is_named g q ≡ true
  of_named q (by_root h) = first_true _ _ (any_has (λ r. place_eq r q) g.roots q h (self_eq q))
  of_named q (by_load b w hb hw l) =
      second_true _ _ (any_has (names_landing q) (words g) w (in_all g.blocks b w hb hw) (first_true _ _ (of_loads q w.act l)))
  of_named q (by_link b w hb hw l e) =
      let x = of_links w.act l in
      let y = same_eq (next_place w.at) q e in
      let l : (act_links w.act && place_eq (next_place w.at) q) ≡ true = rw (x, y) refl in
      second_true _ _ (any_has (names_landing q) (words g) w (in_all g.blocks b w hb hw) (second_true _ _ l))

  plain_goes_of : (n : Block) (i : Instr) → Has g.blocks n → plain_goes (is_named g n.label) i ≡ true → plain_jumps (IsKeptLanding g) i n.label
  plain_goes_of n (Jumps kind ra rb hint) hn h = record { named = named_of n.label h; kept = inl (n, hn, refl) }
  plain_goes_of n (Mem op ra rb d) hn h = true≢false (sym h)
  plain_goes_of n (Branch op ra d) hn h = true≢false (sym h)
  plain_goes_of n (Alu op ra rb rc) hn h = true≢false (sym h)
  plain_goes_of n (Cmov k ra rb rc) hn h = true≢false (sym h)
  plain_goes_of n (Misc op ra rb) hn h = true≢false (sym h)
  plain_goes_of n Fnop hn h = true≢false (sym h)
  plain_goes_of n Halt hn h = true≢false (sym h)
  plain_goes_of n Callsys hn h = true≢false (sym h)

  of_plain_goes : (q : Place) (i : Instr) → plain_jumps (IsKeptLanding g) i q → plain_goes (is_named g q) i ≡ true
  of_plain_goes q (Jumps kind ra rb hint) h = of_named q h.named
  of_plain_goes q (Mem op ra rb d) h = absurd h
  of_plain_goes q (Branch op ra d) h = absurd h
  of_plain_goes q (Alu op ra rb rc) h = absurd h
  of_plain_goes q (Cmov k ra rb rc) h = absurd h
  of_plain_goes q (Misc op ra rb) h = absurd h
  of_plain_goes q Fnop h = absurd h
  of_plain_goes q Halt h = absurd h
  of_plain_goes q Callsys h = absurd h

  goes_of : (n : Block) (a : Act) → Has g.blocks n → act_goes (is_named g n.label) n.label a ≡ true → act_jumps (IsKeptLanding g) a n.label
  goes_of n (Plain i) hn h = plain_goes_of n i hn h
  goes_of n (To op ra to) hn h = same_place to n.label h
  goes_of n (Lit ra rb t) hn h = true≢false (sym h)
  goes_of n (GpHi ra rb base) hn h = true≢false (sym h)
  goes_of n (GpLo ra rb hi) hn h = true≢false (sym h)
  goes_of n (AddrLda ra rb t) hn h = true≢false (sym h)
  goes_of n (AddrHi ra rb t) hn h = true≢false (sym h)
  goes_of n (UseLo i hi t) hn h = true≢false (sym h)
  goes_of n (UseGp i gp t) hn h = true≢false (sym h)
  goes_of n Wrong hn h = true≢false (sym h)

  of_goes : (q : Place) (a : Act) → act_jumps (IsKeptLanding g) a q → act_goes (is_named g q) q a ≡ true
  of_goes q (Plain i) h = of_plain_goes q i h
  of_goes q (To op ra to) h = same_eq to q h
  of_goes q (Lit ra rb t) h = absurd h
  of_goes q (GpHi ra rb base) h = absurd h
  of_goes q (GpLo ra rb hi) h = absurd h
  of_goes q (AddrLda ra rb t) h = absurd h
  of_goes q (AddrHi ra rb t) h = absurd h
  of_goes q (UseLo i hi t) h = absurd h
  of_goes q (UseGp i gp t) h = absurd h
  of_goes q Wrong h = absurd h

  -- ---- the test of entering

  pub of_enters : (b n : Block) → Enters g b n → enters g b n ≡ true
  of_enters b n (falls_in h o f) =
      let x = next_is g.blocks b n h in
      let y = eq-eqb n.label.obj b.label.obj o in
      let z = of_falls b.last f in
      let f : (are_next g.blocks b.label n.label && (n.label.obj == b.label.obj) && falls_on b.last) ≡ true = rw (x, y, z) refl in
      first_true _ _ f
  of_enters b n (jumps_in w hb hn (bf, s) j) =
      second_true _ _
      (ap (last_goes (is_named g n.label) n.label) (sym s) ∙ last_split (is_named g n.label) n.label bf w [] ∙ of_goes n.label w.act j)

  pub enters_of : (b n : Block) → Has g.blocks b → Has g.blocks n → enters g b n ≡ true → Enters g b n
  enters_of b n hb hn h = by_case (either _ _ h)
    where
      by_case :
          ((are_next g.blocks b.label n.label && (n.label.obj == b.label.obj) && falls_on b.last) ≡ true)
          ⊎ (last_goes (is_named g n.label) n.label (block_words b) ≡ true) → Enters g b n
      by_case (inl e) =
          let r = both _ _ e in
          let s = both _ _ r.0 in
          falls_in (is_next g.blocks b n (λ x i. i) hb hn s.0) (eqb-true n.label.obj b.label.obj s.1) (falls_of b.last r.1)
      by_case (inr e) =
          let r = ending (is_named g n.label) n.label [] (block_words b) e in
          jumps_in r.word hb hn (r.before, r.splits) (goes_of n r.word.act hn r.goes)

  entering : (b n : Block) → Enters g b n → Has g.blocks b × Has g.blocks n
  entering b n (falls_in h o f) = next_has g.blocks b n h
  entering b n (jumps_in w hb hn l j) = (hb, hn)

  -- ---- masks

  pub are_outs : (masks : Place → ℕ → Bool) → AreOuts masks (outs_of g masks) g
  are_outs masks = record { covers = covers; only = only }
    where
      covers : (b n : Block) (r : ℕ) → Enters g b n → r < 31 → masks n.label r ≡ true → outs_of g masks b.label r ≡ true
      covers b n r c l m =
          let h = entering b n c in
          let e = of_enters b n c in
          let x = any_has (λ n. enters g b n && masks n.label r) g.blocks n h.1 (rw (e, m) refl) in
          let y = self_eq b.label in
          any_has (λ c. place_eq c.label b.label && list_any (λ n. enters g c n && masks n.label r) g.blocks) g.blocks b h.0 (rw (y, x) refl)

      only : (b : Block) (r : ℕ) → Has g.blocks b → r < 31 → outs_of g masks b.label r ≡ true → (n : Block) × Enters g b n × (masks n.label r ≡ true)
      only b r hb l h =
          let c = has_any (λ c. place_eq c.label b.label && list_any (λ n. enters g c n && masks n.label r) g.blocks) g.blocks h in
          let e = both _ _ c.2 in
          let same = one_block g.blocks c.0 b order c.1 hb (same_place c.0.label b.label e.0) in
          let n = has_any (λ n. enters g c.0 n && masks n.label r) g.blocks e.1 in
          let f = both _ _ n.2 in
          (n.0, subst (λ (x : Block). Enters g x n.0) same (enters_of c.0 n.0 c.1 n.1 f.0), f.1)
