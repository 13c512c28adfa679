-- Edges the other way, as chains.
use Rattle.std.proofs.Common.{◌≡◌, ◌≢◌, ◌⊎◌, inl, inr, ◌<◌, ◌≤◌, ℕ, zero, suc, ◌+◌, ◌++◌, List, [], ◌∷◌, replicate, get_or, get_or-set_same, get_or-set_other, length, length-append, refl, sym, ap, ◌∙◌, subst, arith}
use Rattle.std.specs.Prelude.{map, flat_map}
use Rattle.std.proofs.Math.ListN.{set, get_or-eq_default}
use Rattle.std.proofs.Math.Seq.{get_or-append_seam}
use Rattle.std.proofs.lemmas.List.{length-set, length-replicate, get_or_append_left}
use Rattle.om_flow.specs.declared.parts.FlowBlock.{FlowBlock}
use Rattle.om_flow.specs.Edges.{IsAmong, Edge, AllBelow, EdgesInside}
use Rattle.om_flow.specs.Reverse.{IsReverse}
use Rattle.om_flow.specs.Seen.{pair_of, edges_of}
use Rattle.om_flow.specs.Chain.{ends_of, source, chain_in, chain, sources, AreChains, Added}
use Rattle.om_flow.proofs.Among.{among_read, below_or_not}
use Rattle.om_flow.proofs.Spreading.{same_or_not}
use Rattle.om_flow.proofs.Fields.{field_count, field_last}

-- ---- a chain

abbrev pub Down : List ℕ → Type 0
Down more = (e : ℕ) → get_or more e 0 ≤ e

-- more steps than the link find no more
enough : (more : List ℕ) → Down more → (k m link : ℕ) → link ≤ k → link ≤ m → chain_in more k link ≡ chain_in more m link
enough more d zero zero link h i = refl
enough more d zero (suc m) zero h i = refl
enough more d zero (suc m) (suc e) h i = absurd (omega (arith, h))
enough more d (suc k) zero zero h i = refl
enough more d (suc k) zero (suc e) h i = absurd (omega (arith, i))
enough more d (suc k) (suc m) zero h i = refl
enough more d (suc k) (suc m) (suc e) h i = let l = d e in ap (λ l. e ∷ l) (enough more d k m (get_or more e 0) (omega (arith, h, l)) (omega (arith, i, l)))

pub chain_next : (more : List ℕ) → Down more → (e : ℕ) → chain more (suc e) ≡ e ∷ chain more (get_or more e 0)
chain_next more d e = let l = d e in ap (λ l. e ∷ l) (enough more d e (get_or more e 0) (get_or more e 0) (omega (arith, l)) (omega arith))

-- an edge that is added changes no earlier chain
still_in : (more : List ℕ) (x : ℕ) → Down more → (k link : ℕ) → link ≤ length more → chain_in (more ++ x ∷ []) k link ≡ chain_in more k link
still_in more x d zero link h = refl
still_in more x d (suc k) zero h = refl
still_in more x d (suc k) (suc e) h =
    let l = d e in
    let s : get_or (more ++ x ∷ []) e 0 ≡ get_or more e 0 = get_or_append_left more (x ∷ []) 0 e (omega (arith, h)) in
    ap (λ l. e ∷ l) (ap (λ (y : ℕ). chain_in (more ++ x ∷ []) k y) s ∙ still_in more x d k (get_or more e 0) (omega (arith, l, h)))

still : (more : List ℕ) (x : ℕ) → Down more → (link : ℕ) → link ≤ length more → chain (more ++ x ∷ []) link ≡ chain more link
still more x d link h = still_in more x d link link h

chain_low : (more : List ℕ) → Down more → (k link e : ℕ) → IsAmong (chain_in more k link) e → e < link
chain_low more d zero link e h = absurd h
chain_low more d (suc k) zero e h = absurd h
chain_low more d (suc k) (suc f) e (inl s) = omega (arith, s)
chain_low more d (suc k) (suc f) e (inr h) = let l = d f in let r = chain_low more d k (get_or more f 0) e h in omega (arith, l, r)

-- ---- one edge more

module _ (ends : List ℕ) (n : ℕ) (heads more : List ℕ) (to : ℕ) (low : to < n) (old : AreChains ends n heads more) where
  abbrev heads2 : List ℕ
  heads2 = set heads to (length more + 1)

  abbrev more2 : List ℕ
  more2 = more ++ get_or heads to 0 ∷ []

  down2 : Down more2
  down2 e = by_place (below_or_not e (length more)) (same_or_not e (length more))
    where
      by_place : (e < length more) ⊎ (length more ≤ e) → (e ≡ length more) ⊎ (e ≢ length more) → get_or more2 e 0 ≤ e
      by_place (inl h) s = let x = get_or_append_left more (get_or heads to 0 ∷ []) 0 e h in let l = old.down e in omega (arith, x, l)
      by_place (inr h) (inl s) =
          let x : get_or more2 e 0 ≡ get_or heads to 0 = ap (λ (k : ℕ). get_or more2 k 0) s ∙ get_or-append_seam more (get_or heads to 0) [] 0 in
          let f = old.first to in
          omega (arith, x, f, s)
      by_place (inr h) (inr m) =
          let c = length-append more (get_or heads to 0 ∷ []) in
          let x : get_or more2 e 0 ≡ 0 = get_or-eq_default more2 0 (omega (arith, h, m, c)) in
          omega (arith, x)

  here : get_or heads2 to 0 ≡ length more + 1
  here = get_or-set_same heads to (length more + 1) 0 (omega (arith, low, old.size))

  other : (c : ℕ) → c ≢ to → get_or heads2 c 0 ≡ get_or heads c 0
  other c m = get_or-set_other heads to c (length more + 1) 0 m

  new_link : get_or more2 (length more) 0 ≡ get_or heads to 0
  new_link = get_or-append_seam more (get_or heads to 0) [] 0

  one_up : length more + 1 ≡ suc (length more)
  one_up = omega arith

  here_chain : chain more2 (get_or heads2 to 0) ≡ length more ∷ chain more (get_or heads to 0)
  here_chain =
      ap (chain more2) (here ∙ one_up) ∙ chain_next more2 down2 (length more)
      ∙ ap (λ (k : ℕ). length more ∷ chain more2 k) new_link
      ∙ ap (λ l. length more ∷ l) (still more (get_or heads to 0) old.down (get_or heads to 0) (old.first to))

  other_chain : (c : ℕ) → c ≢ to → chain more2 (get_or heads2 c 0) ≡ chain more (get_or heads c 0)
  other_chain c m = ap (chain more2) (other c m) ∙ still more (get_or heads to 0) old.down (get_or heads c 0) (old.first c)

  ends_left : (e : ℕ) → e < length ends → get_or (ends ++ to ∷ []) e 0 ≡ get_or ends e 0
  ends_left e h = get_or_append_left ends (to ∷ []) 0 e h

  ends_last : get_or (ends ++ to ∷ []) (length ends) 0 ≡ to
  ends_last = get_or-append_seam ends to [] 0

  count2 : length (ends ++ to ∷ []) ≡ length ends + 1
  count2 = length-append ends (to ∷ [])

  has2 : (c e : ℕ) → e < length ends + 1 → get_or (ends ++ to ∷ []) e 0 ≡ c → c < n → (c ≡ to) ⊎ (c ≢ to) → (e ≡ length ends) ⊎ (e ≢ length ends) → IsAmong (chain more2 (get_or heads2 c 0)) e
  has2 c e h s l (inl q) (inl m) =
      subst (λ (k : ℕ). IsAmong (chain more2 (get_or heads2 k 0)) e) (sym q) (subst (λ (x : List ℕ). IsAmong x e) (sym here_chain) (inl (old.long ∙ sym m)))
  has2 c e h s l (inl q) (inr m) =
      let i : e < length ends = omega (arith, h, m) in
      subst (λ (k : ℕ). IsAmong (chain more2 (get_or heads2 k 0)) e) (sym q)
      (subst (λ (x : List ℕ). IsAmong x e) (sym here_chain) (inr (old.has to e i (sym (ends_left e i) ∙ s ∙ q) low)))
  has2 c e h s l (inr q) (inl m) = absurd (q (sym (sym ends_last ∙ ap (λ (k : ℕ). get_or (ends ++ to ∷ []) k 0) (sym m) ∙ s)))
  has2 c e h s l (inr q) (inr m) =
      let i : e < length ends = omega (arith, h, m) in
      subst (λ (x : List ℕ). IsAmong x e) (sym (other_chain c q)) (old.has c e i (sym (ends_left e i) ∙ s) l)

  abbrev Only : ℕ → ℕ → Type 0
  Only c e = (e < length (ends ++ to ∷ [])) × (get_or (ends ++ to ∷ []) e 0 ≡ c)

  widened : (c e : ℕ) → (e < length ends) × (get_or ends e 0 ≡ c) → Only c e
  widened c e p = let i = p.0 in (omega (arith, i, count2), ends_left e p.0 ∙ p.1)

  only_here : (e : ℕ) → IsAmong (length more ∷ chain more (get_or heads to 0)) e → Only to e
  only_here e (inl s) =
      let k : length ends ≡ e = sym old.long ∙ s in
      (omega (arith, k, count2), subst (λ (x : ℕ). get_or (ends ++ to ∷ []) x 0 ≡ to) k ends_last)
  only_here e (inr h) = widened to e (old.only to e h)

  only2 : (c e : ℕ) → IsAmong (chain more2 (get_or heads2 c 0)) e → (c ≡ to) ⊎ (c ≢ to) → Only c e
  only2 c e h (inl q) =
      subst (λ (k : ℕ). Only k e) (sym q)
      (only_here e (subst (λ (x : List ℕ). IsAmong x e) here_chain (subst (λ (k : ℕ). IsAmong (chain more2 (get_or heads2 k 0)) e) q h)))
  only2 c e h (inr q) = widened c e (old.only c e (subst (λ (x : List ℕ). IsAmong x e) (other_chain c q) h))

  first2 : (c : ℕ) → (c ≡ to) ⊎ (c ≢ to) → get_or heads2 c 0 ≤ length more2
  first2 c (inl q) = let k = length-append more (get_or heads to 0 ∷ []) in let s = ap (λ (x : ℕ). get_or heads2 x 0) q in omega (arith, s, here, k)
  first2 c (inr q) = let k = length-append more (get_or heads to 0 ∷ []) in let s = other c q in let f = old.first c in omega (arith, s, f, k)

  pub chained_more : AreChains (ends ++ to ∷ []) n heads2 more2
  chained_more = record {
    size = length-set heads to (length more + 1) ∙ old.size;
    long = let a = length-append more (get_or heads to 0 ∷ []) in let b = old.long in omega (arith, a, b, count2);
    down = down2;
    first = λ c. first2 c (same_or_not c to);
    has = λ c e h s l. has2 c e (omega (arith, h, count2)) s l (same_or_not c to) (same_or_not e (length ends));
    only = λ c e h. only2 c e h (same_or_not c to);
  }

abbrev pub zeros : ℕ → List ℕ
zeros n = replicate n 0

all_zero : (n c : ℕ) → get_or (zeros n) c 0 ≡ zero
all_zero zero c = refl
all_zero (suc n) zero = refl
all_zero (suc n) (suc c) = all_zero n c

pub chained_first : (n : ℕ) → AreChains [] n (replicate n 0) []
chained_first n = record {
  size = length-replicate n 0;
  long = refl;
  down = λ e. omega arith;
  first = λ c. let z = all_zero n c in omega (arith, z);
  has = λ c e h s l. absurd (omega (arith, h));
  only = λ c e h. absurd (subst (λ (k : ℕ). IsAmong (chain [] k) e) (all_zero n c) h);
}

-- ---- the edges of blocks

index_of : (xs : List ℕ) (c : ℕ) → IsAmong xs c → (e : ℕ) × (e < length xs) × (get_or xs e 0 ≡ c)
index_of [] c h = absurd h
index_of (x ∷ xs) c (inl e) = (0, omega arith, e)
index_of (x ∷ xs) c (inr h) = let r = index_of xs c h in let i = r.1 in (suc r.0, omega (arith, i), r.2)

edge_number : (blocks : List FlowBlock) (lands : List ℕ) (b c : ℕ) → IsAmong (get_or (edges_of blocks lands) b []) c →
    (e : ℕ) × (e < length (ends_of blocks lands)) × (get_or (ends_of blocks lands) e 0 ≡ c) × (source (length blocks) e ≡ b)
edge_number [] lands zero c h = let r = index_of lands c h in (r.0, r.1, r.2, omega arith)
edge_number [] lands (suc b) c h = absurd h
edge_number (x ∷ blocks) lands zero c (inl e) = (0, omega arith, e, omega arith)
edge_number (x ∷ blocks) lands zero c (inr (inl e)) = (1, omega arith, e, omega arith)
edge_number (x ∷ blocks) lands zero c (inr (inr h)) = absurd h
edge_number (x ∷ blocks) lands (suc b) c h =
    let r = edge_number blocks lands b c h in
    let i = r.1 in
    let s = r.3 in
    (suc (suc r.0), omega (arith, i), r.2, omega (arith, s))

number_edge : (blocks : List FlowBlock) (lands : List ℕ) (e : ℕ) → e < length (ends_of blocks lands) → IsAmong (get_or (edges_of blocks lands) (source (length blocks) e) []) (get_or (ends_of blocks lands) e 0)
number_edge [] lands e h =
    subst (λ (k : ℕ). IsAmong (get_or (lands ∷ []) k []) (get_or lands e 0)) (sym z) (among_read lands e 0 h)
  where
    z : source 0 e ≡ 0
    z = omega arith
number_edge (x ∷ blocks) lands zero h = subst (λ (k : ℕ). IsAmong (get_or (edges_of (x ∷ blocks) lands) k []) x.first) (sym z) (inl refl)
  where
    z : source (suc (length blocks)) 0 ≡ 0
    z = omega arith
number_edge (x ∷ blocks) lands (suc zero) h = subst (λ (k : ℕ). IsAmong (get_or (edges_of (x ∷ blocks) lands) k []) x.second) (sym z) (inr (inl refl))
  where
    z : source (suc (length blocks)) 1 ≡ 0
    z = omega arith
number_edge (x ∷ blocks) lands (suc (suc e)) h =
    subst (λ (k : ℕ). IsAmong (get_or (edges_of (x ∷ blocks) lands) k []) (get_or (ends_of blocks lands) e 0)) (sym z) (number_edge blocks lands e (omega (arith, h)))
  where
    z : source (suc (length blocks)) (suc (suc e)) ≡ suc (source (length blocks) e)
    z = omega arith

-- ---- the chains are the edges the other way

abbrev pub before_of : ℕ → List ℕ → List ℕ → List (List ℕ)
before_of n heads more = map (λ h. sources n more h) heads

pub before_at : (n : ℕ) (heads more : List ℕ) (c : ℕ) → get_or (before_of n heads more) c [] ≡ sources n more (get_or heads c 0)
before_at n [] more c = refl
before_at n (h ∷ heads) more zero = refl
before_at n (h ∷ heads) more (suc c) = before_at n heads more c

pub before_count : (n : ℕ) (heads more : List ℕ) → length (before_of n heads more) ≡ length heads
before_count n [] more = refl
before_count n (h ∷ heads) more = let e = before_count n heads more in omega (arith, e)

among_map : (f : ℕ → ℕ) (xs : List ℕ) (x : ℕ) → IsAmong xs x → IsAmong (map f xs) (f x)
among_map f [] x h = absurd h
among_map f (y ∷ xs) x (inl e) = inl (ap f e)
among_map f (y ∷ xs) x (inr h) = inr (among_map f xs x h)

map_among : (f : ℕ → ℕ) (xs : List ℕ) (y : ℕ) → IsAmong (map f xs) y → (x : ℕ) × IsAmong xs x × (f x ≡ y)
map_among f [] y h = absurd h
map_among f (x ∷ xs) y (inl e) = (x, inl refl, e)
map_among f (x ∷ xs) y (inr h) = let r = map_among f xs y h in (r.0, inr r.1, r.2)

-- edges stand below the length
pub edge_from : (next : List (List ℕ)) (b c : ℕ) → Edge next b c → b < length next
edge_from next b c d = by_case (below_or_not b (length next))
  where
    by_case : (b < length next) ⊎ (length next ≤ b) → b < length next
    by_case (inl h) = h
    by_case (inr h) = absurd (subst (λ (l : List ℕ). IsAmong l c) (get_or-eq_default next [] h) d.among)

pub reverse_inside : (next ls : List (List ℕ)) → IsReverse next ls → EdgesInside ls
reverse_inside next ls g = record { inside = λ c. record { below = λ b m. omega (arith, g.size, edge_from next b c (g.only b c (record { among = m }))) } }

pub chains_reverse :
    (blocks : List FlowBlock) (lands heads more : List ℕ) → EdgesInside (edges_of blocks lands) → AreChains (ends_of blocks lands) (length blocks + 1) heads more →
    IsReverse (edges_of blocks lands) (before_of (length blocks) heads more)
chains_reverse blocks lands heads more inside are = record {
  size = before_count (length blocks) heads more ∙ are.size ∙ sym (field_count pair_of blocks lands);
  has = has;
  only = only;
}
  where
    has : (b c : ℕ) → Edge (edges_of blocks lands) b c → Edge (before_of (length blocks) heads more) c b
    has b c d =
        let r = edge_number blocks lands b c d.among in
        let count = field_count pair_of blocks lands in
        let low : c < length blocks + 1 = omega (arith, (inside.inside b).below c d.among, count) in
        record {
          among = subst (λ (l : List ℕ). IsAmong l b) (sym (before_at (length blocks) heads more c))
              (subst (λ (k : ℕ). IsAmong (sources (length blocks) more (get_or heads c 0)) k) r.3
              (among_map (source (length blocks)) (chain more (get_or heads c 0)) r.0 (are.has c r.0 r.1 r.2 low)));
        }

    only : (b c : ℕ) → Edge (before_of (length blocks) heads more) c b → Edge (edges_of blocks lands) b c
    only b c d =
        let r = map_among (source (length blocks)) (chain more (get_or heads c 0)) b (subst (λ (l : List ℕ). IsAmong l b) (before_at (length blocks) heads more c) d.among) in
        let p = are.only c r.0 r.1 in
        record {
          among = subst (λ (k : ℕ). IsAmong (get_or (edges_of blocks lands) k []) c) r.2
              (subst (λ (k : ℕ). IsAmong (get_or (edges_of blocks lands) (source (length blocks) r.0) []) k) p.1 (number_edge blocks lands r.0 p.0));
        }

-- ---- more edges

pub added_one : (n : ℕ) (heads more : List ℕ) (to : ℕ) → length heads ≡ n → to < n → Added (to ∷ []) n heads more (set heads to (length more + 1)) (more ++ get_or heads to 0 ∷ [])
added_one n heads more to e h = record {
  size = length-set heads to (length more + 1) ∙ e;
  adds = λ ends old. chained_more ends n heads more to h old;
}

no_end : (xs : List ℕ) → xs ++ [] ≡ xs
no_end [] = refl
no_end (x ∷ xs) = ap (λ l. x ∷ l) (no_end xs)

assoc : (xs ys zs : List ℕ) → (xs ++ ys) ++ zs ≡ xs ++ (ys ++ zs)
assoc [] ys zs = refl
assoc (x ∷ xs) ys zs = ap (λ l. x ∷ l) (assoc xs ys zs)

pub added_none : (n : ℕ) (heads more : List ℕ) → length heads ≡ n → Added [] n heads more heads more
added_none n heads more e = record { size = e; adds = λ ends old. subst (λ (l : List ℕ). AreChains l n heads more) (sym (no_end ends)) old }

pub added_then :
    (ts us : List ℕ) (n : ℕ) (ha ma hb mb hc mc : List ℕ) → Added ts n ha ma hb mb → Added us n hb mb hc mc → Added (ts ++ us) n ha ma hc mc
added_then ts us n ha ma hb mb hc mc a b = record {
  size = b.size;
  adds = λ ends old. subst (λ (l : List ℕ). AreChains l n hc mc) (assoc ends ts us) (b.adds (ends ++ ts) (a.adds ends old));
}

pub added_last :
    (ts : List ℕ) (t n k : ℕ) (ha ma hb mb hc mc : List ℕ) → length hb ≡ k → Added ts n ha ma hb mb → Added (t ∷ []) k hb mb hc mc → Added (ts ++ t ∷ []) n ha ma hc mc
added_last ts t n k ha ma hb mb hc mc e a b =
    added_then ts (t ∷ []) n ha ma hb mb hc mc a (subst (λ (i : ℕ). Added (t ∷ []) i hb mb hc mc) (sym e ∙ a.size) b)

flat_snoc : (xs : List FlowBlock) (x : FlowBlock) → flat_map pair_of (xs ++ x ∷ []) ≡ (flat_map pair_of xs ++ x.first ∷ []) ++ x.second ∷ []
flat_snoc [] x = refl
flat_snoc (y ∷ xs) x = ap (λ l. y.first ∷ y.second ∷ l) (flat_snoc xs x)

pub added_pair :
    (xs : List FlowBlock) (x : FlowBlock) (n k j : ℕ) (ha ma hb mb hc mc hd md : List ℕ) → length hb ≡ k → length hc ≡ j → Added (flat_map pair_of xs) n ha ma hb mb → Added (x.first ∷ []) k hb mb hc mc →
    Added (x.second ∷ []) j hc mc hd md → Added (flat_map pair_of (xs ++ x ∷ [])) n ha ma hd md
added_pair xs x n k j ha ma hb mb hc mc hd md e f a b c =
    subst (λ (l : List ℕ). Added l n ha ma hd md) (sym (flat_snoc xs x))
    (added_last (flat_map pair_of xs ++ x.first ∷ []) x.second n j ha ma hc mc hd md f (added_last (flat_map pair_of xs) x.first n k ha ma hb mb hc mc e a b) c)

pub zero_count : (n : ℕ) → length (zeros n) ≡ n
zero_count n = length-replicate n zero

pub pair_low : (blocks : List FlowBlock) (k n : ℕ) (d x : FlowBlock) → k < length blocks → get_or blocks k d ≡ x → ((c : ℕ) → IsAmong (flat_map pair_of blocks) c → c < n) → (x.first < n) × (x.second < n)
pair_low [] k n d x h e low = absurd (omega (arith, h))
pair_low (b ∷ blocks) zero n d x h e low = subst (λ (y : FlowBlock). (y.first < n) × (y.second < n)) e (low b.first (inl refl), low b.second (inr (inl refl)))
pair_low (b ∷ blocks) (suc k) n d x h e low = pair_low blocks k n d x (omega (arith, h)) e (λ c m. low c (inr (inr m)))

pair_edge : (blocks : List FlowBlock) (lands : List ℕ) (c : ℕ) → IsAmong (flat_map pair_of blocks) c → (b : ℕ) × IsAmong (get_or (edges_of blocks lands) b []) c
pair_edge [] lands c h = absurd h
pair_edge (x ∷ blocks) lands c (inl e) = (0, inl e)
pair_edge (x ∷ blocks) lands c (inr (inl e)) = (0, inr (inl e))
pair_edge (x ∷ blocks) lands c (inr (inr h)) = let r = pair_edge blocks lands c h in (suc r.0, r.1)

-- each edge goes to a block or the hub
pub pairs_low : (blocks : List FlowBlock) (lands : List ℕ) → EdgesInside (edges_of blocks lands) → AllBelow (length blocks + 1) (flat_map pair_of blocks)
pairs_low blocks lands inside = record {
  below = λ c m. let r = pair_edge blocks lands c m in let h = (inside.inside r.0).below c r.1 in let k = field_count pair_of blocks lands in omega (arith, h, k);
}

pub hub_low : (blocks : List FlowBlock) (lands : List ℕ) → EdgesInside (edges_of blocks lands) → AllBelow (length blocks + 1) lands
hub_low blocks lands inside = record {
  below = λ c m.
      let h = (inside.inside (length blocks)).below c (subst (λ (l : List ℕ). IsAmong l c) (sym (field_last pair_of blocks lands [])) m) in
      let k = field_count pair_of blocks lands in
      omega (arith, h, k);
}

pub all_added :
    (blocks : List FlowBlock) (lands : List ℕ) (n k : ℕ) (ha ma hb mb hc mc : List ℕ) → AreChains [] n ha ma → length hb ≡ k → Added (flat_map pair_of blocks) n ha ma hb mb → Added lands k hb mb hc mc →
    AreChains (ends_of blocks lands) n hc mc
all_added blocks lands n k ha ma hb mb hc mc old e a b =
    (added_then (flat_map pair_of blocks) lands n ha ma hb mb hc mc a (subst (λ (i : ℕ). Added lands i hb mb hc mc) (sym e ∙ a.size) b)).adds [] old

-- ---- along a chain

-- what a walk along a chain has done
pub record OnChain (more : List ℕ) (start link : ℕ) (done : List ℕ) : Type 0 where
  pub all : chain more start ≡ done ++ chain more link
  pub low : link ≤ length more

pub chain_begin : (more : List ℕ) (start : ℕ) → start ≤ length more → OnChain more start start []
chain_begin more start h = record { all = refl; low = h }

pub chain_step : (more : List ℕ) → Down more → (start e link : ℕ) (done : List ℕ) → link ≡ e + 1 → OnChain more start link done → OnChain more start (get_or more e 0) (done ++ e ∷ [])
chain_step more d start e link done s o =
    let k : link ≡ suc e = omega (arith, s) in
    let l = d e in
    let h = o.low in
    record {
      all = o.all ∙ ap (λ (x : ℕ). done ++ chain more x) k ∙ ap (λ l. done ++ l) (chain_next more d e) ∙ sym (assoc done (e ∷ []) (chain more (get_or more e 0)));
      low = omega (arith, l, h, s);
    }

pub chain_end : (more : List ℕ) (start link : ℕ) (done : List ℕ) → link ≡ 0 → OnChain more start link done → chain more start ≡ done
chain_end more start link done e o = o.all ∙ ap (λ (x : ℕ). done ++ chain more x) e ∙ no_end done

pub map_end : (f : ℕ → ℕ) (xs : List ℕ) (x : ℕ) → map f (xs ++ x ∷ []) ≡ map f xs ++ f x ∷ []
map_end f [] x = refl
map_end f (y ∷ xs) x = ap (λ l. f y ∷ l) (map_end f xs x)
