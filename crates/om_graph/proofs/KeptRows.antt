-- Worked rows of facts, masks, kept sets and lifted graphs.
use Rattle.std.proofs.Common.{◌≡◌, ◌⊎◌, inl, inr, ℕ, pos, Bool, true, false, ◌||◌, ◌&&◌, ◌==◌, length, List, [], ◌∷◌, refl, sym, ap, ◌∙◌, subst, arith}
use Rattle.std.specs.Prelude.{not}
use Rattle.std.specs.List.{list_all}
use Rattle.std.proofs.lemmas.Bool.{true≢false, eq-eqb}
use Rattle.om_isa.specs.declared.instr.MemOp.TheVariants.{Lda}
use Rattle.om_isa.specs.declared.instr.BrOp.TheVariants.{Br as Straight}
use Rattle.om_isa.specs.declared.instr.Instr.TheVariants.{Mem, Callsys}
use Rattle.om_value.specs.declared.value.Place.{Place}
use Rattle.om_value.specs.Same.{place_eq}
use Rattle.om_prog.specs.Act as act
use Rattle.om_prog.specs.Act.{Word}
use Rattle.om_prog.specs.Facts.{Fact, Any, Table, Unknown}
use Rattle.om_graph.specs.declared.op.OpKind.TheVariants.{Plain}
use Rattle.om_graph.specs.declared.op.Last.TheVariants.{Fall, Off, Br}
use Rattle.om_graph.specs.View.{Block, Shape, GraphView, Has, InPlaceOrder, place_lt, deleted, dropped}
use Rattle.om_graph.specs.Held.{IsGraph, Apart, label_list, block_ids, op_ids}
use Rattle.om_graph.specs.Run.{block_words, graph_script}
use Rattle.om_graph.specs.Kept.{FallsOn, Links, names, IsInKeptSet, root, fall, named, behind, KeptInBlocks, IsBlock, IsEnd}
use Rattle.om_graph.specs.Checks.{told_at, Enters, falls_in, jumps_in, ReachesBlock, at_entry, enters_next}
use Rattle.om_graph.specs.Outs.{outs_of}
use Rattle.om_graph.specs.Lifted.{IsLifted}
use Rattle.om_graph.specs.Rows.{at, empty, calling}
use Rattle.om_graph.proofs.TermRows.{half_entered, two_halves}

both : (a b : Bool) → (a && b) ≡ true → (a ≡ true) × (b ≡ true)
both true b h = (refl, h)
both false b h = absurd (true≢false (sym h))

-- ---- facts

-- where no walk comes each table is a fact, but behind a half that writes r29 and is no low one
abbrev pub nowhere : Place → Fact
nowhere q = Any

pub row_told_start : told_at (graph_script empty calling) nowhere calling.blocks (at 16) ≡ Any
row_told_start = refl

pub row_told_high : told_at (graph_script empty calling) nowhere calling.blocks (at 20) ≡ Unknown
row_told_high = refl

pub row_told_low : told_at (graph_script empty calling) nowhere calling.blocks (at 24) ≡ Any
row_told_low = refl

-- the place of a word that is gone has the fact of the next one
pub row_told_gone : told_at (graph_script empty calling) nowhere (deleted calling 3).blocks (at 16) ≡ Any
row_told_gone = refl

-- a text's end has none
pub row_told_end : told_at (graph_script empty calling) nowhere calling.blocks (at 28) ≡ Unknown
row_told_end = refl

-- ---- masks

-- r26 is read behind the pair, and r30 where the call comes back
abbrev pub some_masks : Place → ℕ → Bool
some_masks q r = (place_eq q (at 16) && (r == 27)) || (place_eq q (at 4) && (r == 30)) || (place_eq q (at 24) && (r == 26))

-- from the call to the procedure, and from the pair into what follows it
pub row_outs_call : outs_of calling some_masks (at 0) 27 ≡ true
row_outs_call = refl

pub row_outs_not_call : outs_of calling some_masks (at 0) 30 ≡ false
row_outs_not_call = refl

pub row_outs_fall : outs_of calling some_masks (at 16) 26 ≡ true
row_outs_fall = refl

-- from the jump at the end to where the call comes back
pub row_outs_return : outs_of calling some_masks (at 24) 30 ≡ true
row_outs_return = refl

-- ---- kept sets

-- br r31,8; a word that nothing leads to; an exit
abbrev pub first_block : Block
first_block = record { id = 0; label = at 0; opening = false; ops = []; last = Br (at 0) Straight 31 (at 8) }

abbrev pub middle_block : Block
middle_block = record {
  id = 1;
  label = at 4;
  opening = false;
  ops = record { id = 0; op = record { place = at 4; kind = Plain (Mem Lda 1 31 (pos 1)) } } ∷ [];
  last = Fall;
}

abbrev pub last_block : Block
last_block = record {
  id = 2;
  label = at 8;
  opening = false;
  ops =
      record { id = 1; op = record { place = at 8; kind = Plain (Mem Lda 16 31 (pos 0)) } }
      ∷ record { id = 2; op = record { place = at 12; kind = Plain (Mem Lda 0 31 (pos 1)) } }
      ∷ record { id = 3; op = record { place = at 16; kind = Plain Callsys } } ∷ [];
  last = Off;
}

abbrev pub skipping : GraphView
skipping = record {
  counts = 5 ∷ [];
  roots = at 0 ∷ [];
  tables = 0 ∷ [];
  labels = at 0 ∷ at 4 ∷ at 8 ∷ [];
  blocks = first_block ∷ middle_block ∷ last_block ∷ [];
  touched = [];
}

abbrev pub skipped : GraphView
skipped = dropped skipping 1

-- the kept set has the first block and the last
pub kept_two : (q : Place) → IsInKeptSet skipped q → (at 0 ≡ q) ⊎ (at 8 ≡ q)
kept_two q (root x (inl e)) = inl e
kept_two q (root x (inr h)) = absurd h
kept_two q (fall b x (inl e) k f l) = absurd (subst (λ (x : Block). FallsOn x.last) (sym e) f)
kept_two q (fall b x (inr (inl e)) k f l) = absurd (subst (λ (x : Block). FallsOn x.last) (sym e) f)
kept_two q (fall b x (inr (inr h)) k f l) = absurd h
kept_two q (named b w x h k m n) = by_block h m
  where
    by_first : Has (block_words first_block) w → (at 0 ≡ q) ⊎ (at 8 ≡ q)
    by_first (inl e) = inr (subst (λ (x : Word). names x.act q) (sym e) n)
    by_first (inr h) = absurd h

    by_last : Has (block_words last_block) w → (at 0 ≡ q) ⊎ (at 8 ≡ q)
    by_last (inl e) = absurd (subst (λ (x : Word). names x.act q) (sym e) n)
    by_last (inr (inl e)) = absurd (subst (λ (x : Word). names x.act q) (sym e) n)
    by_last (inr (inr (inl e))) = absurd (subst (λ (x : Word). names x.act q) (sym e) n)
    by_last (inr (inr (inr h))) = absurd h

    by_block : Has skipped.blocks b → Has (block_words b) w → (at 0 ≡ q) ⊎ (at 8 ≡ q)
    by_block (inl e) m = by_first (subst (λ (x : Block). Has (block_words x) w) (sym e) m)
    by_block (inr (inl e)) m = by_last (subst (λ (x : Block). Has (block_words x) w) (sym e) m)
    by_block (inr (inr h)) m = absurd h
kept_two q (behind b w h k m l) = absurd (by_block h m)
  where
    by_first : Has (block_words first_block) w → ⊥
    by_first (inl e) = subst (λ (x : Word). Links x.act) (sym e) l refl
    by_first (inr h) = h

    by_last : Has (block_words last_block) w → ⊥
    by_last (inl e) = subst (λ (x : Word). Links x.act) (sym e) l
    by_last (inr (inl e)) = subst (λ (x : Word). Links x.act) (sym e) l
    by_last (inr (inr (inl e))) = subst (λ (x : Word). Links x.act) (sym e) l
    by_last (inr (inr (inr h))) = h

    by_block : Has skipped.blocks b → Has (block_words b) w → ⊥
    by_block (inl e) m = by_first (subst (λ (x : Block). Has (block_words x) w) (sym e) m)
    by_block (inr (inl e)) m = by_last (subst (λ (x : Block). Has (block_words x) w) (sym e) m)
    by_block (inr (inr h)) m = h

pub row_kept : KeptInBlocks skipped
row_kept = record { label = λ q k. by_place q (kept_two q k) }
  where
    by_place : (q : Place) → (at 0 ≡ q) ⊎ (at 8 ≡ q) → IsBlock skipped q ⊎ IsEnd skipped q
    by_place q (inl e) = inl (first_block, inl refl, e)
    by_place q (inr e) = inl (last_block, inr (inl refl), e)

-- without the last block it does not lie in the kept blocks: the branch goes there
pub row_not_kept : KeptInBlocks (dropped skipped 2) → ⊥
row_not_kept k =
    by_place
    (k.label (at 8)
    (named first_block (record { at = at 0; act = act.To Straight 31 (at 8) }) (at 8) (inl refl) (root (at 0) (inl refl)) (inl refl) refl))
  where
    by_place : IsBlock (dropped skipped 2) (at 8) ⊎ IsEnd (dropped skipped 2) (at 8) → ⊥
    by_place (inl (n, inl e, l)) =
        let z : 0 ≡ 8 = ap (λ (x : Block). x.label.off) e ∙ ap (λ (x : Place). x.off) l in omega (arith, z)
    by_place (inl (n, inr h, l)) = h
    by_place (inr e) = let z = e.off in omega (arith, z)

-- ---- walks over blocks

-- a walk comes to the last block over the branch, and leaves there the entry's table
pub row_reaches : ReachesBlock (graph_script empty skipped) skipped last_block (Table 0)
row_reaches =
    enters_next first_block last_block (Table 0) (at_entry first_block (inl refl) refl)
    (jumps_in (record { at = at 0; act = act.To Straight 31 (at 8) }) (inl refl) (inr (inl refl)) ([], refl) refl)

-- the last word of the middle block gone: control falls into the last one from its end all the same
abbrev pub emptied : GraphView
emptied = deleted skipping 0

pub row_falls_in : Enters emptied (record middle_block { ops = [] }) last_block
row_falls_in = falls_in (inr (inl (refl, refl))) refl tt

-- ---- lifted graphs

in_order : List Place → Bool
in_order [] = true
in_order (p ∷ ps) = list_all (place_lt p) ps && in_order ps

all_of : (p : Place) (ps : List Place) → list_all (place_lt p) ps ≡ true → (q : Place) → Has ps q → place_lt p q ≡ true
all_of p [] e q h = absurd h
all_of p (x ∷ ps) e q (inl i) = subst (λ (y : Place). place_lt p y ≡ true) i (both _ _ e).0
all_of p (x ∷ ps) e q (inr h) = all_of p ps (both _ _ e).1 q h

order_of : (ps : List Place) → in_order ps ≡ true → InPlaceOrder ps
unfolding in_order
order_of [] e = tt
order_of (p ∷ ps) e = (all_of p ps (both _ _ e).0, order_of ps (both _ _ e).1)

are_apart : List ℕ → Bool
are_apart [] = true
are_apart (x ∷ xs) = list_all (λ y. not (y == x)) xs && are_apart xs

none_of : (x : ℕ) (xs : List ℕ) → list_all (λ y. not (y == x)) xs ≡ true → Has xs x → ⊥
none_of x [] e h = h
none_of x (y ∷ xs) e (inl i) = true≢false (sym (both _ _ e).0 ∙ ap not (eq-eqb y x i))
none_of x (y ∷ xs) e (inr h) = none_of x xs (both _ _ e).1 h

apart_of : (xs : List ℕ) → are_apart xs ≡ true → Apart xs
unfolding are_apart
apart_of [] e = tt
apart_of (x ∷ xs) e = (none_of x xs (both _ _ e).0, apart_of xs (both _ _ e).1)

is_graph : IsGraph two_halves
unfolding in_order are_apart
is_graph = record {
  objects = omega arith;
  tables = refl;
  roots = λ e. cc;
  labels = order_of two_halves.labels refl;
  blocks = order_of (label_list two_halves.blocks) refl;
  among = λ q h. h;
  marks = tt;
  touched = λ q h. absurd h;
  block_ids = apart_of (block_ids two_halves.blocks) refl;
  op_ids = apart_of (op_ids two_halves.blocks) refl;
}

pub row_is_lifted : IsLifted half_entered two_halves
row_is_lifted = record {
  graph = is_graph;
  counts = refl;
  roots = refl;
  tables = refl;
  blocks = refl;
  labels = refl;
  touched = refl;
}

-- with a block less it is not what the program is lifted to
pub row_not_lifted : IsLifted half_entered (dropped two_halves 3) → ⊥
row_not_lifted l = let e = ap (λ (ss : List Shape). length ss) l.blocks in omega (arith, e)
