-- Landing places, opening pairs, and where blocks begin, by the words of a program as it is given. A GPDISP stands on the
-- two words of a pair that sets the global pointer; that a procedure sets it in its first two words, and a caller in the
-- two behind a call, is the convention of Alpha ECOFF.
use Rattle.std.specs.Prelude.{◌-◌, Bool, true, false, not, ◌&&◌, ◌||◌, ◌==◌, nat_le, Option, Some, None}
use Rattle.std.specs.List.{list_any}
use Rattle.om_isa.specs.declared.instr.BrOp.TheVariants.{Br, Bsr}
use Rattle.om_isa.specs.declared.instr.Instr.{Instr}
use Rattle.om_isa.specs.declared.instr.Instr.TheVariants.{Jump, Branch}
use Rattle.om_value.specs.declared.value.Place.{Place}
use Rattle.om_value.specs.declared.value.Target.{Target}
use Rattle.om_value.specs.declared.value.Target.TheVariants as target
use Rattle.om_value.specs.Same.{place_eq}
use Rattle.om_prog.specs.declared.item.Item.{Item}
use Rattle.om_prog.specs.declared.item.Role.{Role}
use Rattle.om_prog.specs.declared.item.Role.TheVariants as role
use Rattle.om_prog.specs.View.{ProgramView, item_at}
use Rattle.om_prog.specs.Step.{next_place}
use Rattle.om_graph.specs.Form.{ends_block}
use Rattle.om_graph.specs.Whole.{program_roots}

-- ---- tests of a word

abbrev pub names_place : Place → Target → Bool
names_place q (target.Code c) = place_eq c q
names_place q _ = false

-- it loads the address of a place in code
abbrev pub loads_place : Place → Role → Bool
loads_place q (role.Lit t) = names_place q t
loads_place q _ = false

-- it branches to a place
abbrev pub branches_to : Place → Role → Bool
branches_to q (role.To to) = place_eq to q
branches_to q _ = false

-- it writes a link register
abbrev pub writes_link : Instr → Bool
writes_link (Branch Br ra d) = not (ra == 31)
writes_link (Branch Bsr ra d) = not (ra == 31)
writes_link (Jump kind ra rb hint) = not (ra == 31)
writes_link _ = false

abbrev pub is_high_half : Role → Bool
is_high_half (role.GpHi base) = true
is_high_half _ = false

-- the low half of the pair whose high half stands at a place
abbrev pub is_low_half : Place → Role → Bool
is_low_half hi (role.GpLo q) = place_eq q hi
is_low_half hi _ = false

abbrev pub of_role : (Role → Bool) → Option Item → Bool
of_role test None = false
of_role test (Some i) = test i.role

abbrev pub of_instr : (Instr → Bool) → Option Item → Bool
of_instr test None = false
of_instr test (Some i) = test i.instr

module _ (p : ProgramView) where
  -- some word of the program has such a role
  abbrev pub some_role : (Role → Bool) → Bool
  some_role test = list_any (λ text. list_any (λ i. test i.role) text) p.texts

  -- the word before a place is such
  abbrev pub word_before : (Instr → Bool) → Place → Bool
  word_before test q = nat_le 4 q.off && of_instr test (item_at p (record q { off = q.off - 4 }))

  -- a place to which a jump by a register may go: the entry, what an initial field or a load of an address names, or the
  -- place behind a word that writes a link register
  abbrev pub is_landing : Place → Bool
  is_landing q = list_any (λ r. place_eq r q) (program_roots p) || some_role (loads_place q) || word_before writes_link q

  -- the high half of a pair stands at one place, and its low half at another
  abbrev pub are_halves : Place → Place → Bool
  are_halves hi lo = of_role is_high_half (item_at p hi) && of_role (is_low_half hi) (item_at p lo)

  -- a pair on the two words from a place on, in either order
  abbrev pub is_adjacent : Place → Bool
  is_adjacent q = are_halves q (next_place q) || are_halves (next_place q) q

  -- such a pair at a landing place that does not stand right behind another pair, so that its end begins none
  abbrev pub is_opening_pair : Place → Bool
  is_opening_pair q =
      is_adjacent q && is_landing q && not (nat_le 8 q.off && is_adjacent (record q { off = q.off - 8 }))

  -- where the blocks of the program begin: the first word of each text, the landing places, where branches go, behind
  -- branches and jumps, and behind opening pairs
  abbrev pub begins : Place → Bool
  begins q =
      (q.off == 0) || is_landing q || some_role (branches_to q) || word_before ends_block q
      || (nat_le 8 q.off && is_opening_pair (record q { off = q.off - 8 }))
