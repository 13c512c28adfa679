-- What is read of the symbols of a written file.
use Rattle.std.proofs.Common.{◌≡◌, ◌<◌, ◌+◌, ◌*◌, ◌/◌, ◌%◌, ◌^◌, ℕ, zero, suc, Bool, true, false, List, [], ◌∷◌, ◌++◌, length, get_or, drop, refl, sym, ap, ◌∙◌, append_assoc, length-append, arith, cond}
use Rattle.std.specs.Prelude.{Some, find, take_while, is_none, not, ◌==◌, ◌||◌}
use Rattle.std.proofs.lemmas.List.Sums.{take_while-cons}
use Rattle.std.proofs.Math.Seq.{drop-append_seam}
use Rattle.byteorder.specs.Endian.{little_from}
use Rattle.byteorder.specs.Numbers.{little_number-reads_back}
use Rattle.om_fields.specs.Places.{any_of, number_at}
use Rattle.om_symtab.specs.declared.symbol.ExtSym.{ExtSym}
use Rattle.om_symtab.specs.Symbols.{symbols_at, symbol_of, name_onward, is_unended, strings as strings_in}
use Rattle.om_object.specs.Rules.{no_symbol}
use Rattle.om_objwrite.specs.Written.{symbolic_header, symbol_bytes, symbol_table, string_of, strings}
use Rattle.om_objwrite.proofs.Standing.{IsAt, first_in, second_in, number_in}

-- ---- the symbolic header

pub symbolic_length : (at n size : ℕ) → length (symbolic_header at n size) ≡ 144
unfolding symbolic_header
symbolic_length at n size = refl

magic_there : (at n size : ℕ) → little_from 0 2 (symbolic_header at n size) ≡ 0x1992
unfolding symbolic_header
magic_there at n size = refl

size_there : (at n size : ℕ) → size < 2 ^ 32 → little_from 32 4 (symbolic_header at n size) ≡ size
unfolding symbolic_header
size_there at n size h = little_number-reads_back 4 size [] h

count_there : (at n size : ℕ) → n < 2 ^ 32 → little_from 44 4 (symbolic_header at n size) ≡ n
unfolding symbolic_header
count_there at n size h = little_number-reads_back 4 n [] h

strings_there : (at n size : ℕ) → at + 144 + 24 * n < 2 ^ 64 → little_from 112 8 (symbolic_header at n size) ≡ at + 144 + 24 * n
unfolding symbolic_header
strings_there at n size h = little_number-reads_back 8 (at + 144 + 24 * n) [] h

symbols_there : (at n size : ℕ) → at + 144 < 2 ^ 64 → little_from 136 8 (symbolic_header at n size) ≡ at + 144
unfolding symbolic_header
symbols_there at n size h = little_number-reads_back 8 (at + 144) [] h

pub record SymbolicReads (file : List ℕ) (at n size : ℕ) : Type 0 where
  pub magic : number_at file at 2 ≡ 0x1992
  pub size_at : number_at file (at + 32) 4 ≡ size
  pub count : number_at file (at + 44) 4 ≡ n
  pub strings : number_at file (at + 112) 8 ≡ at + 144 + 24 * n
  pub symbols : number_at file (at + 136) 8 ≡ at + 144

pub symbolic_reads : {file : List ℕ} (at n size : ℕ) → IsAt file (symbolic_header at n size) at → size < 2 ^ 32 → n < 2 ^ 32 → at < 2 ^ 62
    → SymbolicReads file at n size
symbolic_reads at n size h fs fn fa =
    let long = symbolic_length at n size in
    record {
      magic = number_in h 0 2 at (omega arith) (omega (arith, long)) ∙ magic_there at n size;
      size_at = number_in h 32 4 (at + 32) (omega arith) (omega (arith, long)) ∙ size_there at n size fs;
      count = number_in h 44 4 (at + 44) (omega arith) (omega (arith, long)) ∙ count_there at n size fn;
      strings = number_in h 112 8 (at + 112) (omega arith) (omega (arith, long)) ∙ strings_there at n size (omega (arith, fn, fa));
      symbols = number_in h 136 8 (at + 136) (omega arith) (omega (arith, long)) ∙ symbols_there at n size (omega (arith, fa));
    }

-- ---- names

pub or_false : (a b : Bool) → (a || b) ≡ false → (a ≡ false) × (b ≡ false)
or_false true b h = cc
or_false false b h = (refl, h)

abbrev no_zero_in : List ℕ → Bool
no_zero_in cs = any_of (λ c. c == 0) cs

name_before : (cs more : List ℕ) → no_zero_in cs ≡ false → take_while (λ c. not (c == 0)) ((cs ++ 0 ∷ []) ++ more) ≡ cs
name_before [] more h = take_while-cons (λ c. not (c == 0)) 0 more
name_before (c ∷ cs) more h =
    let parts = or_false (c == 0) (no_zero_in cs) h in
    take_while-cons (λ c. not (c == 0)) c ((cs ++ 0 ∷ []) ++ more)
    ∙ ap (λ (b : Bool). cond (not b) (c ∷ take_while (λ c. not (c == 0)) ((cs ++ 0 ∷ []) ++ more)) []) parts.0
    ∙ ap (λ (ds : List ℕ). c ∷ ds) (name_before cs more parts.1)

zero_after : (cs more : List ℕ) → no_zero_in cs ≡ false → is_none (find (λ c. c == 0) ((cs ++ 0 ∷ []) ++ more)) ≡ false
zero_after [] more h = refl
zero_after (c ∷ cs) more h =
    let parts = or_false (c == 0) (no_zero_in cs) h in
    ap (λ (b : Bool). is_none (cond b (Some c) (find (λ c. c == 0) ((cs ++ 0 ∷ []) ++ more)))) parts.0
    ∙ zero_after cs more parts.1

-- ---- one symbol

symbol_length : (y : ExtSym) (index : ℕ) → length (symbol_bytes y index) ≡ 24
unfolding symbol_bytes
symbol_length y index = refl

value_there : (y : ExtSym) (index : ℕ) → y.value < 2 ^ 64 → little_from 0 8 (symbol_bytes y index) ≡ y.value
unfolding symbol_bytes
value_there y index h = little_number-reads_back 8 y.value [] h

index_there : (y : ExtSym) (index : ℕ) → index < 2 ^ 32 → little_from 8 4 (symbol_bytes y index) ≡ index
unfolding symbol_bytes
index_there y index h = little_number-reads_back 4 index [] h

class_there : (y : ExtSym) (index : ℕ) → y.class < 32 → little_from 12 4 (symbol_bytes y index) ≡ 64 * y.class
unfolding symbol_bytes
class_there y index h = little_number-reads_back 4 (64 * y.class) [] (omega (arith, h))

-- a symbol that can be read back
pub record SymbolFine (y : ExtSym) : Type 0 where
  pub value : y.value < 2 ^ 64
  pub class : y.class < 32
  pub name : any_of (λ c. c == 0) y.name ≡ false

-- the k-th symbol of a file, whose name ends in the strings
pub record SymbolIn (file : List ℕ) (at k : ℕ) (y : ExtSym) : Type 0 where
  pub symbol : symbol_of file at k ≡ y
  pub ended : is_unended file at k ≡ false

same_symbol : (xs ys : List ℕ) (v w c d : ℕ) → xs ≡ ys → v ≡ w → c ≡ d
    → (let a : ExtSym = record { name = xs; value = v; class = c } in
    let b : ExtSym = record { name = ys; value = w; class = d } in a ≡ b)
same_symbol xs ys v w c d hx hv hc = cc

symbol_in : {file : List ℕ} (at k index start : ℕ) (y : ExtSym) (front more all : List ℕ) → IsAt file (symbol_bytes y index) (start + 24 * k)
    → symbols_at file at ≡ start → strings_in file at ≡ all → all ≡ front ++ (string_of y ++ more) → index ≡ length front
    → index < 2 ^ 32 → SymbolFine y → SymbolIn file at k y
symbol_in {file} at k index start y front more all h hs ha parts hi small fine =
    let long = symbol_length y index in
    let value : number_at file (symbols_at file at + 24 * k) 8 ≡ y.value =
    ap (λ (s : ℕ). number_at file (s + 24 * k) 8) hs ∙ number_in h 0 8 (start + 24 * k) (omega arith) (omega (arith, long)) ∙ value_there y index fine.value in
    let place : number_at file (symbols_at file at + 24 * k + 8) 4 ≡ length front =
    ap (λ (s : ℕ). number_at file (s + 24 * k + 8) 4) hs ∙ number_in h 8 4 (start + 24 * k + 8) (omega arith) (omega (arith, long)) ∙ index_there y index small ∙ hi in
    let bits : number_at file (symbols_at file at + 24 * k + 12) 4 ≡ 64 * y.class =
    ap (λ (s : ℕ). number_at file (s + 24 * k + 12) 4) hs ∙ number_in h 12 4 (start + 24 * k + 12) (omega arith) (omega (arith, long)) ∙ class_there y index fine.class in
    let small_class = fine.class in
    let class : 64 * y.class / 64 % 32 ≡ y.class = omega (arith, small_class) in
    let onward : name_onward file at k ≡ string_of y ++ more =
    ap (λ (i : ℕ). drop i (strings_in file at)) place ∙ ap (λ (xs : List ℕ). drop (length front) xs) (ha ∙ parts)
    ∙ drop-append_seam front (string_of y ++ more) in
    record {
      symbol = same_symbol (take_while (λ c. not (c == 0)) (name_onward file at k)) y.name (number_at file (symbols_at file at + 24 * k) 8) y.value
          (number_at file (symbols_at file at + 24 * k + 12) 4 / 64 % 32) y.class
          (ap (λ (xs : List ℕ). take_while (λ c. not (c == 0)) xs) onward ∙ name_before y.name more fine.name)
          value (ap (λ (b : ℕ). b / 64 % 32) bits ∙ class);
      ended = ap (λ (xs : List ℕ). is_none (find (λ c. c == 0) xs)) onward ∙ zero_after y.name more fine.name;
    }

-- ---- all symbols

pub symbols_in : {file : List ℕ} (ys : List ExtSym) (at k index start : ℕ) (front all : List ℕ) → IsAt file (symbol_table index ys) (start + 24 * k)
    → symbols_at file at ≡ start → strings_in file at ≡ all → all ≡ front ++ strings ys → index ≡ length front
    → index + length (strings ys) < 2 ^ 32 → ((i : ℕ) → i < length ys → SymbolFine (get_or ys i no_symbol))
    → (j : ℕ) → j < length ys → SymbolIn file at (k + j) (get_or ys j no_symbol)
symbols_in [] at k index start front all h hs ha parts hi small fine j below = absurd (omega arith)
symbols_in {file} (y ∷ ys) at k index start front all h hs ha parts hi small fine zero below =
    let e : k + 0 ≡ k = omega arith in
    let here : SymbolIn file at k y = symbol_in at k index start y front (strings ys) all
    (first_in (symbol_bytes y index) (symbol_table (index + length y.name + 1) ys) h) hs ha parts hi (omega (arith, small)) (fine 0 (omega arith)) in
    rw e here
symbols_in {file} (y ∷ ys) at k index start front all h hs ha parts hi small fine (suc j) below =
    let e : k + suc j ≡ k + 1 + j = omega arith in
    let long = symbol_length y index in
    let one = length-append y.name (0 ∷ []) in
    let both = length-append (string_of y) (strings ys) in
    let total : length (strings (y ∷ ys)) ≡ length (string_of y ++ strings ys) = refl in
    let grown = length-append front (string_of y) in
    let there : SymbolIn file at (k + 1 + j) (get_or ys j no_symbol) = symbols_in ys at (k + 1) (index + length y.name + 1) start (front ++ string_of y) all
    (second_in (symbol_bytes y index) (symbol_table (index + length y.name + 1) ys) (start + 24 * (k + 1)) h (omega (arith, long)))
    hs ha (parts ∙ sym (append_assoc front (string_of y) (strings ys))) (omega (arith, hi, one, grown)) (omega (arith, small, one, both, total))
    (λ i b. fine (suc i) (omega arith)) j (omega arith) in
    rw e there

pub table_length : (ys : List ExtSym) (index : ℕ) → length (symbol_table index ys) ≡ 24 * length ys
table_length [] index = refl
table_length (y ∷ ys) index =
    let e = symbol_length y index in
    let f = table_length ys (index + length y.name + 1) in
    let g = length-append (symbol_bytes y index) (symbol_table (index + length y.name + 1) ys) in
    let q : length (symbol_table index (y ∷ ys)) ≡ length (symbol_bytes y index ++ symbol_table (index + length y.name + 1) ys) = refl in
    omega (arith, e, f, g, q)
