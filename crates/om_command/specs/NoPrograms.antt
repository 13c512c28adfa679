-- Why no program was had of the files of a command: the causes, their statuses and their lines.
use Rattle.std.specs.Prelude.{◌++◌, ℕ, ℤ, pos, int_lt, unsigned_abs, if◌then◌else◌, List, [], codes, decimal}
use Rattle.om_io.specs.Digits.{hex}
use Rattle.om_resolve.specs.declared.causes.Which.{Which}
use Rattle.om_resolve.specs.declared.causes.Which.TheVariants.{Objects, Text, ObjText, Data, Symbols}
use Rattle.om_resolve.specs.declared.causes.ResolveErr.{ResolveErr}
use Rattle.om_resolve.specs.declared.causes.ResolveErr.TheVariants as resolve
use Rattle.om_command.specs.Loading.{item_at}
use Rattle.om_command.specs.declared.loading.FileStop.{FileStop}
use Rattle.om_command.specs.declared.loading.FileStop.TheVariants.{Missing, TooLong, Rule, ReadFault, NoMemory}
use Rattle.om_command.specs.declared.no_program.NoProgram.{NoProgram}
use Rattle.om_command.specs.declared.no_program.NoProgram.TheVariants as none

-- ---- lines

-- the sign of a number, where it has one
abbrev pub sign : ℤ → List ℕ
sign n = if int_lt n (pos 0) then codes "-" else []

abbrev pub which_name : Which → List ℕ
which_name Objects = codes "objects"
which_name Text = codes "text"
which_name ObjText = codes "objtext"
which_name Data = codes "data"
which_name Symbols = codes "symbols"

abbrev pub rule_line : List ℕ → ℕ → ℕ → List ℕ
rule_line file rule at = codes "object " ++ file ++ codes " rule " ++ decimal rule ++ codes " at " ++ decimal at ++ codes "\n"

abbrev pub file_line : List ℕ → FileStop → List ℕ
file_line file Missing = codes "missing " ++ file ++ codes "\n"
file_line file TooLong = codes "limit bytes " ++ file ++ codes "\n"
file_line file (Rule rule at) = rule_line file rule at
file_line file ReadFault = codes "read fault\n"
file_line file NoMemory = codes "no memory\n"

abbrev pub duplicate_line : List ℕ → List ℕ → List ℕ → List ℕ
duplicate_line name first second = codes "duplicate " ++ name ++ codes " " ++ first ++ codes " " ++ second ++ codes "\n"

abbrev pub unresolved_line : List ℕ → List ℕ → List ℕ
unresolved_line name file = codes "unresolved " ++ name ++ codes " " ++ file ++ codes "\n"

abbrev pub limit_line : Which → ℕ → List ℕ
limit_line which total = codes "limit " ++ which_name which ++ codes " " ++ decimal total ++ codes "\n"

-- a branch that goes too far: where it stands, and how many words
abbrev pub far_line : List ℕ → ℕ → List ℕ → ℕ → List ℕ
far_line file off sign size = codes "limit reach " ++ file ++ codes " " ++ hex 8 off ++ codes " " ++ sign ++ decimal size ++ codes "\n"

abbrev pub reach_line : List ℕ → ℕ → ℤ → List ℕ
reach_line file off words = far_line file off (sign words) (unsigned_abs words)

-- objects are numbered as the files that hold them
abbrev pub resolve_line : List (List ℕ) → ResolveErr → List ℕ
resolve_line names (resolve.Duplicate name first second) = duplicate_line name (item_at names first) (item_at names second)
resolve_line names (resolve.Unresolved name file) = unresolved_line name (item_at names file)
resolve_line names (resolve.Rule file rule at) = rule_line (item_at names file) rule at
resolve_line names (resolve.Limit which total) = limit_line which total
resolve_line names (resolve.TooFar from words) = reach_line (item_at names from.obj) from.off words
resolve_line names resolve.NoMemory = codes "no memory\n"

abbrev pub no_program_line : List (List ℕ) → NoProgram → List ℕ
no_program_line names (none.File refused) = file_line (item_at names refused.place) refused.stop
no_program_line names (none.Objects cause) = resolve_line names cause

-- ---- statuses

abbrev pub file_status : FileStop → ℕ
file_status Missing = 3
file_status TooLong = 3
file_status (Rule rule at) = 3
file_status ReadFault = 6
file_status NoMemory = 8

abbrev pub resolve_status : ResolveErr → ℕ
resolve_status resolve.NoMemory = 8
resolve_status _ = 3

abbrev pub no_program_status : NoProgram → ℕ
no_program_status (none.File refused) = file_status refused.stop
no_program_status (none.Objects cause) = resolve_status cause
