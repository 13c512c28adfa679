use Rattle.std.proofs.Common.{sym, subst, ◌∙◌}
use Rattle.om_prog.specs.View.{items_lists}
use Rattle.om_prog.specs.Valid.{IsProgram}
use Rattle.om_resolve.proofs.Whole.{same_program}
use Rattle.om_resolve.proofs.ProgramValid.{objects_make_programs}
use Rattle.om_resolve.proofs.resolving.program.Goals as goal

pub returns-in-Ok : goal.returns-in-Ok
returns-in-Ok c =
    c.in-Ok.ensures.0
    ∙ same_program c.args.l.now.objects.now (items_lists c.in_ok-texts.texts.items) c.in_ok-regions.regions.items c.in_ok-entry.entry
    c.in_ok-texts.ensures c.in_ok-regions.ensures c.in_ok-entry.ensures

-- the parts are a program
pub unreachable-requires : goal.unreachable-requires
unreachable-requires c =
    let objects = c.args.l.now.objects.now in
    let same =
    same_program objects (items_lists c.in_ok-texts.texts.items) c.in_ok-regions.regions.items c.in_ok-entry.entry
    c.in_ok-texts.ensures c.in_ok-regions.ensures c.in_ok-entry.ensures in
    let bad = rw c.in-Err-Bad.field-0-is at c.in-Err-Bad.ensures in
    bad (subst IsProgram (sym same) (objects_make_programs objects c.requires.linked.few c.requires.linked.sound c.requires.sound))
