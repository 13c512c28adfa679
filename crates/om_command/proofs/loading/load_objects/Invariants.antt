use Rattle.om_words.specs.Sentences.{texts}
use Rattle.om_command.specs.World.{files_of}
use Rattle.om_command.proofs.Loads.{SoFar}
use Rattle.om_command.proofs.loading.load_objects.Given as goal

abbrev pub invariant-loop-place : goal.invariant-loop-place
invariant-loop-place g l =
    SoFar (texts l.names) l.place l.left l.objects.items
    (files_of (g.S.Store.tells l.initial.store) (g.S.Store.file l.initial.store) (g.S.Store.failed_loads l.initial.store)
    (g.S.Store.failed_saves l.initial.store) (g.S.Store.last_failed l.initial.store) (g.S.Store.loads_asked l.initial.store)
    (g.S.Store.saves_asked l.initial.store))
    (files_of (g.S.Store.tells l.store) (g.S.Store.file l.store) (g.S.Store.failed_loads l.store)
    (g.S.Store.failed_saves l.store) (g.S.Store.last_failed l.store) (g.S.Store.loads_asked l.store)
    (g.S.Store.saves_asked l.store))
