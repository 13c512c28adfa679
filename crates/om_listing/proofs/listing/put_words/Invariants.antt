use Rattle.std.proofs.Common.{take, Ok}
use Rattle.om_io.specs.declared.causes.Failed.{Failed}
use Rattle.om_listing.specs.Listing.{lines_from}
use Rattle.om_listing.specs.Sending.{Sends}
use Rattle.om_listing.proofs.listing.put_words.Given as goal

abbrev pub invariant-loop-k : goal.invariant-loop-k
invariant-loop-k g l =
    Sends {T = Unit {0}} {E = Failed} (lines_from l.text l.object 0 (take l.k l.words)) (g.S.Sink.written l.initial.out)
    (g.S.Sink.faults l.initial.out) l.initial.page (g.S.Sink.written l.out) (g.S.Sink.faults l.out) l.page (Ok tt)
