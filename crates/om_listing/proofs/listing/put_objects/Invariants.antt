use Rattle.std.proofs.Common.{◌≡◌, take, Ok}
use Rattle.om_io.specs.declared.causes.Failed.{Failed}
use Rattle.om_listing.specs.Listing.{object_lines, word_count}
use Rattle.om_listing.specs.Sending.{Sends}
use Rattle.om_listing.proofs.listing.put_objects.Given as goal

abbrev pub invariant-loop-number : goal.invariant-loop-number
invariant-loop-number g l = record {
  place : l.at ≡ word_count (take l.number l.objects);
  sends : Sends {T = Unit {0}} {E = Failed} (object_lines l.text 0 (take l.number l.objects) l.words) (g.S.Sink.written l.initial.out)
      (g.S.Sink.faults l.initial.out) l.initial.page (g.S.Sink.written l.out) (g.S.Sink.faults l.out) l.page (Ok tt);
}
