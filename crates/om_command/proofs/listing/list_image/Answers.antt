use Rattle.std.proofs.Common.{refl, inl, inr}
use Rattle.om_command.proofs.RunTelling.{list_answers}
use Rattle.om_command.proofs.listing.list_image.Goals as goal

pub returns-in-Ok : goal.returns-in-Ok
returns-in-Ok g c = λ input.
    list_answers _ _ _ _ c.in-Ok.ensures.files
    (inr (record {
      image = c.in-Ok.image;
      held = c.in-Ok.ensures.holds;
      unfailed = c.in-Ok.ensures.unfailed;
      input = refl;
      lists = c.put_listing.ensures;
    }))

pub returns-in-Err : goal.returns-in-Err
returns-in-Err g c = λ input.
    list_answers _ _ _ _ c.in-Err.ensures.files
    (inl (record {
      stop = c.in-Err.stop;
      unread = c.in-Err.ensures.unread;
      told = c.report_unread.ensures;
      input = refl;
      out = refl;
    }))
