use Rattle.std.proofs.Common.{◌≡◌, ◌∙◌, sym, ap, arith, length, vec_len}
use Rattle.om_io.proofs.Appending.{length-files_at}
use Rattle.om_io.proofs.saves.Saves.save.Goals as goal

pub returns-then-len-ge-MOST_SAVES-clause-fits : goal.returns-then-len-ge-MOST_SAVES-clause-fits
returns-then-len-ge-MOST_SAVES-clause-fits c = λ few enough.
    let size : length c.args.self.now.files ≡ vec_len c.self.inside.places =
    ap (λ v. length v.files) (sym c.self.view_is) ∙ length-files_at _ _ ∙ sym c.self.inside.places.ok.0 in
    absurd (omega arith)

pub returns-clause-full : goal.returns-clause-full
returns-clause-full c = λ many.
    let size : length c.args.self.now.files ≡ vec_len c.self.inside.places =
    ap (λ v. length v.files) (sym c.self.view_is) ∙ length-files_at _ _ ∙ sym c.self.inside.places.ok.0 in
    absurd (omega arith)
