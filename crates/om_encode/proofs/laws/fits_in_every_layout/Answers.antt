use Rattle.om_encode.proofs.Fitting as law
use Rattle.om_encode.proofs.laws.fits_in_every_layout.Goals as goal

pub returns : goal.returns
returns c = law.fits_in_every_layout
