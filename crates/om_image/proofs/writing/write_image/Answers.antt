use Rattle.om_image.proofs.FileBack.{all_read}
use Rattle.om_image.proofs.writing.write_image.Goals as goal

pub returns-clause-read : goal.returns-clause-read
returns-clause-read c = all_read c.args.i.now c.image_fits.ensures c.requires
