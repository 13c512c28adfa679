use Rattle.std.proofs.Common.{sym, subst}
use Rattle.om_image.specs.declared.image.Image.{Image}
use Rattle.om_image.specs.Valid.{IsValidImage}
use Rattle.om_encode.specs.TrueMap.{IsMapIn}
use Rattle.om_encode.proofs.Joined.{map_joined, valid_joined}
use Rattle.om_encode.proofs.encoding.encode_image.Goals as goal

pub returns-clause-map : goal.returns-clause-map
returns-clause-map c =
    subst (λ (i : Image). IsMapIn c.args.program.now c.args.graph.now c.args.layout.now i) (sym c.image_of.ensures)
    (map_joined c.args.program.now c.args.graph.now c.args.layout.now c.in_ok-data.data c.in_ok-text.text
    c.in_ok-data.ensures.data_part c.in_ok-text.ensures.text c.in_ok-text.ensures.words)

pub returns-clause-valid : goal.returns-clause-valid
returns-clause-valid c =
    subst IsValidImage (sym c.image_of.ensures)
    (valid_joined c.args.program.now c.args.graph.now c.args.layout.now c.in_ok-data.data c.in_ok-text.text c.in_ok-data.ensures.program
    c.requires.graph c.requires.kept c.requires.limits c.requires.layout
    (map_joined c.args.program.now c.args.graph.now c.args.layout.now c.in_ok-data.data c.in_ok-text.text
    c.in_ok-data.ensures.data_part c.in_ok-text.ensures.text c.in_ok-text.ensures.words))
