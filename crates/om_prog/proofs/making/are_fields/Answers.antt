use Rattle.om_prog.proofs.Every.{no_way, denied}
use Rattle.om_prog.proofs.making.are_fields.Goals as goal

pub returns-then-not-each_fits : goal.returns-then-not-each_fits
returns-then-not-each_fits c v known =
    no_way (λ all. denied c.each_fits.result c.if-not-each_fits.true (c.each_fits.ensures.value v known) all.each)

pub are_apart-requires : goal.are_apart-requires
are_apart-requires c = c.each_fits.ensures.placed c.if-not-each_fits.false

pub returns : goal.returns
returns c v known =
    let all = (c.each_fits.ensures.value v known).0 c.if-not-each_fits.false in
    ((λ t. record { each = all; apart = c.in_ok-apart.ensures.0 t }), (λ a. c.in_ok-apart.ensures.1 a.apart))
