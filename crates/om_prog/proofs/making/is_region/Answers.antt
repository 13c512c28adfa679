use Rattle.std.proofs.Common.{List, sym, subst}
use Rattle.om_prog.specs.declared.item.Field.{Field}
use Rattle.om_prog.specs.Valid.{AreFields}
use Rattle.om_prog.proofs.making.is_region.Goals as goal

pub returns : goal.returns
returns c v known =
    let size = c.args.init.now.size in
    let same = c.as_slice.ensures in
    let fit = c.in_ok-fit.ensures v known in (
      (λ t. record {
        form = c.has_form.ensures.0 c.if-not-has_form.false;
        fields = subst (λ (fs : List Field). AreFields v size fs) same (fit.0 t);
      }),
      (λ r. fit.1 (subst (λ (fs : List Field). AreFields v size fs) (sym same) r.fields)),
    )
