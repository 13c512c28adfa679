use Rattle.std.proofs.Common.{◌≡◌, ◌+◌, [], ◌∷◌, length, ap, subst, ◌∙◌}
use Rattle.std.specs.Prelude.{None, sum_by}
use Rattle.om_object.specs.declared.parts.Parts.{Parts}
use Rattle.om_resolve.specs.declared.causes.Which.TheVariants.{Text, Data, Symbols}
use Rattle.om_resolve.specs.Causes.{Blames, Checks, over, text_size, data_size, commons_size, many_objects, long_text, long_object, much_data, many_symbols, limit_causes}
use Rattle.om_resolve.proofs.Given.{found_here, found_later, checked_later, checked_last}
use Rattle.om_resolve.proofs.totals.check_limits.Goals as goal

pub returns-in-Err : goal.returns-in-Err
unfolding limit_causes many_objects long_text much_data many_symbols
returns-in-Err c =
    let os = c.args.l.now.objects.now in
    let cause = c.in-Err.cause in
    found_here (many_objects os) (long_text os ∷ long_object os ∷ much_data os ∷ many_symbols os ∷ []) cause c.in-Err.ensures

pub returns-in-Err-check_total : goal.returns-in-Err-check_total
unfolding limit_causes many_objects long_text much_data many_symbols
returns-in-Err-check_total c =
    let os = c.args.l.now.objects.now in
    let text : c.sum_of-text.result ≡ sum_by text_size os = c.sum_of-text.ensures.value in
    let cause = c.in-Err-check_total.cause in
    found_later (many_objects os) (long_text os ∷ long_object os ∷ much_data os ∷ many_symbols os ∷ []) cause c.in_default.ensures
    (found_here (long_text os) (long_object os ∷ much_data os ∷ many_symbols os ∷ []) cause (subst (λ n. Blames (over Text 16777216 n) cause) text c.in-Err-check_total.ensures))

pub returns-in-Err-check_texts : goal.returns-in-Err-check_texts
unfolding limit_causes many_objects long_text much_data many_symbols
returns-in-Err-check_texts c =
    let os = c.args.l.now.objects.now in
    let text : c.sum_of-text.result ≡ sum_by text_size os = c.sum_of-text.ensures.value in
    let cause = c.in-Err-check_texts.cause in
    found_later (many_objects os) (long_text os ∷ long_object os ∷ much_data os ∷ many_symbols os ∷ []) cause c.in_default.ensures
    (found_later (long_text os) (long_object os ∷ much_data os ∷ many_symbols os ∷ []) cause (subst (λ n. over Text 16777216 n ≡ None) text c.in_default-check_total.ensures)
    (found_here (long_object os) (much_data os ∷ many_symbols os ∷ []) cause c.in-Err-check_texts.ensures))

pub returns-in-Err-check_total-2 : goal.returns-in-Err-check_total-2
unfolding limit_causes many_objects long_text much_data many_symbols
returns-in-Err-check_total-2 c =
    let os = c.args.l.now.objects.now in
    let text : c.sum_of-text.result ≡ sum_by text_size os = c.sum_of-text.ensures.value in
    let regions : c.sum_of.result + c.commons_size.result ≡ sum_by data_size os + commons_size os =
    ap (λ n. n + c.commons_size.result) c.sum_of.ensures.value ∙ ap (λ n. sum_by data_size os + n) c.commons_size.ensures.value in
    let cause = c.in-Err-check_total-2.cause in
    found_later (many_objects os) (long_text os ∷ long_object os ∷ much_data os ∷ many_symbols os ∷ []) cause c.in_default.ensures
    (found_later (long_text os) (long_object os ∷ much_data os ∷ many_symbols os ∷ []) cause (subst (λ n. over Text 16777216 n ≡ None) text c.in_default-check_total.ensures)
    (found_later (long_object os) (much_data os ∷ many_symbols os ∷ []) cause c.in_default-check_texts.ensures
    (found_here (much_data os) (many_symbols os ∷ []) cause (subst (λ n. Blames (over Data 33554432 n) cause) regions c.in-Err-check_total-2.ensures))))

pub returns : goal.returns
unfolding limit_causes many_objects long_text much_data many_symbols
returns c =
    let os = c.args.l.now.objects.now in
    let text : c.sum_of-text.result ≡ sum_by text_size os = c.sum_of-text.ensures.value in
    let regions : c.sum_of.result + c.commons_size.result ≡ sum_by data_size os + commons_size os =
    ap (λ n. n + c.commons_size.result) c.sum_of.ensures.value ∙ ap (λ n. sum_by data_size os + n) c.commons_size.ensures.value in
    let symbols : c.sum_of-symbols.result ≡ sum_by (λ (p : Parts). length p.symbols) os = c.sum_of-symbols.ensures.value in
    let r = c.check_total-4.result in
    checked_later (many_objects os) (long_text os ∷ long_object os ∷ much_data os ∷ many_symbols os ∷ []) r c.in_default.ensures
    (checked_later (long_text os) (long_object os ∷ much_data os ∷ many_symbols os ∷ []) r (subst (λ n. over Text 16777216 n ≡ None) text c.in_default-check_total.ensures)
    (checked_later (long_object os) (much_data os ∷ many_symbols os ∷ []) r c.in_default-check_texts.ensures
    (checked_later (much_data os) (many_symbols os ∷ []) r (subst (λ n. over Data 33554432 n ≡ None) regions c.in_default-check_total-2.ensures)
    (checked_last (many_symbols os) r (subst (λ n. Checks (over Symbols 1000000 n) r) symbols c.check_total-4.ensures)))))
