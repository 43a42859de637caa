use Rattle.std.proofs.Common.{◌∙◌, ◌++◌, ap}
use Rattle.std.proofs.lemmas.Result.{err_from_is_err_and}
use Rattle.pb_top.proofs.DemoLemmas.{both_done, first_stops, second_stops}
use Rattle.pb_top.proofs.demo.demo.Goals as goal

pub returns-in_err-text : goal.returns-in_err-text
returns-in_err-text g c =
    let e = err_from_is_err_and c.from_residual.result c.from_residual.ensures.1 in
    rw (e.1, e.2) (first_stops c.args.seed c.args.size c.in_err-text.field-0.0 c.in_err-text.ensures)

pub returns-in_err-second : goal.returns-in_err-second
returns-in_err-second g c =
    let e = err_from_is_err_and c.from_residual-in_err-second.result c.from_residual-in_err-second.ensures.1 in
    rw (e.1, e.2) (second_stops c.args.seed c.args.size c.in_ok-text.text.items c.in_ok-text.ensures c.in_err-second.field-0.0 c.in_err-second.ensures)

pub returns : goal.returns
returns g c =
    both_done c.args.seed c.args.size c.in_ok-text.text.items c.in_ok-text.ensures c.in_ok-second.second.items c.extend_from_slice.new.self.items c.in_ok-second.ensures
    (c.in_ok-extend_from_slice.ensures.items ∙ ap (λ xs. c.in_ok-text.text.items ++ xs) c.deref.ensures.value)
