use Rattle.pb_eval.proofs.TermLemmas.{sum_read}
use Rattle.pb_eval.proofs.terms.sum_term.Goals as goal

pub returns-in-Some : goal.returns-in-Some
returns-in-Some c = λ b st.
    sum_read b st c.args.arguments.now c.view-item.result c.named_view.result c.in-Some.k c.in-len1.len_at_least c.in-len1.len_below c.view-item.is (c.named_view.ensures b st) c.in-Some.ensures
