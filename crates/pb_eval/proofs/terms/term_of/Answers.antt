use Rattle.pb_eval.proofs.TermLemmas.{sum_called}
use Rattle.pb_eval.proofs.terms.term_of.Goals as goal

pub returns-in-Call : goal.returns-in-Call
returns-in-Call c =
    sum_called c.args.e.now c.in-Call.called c.in-Call.arguments c.deref.result.now c.sum_term.result c.in-Call.is (c.is_sum.ensures c.if-is_sum.true) c.deref.ensures.value c.sum_term.ensures
