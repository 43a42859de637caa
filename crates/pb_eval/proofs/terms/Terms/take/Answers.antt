use Rattle.std.proofs.Common.{ap}
use Rattle.pb_eval.specs.Terms.{TermsValue}
use Rattle.pb_eval.proofs.TermLemmas.{same_terms}
use Rattle.pb_eval.proofs.terms.Terms.take.Goals as goal

pub returns : goal.returns
returns c = λ is.
    same_terms c.args.e.now c.take_all-self-inside.new.self _ (ap (λ (t : TermsValue). t.first) c.self.view_is) (ap (λ (t : TermsValue). t.rest) c.self.view_is) (c.take_all-self-inside.ensures is)
