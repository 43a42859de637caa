use Rattle.pb_base.proofs.SystemLemmas as lemma
use Rattle.pb_base.proofs.systems.fixed.Goals as goal

pub returns-clause-equation : goal.returns-clause-equation
returns-clause-equation g c = λ s. lemma.fixed s

pub returns-clause-stays : goal.returns-clause-stays
returns-clause-stays g c = λ s. lemma.stays s
