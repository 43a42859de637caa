use Rattle.pb_base.proofs.SystemLemmas as lemma
use Rattle.pb_base.proofs.systems.enough.Goals as goal

pub returns-clause-known : goal.returns-clause-known
returns-clause-known g c = λ s. lemma.enough s

pub returns-clause-closed : goal.returns-clause-closed
returns-clause-closed g c = λ s. lemma.closed s
