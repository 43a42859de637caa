use Rattle.std.proofs.Common.{◌≡◌, sym, ◌∙◌, refl, Some, None}
use Rattle.pb_solution.proofs.MayLemmas.{may_read}
use Rattle.pb_solution.proofs.laws.a_task_may_read_what_its_rules_read.Goals as goal

pub returns-clause-one : goal.returns-clause-one
returns-clause-one c = λ config plans number t a sizes grain ins views tasks run j job e none k s at shown h. may_read config plans number t a sizes grain ins views tasks run j job e k s at k (λ n. refl) shown h

pub returns-clause-all : goal.returns-clause-all
returns-clause-all c = λ config plans number t a sizes grain ins views tasks run j rule job e some k s at shown h. may_read config plans number t a sizes grain ins views tasks run j job e k s at 0 (λ n. absurd (let no : Some rule ≡ None = sym some ∙ n in cc)) shown h
