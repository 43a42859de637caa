use Rattle.pb_links.proofs.LawLemmas.{after-others, before-others}
use Rattle.pb_links.proofs.laws.links_are_of_other_tasks.Goals as goal

pub returns-clause-before : goal.returns-clause-before
returns-clause-before c tasks t u h = before-others tasks t u h

pub returns-clause-after : goal.returns-clause-after
returns-clause-after c tasks t u h = after-others tasks t u h
