use Rattle.pb_walk.proofs.PairLemmas.{no_pair_after, pair_after_line, pair_in_line}
use Rattle.pb_walk.proofs.numbers.next_pair.Goals as goal

pub returns-in-Some-clause-found : goal.returns-in-Some-clause-found
returns-in-Some-clause-found c =
    pair_in_line c.args.outer c.args.inner c.args.outer_span c.args.inner_span c.args.a c.args.b c.in-Some.next c.requires.outer c.in-Some.ensures.found

pub returns-in-Some-next_number-clause-found : goal.returns-in-Some-next_number-clause-found
returns-in-Some-next_number-clause-found c =
    pair_after_line c.args.outer c.args.inner c.args.outer_span c.args.inner_span c.args.a c.args.b c.in-Some-next_number.next c.first_number.result c.in-Some-next_number.ensures.found c.first_number.ensures c.in_default.ensures.none

pub returns-in-None-clause-none : goal.returns-in-None-clause-none
returns-in-None-clause-none c =
    no_pair_after c.args.outer c.args.inner c.args.outer_span c.args.inner_span c.args.a c.args.b c.in-None.ensures.none c.in_default.ensures.none
