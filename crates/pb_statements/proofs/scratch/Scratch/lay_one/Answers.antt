use Rattle.std.proofs.Common.{◌≡◌, true, arith}
use Rattle.std.specs.Result.{is_ok}
use Rattle.std.proofs.lemmas.Grind.{common_steps}
use Rattle.pb_statements.proofs.LayLemmas.{end_pushed, laid_pushed}
use Rattle.pb_statements.proofs.scratch.Scratch.lay_one.Goals as goal

pub invariant_of-self-clause-laid : goal.invariant_of-self-clause-laid
invariant_of-self-clause-laid c = laid_pushed (is_ok c.push.result) c.args.self.now.spots.items _ _ _ c.push.ensures.items c.args.self.now.laid c.requires.end c.requires.room

pub returns-clause-end : goal.returns-clause-end
returns-clause-end c =
    let pushed : is_ok c.push.result ≡ true = grind (arith, common_steps, c.push.ensures.full, c.args.self.now.room) in
    end_pushed _ _ _ _ c.push.ensures.items pushed c.requires.end
