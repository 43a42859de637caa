use Rattle.std.proofs.Common.{ℕ, sym, subst, arith, IsTrue}
use Rattle.pb_statements.specs.Spots.{are_laid}
use Rattle.pb_statements.specs.Stored.{store_of}
use Rattle.pb_statements.proofs.LayLemmas.{all_zero, end_fits}
use Rattle.pb_statements.proofs.scratch.Scratch.clear.Goals as goal

pub zero-requires-2 : goal.zero-requires-2
zero-requires-2 c = omega (arith, c.requires.total, end_fits 0 c.args.self.now.spots.items _ c.args.self.now.laid)

pub returns-clause-store : goal.returns-clause-store
unfolding store_of
returns-clause-store c =
    let laid = subst (λ (n : ℕ). IsTrue (are_laid 0 c.args.self.now.spots.items n)) (sym c.zero-2.ensures.size) c.args.self.now.laid in
    all_zero c.zero.new.numbers.items c.zero-2.new.numbers.items c.args.self.now.spots.items laid
    (λ i h. c.zero.ensures.zeros i (omega (arith, h, c.zero.ensures.size, c.len-locals.ensures)))
    (λ i h. c.zero-2.ensures.zeros i (omega (arith, h, c.requires.total)))
