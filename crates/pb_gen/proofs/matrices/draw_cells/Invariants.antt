use Rattle.std.proofs.Common.{◌≡◌, ◌++◌, ◌-◌}
use Rattle.rand_pcg.specs.Lcg.{advance}
use Rattle.rand_pcg.specs.Pcg.{multiplier_64}
use Rattle.pb_gen.specs.Stream.{drawn}
use Rattle.pb_gen.proofs.matrices.draw_cells.Given as goal

-- the words that are left complete the cells
abbrev pub invariant-words : goal.invariant-words
invariant-words l = record {
  cells : l.cells.items ++ drawn (l.count - l.counter) l.generator ≡ drawn l.count l.fn.generator;
  after : advance 64 multiplier_64 (l.count - l.counter) l.generator ≡ advance 64 multiplier_64 l.count l.fn.generator;
}
