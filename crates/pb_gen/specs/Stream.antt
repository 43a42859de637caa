-- The cells that a seed gives: one for each word of its generator, in the order of the words.
use Rattle.std.specs.Prelude.{ℕ, ◌+◌, ◌%◌, List, map, drop, ℤ, pos, ◌-ℤ◌}
use Rattle.rand_core.specs.Steps.{first_words}
use Rattle.rand_pcg.specs.Lcg.{Lcg, started, increment_of}
use Rattle.rand_pcg.specs.Pcg.{multiplier_64, pcg32}

-- the generator of 32-bit words of a seed, on stream 1
abbrev pub generator_of : ℕ → Lcg
generator_of seed = started 64 multiplier_64 seed (increment_of 64 1)

-- a word modulo 19, minus 9
abbrev pub cell_of : ℕ → ℤ
cell_of word = pos (word % 19) -ℤ pos 9

-- the cells of the next n words of a generator
abbrev pub drawn : ℕ → Lcg → List ℤ
drawn n generator = map cell_of (first_words pcg32 n generator)

-- the first n cells of a seed
abbrev pub cells_of : ℕ → ℕ → List ℤ
cells_of seed n = drawn n (generator_of seed)

-- the n cells of a seed after its first k
abbrev pub cells_after : ℕ → ℕ → ℕ → List ℤ
cells_after seed k n = drop k (cells_of seed (k + n))
