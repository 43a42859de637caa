use Rattle.std.proofs.Common.{length}
use Rattle.pb_lines.proofs.names.+write_sizes.Given as goal

abbrev pub decreases-write_sizes : goal.decreases-write_sizes
decreases-write_sizes l = length l.names.now
