use Rattle.pb_calls.proofs.SideLemmas.{segment_below}
use Rattle.pb_calls.proofs.laws.a_segment_lies_within_its_matrix.Goals as goal

pub returns : goal.returns
returns c = λ p number t a sizes well sound at found range u n d there decl. let below = segment_below p number t a sizes well sound at found range u n d there decl in (below.across, below.down)
