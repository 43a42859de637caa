use Rattle.pb_steal.proofs.DequeLemmas.{admits}
use Rattle.pb_steal.proofs.source.Source.new.Goals as goal

pub pass-pass-requires : goal.pass-pass-requires
pass-pass-requires g c = admits
