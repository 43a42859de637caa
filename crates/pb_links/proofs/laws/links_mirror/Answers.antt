use Rattle.pb_links.proofs.LawLemmas.{mirrored}
use Rattle.pb_links.proofs.laws.links_mirror.Goals as goal

pub returns : goal.returns
returns c tasks t u = mirrored tasks t u
