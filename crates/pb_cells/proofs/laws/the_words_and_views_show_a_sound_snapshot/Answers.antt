use Rattle.pb_core.specs.Snapshots.{snapshot_of}
use Rattle.pb_core.proofs.SnapshotLemmas.{shows-sound}
use Rattle.pb_cells.specs.Banks.{bank_of}
use Rattle.pb_cells.proofs.ShownLemmas.{story-order, story-shows}
use Rattle.pb_cells.proofs.laws.the_words_and_views_show_a_sound_snapshot.Goals as goal

pub returns : goal.returns
returns c = λ p s holds. (
  snapshot_of p.graph holds.story.core,
  shows-sound p holds.plan holds.story.core holds.is.tells.sound,
  story-order p holds.plan (bank_of p.graph s.words) holds.story holds.is.tells,
  story-shows p holds.plan (bank_of p.graph s.words) s.views holds.story holds.is,
)
