use Rattle.std.proofs.Common.{◌≡◌, ◌⊎◌, subst, ap, map, List}
use Rattle.std.specs.List.{Contains}
use Rattle.pb_counts.specs.Memos.{KnownCall, known_call}
use Rattle.pb_counts.proofs.MemoLemmas.{added, known, same_is, same_key}
use Rattle.pb_counts.proofs.memo.Memo.add.Goals as goal

pub returns : goal.returns
returns c = λ k h.
    let s = c.args.s.now in
    subst (λ (l : List KnownCall). Contains l k ⊎ (k ≡ known_call c.args.depth c.args.t s c.args.tally)) c.self.view_is
    (added same_key same_is (c.args.depth, c.args.t, s.count, s.of) c.args.tally c.self.inside.map.entries k (subst (λ (l : List KnownCall). Contains l k) (ap (map known) c.in_ok-insert.ensures.entries) h))
