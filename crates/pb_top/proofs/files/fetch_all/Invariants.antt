use Rattle.std.proofs.Common.{◌≡◌, take}
use Rattle.pb_outside.specs.Shelf.{asked_after}
use Rattle.pb_top.specs.Working.{contents_of, texts_of}
use Rattle.pb_top.proofs.FileLemmas.{Reading}
use Rattle.pb_top.proofs.files.fetch_all.Given as goal

abbrev pub invariant-loop-name : goal.invariant-loop-name
invariant-loop-name g l =
    record {
      stays : g.S.Shelf.files l.shelf ≡ g.S.Shelf.files l.fn.shelf;
      sound : g.S.Shelf.faults l.shelf ≡ g.S.Shelf.faults l.fn.shelf;
      asked : g.S.Shelf.asked l.shelf ≡ asked_after (take l.name-index (texts_of l.names)) (g.S.Shelf.asked l.fn.shelf);
      untaken : l.name-index ≡ 0 → g.S.Shelf.taken l.shelf ≡ g.S.Shelf.taken l.fn.shelf;
      read : Reading (g.S.Shelf.files l.fn.shelf) (texts_of l.names) l.name-index (contents_of l.contents.items);
    }
