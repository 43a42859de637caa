use Rattle.std.proofs.Common.{◌≡◌, drop}
use Rattle.pb_outside.specs.MemShelf.{entries_of}
use Rattle.pb_outside.specs.Shelf.{content_of}
use Rattle.pb_outside.proofs.mem_shelf.find.Given as goal

abbrev pub invariant-loop-key : goal.invariant-loop-key
invariant-loop-key l =
    content_of (entries_of l.files) l.name ≡ content_of (entries_of (drop l.key-index l.files)) l.name
