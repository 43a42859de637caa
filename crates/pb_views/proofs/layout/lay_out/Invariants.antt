use Rattle.std.proofs.Common.{◌≡◌, ◌+◌, take}
use Rattle.pb_linear.specs.Sizes.{sizes_of}
use Rattle.pb_views.specs.Layouts.{AreInARow, cell_count}
use Rattle.pb_views.proofs.layout.lay_out.Given as goal

abbrev pub invariant-loop-decl : goal.invariant-loop-decl
invariant-loop-decl l = record {
  next : l.next ≡ l.first + cell_count (sizes_of l.s) (take l.decl-index l.decls);
  laid : AreInARow l.first (sizes_of l.s) (take l.decl-index l.decls) l.views.items;
}
