use Rattle.std.proofs.Common.{◌≡◌, ◌*◌, ◌≤◌, ◌^◌, ℤ, List, drop, unsigned_abs}
use Rattle.pb_model.specs.Bodies.{dot_product, products}
use Rattle.pb_statements.specs.Places.{grid_shown}
use Rattle.pb_statements.specs.declared.shown.Shown.TheVariants.{Told}
use Rattle.pb_statements.proofs.products.dot_small.Given as goal

abbrev pub invariant-loop-pair : goal.invariant-loop-pair
invariant-loop-pair g l = record {
  dot : (numbers : List ℤ) → products l.total (drop (l.pair * 2) (grid_shown g.N.NamesTurn.turn numbers (Told l.left)).cells) (drop (l.pair * 2) (grid_shown g.N.NamesTurn.turn numbers (Told l.right)).cells)
      ≡ dot_product (grid_shown g.N.NamesTurn.turn numbers (Told l.left)).cells (grid_shown g.N.NamesTurn.turn numbers (Told l.right)).cells;
  small : unsigned_abs l.total ≤ l.pair * 2 ^ 41;
  same_reference : l.port.reader.ghost_name ≡ l.initial.port.reader.ghost_name;
}
