use Rattle.std.proofs.Common.{◌≡◌, drop}
use Rattle.pb_model.specs.Bodies.{dot_product, products}
use Rattle.pb_statements.specs.Places.{grid_shown}
use Rattle.pb_statements.specs.declared.shown.Shown.TheVariants.{Told}
use Rattle.pb_statements.proofs.products.dot_rows.Given as goal

abbrev pub invariant-loop-i : goal.invariant-loop-i
invariant-loop-i g l =
    let vs = (grid_shown g.N.NamesTurn.turn l.scratch.numbers.items (Told l.left)).cells in
    let ws = (grid_shown g.N.NamesTurn.turn l.scratch.numbers.items (Told l.right)).cells in
    record {
      dot : products l.total (drop l.i vs) (drop l.i ws) ≡ dot_product vs ws;
      same_reference : l.port.reader.ghost_name ≡ l.initial.port.reader.ghost_name;
    }
