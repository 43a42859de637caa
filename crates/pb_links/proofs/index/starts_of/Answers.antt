use Rattle.std.proofs.Common.{◌≡◌, ◌∙◌, ◌+◌, ◌-◌, ◌≤◌, subst, get_or, arith}
use Rattle.std.proofs.lemmas.Option.{slice_get-get_or}
use Rattle.std.proofs.Math.ListN.{length-set}
use Rattle.pb_links.specs.Indexed.{start}
use Rattle.pb_links.specs.declared.owners.Owned.{Owned}
use Rattle.pb_links.proofs.IndexLemmas.{least_more, starts_more}
use Rattle.pb_links.proofs.index.starts_of.Goals as goal

pub loop-left-preserved : goal.loop-left-preserved
loop-left-preserved c =
    let i = c.loop-left.invariant in
    let left = c.loop-left.left in
    let next : left ≡ (left - 1) + 1 = omega (arith, c.loop-left-test.true) in
    let none : Owned = record { task = 0; rect = record { x0 = 0; y0 = 0; x1 = 0; y1 = 0 } } in
    let there = slice_get-get_or c.args.list.now (left - 1) none (omega (arith, i.inside, c.loop-left-test.true)) in
    let one = get_or c.args.list.now (left - 1) none in
    let low : c.min-least.result ≤ start c.args.axis one.rect = subst (λ n. c.min-least.result ≤ n) c.start.ensures (omega (arith, c.min-least.ensures)) in
    let less : c.min-least.result ≤ c.loop-left.least = omega (arith, c.min-least.ensures) in
    record {
      long = length-set c.loop-left.starts.items (left - 1) c.min-least.result ∙ i.long;
      inside = omega (arith, i.inside);
      so_far = starts_more c.args.axis c.args.list.now c.loop-left.starts.items left (left - 1) c.loop-left.least c.min-least.result next one there low less i.so_far i.least;
      least = least_more c.args.axis c.args.list.now c.loop-left.starts.items left (left - 1) c.loop-left.least c.min-least.result next one there low less i.so_far i.least;
    }

pub returns : goal.returns
returns c k j o inside to is = c.loop-left.invariant.so_far k j o (omega (arith, c.loop-left-test.false)) inside to is
