use Rattle.std.proofs.Common.{◌≡◌, ap, ◌∙◌}
use Rattle.pb_types.specs.Sorts.{level_sort}
use Rattle.pb_types.specs.Least.{least, least_of}
use Rattle.pb_types.specs.Working.{expr_in, operand_in, operands_in}
use Rattle.pb_types.proofs.HeldLemmas.{chain_in}
use Rattle.pb_types.proofs.views.Bound.+expression.Goals as goal

pub expression-returns-in-Chain : goal.expression-returns-in-Chain
expression-returns-in-Chain t c =
    let a = c.in-Chain in
    let b = c.args.self.now in
    let parts : least_of (expr_in b c.args.e.now) ≡ least (least_of (operand_in b (level_sort a.level) a.first.value)) (least_of (operands_in b (level_sort a.level) a.rest.items))
    = ap (λ x. least_of (expr_in b x)) a.is ∙ chain_in b a.level a.first a.rest in cc (c.deref-in-Chain-2.ensures.value)
