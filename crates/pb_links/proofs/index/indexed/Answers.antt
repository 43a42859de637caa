use Rattle.std.proofs.Common.{◌∷◌, ◌++◌, [], sym, subst}
use Rattle.std.specs.List.{AllZip}
use Rattle.std.specs.List.Sorted.{IsPermutation}
use Rattle.std.proofs.lemmas.List.Elements.{AllZip-push}
use Rattle.pb_links.proofs.index.indexed.Goals as goal

pub loop-owners-preserved : goal.loop-owners-preserved
loop-owners-preserved c = subst (λ l. AllZip IsPermutation (c.loop-owners.yielded ++ c.in-Some.owners ∷ []) l) (sym c.in_ok-push.ensures.items) (AllZip-push IsPermutation c.loop-owners.yielded c.loop-owners.found.items c.in-Some.owners c.in_ok-of.field-0 c.loop-owners.invariant c.in_ok-of.ensures)
