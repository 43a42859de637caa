use Rattle.std.proofs.Common.{subst}
use Rattle.pb_links.specs.Indexed.{EndBy, StartFrom}
use Rattle.pb_links.proofs.index.Index.of.Goals as goal

pub invariant_of-result : goal.invariant_of-result
invariant_of-result c = (
  subst (λ l. EndBy c.axis_of-axis.result l c.in_ok-ends.ends.items) c.deref-2.ensures.value c.in_ok-ends.ensures,
  subst (λ l. StartFrom c.axis_of-axis.result l c.in_ok-starts.starts.items) c.deref-3.ensures.value c.in_ok-starts.ensures,
)
