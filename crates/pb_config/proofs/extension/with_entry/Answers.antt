use Rattle.std.proofs.Common.{arith, ◌∙◌}
use Rattle.pb_config.proofs.ExtensionLemmas.{in_place, at_end}
use Rattle.pb_config.proofs.extension.with_entry.Goals as goal

pub returns-then-place-entries : goal.returns-then-place-entries
returns-then-place-entries c =
    in_place (record { site = c.args.site.now; selector = c.args.selector }) (record { site = c.in_ok-site.site; selector = c.args.selector }) c.args.entries.now c.in_ok-all.all.items
    c.place_of-place.result (λ i. record { site = c.in_ok-site.ensures i; selector = c.args.selector }) c.place_of-place.ensures c.in_ok-all.ensures
    (omega (arith, c.if-place-entries.true))

pub returns : goal.returns
returns c =
    c.in_ok-push.ensures.items ∙
    at_end (record { site = c.args.site.now; selector = c.args.selector }) (record { site = c.in_ok-site.site; selector = c.args.selector }) c.args.entries.now c.in_ok-all.all.items
    c.place_of-place.result (λ i. record { site = c.in_ok-site.ensures i; selector = c.args.selector }) c.place_of-place.ensures c.in_ok-all.ensures
    (omega (arith, c.if-place-entries.false))
