use Rattle.std.proofs.Common.{sym}
use Rattle.pb_config.proofs.SiteLemmas.{few_matrices, bare_at, site_found}
use Rattle.pb_config.proofs.site.find_site.Goals as goal

pub find_matrix-requires : goal.find_matrix-requires
find_matrix-requires c =
    record { few = few_matrices _ _ _ _ c.requires.well_formed.transforms (bare_at c.args.p.now _ _ c.in_ok-number.ensures.within c.index-p-number.is) }

pub returns-in_default : goal.returns-in_default
returns-in_default c = site_found _ _ _ _ _ _ (sym c.in_ok-number.ensures.number)
    (bare_at c.args.p.now _ _ c.in_ok-number.ensures.within c.index-p-number.is) (sym c.in_default.ensures)

pub returns : goal.returns
returns c = site_found _ _ _ _ _ _ (sym c.in_ok-number.ensures.number)
    (bare_at c.args.p.now _ _ c.in_ok-number.ensures.within c.index-p-number.is) (sym c.in-Some.ensures)
