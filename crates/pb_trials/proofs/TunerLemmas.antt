-- The sites of a valid configuration are sites.
use Rattle.std.proofs.Common.{◌≡◌, List, [], ◌∷◌, map, subst, sym}
use Rattle.std.specs.List.{AllByRecursion}
use Rattle.pb_program.specs.Trees.{ProgTransform}
use Rattle.pb_program.specs.Configs.{ConfigValue, EntryValue, SiteValue, IsEntry, IsSite, IsValid}

each_site : (p : List ProgTransform) (entries : List EntryValue) → AllByRecursion (IsEntry p) entries → AllByRecursion (IsSite p) (map (λ e. e.site) entries)
each_site p [] all = tt
each_site p (e ∷ entries) all = (all.0.site, each_site p entries all.1)

pub are_sites : (p : List ProgTransform) (c : ConfigValue) (sites : List SiteValue) → IsValid p c → sites ≡ map (λ e. e.site) c.entries → AllByRecursion (IsSite p) sites
are_sites p c sites valid is = subst (AllByRecursion (IsSite p)) (sym is) (each_site p c.entries valid.entries)
