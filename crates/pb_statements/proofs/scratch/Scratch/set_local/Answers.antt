use Rattle.std.proofs.Common.{◌≡◌, rules, to_z, of_z, w64}
use Rattle.pb_statements.specs.Stored.{store_of}
use Rattle.pb_statements.proofs.StoreLemmas.{local_put}
use Rattle.pb_statements.proofs.scratch.Scratch.set_local.Goals as goal

pub returns-clause-store : goal.returns-clause-store
unfolding store_of
returns-clause-store c =
    let same : to_z w64 (of_z w64 c.args.n) ≡ c.args.n = search rules in
    local_put c.args.self.now.locals.items _ _ c.args.k _ _ same c.requires
