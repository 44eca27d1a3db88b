use Rattle.std.proofs.Common.{List, ap, sym, ◌∙◌}
use Rattle.std.specs.Prelude.{slice_get}
use Rattle.nc_policy.specs.Indexes.{RouterTables}
use Rattle.nc_policy.specs.Seen.{router_tables}
use Rattle.nc_policy.proofs.Permitting.{seen_at}
use Rattle.nc_policy.proofs.policies.Policies.tables.Goals as goal

pub returns : goal.returns
returns c = λ routers config are at.
    let tables = c.in_ok-tables.tables.now in
    let read = c.in_ok-tables.ensures.lookup in
    let found = seen_at router_tables c.self.inside.routers.items c.deref.result.now c.args.router tables c.deref.ensures.value read.3.0 read.1 in
    are.each c.args.router config (router_tables tables) at (ap (λ (ts : List RouterTables). slice_get ts c.args.router) (sym c.self.view_is) ∙ found)
