use Rattle.std.proofs.Common.{◌<◌, List, ℕ, length, sym, subst, arith}
use Rattle.std.specs.Str.{IsAscii}
use Rattle.nc_report.proofs.Counting.{none}
use Rattle.nc_report.proofs.object.router_values.Goals as goal

pub router_value-requires-clause-name : goal.router_value-requires-clause-name
router_value-requires-clause-name c =
    let lt : c.routers.router < length c.args.listing.now = omega (arith, c.routers-test.true, c.len-router-end.ensures) in
    subst (λ (bs : List ℕ). IsAscii bs) (sym c.name.ensures) (c.requires c.routers.router none lt).name

pub router_value-requires-clause-letters : goal.router_value-requires-clause-letters
router_value-requires-clause-letters c =
    let lt : c.routers.router < length c.args.listing.now = omega (arith, c.routers-test.true, c.len-router-end.ensures) in
    subst (λ (bs : List ℕ). IsAscii bs) (sym c.letters.ensures) (c.requires c.routers.router none lt).letters
