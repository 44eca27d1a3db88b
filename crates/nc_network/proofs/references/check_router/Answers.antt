use Rattle.std.proofs.Common.{◌++◌}
use Rattle.nc_network.specs.declared.defined.ListKind.TheVariants.{OfPrefixes, OfCommunities}
use Rattle.nc_network.specs.Steps.{undefined_interfaces, undefined_maps, undefined_lists}
use Rattle.nc_network.proofs.Clashes.{found-two}
use Rattle.nc_network.proofs.Walks.{numbered}
use Rattle.nc_network.proofs.references.check_router.Goals as goal

pub returns : goal.returns
returns c =
    let n = numbered c.args.router c.args.config.now in
    let is = undefined_interfaces n in
    let ms = undefined_maps n in
    let ps = undefined_lists OfPrefixes n in
    let cs = undefined_lists OfCommunities n in
    let r1 = c.in_ok-found.found in
    let r2 = c.in_ok-found-2.found in
    let r3 = c.in_ok-found-3.found in
    let r4 = c.in_ok-found-4.found in
    found-two c.args.found r1 r4 is (ms ++ (ps ++ cs)) c.in_ok-found.ensures
    (found-two r1 r2 r4 ms (ps ++ cs) c.in_ok-found-2.ensures (found-two r2 r3 r4 ps cs c.in_ok-found-3.ensures c.in_ok-found-4.ensures))
