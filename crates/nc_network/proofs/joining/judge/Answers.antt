use Rattle.std.proofs.Common.{map}
use Rattle.nc_types.specs.Config.{config_view}
use Rattle.nc_types.specs.Joining.{same_names, overlaps, same_addresses, undefined}
use Rattle.nc_network.proofs.Clashes.{found-none}
use Rattle.nc_network.proofs.joining.judge.Goals as goal

pub returns-clause-valid : goal.returns-clause-valid
returns-clause-valid c = λ formed.
    let routers = map config_view c.args.routers.now in
    record {
      each = formed;
      names = found-none _ (same_names routers) c.in_default.is c.name_clash.ensures;
      prefixes = found-none _ (overlaps routers) c.in_default-2.is c.in_ok-pair.ensures;
      addresses = found-none _ (same_addresses routers) c.in_default-3.is c.in_ok-pair-2.ensures;
      references = found-none _ (undefined routers) c.in_default-4.is c.in_ok-pair-3.ensures;
    }
