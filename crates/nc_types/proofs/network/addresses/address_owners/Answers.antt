use Rattle.std.proofs.Common.{List, ◌∙◌, sym, ap, arith}
use Rattle.std.specs.Option.{option_map, option_or}
use Rattle.std.proofs.lemmas.List.{at_drop_all}
use Rattle.nc_types.specs.declared.config.RouterConfig.{RouterConfig}
use Rattle.nc_types.specs.Tables.{place_in, owner_by}
use Rattle.nc_types.proofs.Addressing.{ifaces_from, owners_are}
use Rattle.nc_types.proofs.Options.{or_none}
use Rattle.nc_types.proofs.network.addresses.address_owners.Goals as goal

pub returns : goal.returns
returns c addr =
    let rest = at_drop_all (λ (cs : List RouterConfig). option_or (owner_by c.routers.owners addr) (ifaces_from c.routers.router cs addr)) c.args.routers.now c.routers.router (omega arith) in
    ap (option_map place_in) (sym (or_none (owner_by c.routers.owners addr)) ∙ sym rest ∙ c.routers.invariant addr) ∙ owners_are 0 c.args.routers.now addr
