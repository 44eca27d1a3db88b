use Rattle.std.proofs.Common.{List, ◌∙◌, sym, ap, arith}
use Rattle.std.specs.Option.{option_map, option_or}
use Rattle.std.proofs.lemmas.List.{at_drop_all}
use Rattle.nc_types.specs.declared.config.RouterConfig.{RouterConfig}
use Rattle.nc_types.specs.declared.config.RouterId.{RouterId}
use Rattle.nc_types.specs.Tables.{named_by}
use Rattle.nc_types.proofs.Options.{or_none}
use Rattle.nc_types.proofs.Naming.{named_from, names_are}
use Rattle.nc_types.proofs.network.names.router_names.Goals as goal

pub returns : goal.returns
returns c name =
    let rest = at_drop_all (λ (cs : List RouterConfig). option_or (named_by c.routers.names name) (named_from c.routers.router cs name)) c.args.routers.now c.routers.router (omega arith) in
    ap (option_map (λ (r : RouterId). r.0)) (sym (or_none (named_by c.routers.names name)) ∙ sym rest ∙ c.routers.invariant name) ∙ names_are c.args.routers.now name
