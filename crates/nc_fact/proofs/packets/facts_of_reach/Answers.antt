use Rattle.std.proofs.Common.{◌≡◌, ℕ, List, [], ◌∷◌, filter, Option, Some, IfOk, sym, ap, subst, ◌∙◌}
use Rattle.std.specs.Option.{option_map, option_map_or}
use Rattle.nc_types.specs.declared.TheConstants.{HOP_LIMIT}
use Rattle.nc_types.specs.declared.addr.Addr.{Addr}
use Rattle.nc_types.specs.declared.config.RouterId.{RouterId}
use Rattle.nc_types.specs.Config.{ConfigView}
use Rattle.nc_types.specs.Network.{router_named}
use Rattle.nc_fact.specs.declared.fact.Fact.TheVariants.{Trace}
use Rattle.nc_fact.specs.Facts.{holds}
use Rattle.nc_fact.specs.Tested.{packet_from}
use Rattle.nc_fact.proofs.packets.facts_of_reach.Goals as goal

pub returns-in-Some : goal.returns-in-Some
returns-in-Some c =
    let s = c.args.state.now in
    let router = c.in-Some.router in
    let named : router_named s.routers c.args.name.now ≡ Some router.0 =
    ap (λ (cs : List ConfigView). router_named cs c.args.name.now) (sym c.network.ensures.network) ∙ ap (router_named c.network.result.now) (sym c.bytes.ensures) ∙ sym c.in-Some.ensures in
    let from = λ (n : ℕ). let id : RouterId = record { 0 = n } in let start : RouterId × Addr = (id, c.args.addr) in start in
    let start : packet_from s c.args.name.now c.args.addr ≡ Some (router, c.args.addr) = ap (option_map from) named in
    let known = c.requires.traced (router, c.args.addr) start in
    subst (λ (o : Option ℕ). IfOk c.asked_reach.result (λ facts. facts.items ≡ filter (holds s) (option_map_or (λ (n : ℕ). Trace (record { 0 = n }) c.args.addr HOP_LIMIT ∷ []) o []))) (sym named)
    (c.asked_reach.ensures s known.0 known.1)
