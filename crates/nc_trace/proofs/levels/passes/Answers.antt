use Rattle.std.proofs.Common.{◌≡◌, Bool, true, false, ap, sym, ◌∙◌}
use Rattle.nc_tables.specs.Forwarding.{Alternative, arrives_by, each_way, some_way}
use Rattle.nc_tables.specs.Reach.{owns}
use Rattle.nc_trace.specs.declared.packet.Packet.{Packet}
use Rattle.nc_trace.specs.Found.{ways_out}
use Rattle.nc_trace.specs.Packets.{packet_of}
use Rattle.nc_trace.specs.Traced.{ways_pass}
use Rattle.nc_underlay.specs.Distances.{is_earlier}
use Rattle.nc_trace.proofs.Passing.{by_ways_as, by_owner_as}
use Rattle.nc_trace.proofs.levels.passes.Goals as goal

pub returns-then-is_owner : goal.returns-then-is_owner
returns-then-is_owner c =
    let own : owns c.args.asked.state.now.routers c.args.router.0 c.args.asked.addr.0 ≡ true = sym (c.requires.asked.owner c.args.router.0) ∙ sym c.is_owner.ensures ∙ c.if-is_owner.true in
    by_owner_as c.args.asked.state.now c.args.asked.by c.args.asked.addr.0 c.args.router.0 (is_earlier c.args.fewest.now c.args.hops) own

pub returns-then-is_each : goal.returns-then-is_each
returns-then-is_each c =
    let other : owns c.args.asked.state.now.routers c.args.router.0 c.args.asked.addr.0 ≡ false = sym (c.requires.asked.owner c.args.router.0) ∙ sym c.is_owner.ensures ∙ c.if-is_owner.false in
    let ways = c.of-ways.ensures ∙ ap (λ (p : Packet). ways_out c.args.asked.state.now p c.args.router.0) c.packet.ensures in
    c.each_passes.ensures
    ∙ ap (each_way (λ (way : Alternative). arrives_by (is_earlier c.args.fewest.now c.args.hops) way.outcome)) ways
    ∙ ap (λ (b : Bool). ways_pass b (λ (way : Alternative). arrives_by (is_earlier c.args.fewest.now c.args.hops) way.outcome) (ways_out c.args.asked.state.now (packet_of c.args.asked.by c.args.asked.addr.0) c.args.router.0)) (sym c.if-is_each.true ∙ c.is_each.ensures)
    ∙ by_ways_as c.args.asked.state.now c.args.asked.by c.args.asked.addr.0 c.args.router.0 (is_earlier c.args.fewest.now c.args.hops) other

pub returns-else-is_each : goal.returns-else-is_each
returns-else-is_each c =
    let other : owns c.args.asked.state.now.routers c.args.router.0 c.args.asked.addr.0 ≡ false = sym (c.requires.asked.owner c.args.router.0) ∙ sym c.is_owner.ensures ∙ c.if-is_owner.false in
    let ways = c.of-ways.ensures ∙ ap (λ (p : Packet). ways_out c.args.asked.state.now p c.args.router.0) c.packet.ensures in
    c.some_passes.ensures
    ∙ ap (some_way (λ (way : Alternative). arrives_by (is_earlier c.args.fewest.now c.args.hops) way.outcome)) ways
    ∙ ap (λ (b : Bool). ways_pass b (λ (way : Alternative). arrives_by (is_earlier c.args.fewest.now c.args.hops) way.outcome) (ways_out c.args.asked.state.now (packet_of c.args.asked.by c.args.asked.addr.0) c.args.router.0)) (sym c.if-is_each.false ∙ c.is_each.ensures)
    ∙ by_ways_as c.args.asked.state.now c.args.asked.by c.args.asked.addr.0 c.args.router.0 (is_earlier c.args.fewest.now c.args.hops) other
