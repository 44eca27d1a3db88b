use Rattle.std.proofs.Common.{◌≤◌, ap, ◌∙◌, arith}
use Rattle.std.specs.List.{slice_get}
use Rattle.std.specs.Option.{option_map}
use Rattle.nc_types.specs.declared.TheConstants.{HOP_LIMIT}
use Rattle.nc_tables.specs.Forwarding.{Alternative, arrives_by, goes_on}
use Rattle.nc_trace.specs.declared.packet.Packet.{Packet}
use Rattle.nc_trace.specs.Found.{ways_out}
use Rattle.nc_trace.specs.Packets.{packet_of}
use Rattle.nc_trace.specs.Traced.{arrives_as}
use Rattle.nc_trace.specs.Views.{outcome_view}
use Rattle.nc_trace.proofs.Tracing.{by_no_place, by_place}
use Rattle.nc_trace.proofs.arriving.step_by.Goals as goal

pub returns-in-Some : goal.returns-in-Some
returns-in-Some c =
    let s = c.args.state.now in
    let by = c.args.by in
    let addr = c.args.addr.0 in
    let few : c.args.hops ≤ HOP_LIMIT = omega (arith, c.if-hops-gt-HOP_LIMIT.false) in
    let there = c.in-Some.ensures ∙ ap (λ (p : Packet). option_map (λ (way : Alternative). way.outcome) (slice_get (ways_out s p c.args.router.0) c.args.place)) c.packet.ensures in
    c.leads_on.ensures (arrives_as s by) addr c.fewest_by.ensures
    ∙ by_place (arrives_by (goes_on (arrives_as s by) addr c.args.hops)) (ways_out s (packet_of by addr) c.args.router.0) c.args.place c.args.hops (outcome_view c.in-Some.outcome) few there

pub returns-in-None : goal.returns-in-None
returns-in-None c =
    let s = c.args.state.now in
    let by = c.args.by in
    let addr = c.args.addr.0 in
    let none = c.in-None.ensures ∙ ap (λ (p : Packet). option_map (λ (way : Alternative). way.outcome) (slice_get (ways_out s p c.args.router.0) c.args.place)) c.packet.ensures in
    by_no_place (arrives_by (goes_on (arrives_as s by) addr c.args.hops)) (ways_out s (packet_of by addr) c.args.router.0) c.args.place c.args.hops none
