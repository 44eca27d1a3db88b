use Rattle.std.proofs.Common.{◌≤◌, ℕ, List, Result, Ok, length, map, take, sym, ap, ◌∙◌, subst, arith}
use Rattle.std.specs.List.{filter_map}
use Rattle.nc_types.specs.declared.fault.Fault.{Fault}
use Rattle.nc_types.specs.declared.config.StaticRoute.{StaticRoute}
use Rattle.nc_read_policy.specs.Results.{ok_map}
use Rattle.nc_reader.specs.Parts.{AreRoutes, static_part}
use Rattle.nc_reader.specs.Things.{Routed, RoutePart, routed, statics_of, ok_of}
use Rattle.nc_reader.proofs.ReadLemmas.{fault_map, clean_more, read_more, all_clean, stops}
use Rattle.nc_reader.proofs.RouteLemmas.{statics-made}
use Rattle.nc_reader.proofs.routes.read_routes.Goals as goal

pub returns-in-Err : goal.returns-in-Err
returns-in-Err c =
    let lines = c.args.lines.now in
    fault_map c.in-Err.fault statics_of _ (stops (routed lines) c.args.places.now c.routes.line-index 0 c.in-Err.fault c.routes-test.true c.routes.invariant.clean (fault_map c.in-Err.fault _ _ c.in-Err.ensures))

pub routes-preserved : goal.routes-preserved
routes-preserved c =
    let lines = c.args.lines.now in
    let ks = c.args.places.now in
    let i = c.routes.line-index in
    let line : ℕ = _ in
    let as_routed : Result StaticRoute Fault → Result Routed Fault = ok_map (λ route. record { line = line; route = route }) in
    let read = ap as_routed c.in-Ok.ensures in
    record {
      same = c.in_ok-put.ensures.same;
      parts = subst (AreRoutes c.put.new.keys.keys c.put.new.parts.items) (sym (read_more (routed lines) ks i 0 _ c.routes-test.true read)) (c.in_ok-put.ensures.more _ c.routes.invariant.parts);
      clean = clean_more (routed lines) ks i 0 _ c.routes-test.true c.routes.invariant.clean read;
    }

pub returns : goal.returns
returns c =
    let lines = c.args.lines.now in
    let done : length c.args.places.now ≤ c.routes.line-index = omega arith in
    let whole : List RoutePart → Result (List RoutePart) Fault = λ rs. Ok rs in
    ap (ok_map statics_of) (all_clean (routed lines) c.args.places.now c.routes.line-index done c.routes.invariant.clean) ∙ ap whole (sym (statics-made (map static_part c.routes.parts.items) (filter_map ok_of (map (routed lines) (take c.routes.line-index c.args.places.now))) c.routes.invariant.parts.made))
