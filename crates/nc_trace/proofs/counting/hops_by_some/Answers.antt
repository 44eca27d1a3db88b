use Rattle.std.proofs.Common.{None, ◌≡◌, Bool, ◌||◌, nat_le, List, [], sym, ap, ◌∙◌, arith, drop, map}
use Rattle.std.specs.List.{list_any, slice_index_or}
use Rattle.std.proofs.lemmas.Bool.{lt-leb}
use Rattle.std.proofs.lemmas.List.{drop_all, get_or_default, length-map}
use Rattle.nc_tables.specs.Forwarding as defined
use Rattle.nc_underlay.specs.Distances.{is_earlier}
use Rattle.nc_trace.specs.declared.alternative.Outcome.TheVariants.{Deliver}
use Rattle.nc_trace.specs.Views.{alternative_view}
use Rattle.nc_trace.proofs.Numbers.{some_next, or_none}
use Rattle.nc_trace.proofs.counting.hops_by_some.Goals as goal

pub ways-init : goal.ways-init
ways-init c = record { told = λ hops few. ap (λ (b : Bool). b || list_any (λ (way : defined.Alternative). defined.arrives_by (is_earlier c.args.fewest.now hops) way.outcome) (map alternative_view c.args.ways.now)) (lt-leb 31 hops (omega (arith, few))) }

pub ways-preserved : goal.ways-preserved
ways-preserved c =
    let way = slice_index_or c.args.ways.now c.ways.way-index (record { main = 0; base = None; outcome = Deliver }) in
    let read : way ≡ slice_index_or c.args.ways.now c.ways.way-index way = sym (get_or_default c.args.ways.now c.ways.way-index way (record { main = 0; base = None; outcome = Deliver }) c.ways-test.true) in
    record {
      told = λ hops few.
          some_next (λ (way : defined.Alternative). defined.arrives_by (is_earlier c.args.fewest.now hops) way.outcome) alternative_view c.args.ways.now c.ways.way-index way read c.ways-test.true
          (nat_le c.ways.least hops) (nat_le c.smaller-least.result hops)
          (c.smaller-least.ensures hops ∙ ap (λ (b : Bool). nat_le c.ways.least hops || b) (c.hops_by.ensures hops few))
          ∙ c.ways.invariant.told hops few;
    }

pub returns : goal.returns
returns c hops few =
    let p : defined.Alternative → Bool = λ way. defined.arrives_by (is_earlier c.args.fewest.now hops) way.outcome in
    let past : drop c.ways.way-index (map alternative_view c.args.ways.now) ≡ [] = drop_all c.ways.way-index (map alternative_view c.args.ways.now) (omega (arith, length-map c.args.ways.now alternative_view, c.ways-test.false)) in
    sym (or_none (nat_le c.ways.least hops))
    ∙ ap (λ (ways : List defined.Alternative). nat_le c.ways.least hops || list_any p ways) (sym past)
    ∙ c.ways.invariant.told hops few
