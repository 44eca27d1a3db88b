use Rattle.std.proofs.Common.{None, ◌≡◌, Bool, true, false, suc, ◌&&◌, nat_eq, nat_le, nat_lt, List, [], ◌∷◌, refl, sym, ap, ◌∙◌, arith, drop, map, length}
use Rattle.std.specs.List.{list_all, slice_index_or}
use Rattle.std.proofs.lemmas.Bool.{eqb-true, le-leb, lt-leb, lt-ltb}
use Rattle.std.proofs.lemmas.List.{drop_all, get_or_default, length-map}
use Rattle.nc_tables.specs.Forwarding as defined
use Rattle.nc_underlay.specs.Distances.{is_earlier}
use Rattle.nc_trace.specs.declared.alternative.Alternative.{Alternative}
use Rattle.nc_trace.specs.declared.alternative.Outcome.TheVariants.{Deliver}
use Rattle.nc_trace.specs.Views.{alternative_view}
use Rattle.nc_trace.proofs.Numbers.{each_next, and_none}
use Rattle.nc_trace.proofs.counting.hops_by_each.Goals as goal

none_passes : (p : defined.Alternative → Bool) (ways : List Alternative) → nat_eq (length ways) 0 ≡ true → false ≡ defined.each_way p (map alternative_view ways)
none_passes p [] e = refl
none_passes p (way ∷ ways) e = absurd (omega (arith, eqb-true (suc (length ways)) 0 e))

some_are : (ways : List Alternative) → nat_eq (length ways) 0 ≡ false → true ≡ nat_lt 0 (length (map alternative_view ways))
some_are [] e = absurd cc
some_are (way ∷ ways) e = sym (lt-ltb 0 (suc (length (map alternative_view ways))) (omega arith))

pub returns-then-is_empty : goal.returns-then-is_empty
returns-then-is_empty c hops few =
    lt-leb 31 hops (omega (arith, few))
    ∙ none_passes (λ way. defined.arrives_by (is_earlier c.args.fewest.now hops) way.outcome) c.args.ways.now (sym c.is_empty.ensures ∙ c.if-is_empty.true)

pub ways-init : goal.ways-init
ways-init c = record { told = λ hops few. ap (λ (b : Bool). b && list_all (λ (way : defined.Alternative). defined.arrives_by (is_earlier c.args.fewest.now hops) way.outcome) (map alternative_view c.args.ways.now)) (le-leb 0 hops (omega arith)) }

pub ways-preserved : goal.ways-preserved
ways-preserved c =
    let way = slice_index_or c.args.ways.now c.ways.way-index (record { main = 0; base = None; outcome = Deliver }) in
    let read : way ≡ slice_index_or c.args.ways.now c.ways.way-index way = sym (get_or_default c.args.ways.now c.ways.way-index way (record { main = 0; base = None; outcome = Deliver }) c.ways-test.true) in
    record {
      told = λ hops few.
          each_next (λ (way : defined.Alternative). defined.arrives_by (is_earlier c.args.fewest.now hops) way.outcome) alternative_view c.args.ways.now c.ways.way-index way read c.ways-test.true
          (nat_le c.ways.most hops) (nat_le c.larger-most.result hops)
          (c.larger-most.ensures hops ∙ ap (λ (b : Bool). nat_le c.ways.most hops && b) (c.hops_by.ensures hops few))
          ∙ c.ways.invariant.told hops few;
    }

pub returns : goal.returns
returns c hops few =
    let p : defined.Alternative → Bool = λ way. defined.arrives_by (is_earlier c.args.fewest.now hops) way.outcome in
    let past : drop c.ways.way-index (map alternative_view c.args.ways.now) ≡ [] = drop_all c.ways.way-index (map alternative_view c.args.ways.now) (omega (arith, length-map c.args.ways.now alternative_view, c.ways-test.false)) in
    sym (and_none (nat_le c.ways.most hops))
    ∙ ap (λ (ways : List defined.Alternative). nat_le c.ways.most hops && list_all p ways) (sym past)
    ∙ c.ways.invariant.told hops few
    ∙ ap (λ (b : Bool). b && list_all p (map alternative_view c.args.ways.now)) (some_are c.args.ways.now (sym c.is_empty.ensures ∙ c.if-is_empty.false))
