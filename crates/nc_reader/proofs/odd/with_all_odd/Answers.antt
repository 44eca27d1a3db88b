use Rattle.std.proofs.Common.{◌≡◌, ◌≤◌, ◌++◌, [], Bool, List, length, map, take, cond, Some, None, ap, ◌∙◌, arith}
use Rattle.std.specs.List.{filter_map, cons_option}
use Rattle.std.specs.Prelude.{Option}
use Rattle.std.proofs.lemmas.List.{take_all}
use Rattle.nc_types.specs.Faults.{lowest}
use Rattle.nc_types.specs.declared.fault.Fault.{Fault}
use Rattle.nc_types.specs.declared.fault.Cause.TheVariants.{Unsupported}
use Rattle.nc_read_filter.specs.declared.filters.OddLine.{OddLine}
use Rattle.nc_reader.specs.Configuration.{applied_by, odd_fault}
use Rattle.nc_reader.specs.Parts.{part_view}
use Rattle.nc_reader.proofs.OddLemmas.{odd-more}
use Rattle.nc_reader.proofs.odd.with_all_odd.Goals as goal

pub odd-preserved : goal.odd-preserved
odd-preserved c = λ fs same.
    let odd : List OddLine = c.args.odd.now in
    let fault : OddLine → Option Fault = odd_fault c.in_ok-names.names.keys in
    let before : List Fault = fs ++ filter_map fault (take c.odd.line-index odd) in
    c.with_odd-least.ensures before (c.odd.invariant fs same) ∙ ap (λ (o : OddLine). lowest (before ++ cons_option (fault o) [])) c.line-item.is
    ∙ odd-more fault fs odd c.odd.line-index c.line-item.result c.odd-test.true

pub returns : goal.returns
returns c = λ fs same.
    let odd : List OddLine = c.args.odd.now in
    let done : length odd ≤ c.odd.line-index = omega arith in
    let known : odd_fault c.in_ok-names.names.keys ≡ odd_fault (filter_map applied_by (map part_view c.args.parts.now)) = λ i o.
    ap (λ (b : Bool). cond b (Some (record { line = o.line; cause = Unsupported })) None) (c.in_ok-names.ensures o.list) i in
    c.odd.invariant fs same ∙ ap (λ (ls : List OddLine). lowest (fs ++ filter_map (odd_fault c.in_ok-names.names.keys) ls)) (take_all c.odd.line-index odd done)
    ∙ ap (λ (fault : OddLine → Option Fault). lowest (fs ++ filter_map fault odd)) known
