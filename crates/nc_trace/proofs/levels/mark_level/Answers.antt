use Rattle.std.proofs.Common.{None, ◌≡◌, ◌≢◌, ℕ, suc, true, false, ◌+◌, ◌<◌, ◌≤◌, length, List, ap, sym, subst, ◌∙◌, arith, inl, inr, get_or-set_same, get_or-set_other, length-set}
use Rattle.std.proofs.lemmas.Bool.{cases_lt}
use Rattle.std.proofs.lemmas.List.{length-map}
use Rattle.nc_types.specs.declared.TheConstants.{HOP_LIMIT}
use Rattle.nc_types.specs.Config.{ConfigView, config_view}
use Rattle.nc_underlay.specs.Distances.{fewest_of, IsMarked}
use Rattle.nc_underlay.proofs.Fewest.{done_more, still}
use Rattle.nc_trace.specs.Levels.{over}
use Rattle.nc_trace.proofs.Beyond.{past_all}
use Rattle.nc_trace.proofs.Marking.{all_stepped, not_over}
use Rattle.nc_trace.proofs.levels.mark_level.Goals as goal
use Rattle.nc_trace.proofs.levels.mark_level.Goals.{then-is_new, else-is_new}

pub routers-preserved : goal.routers-preserved
routers-preserved c =
    let arrives = over c.args.asked.state.now c.args.asked.by c.args.asked.addr.0 None in
    let steps = all_stepped c.args.asked.state.now c.args.asked.by c.args.asked.addr.0 c.requires.asked.none in
    let old = c.args.fewest.now in
    let now = c.routers.fewest in
    let router = c.routers.router in
    let views = ap (λ (cs : List ConfigView). length cs) c.routers-count.ensures.routers in
    let size = length-map c.routers-count.result.now config_view in
    elim c.if-is_new.branch [
      | then-is_new w ↦
          let long = sym (ap (λ (fs : List ℕ). length fs) w.fewest-is) ∙ c.if-is_new.array_long in
          let within : router < length now = omega (arith, views, size, length-set now router c.args.hops, long, c.routers-test.true, c.routers-count.ensures.few) in
          let is = sym w.if-is_new.true ∙ c.is_new.ensures in
          let at = ap (λ (fs : List ℕ). fewest_of fs router) w.fewest-is ∙ get_or-set_same now router c.args.hops (suc HOP_LIMIT) within in
          let apart : (r : ℕ) → r ≢ router → fewest_of c.if-is_new.fewest r ≡ fewest_of now r = λ r differ.
          ap (λ (fs : List ℕ). fewest_of fs r) w.fewest-is ∙ get_or-set_other now router r c.args.hops (suc HOP_LIMIT) differ in
          record {
            done = done_more arrives _ steps c.args.hops old now c.if-is_new.fewest router true c.requires.hops c.requires.before c.routers.invariant.done c.routers.invariant.rest is at apart;
            rest = λ r le. apart r (omega arith) ∙ c.routers.invariant.rest r (omega arith);
            same = λ e. absurd (cc);
          }
      | else-is_new w ↦
          let is = sym w.if-is_new.false ∙ c.is_new.ensures in
          let at = ap (λ (fs : List ℕ). fewest_of fs router) w.fewest-is in
          let apart : (r : ℕ) → r ≢ router → fewest_of c.if-is_new.fewest r ≡ fewest_of now r = λ r differ. ap (λ (fs : List ℕ). fewest_of fs r) w.fewest-is in
          record {
            done = done_more arrives _ steps c.args.hops old now c.if-is_new.fewest router false c.requires.hops c.requires.before c.routers.invariant.done c.routers.invariant.rest is at apart;
            rest = λ r le. apart r (omega arith) ∙ c.routers.invariant.rest r (omega arith);
            same = λ e. w.fewest-is ∙ c.routers.invariant.same (sym w.more-is ∙ e);
          }
    ]

pub returns-clause-marked : goal.returns-clause-marked
returns-clause-marked c r = elim (cases_lt r c.routers.router) [
  | inl lt ↦ c.routers.invariant.done r lt
  | inr le ↦
      let past : length c.routers-count.result.now ≤ r = omega (arith, le, c.routers-test.false) in
      let beyond = past_all c.routers-count.result.now c.network.result.now c.args.asked.state.now.routers r c.routers-count.ensures.routers c.network.ensures.network past in
      subst (λ (n : ℕ). IsMarked (over c.args.asked.state.now c.args.asked.by c.args.asked.addr.0 None) (c.args.hops + 1) n r) (sym (c.routers.invariant.rest r le))
      (still (over c.args.asked.state.now c.args.asked.by c.args.asked.addr.0 None) _ (all_stepped c.args.asked.state.now c.args.asked.by c.args.asked.addr.0 c.requires.asked.none) c.args.hops (fewest_of c.args.fewest.now r) r c.requires.hops (c.requires.before r) (not_over c.args.asked.state.now c.args.asked.by c.args.asked.addr.0 c.requires.asked.none None c.args.hops r beyond))
]
