use Rattle.std.proofs.Common.{◌≡◌, ℕ, List, map, filter, not, ap, sym, ◌∙◌, subst}
use Rattle.nc_types.specs.Config.{ConfigView}
use Rattle.nc_types.specs.Network.{element_count}
use Rattle.nc_tables.specs.State.{StateView}
use Rattle.nc_fact.specs.Roots.{roots}
use Rattle.nc_rules.specs.Rules.{flow_of}
use Rattle.nc_rules.specs.Seen.{state_of}
use Rattle.nc_suite.specs.Dead as plain
use Rattle.nc_engine.specs.DeadElements.{AreDead, is_in_access_list}
use Rattle.nc_engine.proofs.Unmarked.{dead_from, numbers_kept}
use Rattle.nc_engine.proofs.dead_elements.dead_in.Goals as goal

pub returns : goal.returns
returns c =
    let s = state_of c.args.rules.now in
    let g = flow_of s in
    let ids = c.in_ok-elements.elements.items in
    let listed = map (λ e. e.0) ids in
    let routers : c.network-network.result.now ≡ s.routers = c.network-network.ensures.network ∙ ap (λ (st : StateView). st.routers) c.state.ensures in
    let count = c.element_count.ensures.count ∙ ap element_count routers in
    let dead = dead_from s (c.roots_are_those_that_hold.ensures s c.requires.state) listed
    (subst (λ (n : ℕ). plain.AreDead g (roots s) n listed) count
    (c.no_node_is_dead.ensures g (c.rules_make_a_flow.ensures s c.requires.state) c.args.graph.now c.len-facts.ensures.graph c.requires.mirrors (roots s) c.requires.closure
    c.element_count.result listed c.in_ok-elements.ensures)) in
    let kept = ap (map (λ e. e.0)) (c.drop_access_lists.ensures ∙ ap (λ (cs : List ConfigView). filter (λ e. not (is_in_access_list cs e.0)) ids) routers) ∙ numbers_kept (λ e. not (is_in_access_list s.routers e)) ids in
    subst (AreDead s) (sym kept) dead
