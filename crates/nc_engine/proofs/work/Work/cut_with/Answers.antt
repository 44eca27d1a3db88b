use Rattle.std.proofs.Common.{◌≡◌, ◌∙◌, ℕ, Bool, false, List, [], ◌∷◌, Option, IfSome, ap, sym, subst}
use Rattle.std.specs.Prelude.{slice_index_or}
use Rattle.nc_types.specs.Config.{ConfigView}
use Rattle.nc_tables.specs.State.{StateView}
use Rattle.nc_cut.specs.Cuts as plain
use Rattle.nc_diagram.specs.Diagrams.{meaning}
use Rattle.nc_formula.specs.Parts.{carrying_each}
use Rattle.nc_rules.specs.Rules.{flow_of}
use Rattle.nc_rules.specs.Seen.{state_of}
use Rattle.nc_engine.specs.Cuts.{IsLeastCut, IsUncut, may_be_cut}
use Rattle.nc_engine.specs.Session.{test_in}
use Rattle.nc_engine.specs.Work.{tests_of}
use Rattle.nc_engine.proofs.Comparing.{facts-hold, option-weaker}
use Rattle.nc_engine.proofs.Cutting.{uncut-from, least-from}
use Rattle.nc_engine.proofs.Single.{cut_within}
use Rattle.nc_engine.proofs.work.Work.cut_with.Goals as goal

pub single_cut-requires-clause-elements : goal.single_cut-requires-clause-elements
single_cut-requires-clause-elements c = λ element may.
    let w = c.args.self.now in
    let s = state_of w.rules in
    let names = c.args.names.now in
    let net : c.network-network.result.now ≡ s.routers = c.network-network.ensures.network ∙ ap (λ (st : StateView). st.routers) c.state.ensures in
    cut_within s.routers names element
    (sym (ap (λ (fs : List Bool). slice_index_or fs element false) c.deref.ensures.value ∙ c.in_ok-free.ensures element ∙ ap (λ (cs : List ConfigView). may_be_cut cs names element) net) ∙ may)

pub returns-in-Some : goal.returns-in-Some
returns-in-Some c =
    let w = c.args.self.now in
    let s = state_of w.rules in
    let g = flow_of s in
    let flow = c.rules_make_a_flow.ensures s c.requires.work.state in
    let facts = (test_in (tests_of w) c.args.place).facts in
    let hold = facts-hold g w.graph c.requires.work.marked.mirrors w.tests.items c.args.place c.requires.work.nodes in
    let names = c.args.names.now in
    let free = c.deref.result.now in
    let net : c.network-network.result.now ≡ s.routers = c.network-network.ensures.network ∙ ap (λ (st : StateView). st.routers) c.state.ensures in
    let frees : (v : ℕ) → plain.is_free free v ≡ may_be_cut s.routers names v =
    λ v. ap (λ (fs : List Bool). slice_index_or fs v false) c.deref.ensures.value ∙ c.in_ok-free.ensures v ∙ ap (λ (cs : List ConfigView). may_be_cut cs names v) net in
    least-from g (c.carrying_is_evaluation.ensures.is g flow) s.routers names facts hold free frees c.in_ok-single.single.items
    (subst (λ (cut : List ℕ). plain.IsLeastCut (carrying_each g facts) free cut) (sym c.in_ok-single.ensures.items)
    (subst (λ (first : Option ℕ). IfSome first (λ v. plain.IsLeastCut (carrying_each g facts) free (v ∷ []))) c.in-Some.is c.in_ok-first.ensures))

pub returns : goal.returns
returns c =
    let w = c.args.self.now in
    let s = state_of w.rules in
    let g = flow_of s in
    let flow = c.rules_make_a_flow.ensures s c.requires.work.state in
    let facts = (test_in (tests_of w) c.args.place).facts in
    let evaluated = c.carrying_is_evaluation.ensures.is g flow in
    let hold = facts-hold g w.graph c.requires.work.marked.mirrors w.tests.items c.args.place c.requires.work.nodes in
    let names = c.args.names.now in
    let free = c.deref-2.result.now in
    let net : c.network-network.result.now ≡ s.routers = c.network-network.ensures.network ∙ ap (λ (st : StateView). st.routers) c.state.ensures in
    let frees : (v : ℕ) → plain.is_free free v ≡ may_be_cut s.routers names v =
    λ v. ap (λ (fs : List Bool). slice_index_or fs v false) c.deref-2.ensures.value ∙ c.in_ok-free.ensures v ∙ ap (λ (cs : List ConfigView). may_be_cut cs names v) net in
    let f = meaning w.store.nodes c.args.diagram in
    let same = c.law_of_same_functions.ensures in
    option-weaker (plain.HasNoCut f free) (IsUncut g s.routers names facts) (λ cut. plain.IsLeastCut f free cut.items) (λ cut. IsLeastCut g s.routers names facts cut.items)
    (λ none. uncut-from g evaluated s.routers names facts hold free frees (same.none f (carrying_each g facts) c.requires.means.means free none))
    (λ cut least. least-from g evaluated s.routers names facts hold free frees cut.items (same.least f (carrying_each g facts) c.requires.means.means free cut.items least))
    c.in_ok-cut.cut c.in_ok-cut.ensures
