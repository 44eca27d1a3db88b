use Rattle.std.proofs.Common.{◌≡◌, ◌++◌, ℕ, cond, ◌&&◌, List, [], slice_index_or, Option, Some, None, All, length, refl, sym, ap, subst, ◌∙◌, append_assoc}
use Rattle.std.proofs.lemmas.List.Elements.{All-nil, All-append}
use Rattle.nc_types.specs.Config.{process_view}
use Rattle.nc_types.specs.declared.config.AggregateStatement.{AggregateStatement}
use Rattle.nc_types.specs.declared.config.Neighbor.{Neighbor}
use Rattle.nc_types.specs.declared.config.NetworkStatement.{NetworkStatement}
use Rattle.nc_tables.specs.declared.bgp.BgpFrom.TheVariants.{Aggregate, Origin}
use Rattle.nc_tables.specs.declared.bgp.Chosen.{Chosen}
use Rattle.nc_tables.specs.Base.{same_prefix}
use Rattle.nc_tables.specs.Rounds.{begun, entry_at, has_longer, made_from}
use Rattle.nc_decision.specs.Beginning.{aggregates_of, has_base_row, networks_of}
use Rattle.nc_message.specs.Inputs.{IsOf}
use Rattle.nc_decision.proofs.Making.{active_alike, kept_all, made_alike}
use Rattle.nc_decision.proofs.Standing.{as_many}
use Rattle.nc_decision.proofs.candidates.candidates.Goals as goal

pub add_entries-requires-clause-all : goal.add_entries-requires-clause-all
add_entries-requires-clause-all c =
    let i = c.args.inputs.now in
    as_many i.network.now i.base.now i.sessions.now c.args.router.0 c.args.peerings.now c.requires.peerings (process_view c.args.process.now) c.requires.process
    ∙ ap (length {A = Neighbor}) (sym c.deref.ensures.value)

joined : (start first second third x y z : List Chosen) → start ≡ [] → x ≡ start ++ first → y ≡ x ++ second → z ≡ y ++ third → z ≡ first ++ (second ++ third)
joined start first second third x y z none one two three =
    three ∙ ap (λ (l : List Chosen). l ++ third) (two ∙ ap (λ (l : List Chosen). l ++ second) (one ∙ ap (λ (l : List Chosen). l ++ first) none))
    ∙ append_assoc first second third

pub returns-clause-candidates : goal.returns-clause-candidates
returns-clause-candidates c =
    let p = c.args.of.now.prefix in
    let rows = slice_index_or c.args.ribs.now.rows c.args.router.0 [] in
    let process = c.args.process.now in
    let make : ℕ → Neighbor → Option Chosen = λ place n. entry_at c.args.inputs.now.network.now c.args.inputs.now.base.now c.args.inputs.now.sessions.now c.args.ribs.now.rows c.args.router.0 place p in
    let holds = has_base_row c.args.inputs.now.base.now c.args.router.0 p in
    let longer = has_longer rows p in
    joined c.in_ok-feasible.feasible.items (networks_of holds p process.networks.items) (aggregates_of longer p process.aggregates.items) (made_from make 0 c.deref.result.now)
    c.add_network.new.candidates.items c.add_aggregate.new.candidates.items c.add_entries.new.candidates.items
    c.in_ok-feasible.ensures.items c.in_ok-add_network.ensures c.in_ok-add_aggregate.ensures c.in_ok-add_entries.ensures.made
    ∙ ap (λ (l : List Neighbor). networks_of holds p process.networks.items ++ (aggregates_of longer p process.aggregates.items ++ made_from make 0 l)) c.deref.ensures.value
    ∙ ap (λ (l : List Chosen). networks_of holds p process.networks.items ++ (l ++ made_from make 0 process.neighbors.items))
    (made_alike (λ place a. cond (same_prefix a.prefix p && has_longer rows p) (Some (begun p (Aggregate place))) None)
    (λ place a. cond (same_prefix a.prefix p && has_longer rows a.prefix) (Some (begun p (Aggregate place))) None) (active_alike rows p) 0 process.aggregates.items)

pub returns-clause-own : goal.returns-clause-own
returns-clause-own c =
    let p = c.args.of.now.prefix in
    let holds = has_base_row c.args.inputs.now.base.now c.args.router.0 p in
    let longer = has_longer (slice_index_or c.args.ribs.now.rows c.args.router.0 []) p in
    let none : All (IsOf p) c.in_ok-feasible.feasible.items = subst (All (IsOf p)) (sym c.in_ok-feasible.ensures.items) (All-nil (IsOf p)) in
    let first : All (IsOf p) (networks_of holds p c.args.process.now.networks.items) = kept_all (IsOf p) (λ (n : NetworkStatement). same_prefix n.prefix p) holds (λ (k : ℕ). begun p (Origin k)) (λ k. refl) c.args.process.now.networks.items in
    let second : All (IsOf p) (aggregates_of longer p c.args.process.now.aggregates.items) = kept_all (IsOf p) (λ (a : AggregateStatement). same_prefix a.prefix p) longer (λ (k : ℕ). begun p (Aggregate k)) (λ k. refl) c.args.process.now.aggregates.items in
    let one : All (IsOf p) c.add_network.new.candidates.items = subst (All (IsOf p)) (sym c.in_ok-add_network.ensures) (All-append (IsOf p) c.in_ok-feasible.feasible.items (networks_of holds p c.args.process.now.networks.items) none first) in
    let two : All (IsOf p) c.add_aggregate.new.candidates.items =
    subst (All (IsOf p)) (sym c.in_ok-add_aggregate.ensures) (All-append (IsOf p) c.add_network.new.candidates.items (aggregates_of longer p c.args.process.now.aggregates.items) one second) in
    c.in_ok-add_entries.ensures.own two
