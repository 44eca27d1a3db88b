use Rattle.std.proofs.Common.{◌≡◌, ℕ, List, [], ◌∷◌, ◌++◌, length, map, take, drop, sym, ap, subst, ◌∙◌, arith}
use Rattle.std.specs.List.{All}
use Rattle.std.proofs.lemmas.List.{take-append-le, length-append, map_push, append-nil, length-map, append_assoc}
use Rattle.std.proofs.Math.Seq.{drop-append_seam}
use Rattle.nc_types.specs.Config.{ConfigView, config_view}
use Rattle.nc_tables.specs.Forwarding as defined
use Rattle.nc_trace.specs.declared.alternative.Alternative.{Alternative}
use Rattle.nc_tables.specs.State.{StateView}
use Rattle.nc_trace.specs.declared.packet.Packet.{Packet}
use Rattle.nc_trace.specs.Found.{GoesTo, IsListedOrNone, all_from, ways_out}
use Rattle.nc_trace.specs.Views.{alternative_view, outcome_view}
use Rattle.nc_trace.proofs.Finding.{ways_more, pushed_behind}
use Rattle.nc_trace.proofs.Taking.{none_taken, taken_first}
use Rattle.nc_trace.proofs.found.push_ways.Goals as goal

pub ways-preserved : goal.ways-preserved
ways-preserved c =
    let s = c.args.state.now in
    let p = c.args.packet in
    let n = length c.args.ways.now.items in
    let items = c.ways.ways.items in
    let way = c.in_ok-way.way in
    let list = c.list_next.new.list.items in
    let left = all_from s p.from p.to.0 c.args.router.0 in
    let pushed : c.push.new.self.items ≡ items ++ way ∷ [] = c.in_ok-push.ensures.items in
    let size : length c.routers-count.result.now ≡ length c.args.state.now.routers = sym (length-map c.routers-count.result.now config_view) ∙ ap (λ (cs : List ConfigView). length cs) (c.routers-count.ensures.routers ∙ c.network.ensures.network) in
    record {
      before = ap (take n) pushed ∙ take-append-le n items (way ∷ []) c.ways.invariant.long ∙ c.ways.invariant.before;
      long = omega (arith, ap (λ (xs : List Alternative). length xs) pushed, length-append items (way ∷ []), c.ways.invariant.long);
      all =
          ap (λ (xs : List Alternative). map alternative_view xs ++ left c.next.new.self) pushed
          ∙ ap (λ (xs : List defined.Alternative). xs ++ left c.next.new.self) (map_push alternative_view items way)
          ∙ append_assoc (map alternative_view items) (alternative_view way ∷ []) (left c.next.new.self)
          ∙ ap (λ (w : defined.Alternative). map alternative_view items ++ w ∷ left c.next.new.self) c.in_ok-way.ensures.taken
          ∙ ap (λ (ws : List defined.Alternative). map alternative_view items ++ ws) (sym (taken_first s p.from p.to.0 c.args.router.0 (alternative_view c.in-Some.out) c.next.new.self))
          ∙ ap (λ (ws : List defined.Alternative). map alternative_view items ++ left ws) (sym c.in-Some.ensures)
          ∙ c.ways.invariant.all;
      tables = c.taken_by.ensures.tables;
      kept = λ place router e. c.list_next.ensures.kept place router (c.ways.invariant.kept place router e);
      listed =
          subst (All (λ (w : defined.Alternative). GoesTo (IsListedOrNone (length c.args.state.now.routers) list) w.outcome)) (sym (ap (λ (xs : List Alternative). drop n (map alternative_view xs)) pushed ∙ pushed_behind n items way c.ways.invariant.long))
          (ways_more (length c.args.state.now.routers) c.ways.list.items list c.list_next.ensures.kept (drop n (map alternative_view items)) (alternative_view way) c.ways.invariant.listed
          (subst (λ (count : ℕ). GoesTo (IsListedOrNone count list) (outcome_view way.outcome)) size c.in_ok-list_next.ensures.listed));
    }

all_pushed : (s : StateView) (p : Packet) (router : ℕ) (made old left : List defined.Alternative) → left ≡ [] → made ++ all_from s p.from p.to.0 router left ≡ old ++ ways_out s p router → made ≡ old ++ ways_out s p router
all_pushed s p router made old left none all =
    sym (append-nil made) ∙ ap (λ (ws : List defined.Alternative). made ++ ws) (sym (none_taken s p.from p.to.0 router)) ∙ ap (λ (ws : List defined.Alternative). made ++ all_from s p.from p.to.0 router ws) (sym none) ∙ all

pub returns-clause-ways : goal.returns-clause-ways
returns-clause-ways c =
    all_pushed c.args.state.now c.args.packet c.args.router.0 (map alternative_view c.ways.ways.items) (map alternative_view c.args.ways.now.items) c.ways.left c.in_default.ensures.0 c.ways.invariant.all

pub returns-clause-listed : goal.returns-clause-listed
returns-clause-listed c =
    let n = length c.args.ways.now.items in
    let out = ways_out c.args.state.now c.args.packet c.args.router.0 in
    let old = map alternative_view c.args.ways.now.items in
    let all = all_pushed c.args.state.now c.args.packet c.args.router.0 (map alternative_view c.ways.ways.items) old c.ways.left c.in_default.ensures.0 c.ways.invariant.all in
    let behind : drop n (map alternative_view c.ways.ways.items) ≡ out =
    ap (drop n) all ∙ ap (λ (k : ℕ). drop k (old ++ out)) (sym (length-map c.args.ways.now.items alternative_view)) ∙ drop-append_seam old out in
    subst (All (λ (w : defined.Alternative). GoesTo (IsListedOrNone (length c.args.state.now.routers) c.ways.list.items) w.outcome)) behind c.ways.invariant.listed
