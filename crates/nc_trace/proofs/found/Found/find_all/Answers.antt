use Rattle.std.proofs.Common.{◌≡◌, ◌<◌, ◌≤◌, Some, length, slice_get, sym, ap, subst, ◌∙◌, arith, inl, inr}
use Rattle.std.specs.List.{slice_index_or}
use Rattle.nc_trace.specs.Found.{IsCoveredOrNone, IsCoveredOrListed, ways_out}
use Rattle.std.proofs.lemmas.Bool.{cases_lt}
use Rattle.std.proofs.lemmas.Option.{slice_get-get_or}
use Rattle.nc_trace.proofs.Finding.{goes_more, closed_by, leads_by}
use Rattle.nc_trace.proofs.Growing.{IsDone, done_still, all_done, closed_then}
use Rattle.nc_trace.proofs.found.Found.find_all.Goals as goal

pub routers-init : goal.routers-init
routers-init c =
    let count = length c.args.state.now.routers in
    let found = c.args.self.now in
    record {
      room = c.requires.room;
      ways = c.requires.found.ways;
      tables = c.requires.tables;
      leads = λ router there k d lt. goes_more (IsCoveredOrNone count found) (IsCoveredOrListed count c.args.list.items found) (λ next is. inl is) (slice_index_or (ways_out c.args.state.now c.args.packet router) k d).outcome
          (leads_by c.args.state.now c.args.packet found c.requires.found.closed router there k d lt);
      done = λ place lt. absurd (omega (arith, lt));
      more = λ other there. there;
      kept = λ place router e. e;
    }

pub returns-then-place-len-clause-found : goal.returns-then-place-len-clause-found
returns-then-place-len-clause-found c =
    let count = length c.args.state.now.routers in
    let list = c.routers.list.items in
    let last : length list ≤ c.routers.place = omega (arith, c.len.ensures, c.routers.list.ok.0, c.if-place-len.true) in
    record {
      ways = c.routers.invariant.ways;
      closed = closed_by c.args.state.now c.args.packet c.routers.self (closed_then c.args.state.now c.args.packet count list c.routers.self (all_done count list c.routers.self c.routers.place last c.routers.invariant.done) c.routers.invariant.leads);
    }

pub returns-then-place-len-clause-listed : goal.returns-then-place-len-clause-listed
returns-then-place-len-clause-listed c router is =
    let list = c.routers.list.items in
    let last : length list ≤ c.routers.place = omega (arith, c.len.ensures, c.routers.list.ok.0, c.if-place-len.true) in
    all_done (length c.args.state.now.routers) list c.routers.self c.routers.place last c.routers.invariant.done router
    (record { place = is.place; at = c.routers.invariant.kept is.place (record { 0 = router }) is.at })

pub routers-preserved : goal.routers-preserved
routers-preserved c =
    let count = length c.args.state.now.routers in
    let before = c.routers.list.items in
    let after = c.find_next.new.list.items in
    let done = c.in_ok-find_next.ensures in
    let here : c.routers.place < length before = omega (arith, c.len.ensures, c.routers.list.ok.0, c.if-place-len.false) in
    let at : slice_get before c.routers.place ≡ Some c.index.result.now = slice_get-get_or before c.routers.place c.index.result.now here ∙ ap Some (sym c.index.ensures) in
    record {
      room = omega (arith, c.find_next.ensures.room, c.routers.invariant.room);
      ways = done.ways;
      tables = c.find_next.ensures.tables;
      leads = done.leads;
      done = λ place lt. elim (cases_lt place c.routers.place) [
        | inl less ↦ done_still count before after c.routers.self c.find_next.new.self c.find_next.ensures.kept done.more place (c.routers.invariant.done place less)
        | inr le ↦
            let this : c.routers.place ≡ place = omega (arith, le, lt) in
            subst (IsDone count after c.find_next.new.self) this (record { router = c.index.result.now; at = c.find_next.ensures.kept c.routers.place c.index.result.now at; covered = done.done })
      ];
      more = λ other there. done.more other (c.routers.invariant.more other there);
      kept = λ place router e. c.find_next.ensures.kept place router (c.routers.invariant.kept place router e);
    }
