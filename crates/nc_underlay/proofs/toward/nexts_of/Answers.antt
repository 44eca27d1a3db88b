use Rattle.std.proofs.Common.{◌≡◌, ◌-◌, Some, None, map, ap, sym, ◌∙◌, arith}
use Rattle.std.specs.List.{range_with_len}
use Rattle.std.proofs.lemmas.List.{map_push, append-nil}
use Rattle.nc_types.specs.declared.config.RouterId.{RouterId}
use Rattle.nc_underlay.proofs.Nexts.{nexts_by, nexts_by_rows, nexts_more}
use Rattle.nc_underlay.proofs.toward.nexts_of.Goals as goal
use Rattle.nc_underlay.proofs.toward.nexts_of.Goals.{in-Some+in_ok-push, in_default}

pub rows-preserved : goal.rows-preserved
rows-preserved c =
    let network = c.args.network.now in
    let base = c.args.base.now in
    let before = map (λ (next : RouterId). next.0) c.rows.made.items in
    elim c.match-leads_to.branch [
      | in-Some+in_ok-push w ↦ record {
        made =
            ap (λ v. map (λ (next : RouterId). next.0) v.items) w.made-is ∙ ap (map (λ (next : RouterId). next.0)) w.in_ok-push.ensures.items ∙ map_push (λ (next : RouterId). next.0) c.rows.made.items w.in-Some.next
            ∙ nexts_more network base c.args.addr.0 c.args.router.0 c.longest-rows.result.from c.rows.place before (Some (record { router = w.in-Some.next.0; place = w.in-Some.field-0-1.0 })) c.rows.auto.place (sym w.in-Some.ensures.leads) c.rows.invariant.made;
      }
      | in_default w ↦ record {
        made =
            ap (λ v. map (λ (next : RouterId). next.0) v.items) w.made-is ∙ sym (append-nil before)
            ∙ nexts_more network base c.args.addr.0 c.args.router.0 c.longest-rows.result.from c.rows.place before None c.rows.auto.place (sym w.in_default.ensures.leads) c.rows.invariant.made;
      }
    ]

pub returns : goal.returns
returns c =
    let from = c.longest-rows.result.from in
    let last : c.rows.place - from ≡ c.longest-rows.result.to - from = omega arith in
    c.rows.invariant.made
    ∙ ap (λ n. nexts_by c.args.network.now c.args.base.now c.args.addr.0 c.args.router.0 (range_with_len from n)) last
    ∙ nexts_by_rows c.args.network.now c.args.base.now c.args.addr.0 c.args.router.0 from (c.longest-rows.result.to - from) c.longest-rows.ensures.rows
