use Rattle.std.proofs.Common.{None, Some, Bool, List, cond, ap, ◌∙◌}
use Rattle.std.specs.Prelude.{nat_eq}
use Rattle.std.specs.Option.{option_or}
use Rattle.nc_policy.specs.declared.spot_table.Spot.{Spot}
use Rattle.nc_policy.specs.declared.spot_table.Placed.{Placed}
use Rattle.nc_policy.specs.Placing.{same_spot}
use Rattle.nc_policy.specs.Seen.{spot_at, spot_in}
use Rattle.nc_policy.proofs.SpotOrder.{spots}
use Rattle.nc_policy.proofs.Spots.{spot_put, spot_pushed}
use Rattle.nc_policy.proofs.index.put_at.Goals as goal

pub returns-in_ok-push : goal.returns-in_ok-push
returns-in_ok-push c = λ q n.
    let entry = c.args.entry.now in
    let place = c.args.place in
    let old = c.args.items.now.items in
    let pushed : Placed = record { spot = c.spot_of-spot.result; place = place } in
    ap (λ (l : List Placed). spot_in l q n) c.in_ok-push.ensures.items ∙ spot_pushed old pushed q n
    ∙ ap (λ (s : Spot). option_or (spot_in old q n) (cond (same_spot (spot_at q n) s) (Some place) None)) c.spot_of-spot.ensures.spot
    ∙ ap (λ (b : Bool). option_or (spot_in old q n) (cond b (Some place) None)) (spots.same_back (spot_at q n) (spot_at entry.prefix c.args.len))
    ∙ ap (option_or (spot_in old q n)) (spot_put (nat_eq entry.prefix.base q.base) (nat_eq entry.prefix.len q.len) entry.low entry.high c.args.len n place c.if-entry-len.true c.if-len-entry.true)
