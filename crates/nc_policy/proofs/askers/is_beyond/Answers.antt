use Rattle.std.proofs.Common.{◌-◌, ◌<◌, ◌≤◌, length, get_or, arith}
use Rattle.std.proofs.lemmas.Bool.{ltb-true}
use Rattle.std.proofs.lemmas.Option.{slice_get-get_or, slice_get_within}
use Rattle.nc_policy.proofs.Ranging.{apart, rises}
use Rattle.nc_policy.proofs.askers.is_beyond.Goals as goal

pub returns-then-community-first : goal.returns-then-community-first
returns-then-community-first c = λ yes k a at.
    let xs = c.args.items.now in
    let within : k < length xs = slice_get_within xs k a at in
    let some : 0 < length xs = omega arith in
    let le : (get_or xs 0 (record { community = 0; place = 0 })).community ≤ a.community = rises xs c.requires 0 k (get_or xs 0 (record { community = 0; place = 0 })) a (slice_get-get_or xs 0 (record { community = 0; place = 0 }) some) at (omega arith) in
    let less = ltb-true c.args.community (get_or xs 0 (record { community = 0; place = 0 })).community yes in
    apart a.community c.args.community (λ e. omega arith)

pub returns-else-community-first : goal.returns-else-community-first
returns-else-community-first c = λ yes k a at.
    let xs = c.args.items.now in
    let within : k < length xs = slice_get_within xs k a at in
    let place = length xs - 1 in
    let last : place < length xs = omega arith in
    let le : a.community ≤ (get_or xs place (record { community = 0; place = 0 })).community = rises xs c.requires k place a (get_or xs place (record { community = 0; place = 0 })) at (slice_get-get_or xs place (record { community = 0; place = 0 }) last) (omega arith) in
    let less = ltb-true (get_or xs place (record { community = 0; place = 0 })).community c.args.community yes in
    apart a.community c.args.community (λ e. omega arith)
