use Rattle.std.proofs.Common.{◌≡◌, ◌<◌, ◌-◌, ◌∙◌, ℕ, true, false, length, get_or, arith, rules}
use Rattle.std.specs.Ordering.{is_lt}
use Rattle.nc_types.specs.Cidr.{same_prefix}
use Rattle.nc_tables.specs.Base.{prefix_cmp}
use Rattle.nc_policy.specs.declared.prefix_places.PlacedPrefix.{PlacedPrefix}
use Rattle.nc_policy.proofs.KeyOrder.{found_at, others_upto}
use Rattle.nc_policy.proofs.SpotOrder.{prefixes}
use Rattle.nc_policy.proofs.prefix_places.place_by_number.Goals.{then-of-eq0, else-of-eq0}
use Rattle.nc_policy.proofs.prefix_places.place_by_number.Goals as goal

pub returns-then-eq : goal.returns-then-eq
returns-then-eq c =
    let items = c.args.items.now in
    let prefix = c.args.of.prefix in
    let number = c.args.of.number in
    let placed = c.in_ok-placed.placed.now in
    let read : placed ≡ get_or items number placed = search rules in
    let inside : number < length items = search rules in
    let same : same_prefix placed.prefix prefix ≡ true = search rules in
    let others : (k : ℕ) (d : PlacedPrefix) → k < number → same_prefix prefix (get_or items k d).prefix ≡ false =
    elim c.if-of-eq0.branch [
      | then-of-eq0 w ↦ λ k d lt. absurd (omega arith)
      | else-of-eq0 w ↦ λ k d lt.
          let front = w.index-items-of.result in
          let some : 0 < number = search rules in
          let less : is_lt (prefix_cmp front.prefix prefix) ≡ true = search rules in
          others_upto prefixes prefix items c.requires (number - 1) front w.index-items-of.is (omega arith) less k d (omega arith)
    ] in
    found_at prefixes prefix items c.requires number placed read inside (prefixes.same_back prefix placed.prefix ∙ same) others
