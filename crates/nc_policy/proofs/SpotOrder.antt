-- The order of the keys of places.
use Rattle.std.proofs.Common.{◌≡◌, true, false, refl, arith}
use Rattle.std.specs.Cmp.{IsTotalOrder}
use Rattle.std.specs.Ordering.{is_eq}
use Rattle.std.proofs.lemmas.Bool.Decides.{nat_tests}
use Rattle.std.proofs.lemmas.Cmp.{nat_cmp_total, on_total, then_total}
use Rattle.nc_types.specs.Cidr.{Cidr, same_prefix}
use Rattle.nc_tables.specs.Base.{prefix_cmp}
use Rattle.nc_tables.proofs.SideBySide.{prefix_total, same_by_cmp}
use Rattle.nc_policy.specs.declared.spot_table.Spot.{Spot}
use Rattle.nc_policy.specs.declared.spot_table.Placed.{Placed}
use Rattle.nc_policy.specs.declared.prefix_places.PlacedPrefix.{PlacedPrefix}
use Rattle.nc_policy.specs.Placing.{same_spot, spot_cmp}
use Rattle.nc_policy.proofs.KeyOrder.{Keyed}
use Rattle.nc_policy.proofs.Numbering.{same_either}

pub spot_total : IsTotalOrder spot_cmp
spot_total = then_total (on_total (λ (s : Spot). s.addr.0) nat_cmp_total) (then_total (on_total (λ (s : Spot). s.prefix_len) nat_cmp_total) (on_total (λ (s : Spot). s.len) nat_cmp_total))

pub spot_back : (s t : Spot) → same_spot s t ≡ same_spot t s
spot_back s t = grind (arith, nat_tests)

pub spot_by_cmp : (s t : Spot) → same_spot s t ≡ is_eq (spot_cmp s t)
spot_by_cmp s t = grind (arith, nat_tests)

pub spot_both : (s a b : Spot) → same_spot a b ≡ true → same_spot s b ≡ false → same_spot s a ≡ false
spot_both s a b same other = grind (arith, nat_tests)

abbrev pub spots : Keyed Spot Placed
spots =
    record {
      key = λ x. x.spot;
      place = λ x. x.place;
      with_key = λ s. record { spot = s; place = 0 };
      keyed = λ s. refl;
      cmp = spot_cmp;
      same = same_spot;
      total = spot_total;
      same_by_cmp = spot_by_cmp;
      same_back = spot_back;
      same_both = spot_both;
    }

pub prefix_both : (p a b : Cidr) → same_prefix a b ≡ true → same_prefix p b ≡ false → same_prefix p a ≡ false
prefix_both p a b same other = grind (arith, nat_tests)

abbrev pub prefixes : Keyed Cidr PlacedPrefix
prefixes =
    record {
      key = λ x. x.prefix;
      place = λ x. x.place;
      with_key = λ p. record { prefix = p; place = 0 };
      keyed = λ p. refl;
      cmp = prefix_cmp;
      same = same_prefix;
      total = prefix_total;
      same_by_cmp = same_by_cmp;
      same_back = same_either;
      same_both = prefix_both;
    }
