use Rattle.std.proofs.Common.{◌≡◌, List, All, ◌<◌, sym, subst}
use Rattle.std.specs.List.{dedup}
use Rattle.std.specs.List.Sorted.{IsNonDecreasingBy}
use Rattle.std.proofs.lemmas.List.Filters.{dedup_is}
use Rattle.std.proofs.lemmas.List.Kept.{IsStrictlySortedBy-dedup}
use Rattle.nc_types.specs.Cidr.{Cidr}
use Rattle.nc_tables.specs.Base.{same_prefix}
use Rattle.nc_tables.proofs.SideBySide.{prefix_total, same_by_cmp}
use Rattle.nc_policy.proofs.Sweeping.{rises}
use Rattle.nc_policy.proofs.policies.prefixes_in.Goals as goal

pub returns : goal.returns
returns c =
    let sorted = c.sort.new.self.items in
    let kept : c.dedup.new.self.items ≡ dedup same_prefix sorted = dedup_is same_prefix sorted c.dedup.new.self.items c.dedup.ensures.filtered in
    let strict = IsStrictlySortedBy-dedup prefix_total {E = same_prefix} same_by_cmp sorted c.in_ok-sort.ensures.sorted in
    record {
      rises = subst (λ (ps : List Cidr). IsNonDecreasingBy (λ (p : Cidr). p.base) ps) (sym kept) (rises (dedup same_prefix sorted) strict);
      fit = subst (λ (ps : List Cidr). All (λ (p : Cidr). p.base < 4294967296) ps) c.deref.ensures.value c.read_addresses.ensures;
    }
