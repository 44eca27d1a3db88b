-- Rows by their router and prefix.
use Rattle.std.specs.Prelude.{◌≡◌, ℕ, List, AllPairs}
use Rattle.std.specs.Ordering.{nat_cmp, ordering_then}
use Rattle.std.specs.declared.cmp.Ordering.{Ordering}
use Rattle.std.specs.declared.cmp.Ordering.TheVariants.{Less}
use Rattle.nc_types.specs.Cidr.{Cidr}
use Rattle.nc_types.specs.declared.config.RouterId.{RouterId}
use Rattle.nc_tables.specs.Base.{prefix_cmp}

-- which row: that of a prefix at a router
abbrev pub Key : Type 0
Key = RouterId × Cidr

abbrev pub key : ℕ → Cidr → Key
key router p = (record { 0 = router }, p)

-- rows go by router, then by prefix
abbrev pub key_cmp : Key → Key → Ordering
key_cmp a b = ordering_then (nat_cmp a.0.0 b.0.0) (prefix_cmp a.1 b.1)

-- strictly in that order, so that none stands twice
abbrev pub AreInOrder : List Key → Type 0
AreInOrder keys = AllPairs (λ a b. key_cmp a b ≡ Less) keys
