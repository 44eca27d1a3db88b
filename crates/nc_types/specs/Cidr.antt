-- A prefix as its network address and its length, and what it covers.
use Rattle.std.specs.Prelude.{◌≡◌, ℕ, ◌+◌, ◌/◌, ◌≤◌, ◌<◌, Bool, ◌&&◌, ◌==◌}
use Rattle.nc_types.specs.Masks.{size_of, network_of}

-- a network address and how many of its bits are fixed
pub record Cidr : Type 0 where
  pub base : ℕ
  pub len : ℕ

-- two prefixes are one
abbrev pub same_prefix : Cidr → Cidr → Bool
same_prefix p q = (p.base == q.base) && (p.len == q.len)

-- an address, and a length that leaves no host bit of it
pub record IsCidr (base len : ℕ) : Type 0 where
  pub within : len ≤ 32
  pub no_host_bits : network_of base len ≡ base

-- the first len bits agree
abbrev pub Covers : Cidr → ℕ → Type 0
Covers p addr = addr / size_of p.len ≡ p.base / size_of p.len

-- p is the outer prefix or a part of it
abbrev pub IsInside : Cidr → Cidr → Type 0
IsInside p outer = (outer.len ≤ p.len) × Covers outer p.base

-- from the network address on, as many addresses as the length leaves
abbrev pub IsInRange : Cidr → ℕ → Type 0
IsInRange p addr = (p.base ≤ addr) × (addr < p.base + size_of p.len)
