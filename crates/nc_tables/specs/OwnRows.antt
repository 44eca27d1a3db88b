-- The rows of a router's own, without those of prefixes that are passed.
use Rattle.std.specs.Prelude.{◌≡◌, List, All}
use Rattle.std.specs.List.{find}
use Rattle.nc_types.specs.Cidr.{Cidr}
use Rattle.nc_tables.specs.Base.{same_prefix}
use Rattle.nc_tables.specs.Rounds.{BgpRowView}

-- of each of some prefixes both have the same row, or none
abbrev pub HaveSameRows : List Cidr → List BgpRowView → List BgpRowView → Type 0
HaveSameRows prefixes rows others = All (λ p. find (λ row. same_prefix row.prefix p) rows ≡ find (λ row. same_prefix row.prefix p) others) prefixes
