-- Rows in order of their prefixes, and those of the longest prefix that covers an address.
use Rattle.std.specs.Prelude.{ℕ, ◌+◌, Bool, not, ◌&&◌, nat_lt, List, [], ◌∷◌, All, if◌then◌else◌}
use Rattle.std.specs.List.{list_any}
use Rattle.std.specs.List.Sorted.{IsSortedByKey}
use Rattle.nc_types.specs.Cidr.{Cidr, IsCidr}
use Rattle.nc_tables.specs.Base.{covers, prefix_cmp}

-- rows in order of their prefixes, none of which has host bits
pub record AreByPrefix {A : Type 0} (prefix_of : A → Cidr) (rows : List A) : Type 0 where
  pub ordered : IsSortedByKey prefix_of prefix_cmp rows
  pub valid : All (λ row. IsCidr (prefix_of row).base (prefix_of row).len) rows

-- a prefix that covers the address, and none of these that covers it is longer
abbrev pub is_longest : List Cidr → ℕ → Cidr → Bool
is_longest prefixes addr p = covers p addr && not (list_any (λ q. covers q addr && nat_lt p.len q.len) prefixes)

-- the places of those that pass a test, the first of which has this place
abbrev pub places_from : {A : Type 0} → (A → Bool) → ℕ → List A → List ℕ
places_from test place [] = []
places_from test place (x ∷ xs) = if test x then place ∷ places_from test (place + 1) xs else places_from test (place + 1) xs

-- the places of the rows of the longest prefix that covers an address, given the prefix of each row
unfoldable pub longest : List Cidr → ℕ → List ℕ
longest prefixes addr = places_from (is_longest prefixes addr) 0 prefixes
