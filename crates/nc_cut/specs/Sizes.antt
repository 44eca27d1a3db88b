-- The sizes of the least cuts of references, kept by place.
use Rattle.std.specs.Prelude.{◌≡◌, ℕ, ◌+◌, ◌<◌, ◌≤◌, nat_lt, Bool, true, false, if◌then◌else◌, List, length, Option, Some, None, IfSome, unwrap_or}
use Rattle.nc_diagram.specs.declared.node.Node.{Node}
use Rattle.nc_diagram.specs.declared.parts.Split.{Split}
use Rattle.nc_diagram.specs.Sets.{Members}
use Rattle.nc_diagram.specs.Diagrams.{meaning}
use Rattle.nc_diagram.specs.Splits.{Splits}
use Rattle.nc_cut.specs.declared.sizes.Sight.{Sight}
use Rattle.nc_cut.specs.declared.sizes.Sight.TheVariants.{Waits, Sized}
use Rattle.nc_cut.specs.Cuts.{IsLeastCut, HasNoCut}

-- the size of the function's least cut; none, where it has no cut
abbrev pub HasSize : (Members → Bool) → List Bool → Option ℕ → Type 0
HasSize f free None = HasNoCut f free
HasSize f free (Some n) = (cut : List ℕ) × IsLeastCut f free cut × (length cut ≡ n)

-- whether a least cut begins with a node's variable: it is free, and the least cut of the low end, which is left then, has fewer
-- variables than that of the high end
abbrev pub begins : Bool → Option ℕ → Option ℕ → Bool
begins false low high = false
begins true None high = false
begins true (Some n) None = true
begins true (Some n) (Some m) = nat_lt n m

-- one more
abbrev pub one_more : Option ℕ → Option ℕ
one_more None = None
one_more (Some n) = Some (n + 1)

-- the size of a node, by whether its variable is free and by the sizes of its ends
abbrev pub joined : Bool → Option ℕ → Option ℕ → Option ℕ
joined free low high = if begins free low high then one_more low else high

-- the size of a reference, which is no greater than its place
pub record IsSize (nodes : List Node) (free : List Bool) (r : ℕ) (size : Option ℕ) : Type 0 where
  pub has_size : HasSize (meaning nodes r) free size
  pub within : IfSome size (λ n. n ≤ r)

-- the sizes that are known, by place
abbrev pub Known : Type 0
Known = ℕ → Option (Option ℕ)

-- the size at a place, none where it is not known
abbrev pub entry : Known → ℕ → Option ℕ
entry sizes r = unwrap_or (sizes r) None

-- the size of this place is known
abbrev pub IsKnown : Known → ℕ → Type 0
IsKnown sizes r = (size : Option ℕ) × (sizes r ≡ Some size)

-- the sizes of both ends are known
abbrev pub HasEnds : List Node → Known → ℕ → Type 0
HasEnds nodes sizes r = (parts : Split) → Splits nodes r parts → IsKnown sizes parts.low × IsKnown sizes parts.high

-- each size that is known is that of its reference, whose ends are known too
abbrev pub AreSizes : List Node → List Bool → Known → Type 0
AreSizes nodes free sizes = (r : ℕ) (size : Option ℕ) → sizes r ≡ Some size → IsSize nodes free r size × HasEnds nodes sizes r

-- what is seen of a reference: its size, which is not known yet or whose ends are, or an end that waits to be known first
abbrev pub Looks : List Node → List Bool → Known → ℕ → Sight → Type 0
Looks nodes free sizes r (Waits end) = (end < r) × (sizes end ≡ None)
Looks nodes free sizes r (Sized size) = IsSize nodes free r size × HasEnds nodes sizes r
