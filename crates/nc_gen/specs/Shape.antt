-- A fat tree by the numbers of its routers and links.
use Rattle.std.specs.Prelude.{◌≡◌, ℕ, ◌+◌, ◌-◌, ◌*◌, ◌/◌, ◌%◌, ◌<◌, true, nat_lt, if◌then◌else◌}
use Rattle.nc_gen.specs.declared.tree.Tree.{Tree}
use Rattle.nc_gen.specs.declared.tree.Router.{Router}
use Rattle.nc_gen.specs.declared.tree.Router.TheVariants.{Core, Aggregation, Edge}
use Rattle.nc_gen.specs.declared.tree.Link.{Link}
use Rattle.nc_gen.specs.Tree.{is_size, tree_of, number_of}

-- a tree of one of the sizes
pub record IsTree (t : Tree) : Type 0 where
  pub size : ℕ
  pub is : is_size size ≡ true
  pub tree : t ≡ tree_of size

module _ (t : Tree) where
  -- how many routers and links there are
  abbrev pub router_count : ℕ
  router_count = t.cores + t.pods * t.pods

  abbrev pub link_count : ℕ
  link_count = 2 * t.pods * t.cores

  -- the router at a place of a pod, and that of a number
  abbrev pub pod_router_at : ℕ → ℕ → Router
  pod_router_at pod place = if nat_lt place t.half then Aggregation pod place else Edge pod (place - t.half)

  unfoldable pub router_at : ℕ → Router
  router_at number =
      if nat_lt number t.cores then Core number else pod_router_at ((number - t.cores) / t.pods) ((number - t.cores) % t.pods)

  -- the link of a block, a row and a column
  abbrev pub block_link : ℕ → ℕ → ℕ → ℕ → Link
  block_link number block row column =
      if nat_lt block t.pods
      then record { number = number; upper = t.cores + block * t.pods + column; lower = t.cores + block * t.pods + (t.half + row) }
      else record { number = number; upper = row * t.half + column; lower = t.cores + (block - t.pods) * t.pods + row }

  -- the link of a number
  unfoldable pub link_at : ℕ → Link
  link_at number = block_link number (number / t.cores) (number / t.half % t.half) (number % t.half)

-- a router's pod and place are small numbers
abbrev pub IsPlaced : Router → Type 0
IsPlaced (Core core) = Unit {0}
IsPlaced (Aggregation pod place) = (pod < 256) × (place < 256)
IsPlaced (Edge pod place) = (pod < 256) × (place < 256)

-- a router, and its number
pub record IsNumbered (t : Tree) (number : ℕ) (router : Router) : Type 0 where
  pub placed : IsPlaced router
  pub is : number_of t router ≡ number
  pub small : number < 256

-- a link whose number and ends are small numbers
pub record IsSmall (l : Link) : Type 0 where
  pub number : l.number < 256
  pub upper : l.upper < 256
  pub lower : l.lower < 256
