-- A fat tree: k pods with two layers of k / 2 routers each, and (k / 2)² core routers above them. An edge router is joined to each
-- aggregation router of its pod, and the aggregation routers of one place in their pods to the same k / 2 cores.
use Rattle.std.specs.Prelude.{ℕ, ◌+◌, ◌*◌, ◌/◌, Bool, ◌==◌, ◌||◌, List, ◌++◌, map, filter, if◌then◌else◌}
use Rattle.std.specs.List.{flat_map, range_with_len}
use Rattle.nc_gen.specs.declared.tree.Tree.{Tree}
use Rattle.nc_gen.specs.declared.tree.Router.{Router}
use Rattle.nc_gen.specs.declared.tree.Router.TheVariants.{Core, Aggregation, Edge}
use Rattle.nc_gen.specs.declared.tree.Link.{Link}
use Rattle.nc_gen.specs.declared.ports.Port.{Port}

-- the sizes that are generated
abbrev pub is_size : ℕ → Bool
is_size k = (k == 2) || ((k == 4) || ((k == 6) || (k == 8)))

-- k pods, of which each layer has half as many routers, and the square of that many cores
abbrev pub tree_of : ℕ → Tree
tree_of k = record { pods = k; half = k / 2; cores = (k / 2) * (k / 2) }

-- the numbers below n
abbrev pub below : ℕ → List ℕ
below n = range_with_len 0 n

module _ (t : Tree) where
  -- the routers: the cores, then pod by pod its aggregation routers and its edge routers
  abbrev pub pod_routers : ℕ → List Router
  pod_routers pod = map (Aggregation pod) (below t.half) ++ map (Edge pod) (below t.half)

  unfoldable pub routers : List Router
  routers = map Core (below t.cores) ++ flat_map pod_routers (below t.pods)

  -- the number of a router, which is its place among them
  abbrev pub number_of : Router → ℕ
  number_of (Core core) = core
  number_of (Aggregation pod place) = t.cores + pod * t.pods + place
  number_of (Edge pod place) = t.cores + pod * t.pods + t.half + place

  -- the link of an edge router and an aggregation router of its pod
  abbrev pub pod_link : ℕ → ℕ → ℕ → Link
  pod_link pod edge aggregation =
      record {
        number = pod * t.half * t.half + edge * t.half + aggregation;
        upper = number_of (Aggregation pod aggregation);
        lower = number_of (Edge pod edge);
      }

  -- the link of an aggregation router and one of its cores
  abbrev pub core_link : ℕ → ℕ → ℕ → Link
  core_link pod aggregation place =
      record {
        number = t.pods * t.half * t.half + pod * t.half * t.half + aggregation * t.half + place;
        upper = number_of (Core (aggregation * t.half + place));
        lower = number_of (Aggregation pod aggregation);
      }

  -- links of each pod, of each of its routers of one layer, and of half as many others as there are pods
  abbrev pub each_link : (ℕ → ℕ → ℕ → Link) → List Link
  each_link link = flat_map (λ pod. flat_map (λ row. map (link pod row) (below t.half)) (below t.half)) (below t.pods)

  -- all links, in order of number
  unfoldable pub links : List Link
  links = each_link pod_link ++ each_link core_link

-- the first address of the network of a link, which has four: from 10.128.0.0 on
abbrev pub link_start : ℕ → ℕ
link_start number = 10 * 16777216 + 128 * 65536 + 4 * number

-- the number of the autonomous system of a router
abbrev pub system_of : ℕ → ℕ
system_of number = 64512 + number

-- a link is a router's where the router is one of its ends
abbrev pub joins : ℕ → Link → Bool
joins number link = (link.upper == number) || (link.lower == number)

-- the end of a link at a router: the upper router has the first address behind the start, the lower one the second
unfoldable pub port_at : ℕ → Link → Port
port_at number link =
    if link.upper == number
    then record { own = record { 0 = link_start link.number + 1 }; peer = record { 0 = link_start link.number + 2 }; peer_system = system_of link.lower }
    else record { own = record { 0 = link_start link.number + 2 }; peer = record { 0 = link_start link.number + 1 }; peer_system = system_of link.upper }

-- the ports of a router: its ends of its links, in order of number
abbrev pub ports_in : List Link → ℕ → List Port
ports_in links number = map (port_at number) (filter (joins number) links)
