-- The words with which the statements of a process begin, and those behind `neighbor A`.
use Rattle.std.specs.Prelude.{◌≡◌, ℕ, List, ◌∷◌, codes}
use Rattle.nc_types.specs.declared.fault.Cause.TheVariants.{Unsupported}
use Rattle.nc_lines.specs.Statements.{Outside, Faulty}
use Rattle.nc_read_bgp.specs.declared.first.First.{First}
use Rattle.nc_read_bgp.specs.declared.first.First.TheVariants as first
use Rattle.nc_read_bgp.specs.declared.first.NeighborFirst.{NeighborFirst}
use Rattle.nc_read_bgp.specs.declared.first.NeighborFirst.TheVariants as second
use Rattle.nc_read_bgp.specs.Statements.{statement_says, neighbor_says}

-- a first word is the one that it is told to be; a line that begins with any other isn't supported or says nothing that is read
abbrev pub IsFirst : First → List ℕ → Type 0
IsFirst first.Bgp word = word ≡ codes "bgp"
IsFirst first.MaximumPaths word = word ≡ codes "maximum-paths"
IsFirst first.AddressFamily word = word ≡ codes "address-family"
IsFirst first.ExitAddressFamily word = word ≡ codes "exit-address-family"
IsFirst first.Network word = word ≡ codes "network"
IsFirst first.AggregateAddress word = word ≡ codes "aggregate-address"
IsFirst first.Neighbor word = word ≡ codes "neighbor"
IsFirst first.No word = word ≡ codes "no"
IsFirst first.Unsupported word = (words : List (List ℕ)) → statement_says (word ∷ words) ≡ Faulty Unsupported
IsFirst first.Other word = (words : List (List ℕ)) → statement_says (word ∷ words) ≡ Outside

-- the same behind `neighbor A`
abbrev pub IsNeighborFirst : NeighborFirst → List ℕ → Type 0
IsNeighborFirst second.RemoteAs word = word ≡ codes "remote-as"
IsNeighborFirst second.UpdateSource word = word ≡ codes "update-source"
IsNeighborFirst second.EbgpMultihop word = word ≡ codes "ebgp-multihop"
IsNeighborFirst second.NextHopSelf word = word ≡ codes "next-hop-self"
IsNeighborFirst second.RouteMap word = word ≡ codes "route-map"
IsNeighborFirst second.Shutdown word = word ≡ codes "shutdown"
IsNeighborFirst second.Activate word = word ≡ codes "activate"
IsNeighborFirst second.SendCommunity word = word ≡ codes "send-community"
IsNeighborFirst second.Unsupported word = (words : List (List ℕ)) → neighbor_says (word ∷ words) ≡ Faulty Unsupported
IsNeighborFirst second.Other word = (words : List (List ℕ)) → neighbor_says (word ∷ words) ≡ Outside
