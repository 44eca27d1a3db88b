-- The interfaces of a router that are up, as links.
use Rattle.std.specs.Prelude.{◌≡◌, ℕ, ◌+◌, ◌<◌, Bool, true, false, IfSome, List, [], ◌∷◌, length, get_or, All, Contains, Option, Some, slice_get, option_and_then, IsPermutation, MatchOption}
use Rattle.std.specs.List.Sorted.{IsNonDecreasingBy}
use Rattle.std.specs.Option.{option_map_or}
use Rattle.std.specs.Str.{bytes_eq}
use Rattle.nc_types.specs.declared.config.Via.{Via}
use Rattle.nc_types.specs.declared.config.IfaceAddr.{IfaceAddr}
use Rattle.nc_types.specs.declared.config.Interface.{Interface}
use Rattle.nc_types.specs.Cidr.{IsCidr, Covers}
use Rattle.nc_types.specs.declared.addr.Addr.{Addr}
use Rattle.nc_types.specs.Network.{up_of, hop_of}
use Rattle.nc_types.specs.Joining.{overlap, interface_by}
use Rattle.nc_tables.specs.Base.{covers, is_toward}
use Rattle.nc_base_rib.specs.declared.links.Link.{Link}

-- the address of the interface at a place, if it is up
abbrev pub up_in : List Interface → ℕ → Option IfaceAddr
up_in is place = option_and_then up_of (slice_get is place)

-- no two interfaces that are up have prefixes that overlap
abbrev pub AreApart : List Interface → Type 0
AreApart is = (j k : ℕ) (a b : IfaceAddr) → up_in is j ≡ Some a → up_in is k ≡ Some b → overlap a.prefix b.prefix ≡ true → j ≡ k

-- the link of an interface at a place, which is up
abbrev pub link_at : ℕ → IfaceAddr → Link
link_at place a = record { network = record { 0 = a.prefix.base }; address = a; place = place }

-- the links of interfaces, the first of which has this place: one for each that is up
abbrev pub links_from : ℕ → List Interface → List Link
links_from place [] = []
links_from place (i ∷ is) = option_map_or (λ a. link_at place a ∷ links_from (place + 1) is) (up_of i) (links_from (place + 1) is)

-- an address of an interface lies in the interface's prefix
abbrev pub HasOwnPrefix : Interface → Type 0
HasOwnPrefix i = IfSome i.address (λ a. Covers a.prefix a.addr.0)

-- a static route names this interface or none
abbrev pub allows : Via → Interface → Bool
allows via i = option_map_or (λ r. bytes_eq r.name i.name) (interface_by via) true

-- links by their network addresses, of which no two overlap
pub record IsTable (links : List Link) : Type 0 where
  pub ordered : IsNonDecreasingBy (λ l. l.network.0) links
  pub named : All (λ l. l.network.0 ≡ l.address.prefix.base) links
  pub valid : All (λ l. IsCidr l.address.prefix.base l.address.prefix.len) links
  pub apart : (l m : Link) → Contains links l → Contains links m → overlap l.address.prefix m.address.prefix ≡ true → l ≡ m

-- the table of a router's interfaces
pub record IsTableOf (is : List Interface) (links : List Link) : Type 0 where
  pub same : IsPermutation (links_from 0 is) links
  pub table : IsTable links

-- the link through which an address is reached: that of the one interface which is up and whose prefix covers it
pub record IsTheLink (is : List Interface) (addr : ℕ) (l : Link) : Type 0 where
  pub up : up_in is l.place ≡ Some l.address
  pub covering : covers l.address.prefix addr ≡ true
  pub only : (k : ℕ) (d : Interface) → k < length is → is_toward addr (get_or is k d) ≡ true → k ≡ l.place

-- the link of a static route's next hop, if there is one
abbrev pub IsLinkOf : List Interface → Via → Option Link → Type 0
IsLinkOf is via link = (hop : Addr) → hop_of via ≡ Some hop → MatchOption link (All (λ i. is_toward hop.0 i ≡ false) is) (IsTheLink is hop.0)
