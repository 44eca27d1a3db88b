-- The configuration files of a fat tree, and a session that asks for paths through it.
use Rattle.std.specs.Prelude.{ℕ, ◌+◌, ◌-◌, ◌*◌, List, [], ◌∷◌, ◌++◌, length, map, codes}
use Rattle.std.specs.List.{flat_map}
use Rattle.std.specs.Fmt.{decimal}
use Rattle.nc_types.specs.Dotted.{dotted}
use Rattle.nc_gen.specs.declared.tree.Tree.{Tree}
use Rattle.nc_gen.specs.declared.tree.Router.{Router}
use Rattle.nc_gen.specs.declared.tree.Router.TheVariants.{Core, Aggregation, Edge}
use Rattle.nc_gen.specs.declared.ports.Port.{Port}
use Rattle.nc_gen.specs.declared.generated.GenFile.{GenFile}
use Rattle.nc_gen.specs.declared.generated.Generated.{Generated}
use Rattle.nc_gen.specs.Tree.{tree_of, routers, number_of, links, system_of, ports_in}

-- the text of lines, each with a line feed behind it
unfoldable pub text_of : List (List ℕ) → List ℕ
text_of lines = flat_map (λ line. line ++ 10 ∷ []) lines

-- ---- a configuration file

-- c0, a0_0 and e0_0 are the first names
unfoldable pub name_of : Router → List ℕ
name_of (Core core) = codes "c" ++ decimal core
name_of (Aggregation pod place) = codes "a" ++ (decimal pod ++ (codes "_" ++ decimal place))
name_of (Edge pod place) = codes "e" ++ (decimal pod ++ (codes "_" ++ decimal place))

unfoldable pub file_name : List ℕ → List ℕ
file_name name = name ++ codes ".cfg"

unfoldable pub hostname_line : List ℕ → List ℕ
hostname_line name = codes "hostname " ++ name

-- the two lines of an interface
unfoldable pub interface_line : ℕ → List ℕ
interface_line place = codes "interface Ethernet" ++ decimal place

unfoldable pub address_line : ℕ → List ℕ → List ℕ
address_line address mask = codes " ip address " ++ (dotted address ++ (codes " " ++ mask))

abbrev pub interface_lines : ℕ → ℕ → List ℕ → List (List ℕ)
interface_lines place address mask = interface_line place ∷ address_line address mask ∷ []

-- the interfaces of ports, the first of which has this place
abbrev pub port_lines : ℕ → List Port → List (List ℕ)
port_lines place [] = []
port_lines place (port ∷ ports) = interface_lines place port.own.0 (codes "255.255.255.252") ++ port_lines (place + 1) ports

-- the local network of an edge router, from 10.0.0.0 on: it has 256 addresses
abbrev pub lan_start : Tree → ℕ → ℕ → ℕ
lan_start t pod place = 10 * 16777216 + 256 * (pod * t.half + place)

-- the interface of an edge router's local network, and the statement that has it routed
abbrev pub lan_lines : Tree → ℕ → Router → List (List ℕ)
lan_lines t at (Core core) = []
lan_lines t at (Aggregation pod place) = []
lan_lines t at (Edge pod place) = interface_lines at (lan_start t pod place + 1) (codes "255.255.255.0")

unfoldable pub network_line : ℕ → List ℕ
network_line start = codes " network " ++ (dotted start ++ codes " mask 255.255.255.0")

abbrev pub network_lines : Tree → Router → List (List ℕ)
network_lines t (Core core) = []
network_lines t (Aggregation pod place) = []
network_lines t (Edge pod place) = network_line (lan_start t pod place) ∷ []

-- the lines of the BGP process, with a neighbor at the other end of each link
unfoldable pub system_line : ℕ → List ℕ
system_line number = codes "router bgp " ++ decimal (system_of number)

unfoldable pub relax_line : List ℕ
relax_line = codes " bgp bestpath as-path multipath-relax"

unfoldable pub paths_line : ℕ → List ℕ
paths_line most = codes " maximum-paths " ++ decimal most

unfoldable pub neighbor_line : Port → List ℕ
neighbor_line port = codes " neighbor " ++ (dotted port.peer.0 ++ (codes " remote-as " ++ decimal port.peer_system))

abbrev pub process_lines : Tree → Router → List Port → List (List ℕ)
process_lines t router ports =
    system_line (number_of t router) ∷ relax_line ∷ paths_line t.half ∷ (network_lines t router ++ map neighbor_line ports)

-- the lines of a router's file
abbrev pub config_lines : Tree → Router → List Port → List (List ℕ)
config_lines t router ports =
    hostname_line (name_of router) ∷ (port_lines 0 ports ++ (lan_lines t (length ports) router ++ process_lines t router ports))

-- a file: its name and its bytes
pub record FileView : Type 0 where
  pub name : List ℕ
  pub bytes : List ℕ

abbrev pub file_view : GenFile → FileView
file_view f = record { name = f.name; bytes = f.bytes.items }

-- the file of a router
unfoldable pub file_of : Tree → Router → FileView
file_of t router =
    record { name = file_name (name_of router); bytes = text_of (config_lines t router (ports_in (links t) (number_of t router))) }

-- ---- the session

-- the tests ask from the first edge router for an address in the last local network
abbrev pub asked_address : Tree → ℕ
asked_address t = lan_start t t.pods 0 - 256 + 9

unfoldable pub reach_line : ℕ → List ℕ
reach_line address = codes "reach e0_0 " ++ dotted address

unfoldable pub every_line : ℕ → List ℕ
every_line address = codes "every e0_0 " ++ dotted address

abbrev pub session_lines : Tree → List (List ℕ)
session_lines t =
    reach_line (asked_address t) ∷ every_line (asked_address t) ∷ codes "implies 2 1" ∷ codes "implies 1 2" ∷ []

-- ---- what is generated

-- the files of the routers in order, and a session
pub record GeneratedView : Type 0 where
  pub files : List FileView
  pub session : List ℕ

abbrev pub generated_view : Generated → GeneratedView
generated_view g = record { files = map file_view g.files.items; session = g.session.items }

-- the fat tree of a size
unfoldable pub fat_tree : ℕ → GeneratedView
fat_tree k = record { files = map (file_of (tree_of k)) (routers (tree_of k)); session = text_of (session_lines (tree_of k)) }
