-- The configuration of a router without where it lies in memory: each vector as the list of its items' views.
use Rattle.std.specs.Prelude.{ℕ, Bool, List, map, Option}
use Rattle.std.specs.Option.{option_map}
use Rattle.nc_types.specs.declared.addr.Addr.{Addr}
use Rattle.nc_types.specs.declared.config.Kind.{Kind}
use Rattle.nc_types.specs.declared.config.OriginCode.{OriginCode}
use Rattle.nc_types.specs.declared.config.Element.{Element}
use Rattle.nc_types.specs.declared.config.Reference.{Reference}
use Rattle.nc_types.specs.declared.config.Interface.{Interface}
use Rattle.nc_types.specs.declared.config.StaticRoute.{StaticRoute}
use Rattle.nc_types.specs.declared.config.Neighbor.{Neighbor}
use Rattle.nc_types.specs.declared.config.NetworkStatement.{NetworkStatement}
use Rattle.nc_types.specs.declared.config.AggregateStatement.{AggregateStatement}
use Rattle.nc_types.specs.declared.config.Process.{Process}
use Rattle.nc_types.specs.declared.config.Clause.{Clause}
use Rattle.nc_types.specs.declared.config.ListEntry.{ListEntry}
use Rattle.nc_types.specs.declared.config.PrefixList.{PrefixList}
use Rattle.nc_types.specs.declared.config.RouterConfig.{RouterConfig}
use Rattle.nc_types.specs.declared.communities.CommunityEntry.{CommunityEntry}
use Rattle.nc_types.specs.declared.communities.CommunityList.{CommunityList}
use Rattle.nc_types.specs.declared.communities.SetCommunity.{SetCommunity}
use Rattle.nc_types.specs.declared.filters.FilterEntry.{FilterEntry}
use Rattle.nc_types.specs.declared.filters.Group.{Group}

-- an element: what it configures, and its lines
pub record ElementView : Type 0 where
  pub kind : Kind
  pub lines : List ℕ

abbrev pub element_view : Element → ElementView
element_view e = record { kind = e.kind; lines = e.lines }

-- a BGP process
pub record ProcessView : Type 0 where
  pub asn : ℕ
  pub router_id : Option Addr
  pub max_paths : ℕ
  pub relax : Bool
  pub neighbors : List Neighbor
  pub networks : List NetworkStatement
  pub aggregates : List AggregateStatement
  pub element : ℕ

abbrev pub process_view : Process → ProcessView
process_view p =
    record {
      asn = p.asn;
      router_id = p.router_id;
      max_paths = p.max_paths;
      relax = p.relax;
      neighbors = p.neighbors.items;
      networks = p.networks.items;
      aggregates = p.aggregates.items;
      element = p.element;
    }

-- a clause of a route map
pub record ClauseView : Type 0 where
  pub map_name : List ℕ
  pub number : ℕ
  pub permit : Bool
  pub lists : List Reference
  pub community_lists : List Reference
  pub preference : Option ℕ
  pub metric : Option ℕ
  pub prepend : List ℕ
  pub origin : Option OriginCode
  pub communities : Option SetCommunity
  pub element : ℕ

abbrev pub clause_view : Clause → ClauseView
clause_view c =
    record {
      map_name = c.map;
      number = c.number;
      permit = c.permit;
      lists = c.lists.items;
      community_lists = c.community_lists.items;
      preference = c.preference;
      metric = c.metric;
      prepend = c.prepend.items;
      origin = c.origin;
      communities = c.communities;
      element = c.element;
    }

-- a prefix list
pub record PrefixListView : Type 0 where
  pub name : List ℕ
  pub entries : List ListEntry

abbrev pub list_view : PrefixList → PrefixListView
list_view l = record { name = l.name; entries = l.entries.items }

-- a community list
pub record CommunityListView : Type 0 where
  pub name : List ℕ
  pub entries : List CommunityEntry

abbrev pub community_list_view : CommunityList → CommunityListView
community_list_view l = record { name = l.name; entries = l.entries.items }

-- a router's configuration
pub record ConfigView : Type 0 where
  pub name : List ℕ
  pub name_line : ℕ
  pub line_count : ℕ
  pub elements : List ElementView
  pub interfaces : List Interface
  pub statics : List StaticRoute
  pub process : Option ProcessView
  pub clauses : List ClauseView
  pub lists : List PrefixListView
  pub community_lists : List CommunityListView
  pub filters : List FilterEntry
  pub groups : List Group

abbrev pub config_view : RouterConfig → ConfigView
config_view c =
    record {
      name = c.name;
      name_line = c.name_line;
      line_count = c.line_count;
      elements = map element_view c.elements.items;
      interfaces = c.interfaces.items;
      statics = c.statics.items;
      process = option_map process_view c.process;
      clauses = map clause_view c.clauses.items;
      lists = map list_view c.lists.items;
      community_lists = map community_list_view c.community_lists.items;
      filters = c.filters.items;
      groups = c.groups.items;
    }
