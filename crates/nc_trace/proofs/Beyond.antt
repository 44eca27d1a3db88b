-- From a router that doesn't exist there is no way, and no packet arrives.
use Rattle.std.proofs.Common.{◌≡◌, ℕ, zero, suc, ◌≤◌, Bool, true, false, ◌||◌, List, [], length, map, Option, refl, ap, ◌∙◌, arith}
use Rattle.std.specs.List.{flat_map, slice_get}
use Rattle.std.specs.Option.{option_map_or}
use Rattle.std.proofs.lemmas.List.{get_or_past, length-map}
use Rattle.std.proofs.lemmas.Option.{slice_get_past}
use Rattle.nc_types.specs.Config.{ConfigView, config_view}
use Rattle.nc_types.specs.declared.config.RouterConfig.{RouterConfig}
use Rattle.nc_tables.specs.declared.bgp.MainRow.{MainRow}
use Rattle.nc_tables.specs.Base.{is_own}
use Rattle.nc_tables.specs.Forwarding.{Alternative, nowhere, arrives_by, ways_of, alternatives, traces, all_trace}
use Rattle.nc_tables.specs.Flows.{flows}
use Rattle.nc_tables.specs.Longest.{longest}
use Rattle.nc_tables.specs.Reach.{owns}
use Rattle.nc_tables.specs.State.{StateView, IsState}
use Rattle.nc_tables.proofs.State.{main_count}
use Rattle.nc_trace.specs.declared.packet.By.{By}
use Rattle.nc_trace.specs.declared.packet.By.TheVariants.{SomeWay, EachWay, Filtered}
use Rattle.nc_trace.specs.declared.packet.Packet.{Packet}
use Rattle.nc_trace.specs.Found.{all_from, ways_out}
use Rattle.nc_trace.specs.Packets.{packet_of, is_each}
use Rattle.nc_trace.specs.Traced.{ways_pass, arrives_within, arrives_as, IsNone}
use Rattle.nc_trace.specs.Levels.{passes, passes_as}
use Rattle.nc_trace.proofs.Taking.{none_taken, some_let_pass}

-- a number that no configuration has is no router's
pub past_all : (configs : List RouterConfig) (network routers : List ConfigView) (router : ℕ) → map config_view configs ≡ network → network ≡ routers → length configs ≤ router → length routers ≤ router
past_all configs network routers router views same past =
    omega (arith, ap (λ (cs : List ConfigView). length cs) views, ap (λ (cs : List ConfigView). length cs) same, length-map configs config_view, past)

module _ (s : StateView) where
  pub no_hop : (every : Bool) (addr router : ℕ) → arrives_within s every 0 router addr ≡ passes s every addr nowhere router
  unfolding traces all_trace
  no_hop true addr router = refl
  no_hop false addr router = refl

  pub one_hop : (every : Bool) (addr hops router : ℕ) → arrives_within s every (suc hops) router addr ≡ passes s every addr (λ next. arrives_within s every hops next addr) router
  unfolding traces all_trace
  one_hop true addr hops router = refl
  one_hop false addr hops router = refl

  -- the same of the ways as a packet takes them
  pub no_hop_as : (by : By) (addr router : ℕ) → arrives_as s by 0 router addr ≡ passes_as s by addr nowhere router
  unfolding flows
  no_hop_as SomeWay addr router = no_hop false addr router
  no_hop_as EachWay addr router = no_hop true addr router
  no_hop_as (Filtered from) addr router =
      ap (λ (b : Bool). owns s.routers router addr || b) (some_let_pass s from.0 addr router nowhere (alternatives s.routers s.base s.bgp s.main router addr))

  pub one_hop_as : (by : By) (addr hops router : ℕ) → arrives_as s by (suc hops) router addr ≡ passes_as s by addr (λ next. arrives_as s by hops next addr) router
  unfolding flows
  one_hop_as SomeWay addr hops router = one_hop false addr hops router
  one_hop_as EachWay addr hops router = one_hop true addr hops router
  one_hop_as (Filtered from) addr hops router =
      ap (λ (b : Bool). owns s.routers router addr || b) (some_let_pass s from.0 addr router (flows s from.0 addr hops) (alternatives s.routers s.base s.bgp s.main router addr))

module _ (s : StateView) (is : IsState s) (router : ℕ) (beyond : length s.routers ≤ router) where
  pub no_ways : (addr : ℕ) → alternatives s.routers s.base s.bgp s.main router addr ≡ []
  unfolding longest
  no_ways addr =
      ap (λ (rows : List MainRow).
      flat_map (λ main. option_map_or (λ row. ways_of s.routers s.base s.bgp s.main router addr main row row.from) (slice_get rows main) []) (longest (map (λ (row : MainRow). row.prefix) rows) addr))
      (get_or_past s.main router [] (omega (arith, beyond, main_count s is)))

  pub none_out : (p : Packet) → ways_out s p router ≡ []
  none_out p = ap (all_from s p.from p.to.0 router) (no_ways p.to.0) ∙ none_taken s p.from p.to.0 router

  none_pass : (every : Bool) (f : ℕ → Bool) → ways_pass every (λ way. arrives_by f way.outcome) [] ≡ false
  none_pass true f = refl
  none_pass false f = refl

  not_passed : (by : By) (addr : ℕ) (f : ℕ → Bool) → passes_as s by addr f router ≡ false
  not_passed by addr f =
      ap (λ (o : Option ConfigView). option_map_or (λ (c : ConfigView). is_own c.interfaces addr) o false || ways_pass (is_each by) (λ way. arrives_by f way.outcome) (ways_out s (packet_of by addr) router))
      (slice_get_past s.routers router beyond)
      ∙ ap (ways_pass (is_each by) (λ (way : Alternative). arrives_by f way.outcome)) (none_out (packet_of by addr))
      ∙ none_pass (is_each by) f

  not_arrived : (by : By) (addr hops : ℕ) → arrives_as s by hops router addr ≡ false
  not_arrived by addr zero = no_hop_as s by addr router ∙ not_passed by addr nowhere
  not_arrived by addr (suc hops) = one_hop_as s by addr hops router ∙ not_passed by addr (λ next. arrives_as s by hops next addr)

  pub none_there : (addr : ℕ) → IsNone s addr router
  none_there addr = record { ways = no_ways addr; over = λ by hops. not_arrived by addr hops }
