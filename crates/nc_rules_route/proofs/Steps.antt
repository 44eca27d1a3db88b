-- Facts of the ways of packets: which there are, and all alternatives of a router, one after the other.
use Rattle.std.proofs.Common.{◌≡◌, ℕ, ◌-◌, Bool, true, false, cond, ◌&&◌, nat_le, List, [], ◌∷◌, length, map, Option, Some, None, MatchOption, refl, sym, ap, subst, ◌∙◌, arith}
use Rattle.std.proofs.lemmas.Bool.{and_parts}
use Rattle.std.specs.List.{range_with_len, slice_get}
use Rattle.std.specs.Option.{option_map, option_map_or}
use Rattle.std.proofs.lemmas.Option.{slice_get-map}
use Rattle.std.proofs.lemmas.List.{length-map}
use Rattle.nc_types.specs.declared.TheConstants.{HOP_LIMIT}
use Rattle.nc_types.specs.declared.addr.Addr.{Addr}
use Rattle.nc_types.specs.declared.config.RouterId.{RouterId}
use Rattle.nc_types.specs.declared.config.IfaceId.{IfaceId}
use Rattle.nc_tables.specs.Flows.{lets, flows}
use Rattle.nc_tables.specs.Forwarding as defined
use Rattle.nc_tables.specs.Forwarding.{arrives_by, goes_on}
use Rattle.nc_tables.specs.Reach.{own_place}
use Rattle.nc_tables.specs.State.{StateView}
use Rattle.nc_trace.specs.declared.alternative.Alternative.{Alternative}
use Rattle.nc_trace.specs.Found.{taken, flow_ways}
use Rattle.nc_trace.specs.Views.{alternative_view}
use Rattle.nc_fact.specs.declared.fact.Fact.{Fact}
use Rattle.nc_fact.specs.Facts.{holds}
use Rattle.nc_fact.specs.declared.fact.Fact.TheVariants.{Connected, Step, Trace, AllStep, AllTrace, Pass, FlowStep, Flow}
use Rattle.nc_rules_route.specs.declared.packet.Packet.{Packet}
use Rattle.nc_rules_route.specs.declared.packet.Packet.TheVariants.{From}
use Rattle.nc_rules_route.specs.Parents.{path_start, flow_start, step_fact, way_parents, ways_out, steps_of, own_or, parents}
use Rattle.nc_rules_route.proofs.Ranges.{made_between, each_kept}

-- no other fact is of the way of a packet
pub no_other : (P : RouterId × Addr → Type 0) (f : Fact) → MatchOption (path_start f) ⊥ P
    → ((router : RouterId) (addr : Addr) (way hops : ℕ) → f ≡ Step router addr way hops → ⊥) → ((router : RouterId) (addr : Addr) (hops : ℕ) → f ≡ Trace router addr hops → ⊥)
    → ((router : RouterId) (addr : Addr) (way hops : ℕ) → f ≡ AllStep router addr way hops → ⊥) → ((router : RouterId) (addr : Addr) (hops : ℕ) → f ≡ AllTrace router addr hops → ⊥) → ⊥
no_other P (Step router addr way hops) has step trace all_step all_trace = step router addr way hops refl
no_other P (Trace router addr hops) has step trace all_step all_trace = trace router addr hops refl
no_other P (AllStep router addr way hops) has step trace all_step all_trace = all_step router addr way hops refl
no_other P (AllTrace router addr hops) has step trace all_step all_trace = all_trace router addr hops refl
no_other P f has step trace all_step all_trace = has

-- nor is any other of one that access lists have to let pass
pub no_other_flow : (P : RouterId × Addr × Addr → Type 0) (f : Fact) → MatchOption (flow_start f) ⊥ P
    → ((inward : Bool) (router : RouterId) (iface : IfaceId) (from to : Addr) → f ≡ Pass inward router iface from to → ⊥)
    → ((hops : ℕ) (router : RouterId) (from to : Addr) (way : ℕ) → f ≡ FlowStep hops router from to way → ⊥)
    → ((router : RouterId) (from to : Addr) (hops : ℕ) → f ≡ Flow router from to hops → ⊥) → ⊥
no_other_flow P (Pass inward router iface from to) has pass step flow = pass inward router iface from to refl
no_other_flow P (FlowStep hops router from to way) has pass step flow = step hops router from to way refl
no_other_flow P (Flow router from to hops) has pass step flow = flow router from to hops refl
no_other_flow P f has pass step flow = has

-- by an alternative by which a packet is let pass and arrives it goes as that leads
pub taken_at : (s : StateView) (router : RouterId) (from to : Addr) (way hops : ℕ) → holds s (FlowStep hops router from to way) ≡ true → slice_get (flow_ways s from.0 to.0 router.0) way ≡ slice_get (ways_out s router to) way
unfolding holds
taken_at s router from to way hops h = by_way (slice_get (ways_out s router to) way) refl
  where
    passes : defined.Alternative → Bool
    passes w = lets s from.0 to.0 router.0 w && arrives_by (goes_on (λ n next addr. flows s from.0 to.0 n next) to.0 hops) w.outcome

    as_it_is : (w : defined.Alternative) → slice_get (ways_out s router to) way ≡ Some w → taken s from.0 to.0 router.0 w ≡ w
    as_it_is w at =
        let both = and_parts (nat_le hops HOP_LIMIT) (option_map_or passes (slice_get (ways_out s router to) way) false) h in
        let here : passes w ≡ true = sym (ap (λ (o : Option defined.Alternative). option_map_or passes o false) at) ∙ both.1 in
        let let_it = and_parts (lets s from.0 to.0 router.0 w) (arrives_by (goes_on (λ n next addr. flows s from.0 to.0 n next) to.0 hops) w.outcome) here in
        ap (λ (b : Bool). let x : defined.Alternative = record w { outcome = cond b w.outcome defined.Lost } in x) let_it.0

    by_way : (o : Option defined.Alternative) → slice_get (ways_out s router to) way ≡ o → slice_get (flow_ways s from.0 to.0 router.0) way ≡ o
    by_way None at = slice_get-map (taken s from.0 to.0 router.0) (ways_out s router to) way ∙ ap (option_map (taken s from.0 to.0 router.0)) at
    by_way (Some w) at =
        slice_get-map (taken s from.0 to.0 router.0) (ways_out s router to) way ∙ ap (option_map (taken s from.0 to.0 router.0)) at ∙ ap Some (as_it_is w at)

-- so what it rests on there are the parents of its step
pub step_taken : (s : StateView) (f : Fact) (hops : ℕ) (router : RouterId) (from to : Addr) (way : ℕ) (ways : List Alternative) → f ≡ FlowStep hops router from to way → holds s f ≡ true → map alternative_view ways ≡ flow_ways s from.0 to.0 router.0
    → option_map_or (way_parents s (From from) router to hops) (slice_get (map alternative_view ways) way) [] ≡ parents s f
unfolding parents
step_taken s f hops router from to way ways is h are =
    ap (λ (ws : List defined.Alternative). option_map_or (way_parents s (From from) router to hops) (slice_get ws way) []) are
    ∙ ap (λ (o : Option defined.Alternative). option_map_or (way_parents s (From from) router to hops) o []) (taken_at s router from to way hops (subst (λ (g : Fact). holds s g ≡ true) is h))
    ∙ sym (ap (parents s) is)

module _ (s : StateView) (router : RouterId) (addr : Addr) where
  pub all_between : (packet : Packet) (hops : ℕ) (ways : List Alternative) (count : ℕ) → length (map alternative_view ways) ≡ length (ways_out s router addr) → count ≡ length ways
      → made_between (λ way. step_fact packet router addr way hops) (λ _. true) 0 count ≡ steps_of s packet router addr hops
  all_between packet hops ways count are all =
      let none : count - 0 ≡ length (ways_out s router addr) = omega (arith, all, are, length-map ways alternative_view) in
      ap (map (λ (way : ℕ). step_fact packet router addr way hops)) (each_kept 0 (count - 0) ∙ ap (range_with_len 0) none)

  -- where no interface of the router's own has the address
  pub without_own : (others : List Fact) → own_place s.routers router.0 addr.0 ≡ None → own_or s router addr others ≡ others
  without_own others none = ap (λ (o : Option ℕ). option_map_or (λ iface. Connected router (record { 0 = iface }) ∷ []) o others) none
