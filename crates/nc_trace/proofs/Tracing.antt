-- What is right of routers that are included.
use Rattle.std.proofs.Common.{◌≡◌, ℕ, zero, suc, ◌≤◌, Bool, nat_le, [], false, ◌&&◌, List, length, Option, None, Some, refl, sym, ap, subst, ◌∙◌, arith, inl, inr}
use Rattle.std.specs.List.{slice_get}
use Rattle.std.specs.Option.{is_some, option_map, option_map_or, unwrap_or}
use Rattle.std.proofs.lemmas.Bool.{le-leb, lt-leb}
use Rattle.std.proofs.lemmas.Option.{get_or_from_slice_get, slice_get_past, slice_get_within}
use Rattle.nc_types.specs.declared.TheConstants.{HOP_LIMIT}
use Rattle.nc_tables.specs.State.{StateView, IsState}
use Rattle.nc_tables.specs.Forwarding.{Outcome, Alternative, arrives_by, goes_on}
use Rattle.nc_tables.proofs.Owner.{some_is}
use Rattle.nc_underlay.specs.Distances as distances
use Rattle.nc_trace.specs.declared.packet.By.{By}
use Rattle.nc_trace.specs.declared.packet.By.TheVariants.{SomeWay, EachWay}
use Rattle.nc_trace.specs.declared.packet.Packet.{Packet}
use Rattle.nc_trace.specs.Found.{FoundWays, found_at, covers, GoesTo, IsCoveredOrNone, IsFoundTo, all_from, ways_out}
use Rattle.nc_trace.specs.Levels.{over}
use Rattle.nc_trace.specs.Packets.{packet_of}
use Rattle.nc_trace.specs.Traced.{AreFewest, IsNone, IsTracedTo, arrives_as, step_as}
use Rattle.nc_trace.proofs.Beyond.{none_there}
use Rattle.nc_trace.proofs.Finding.{goes_more, leads_by}
use Rattle.nc_trace.proofs.Marking.{and_false, arrives_same, told}
use Rattle.nc_trace.proofs.Taking.{none_taken}

-- where none is
module _ (s : StateView) (addr : ℕ) (found : FoundWays) (none : (router : ℕ) → found_at found router ≡ None) where
  pub none_found : (p : Packet) → IsFoundTo s p found
  none_found p = record {
    ways = λ router ways e. let no = none router in absurd cc;
    closed = λ router place way next there at goes within. let no = ap is_some (none router) in absurd cc;
  }

  pub never_fewest : (by : By) (fewest : List ℕ) → fewest ≡ [] → AreFewest s found by addr fewest
  never_fewest by fewest empty = record {
    hops = λ router hops few.
        ap (λ (fs : List ℕ). nat_le (distances.fewest_of fs router) hops) empty
        ∙ lt-leb (suc HOP_LIMIT) hops (omega (arith, few))
        ∙ sym (ap (λ (b : Bool). b && arrives_as s by hops router addr) (ap is_some (none router)));
  }

  pub nothing_included : IsState s → (some each : List ℕ) → some ≡ [] → each ≡ [] → IsTracedTo s addr (record { found = found; some = some; each = each })
  nothing_included is some each no_some no_each = record {
    found = none_found (packet_of SomeWay addr);
    none = λ router past. none_there s is router past addr;
    some = never_fewest SomeWay some no_some;
    each = never_fewest EachWay each no_each;
  }

-- what is counted of a question is of what was asked
pub counted : (s asked : StateView) (by kind : By) (addr to : ℕ) (found : FoundWays) (fewest : List ℕ) → asked ≡ s → kind ≡ by → to ≡ addr
    → distances.AreFewest (over asked kind to (Some found)) fewest → AreFewest s found by addr fewest
counted s asked by kind addr to found fewest state same address are =
    subst (λ (x : StateView). distances.AreFewest (over x by addr (Some found)) fewest) state
    (subst (λ (b : By). distances.AreFewest (over asked b addr (Some found)) fewest) same
    (subst (λ (a : ℕ). distances.AreFewest (over asked kind a (Some found)) fewest) address are))

-- what was found for an address is what a question of it asks for
pub found_for : (s asked : StateView) (by kind : By) (addr to : ℕ) (found : FoundWays) → asked ≡ s → kind ≡ by → to ≡ addr
    → IsFoundTo s (packet_of by addr) found → IsFoundTo asked (packet_of kind to) found
found_for s asked by kind addr to found state same address is =
    subst (λ (x : StateView). IsFoundTo x (packet_of kind to) found) (sym state)
    (subst (λ (b : By). IsFoundTo s (packet_of b to) found) (sym same)
    (subst (λ (a : ℕ). IsFoundTo s (packet_of by a) found) (sym address) is))

-- what comes by the way at a place tells whether it passes
pub by_place : (passes : Outcome → Bool) (ways : List Alternative) (place hops : ℕ) (o : Outcome) → hops ≤ HOP_LIMIT → Some o ≡ option_map (λ way. way.outcome) (slice_get ways place)
    → passes o ≡ (nat_le hops HOP_LIMIT && option_map_or (λ way. passes way.outcome) (slice_get ways place) false)
by_place passes ways place hops o few there = on (slice_get ways place) there ∙ sym (ap (λ (b : Bool). b && option_map_or (λ (way : Alternative). passes way.outcome) (slice_get ways place) false) (le-leb hops HOP_LIMIT few))
  where
    on : (found : Option Alternative) → Some o ≡ option_map (λ way. way.outcome) found → passes o ≡ option_map_or (λ way. passes way.outcome) found false
    on None there = absurd cc
    on (Some way) there = ap passes (some_is o way.outcome there)

pub by_no_place : (passes : Outcome → Bool) (ways : List Alternative) (place hops : ℕ) → None ≡ option_map (λ way. way.outcome) (slice_get ways place)
    → false ≡ (nat_le hops HOP_LIMIT && option_map_or (λ way. passes way.outcome) (slice_get ways place) false)
by_no_place passes ways place hops none = on (slice_get ways place) none
  where
    on : (found : Option Alternative) → None ≡ option_map (λ way. way.outcome) found → false ≡ (nat_le hops HOP_LIMIT && option_map_or (λ way. passes way.outcome) found false)
    on None none = sym (and_false (nat_le hops HOP_LIMIT))
    on (Some way) none = absurd cc

-- ---- a router that is included

module _ (s : StateView) (by : By) (addr : ℕ) (none : (router : ℕ) → length s.routers ≤ router → IsNone s addr router) (found : FoundWays) (is : IsFoundTo s (packet_of by addr) found) (router : ℕ) (included : IsCoveredOrNone (length s.routers) found router) where
  abbrev out : List Alternative
  out = ways_out s (packet_of by addr) router

  pub arrives_told : (fewest : List ℕ) → AreFewest s found by addr fewest → (hops : ℕ) → hops ≤ HOP_LIMIT → nat_le (distances.fewest_of fewest router) hops ≡ arrives_as s by hops router addr
  arrives_told fewest are hops few = are.hops router hops few ∙ sym (told s by addr none found is hops router included)

  nothing_out : length s.routers ≤ router → out ≡ []
  nothing_out past = ap (all_from s (packet_of by addr).from addr router) (none router past).ways ∙ none_taken s (packet_of by addr).from addr router

  pub ways_told : unwrap_or (found_at found router) [] ≡ out
  ways_told = on (found_at found router) refl included
    where
      on : (o : Option (List Alternative)) → found_at found router ≡ o → IsCoveredOrNone (length s.routers) found router → unwrap_or o [] ≡ ways_out s (packet_of by addr) router
      on (Some ways) e there = is.ways router ways e
      on None e (inl there) = let no = ap is_some e in absurd cc
      on None e (inr past) = sym (nothing_out past)

  -- where its ways lead
  lead_told : (place : ℕ) (way : Alternative) → slice_get out place ≡ Some way → GoesTo (IsCoveredOrNone (length s.routers) found) way.outcome
  lead_told place way e = on included
    where
      on : IsCoveredOrNone (length s.routers) found router → GoesTo (IsCoveredOrNone (length s.routers) found) way.outcome
      on (inl there) =
          subst (λ (w : Alternative). GoesTo (IsCoveredOrNone (length s.routers) found) w.outcome) (get_or_from_slice_get out place way way e)
          (leads_by s (packet_of by addr) found is.closed router there place way (slice_get_within out place way e))
      on (inr past) = let no : None ≡ Some way = sym (slice_get_past [] place (omega arith)) ∙ ap (λ (ways : List Alternative). slice_get ways place) (sym (nothing_out past)) ∙ e in absurd cc

  -- from there a packet goes on as the numbers say
  abbrev pub counts : ℕ → ℕ → ℕ → Bool
  counts hops next to = covers found next && arrives_as s by hops next to

  onward : (hops next : ℕ) → IsCoveredOrNone (length s.routers) found next → goes_on counts addr hops next ≡ goes_on (arrives_as s by) addr hops next
  onward zero next there = refl
  onward (suc hops) next there = sym (told s by addr none found is hops next there)

  abbrev leads : ℕ → Alternative → Bool
  leads hops way = arrives_by (goes_on (arrives_as s by) addr hops) way.outcome

  pub step_told : (place hops : ℕ) → hops ≤ HOP_LIMIT → (o : Outcome) → Some o ≡ option_map (λ way. way.outcome) (slice_get out place)
      → arrives_by (goes_on counts addr hops) o ≡ step_as s by router addr place hops
  step_told place hops few o there = on (slice_get out place) refl there
    where
      on : (way : Option Alternative) → slice_get (ways_out s (packet_of by addr) router) place ≡ way → Some o ≡ option_map (λ way. way.outcome) way → arrives_by (goes_on counts addr hops) o ≡ step_as s by router addr place hops
      on None e there = absurd cc
      on (Some way) e there =
          ap (arrives_by (goes_on counts addr hops)) (some_is o way.outcome there)
          ∙ arrives_same (goes_on counts addr hops) (goes_on (arrives_as s by) addr hops) way.outcome (goes_more (IsCoveredOrNone (length s.routers) found) _ (onward hops) way.outcome (lead_told place way e))
          ∙ sym (ap (λ (b : Bool). b && option_map_or (leads hops) (slice_get out place) false) (le-leb hops HOP_LIMIT few) ∙ ap (λ (way : Option Alternative). option_map_or (leads hops) way false) e)

  pub no_step : (place hops : ℕ) → None ≡ option_map (λ way. way.outcome) (slice_get out place) → false ≡ step_as s by router addr place hops
  no_step place hops none = on (slice_get out place) refl none
    where
      on : (way : Option Alternative) → slice_get (ways_out s (packet_of by addr) router) place ≡ way → None ≡ option_map (λ way. way.outcome) way → false ≡ step_as s by router addr place hops
      on None e none = sym (ap (λ (way : Option Alternative). nat_le hops HOP_LIMIT && option_map_or (leads hops) way false) e ∙ and_false (nat_le hops HOP_LIMIT))
      on (Some way) e none = absurd cc
