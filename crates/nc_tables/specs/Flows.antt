-- Where the main tables of a network lead a packet that access lists let pass (profile: it stands at a router past what filters come in there).
use Rattle.std.specs.Prelude.{ℕ, zero, suc, Bool, true, false, ◌&&◌, ◌||◌, nat_le, slice_get}
use Rattle.std.specs.Option.{option_map_or}
use Rattle.nc_types.specs.declared.TheConstants.{HOP_LIMIT}
use Rattle.nc_tables.specs.Filters.{passes}
use Rattle.nc_tables.specs.Forwarding.{Outcome, Deliver, Go, Lost, Alternative, alternatives, exit_iface, some_way, arrives_by, nowhere, goes_on}
use Rattle.nc_tables.specs.Reach.{owns}
use Rattle.nc_tables.specs.State.{StateView}

module _ (s : StateView) (from to : ℕ) where
  -- the interface by which a way leaves a router lets the packet out
  abbrev pub leaves : ℕ → Alternative → Bool
  leaves router way = option_map_or (λ iface. passes from to s.routers router iface false) (exit_iface s.routers s.base s.bgp s.main router to way) false

  -- the interface to which it leads lets the packet in; where it is delivered nothing more is asked
  abbrev pub enters : Outcome → Bool
  enters Deliver = true
  enters (Go next) = passes from to s.routers next.router next.place true
  enters Lost = false

  -- a way lets the packet pass
  abbrev pub lets : ℕ → Alternative → Bool
  lets router way = enters way.outcome && leaves router way

  -- whether the packet is let pass by some way to the owner of its address, or to a network on which it is delivered, over at most so
  -- many hops
  unfoldable pub flows : ℕ → ℕ → Bool
  flows zero router =
      owns s.routers router to
      || some_way (λ way. lets router way && arrives_by nowhere way.outcome) (alternatives s.routers s.base s.bgp s.main router to)
  flows (suc hops) router =
      owns s.routers router to
      || some_way (λ way. lets router way && arrives_by (flows hops) way.outcome) (alternatives s.routers s.base s.bgp s.main router to)

  -- whether it is by the way of this number, over at most so many hops, of which there are no more than the limit
  abbrev pub flow_step_at : ℕ → ℕ → ℕ → Bool
  flow_step_at router number hops =
      nat_le hops HOP_LIMIT
      && option_map_or (λ way. lets router way && arrives_by (goes_on (λ hops router addr. flows hops router) to hops) way.outcome)
      (slice_get (alternatives s.routers s.base s.bgp s.main router to) number) false
