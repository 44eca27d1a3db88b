-- What is known of the ways of packets for addresses, and of those that let one packet pass.
use Rattle.std.specs.Prelude.{nat_eq}
use Rattle.std.specs.HashMap.{HashMap, get}
use Rattle.std.specs.Option.{ForSome}
use Rattle.nc_types.specs.declared.addr.Addr.{Addr}
use Rattle.nc_tables.specs.State.{StateView}
use Rattle.nc_trace.specs.Flow.{IsFlowTo}
use Rattle.nc_trace.specs.Traced.{IsTracedTo}
use Rattle.nc_rules.specs.declared.known.Known.{Known}
use Rattle.nc_rules.specs.declared.known.Past.{Past}
use Rattle.nc_rules.specs.declared.flows.KnownFlow.{KnownFlow}

-- the ways that are kept by address are right in a state
abbrev pub AreTraced : {S : Type 0} → StateView → HashMap Addr Past S → Type 0
AreTraced s kept = (addr : Addr) → ForSome (get (λ a b. nat_eq a.0 b.0) kept addr) (λ past. IsTracedTo s addr.0 past.traced)

-- so are those for the address that was asked for last, and those for others
pub record IsKnown (s : StateView) (known : Known) : Type 0 where
  pub traced : IsTracedTo s known.addr.0 known.traced
  pub others : AreTraced s known.others

abbrev pub IsKnownFlow : StateView → KnownFlow → Type 0
IsKnownFlow s known = IsFlowTo s known.from.0 known.to.0 known.flowing
