-- What is followed, and by which ways it has to arrive.
use Rattle.std.specs.Prelude.{ℕ, Bool, true, false, Option, Some, None}
use Rattle.nc_types.specs.declared.addr.Addr.{Addr}
use Rattle.nc_trace.specs.declared.packet.Packet.{Packet}
use Rattle.nc_trace.specs.declared.packet.By.{By}
use Rattle.nc_trace.specs.declared.packet.By.TheVariants.{SomeWay, EachWay, Filtered}

-- a packet to an address: from anywhere, or from an address
abbrev pub anywhere : ℕ → Packet
anywhere to = record { from = None; to = record { 0 = to } }

abbrev pub between : ℕ → ℕ → Packet
between from to = record { from = Some (record { 0 = from }); to = record { 0 = to } }

-- the address from which the packet comes, where access lists are asked
abbrev pub source_of : By → Option Addr
source_of SomeWay = None
source_of EachWay = None
source_of (Filtered from) = Some from

abbrev pub packet_of : By → ℕ → Packet
packet_of by to = record { from = source_of by; to = record { 0 = to } }

abbrev pub is_each : By → Bool
is_each SomeWay = false
is_each EachWay = true
is_each (Filtered from) = false
