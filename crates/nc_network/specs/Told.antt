-- How a judgement is told: as a fault, or as none.
use Rattle.std.specs.Prelude.{◌≡◌, ℕ, Option, Some, None, Result, Ok, Err}
use Rattle.nc_types.specs.declared.config.RouterId.{RouterId}
use Rattle.nc_types.specs.Joining.{Clash}
use Rattle.nc_network.specs.declared.fault.JoinFault.{JoinFault}
use Rattle.nc_network.specs.declared.fault.JoinFault.TheVariants.{SameName, Overlap, SameAddress, Undefined, Limit, Memory}
use Rattle.nc_network.specs.Judged.{ClashKind, Names, Overlaps, Addresses, References, Judgement, Clashing, OverLimit, Fine}

-- the router of a number
abbrev pub router_of : ℕ → RouterId
router_of number = record { 0 = number }

-- the fault that a clash is
abbrev pub clash_fault : ClashKind → Clash → JoinFault
clash_fault Names c = SameName (router_of c.first) (router_of c.second) c.second_line
clash_fault Overlaps c = Overlap (router_of c.first) c.first_line c.second_line
clash_fault Addresses c = SameAddress (router_of c.first) c.first_line (router_of c.second) c.second_line
clash_fault References c = Undefined (router_of c.first) c.first_line

-- the fault of a judgement, if it has one
abbrev pub fault_of : Judgement → Option JoinFault
fault_of (Clashing kind c) = Some (clash_fault kind c)
fault_of (OverLimit which) = Some (Limit which)
fault_of Fine = None

-- a result tells a judgement: it is the fault, or Ok where there is none; want of memory may stand for each
abbrev pub IsTold : {T : Type 0} → Judgement → Result T JoinFault → Type 0
IsTold judgement (Ok value) = judgement ≡ Fine
IsTold judgement (Err Memory) = Unit {0}
IsTold judgement (Err fault) = fault_of judgement ≡ Some fault
