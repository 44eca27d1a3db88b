-- The words by which a refusal tells what passes its limit, and what is wrong with a line.
use Rattle.std.specs.Prelude.{ℕ, List, codes}
use Rattle.nc_load.specs.declared.refusal.Quantity.{Quantity}
use Rattle.nc_load.specs.declared.refusal.Quantity.TheVariants.{Routers, Bytes, Lines, Prefixes, Neighbors}
use Rattle.nc_load.specs.declared.refusal.Reason.{Reason}
use Rattle.nc_load.specs.declared.refusal.Reason.TheVariants.{Syntax, Unsupported, NoName, TwoProcesses, SameName, Overlap, SameAddress, Undefined}

-- the word of a quantity, and of a reason
abbrev pub quantity_text : Quantity → List ℕ
quantity_text Routers = codes "routers"
quantity_text Bytes = codes "bytes"
quantity_text Lines = codes "lines"
quantity_text Prefixes = codes "prefixes"
quantity_text Neighbors = codes "neighbours"

abbrev pub reason_text : Reason → List ℕ
reason_text Syntax = codes "syntax"
reason_text Unsupported = codes "unsupported"
reason_text NoName = codes "no-name"
reason_text TwoProcesses = codes "two-processes"
reason_text SameName = codes "same-name"
reason_text Overlap = codes "overlap"
reason_text SameAddress = codes "same-address"
reason_text Undefined = codes "undefined"
