use Rattle.std.proofs.Common.{ap}
use Rattle.std.specs.List.{list_any}
use Rattle.nc_diagram.specs.Operations.{pair_eq}
use Rattle.nc_diagram.proofs.store.Store.greatest.Goals as goal

pub seek-requires-clause-barren : goal.seek-requires-clause-barren
seek-requires-clause-barren c = λ p. ap (list_any (pair_eq p)) c.new-barren.ensures.empty
