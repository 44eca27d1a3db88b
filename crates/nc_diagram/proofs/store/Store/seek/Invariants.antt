use Rattle.indexmap.specs.IndexSet.{contains}
use Rattle.nc_diagram.specs.Operations.{pair_eq}
use Rattle.nc_diagram.proofs.CounterLemmas.{IsSearching, search_left}
use Rattle.nc_diagram.proofs.store.Store.seek.Given as goal

abbrev pub invariant-walk : goal.invariant-walk
invariant-walk l = IsSearching l.self.nodes l.fn.pair l.turns.items (contains pair_eq l.barren) l.at

abbrev pub decreases-walk : goal.decreases-walk
decreases-walk l = search_left l.turns.items l.at
