use Rattle.std.proofs.Common.{◌≡◌, ◌++◌, drop, All}
use Rattle.nc_tables.specs.Rounds.{made_from, entry_at}
use Rattle.nc_message.specs.Inputs.{IsOf}
use Rattle.nc_decision.proofs.candidates.add_entries.Given as goal

-- the neighbor statements that are left make what is missing
abbrev pub invariant-neighbors : goal.invariant-neighbors
invariant-neighbors l = record {
  made :
      l.candidates.items ++ made_from (λ place n. entry_at l.inputs.network.now l.inputs.base.now l.inputs.sessions.now l.ribs.rows l.router.0 place l.of.prefix) l.place (drop l.place l.neighbors)
      ≡ l.fn.candidates.items ++ made_from (λ place n. entry_at l.inputs.network.now l.inputs.base.now l.inputs.sessions.now l.ribs.rows l.router.0 place l.of.prefix) 0 l.neighbors;
  own : All (IsOf l.of.prefix) l.fn.candidates.items → All (IsOf l.of.prefix) l.candidates.items;
}
