use Rattle.nc_tables.proofs.Settled.{found, stable_found}
use Rattle.nc_tables.proofs.laws.settling_is_lawful.Goals as goal

pub returns-clause-found : goal.returns-clause-found
returns-clause-found c routers tables sessions rounds = found routers tables sessions rounds

pub returns-clause-stable : goal.returns-clause-stable
returns-clause-stable c routers tables sessions rounds table is = stable_found routers tables sessions rounds table is
