use Rattle.nc_engine.proofs.Lending.{no-loan}
use Rattle.nc_engine.proofs.engine.Engine.let_go.Goals as goal

pub returns-clause-lent : goal.returns-clause-lent
returns-clause-lent c = no-loan c.self.inside.work
