-- What a contract sees of rules.
use Rattle.std.specs.Prelude.{ℕ}
use Rattle.nc_tables.specs.State.{StateView}
use Rattle.nc_rules.specs.declared.rules.Rules.{Rules}

-- the state that they are of
abbrev pub state_of : Rules → StateView
state_of rules = rules.state

-- how many facts were asked for
abbrev pub asked_of : Rules → ℕ
asked_of rules = rules.asked
