-- The numbers of the endings.
use Rattle.std.specs.Prelude.{ℕ}
use Rattle.nc_trials.specs.declared.ending.Ending.{Ending}
use Rattle.nc_trials.specs.declared.ending.Ending.TheVariants.{Done, Config, Usage, Unstable, InputFault, OutputFault, FileFault, Memory, Limit}

-- the number that a program ends with
abbrev pub number_of : Ending → ℕ
number_of Done = 0
number_of Config = 1
number_of Usage = 2
number_of Unstable = 3
number_of InputFault = 4
number_of OutputFault = 5
number_of FileFault = 6
number_of Memory = 7
number_of Limit = 8
