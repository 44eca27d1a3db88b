-- The files of a network, and a network that was loaded from them.
use Rattle.std.specs.Prelude.{ℕ, Bool, List, [], slice_index_or}
use Rattle.nc_tables.specs.State.{StateView}
use Rattle.nc_report.specs.Views.{FileView}

-- the file of the router of a number, one without lines where there is none
abbrev pub file_in : List FileView → ℕ → FileView
file_in files router = slice_index_or files router (record { name = []; lines = [] })

-- a network that was loaded: the state in which its routing settles, the files of its routers, in order, and whether reports
-- list the lines of each router behind their counts
pub record LoadedView : Type 0 where
  pub state : StateView
  pub files : List FileView
  pub listed : Bool
