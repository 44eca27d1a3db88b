-- The files of a network.
use Rattle.std.specs.Prelude.{◌≡◌, ℕ, List, length, Some, slice_get}
use Rattle.nc_types.specs.Config.{ConfigView}
use Rattle.nc_report.specs.Views.{FileView}

-- there is a file a router, in order, and it has the lines that the router's configuration counts
pub record AreFilesOf (routers : List ConfigView) (files : List FileView) : Type 0 where
  pub count : length files ≡ length routers
  pub each : (router : ℕ) (c : ConfigView) (f : FileView) → slice_get routers router ≡ Some c
      → slice_get files router ≡ Some f → length f.lines ≡ c.line_count
