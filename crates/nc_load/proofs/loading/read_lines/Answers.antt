use Rattle.std.proofs.Common.{sym, arith}
use Rattle.nc_types.specs.Config.{config_view}
use Rattle.nc_load.proofs.Joined.{configured}
use Rattle.nc_load.proofs.loading.read_lines.Goals as goal

pub returns-in-Ok-clause-read : goal.returns-in-Ok-clause-read
returns-in-Ok-clause-read c =
    let count = configured c.in_ok-lines.lines (config_view c.in-Ok.config) c.in-Ok.ensures.read in
    record { formed = c.in-Ok.ensures.well_formed; lines = omega (arith, count, c.count.ensures, c.if-count-gt-LINE_LIMIT.false) }

pub returns-in-Ok-clause-beside : goal.returns-in-Ok-clause-beside
returns-in-Ok-clause-beside c = sym (configured c.in_ok-lines.lines (config_view c.in-Ok.config) c.in-Ok.ensures.read)
