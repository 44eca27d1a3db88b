use Rattle.nc_types.proofs.Ranges.{covers_range, lies, inside_covers}
use Rattle.nc_types.proofs.laws.prefixes_are_ranges.Goals as goal

pub returns-clause-range : goal.returns-clause-range
returns-clause-range c = covers_range

pub returns-clause-around : goal.returns-clause-around
returns-clause-around c = lies

pub returns-clause-inside : goal.returns-clause-inside
returns-clause-inside c = inside_covers
