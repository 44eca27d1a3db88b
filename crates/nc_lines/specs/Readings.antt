-- What a statement says, as the code hands it on.
use Rattle.nc_lines.specs.declared.statement.Reading.{Reading as Read}
use Rattle.nc_lines.specs.declared.statement.Reading.TheVariants as reads
use Rattle.nc_lines.specs.Statements.{Reading, Outside, Faulty, Says}

-- what a statement says by its reading
abbrev pub reading_of : {S : Type 0} → Read S → Reading S
reading_of reads.Outside = Outside
reading_of (reads.Faulty cause) = Faulty cause
reading_of (reads.Says s) = Says s
