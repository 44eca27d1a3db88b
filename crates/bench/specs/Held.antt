-- Which references a store holds on to.
use Rattle.std.specs.Prelude.{ℕ}
use Rattle.nc_diagram.specs.Diagrams.{Diagrams, Belongs}

-- what belonged to the old store belongs to the new one
abbrev pub HoldsOn : Diagrams → Diagrams → Type 0
HoldsOn old new = (r : ℕ) → Belongs old.nodes r → Belongs new.nodes r
