-- Which elements diagrams need.
use Rattle.std.specs.Prelude.{ℕ, Bool, not, [], ◌∷◌, List}
use Rattle.nc_diagram.specs.declared.node.Node.{Node}
use Rattle.nc_diagram.specs.Diagrams.{meaning}
use Rattle.nc_diagram.specs.Sets.{all_but}

-- the function of the reference is false at the set of all elements but this one
abbrev pub needed : List Node → ℕ → ℕ → Bool
needed nodes r e = not (meaning nodes r (all_but (e ∷ [])))
