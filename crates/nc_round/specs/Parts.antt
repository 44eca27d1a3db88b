-- Lists that stand one behind the other in one list.
use Rattle.std.specs.Prelude.{List, map, slice_range}
use Rattle.nc_tables.specs.declared.ribs.Numbered.{Numbered}
use Rattle.nc_round.specs.declared.by_router.Part.{Part}

-- the lists that stand at these parts of one
abbrev pub cut_at : List Numbered → List Part → List (List Numbered)
cut_at all parts = map (λ p. slice_range all p.from p.to) parts
