-- The lines of the routers as one text, and where each stands in it.
use Rattle.std.specs.Prelude.{◌≡◌, ℕ, ◌+◌, ◌-◌, List, [], ◌∷◌, length, map, take, drop}
use Rattle.std.specs.List.{flat_map}
use Rattle.nc_report.specs.declared.listing.Place.{Place}
use Rattle.nc_report.specs.Texts.{Sheet, sheet_of}

-- what stands at a place of a text
abbrev pub sheet_between : List ℕ → Place → Sheet
sheet_between text p = record { name = take (p.letters - 1 - p.start) (drop p.start text); letters = take (p.end - p.letters) (drop p.letters text) }

-- the place of the line of a router which begins there
abbrev pub place_at : ℕ → Sheet → Place
place_at start s = record { start = start; letters = start + length s.name + 1; end = start + length s.name + 1 + length s.letters }

-- the places of the lines of routers, the first of which begins there
abbrev pub places_from : ℕ → List Sheet → List Place
places_from start [] = []
places_from start (s ∷ ss) = place_at start s ∷ places_from (start + length (sheet_of s)) ss

-- a text of the lines of routers, and their places
pub record AreListed (text : List ℕ) (places : List Place) : Type 0 where
  pub lines : text ≡ flat_map sheet_of (map (sheet_between text) places)
  pub stand : places ≡ places_from 0 (map (sheet_between text) places)
