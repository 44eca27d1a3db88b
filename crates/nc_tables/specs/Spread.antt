-- What a router chooses of all prefixes, where prefixes stand for others: of each what stands in a row of its own, or else what it chooses
-- of the one that stands for it.
use Rattle.std.specs.Prelude.{ℕ, List, [], ◌∷◌, map, slice_index_or}
use Rattle.std.specs.List.{find}
use Rattle.std.specs.Option.{option_map_or}
use Rattle.nc_types.specs.Cidr.{Cidr}
use Rattle.nc_tables.specs.declared.bgp.Chosen.{Chosen}
use Rattle.nc_tables.specs.Base.{same_prefix}
use Rattle.nc_tables.specs.LocRibs.{rows_by}
use Rattle.nc_tables.specs.Rounds.{BgpRowView}

-- the same candidate, of this prefix
abbrev pub with_prefix : Cidr → Chosen → Chosen
with_prefix p x = record x { route = record x.route { prefix = p } }

-- what stands in the row of a prefix, or else this
abbrev pub chosen_or : List BgpRowView → Cidr → List Chosen → List Chosen
chosen_or own p others = option_map_or (λ row. row.chosen) (find (λ row. same_prefix row.prefix p) own) others

module _ (own : List BgpRowView) (standing : List (List Chosen)) where
  -- what is chosen of a prefix, for which the one at a place stands
  abbrev pub choice_of : Cidr → ℕ → List Chosen
  choice_of p place = map (with_prefix p) (chosen_or own p (slice_index_or standing place []))

  -- what is chosen of each of some prefixes, given the places of those that stand for them
  abbrev pub choices_of : List Cidr → List ℕ → List (List Chosen)
  choices_of [] places = []
  choices_of (p ∷ ps) [] = []
  choices_of (p ∷ ps) (place ∷ places) = choice_of p place ∷ choices_of ps places

  -- the rows that come of it
  abbrev pub spread_rows : List Cidr → List ℕ → List BgpRowView
  spread_rows prefixes places = rows_by prefixes (choices_of prefixes places)
