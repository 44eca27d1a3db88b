-- The communities that a statement names.
use Rattle.std.specs.Prelude.{ℕ, List, [], ◌∷◌, Option, Some, None, is_some, if◌then◌else◌}
use Rattle.std.specs.Option.{option_map_or}
use Rattle.nc_types.specs.Communities.{gather}
use Rattle.nc_community.specs.Words.{community_of}

-- the communities that the first words write, up to one that writes none
abbrev pub communities_in : List (List ℕ) → List ℕ
communities_in [] = []
communities_in (word ∷ words) = option_map_or (λ n. n ∷ communities_in words) (community_of word) []

-- the words from the first on that writes no community
abbrev pub behind_communities : List (List ℕ) → List (List ℕ)
behind_communities [] = []
behind_communities (word ∷ words) = if is_some (community_of word) then behind_communities words else word ∷ words

-- a set that has a member
abbrev pub some_members : Option (List ℕ) → Option (List ℕ)
some_members None = None
some_members (Some []) = None
some_members (Some (n ∷ ns)) = Some (n ∷ ns)

-- the set of the communities that the first words write: at least one, and no more than a route carries
abbrev pub members_in : List (List ℕ) → Option (List ℕ)
members_in words = some_members (gather (communities_in words))
