-- The statements that apply an access list to an interface (Cisco IOS command reference, `ip access-group`).
use Rattle.std.specs.Prelude.{ℕ, Bool, true, false, ◌||◌, ◌==◌, List, [], ◌∷◌, Option, Some, None, option_and_then, if◌then◌else◌, codes}
use Rattle.std.specs.List.{last_or}
use Rattle.std.specs.Option.{option_map, option_map_or}
use Rattle.std.specs.Str.{bytes_eq}
use Rattle.nc_types.specs.declared.filters.Group.{Group}
use Rattle.nc_lines.specs.Lines.{words_of}
use Rattle.nc_lines.specs.Parts.{Numbered}
use Rattle.nc_lines.specs.Statements.{after}

-- a list, and whether it filters what comes in
pub record GroupSays : Type 0 where
  pub list : List ℕ
  pub inward : Bool

-- the word `in` or `out`
abbrev pub direction_of : List ℕ → Option Bool
direction_of word = if bytes_eq word (codes "in") then Some true else (if bytes_eq word (codes "out") then Some false else None)

-- what is behind `ip access-group`: the name of a list and a direction, and nothing more
abbrev pub behind_group : List (List ℕ) → Option GroupSays
behind_group (list ∷ direction ∷ []) = option_map (λ inward. record { list = list; inward = inward }) (direction_of direction)
behind_group words = None

-- what the words of a line say that applies a list
unfoldable pub group_says : List (List ℕ) → Option GroupSays
group_says words = option_and_then behind_group (after (codes "ip" ∷ codes "access-group" ∷ []) words)

-- the bytes in which a direction ends, and gaps
abbrev pub is_end : ℕ → Bool
is_end b = (b == 110) || ((b == 116) || ((b == 32) || (b == 9)))

-- what the last of some lines says
abbrev pub last_says : List Numbered → Option GroupSays
last_says block = option_and_then (λ l. group_says (words_of l.text)) (last_or None block)

-- what these lines apply to the interface of this name in a direction: the last one decides
unfoldable pub applied_in : List ℕ → Bool → List Numbered → Group
applied_in iface inward block =
    record { iface = iface; inward = inward; list = option_map_or (λ s. s.list) (last_says block) []; element = 0 }
