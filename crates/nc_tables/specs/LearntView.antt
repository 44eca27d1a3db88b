-- The candidate that is learnt, before it is in memory.
use Rattle.std.specs.Prelude.{ℕ, List, [], ◌∷◌, Option, Some, None}
use Rattle.std.specs.Option.{option_map_or}
use Rattle.nc_tables.specs.declared.bgp.Chosen.{Chosen}
use Rattle.nc_tables.specs.declared.learnt.Learnt.{Learnt}

-- a path with a number before it, where there is one
abbrev pub path_after : Option ℕ → List ℕ → List ℕ
path_after None path = path
path_after (Some number) path = number ∷ path

abbrev pub learnt_view : Learnt → Chosen
learnt_view l =
    record {
      route = record { prefix = l.prefix; path = path_after l.system l.path.now; next_hop = l.next_hop; preference = l.preference; metric = l.metric; origin = l.origin; communities = option_map_or (λ c. c.now) l.communities [] };
      from = l.from;
      internal = l.internal;
      sender_id = l.sender_id;
      sender = l.sender;
    }
