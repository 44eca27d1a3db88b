-- The candidate of a prefix that has these attributes.
use Rattle.std.specs.Prelude.{◌≡◌, ◌≤◌, length}
use Rattle.nc_types.specs.Cidr.{Cidr}
use Rattle.nc_types.specs.declared.TheConstants.{PATH_LIMIT}
use Rattle.nc_tables.specs.declared.bgp.Chosen.{Chosen}
use Rattle.nc_tables.specs.declared.rib_entry.Attributes.{Attributes}

abbrev pub entry_of : Cidr → Attributes → Chosen
entry_of p a =
    record {
      route = record { prefix = p; path = a.path; next_hop = a.next_hop; preference = a.preference; metric = a.metric; origin = a.source.origin; communities = a.communities };
      from = a.source.from;
      internal = a.source.internal;
      sender_id = a.source.sender_id;
      sender = a.source.sender;
    }

-- the number that stands beside the path is how many numbers that has, and no more than a path may have
abbrev pub IsCounted : Attributes → Type 0
IsCounted a = (a.source.length ≡ length a.path) × (length a.path ≤ PATH_LIMIT)
