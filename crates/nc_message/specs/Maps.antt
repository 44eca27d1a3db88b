-- Where the maps of a session stand.
use Rattle.std.specs.Prelude.{◌≡◌, Option}
use Rattle.std.specs.Option.{option_map}
use Rattle.nc_tables.specs.Rounds.{Link}
use Rattle.nc_policy.specs.Passing.{map_place}
use Rattle.nc_policy.specs.declared.policies.MapPlace.{MapPlace}

-- the map of the sender's statement for the receiver stands here, if there is one
abbrev pub IsMapOut : Link → Option MapPlace → Type 0
IsMapOut k place = option_map (λ p. p.0) place ≡ map_place k.sender.config k.sender.statement.map_out

-- the same of the map of the receiver's statement for the sender
abbrev pub IsMapIn : Link → Option MapPlace → Type 0
IsMapIn k place = option_map (λ p. p.0) place ≡ map_place k.receiver.config k.receiver.statement.map_in
