-- Where the maps of a session stand, and how high a preference is accepted over it.
use Rattle.std.specs.Prelude.{ℕ}
use Rattle.nc_types.specs.declared.TheConstants.{DEFAULT_PREFERENCE}
use Rattle.nc_tables.specs.Rounds.{Link}
use Rattle.nc_policy.specs.Preferences.{higher_of, highest_preference}
use Rattle.nc_message.specs.Maps.{IsMapIn, IsMapOut}
use Rattle.nc_decision.specs.declared.peerings.SessionMaps.{SessionMaps}

-- what comes from another system has the preference that such routes begin with, or one that the receiver's map sets
abbrev pub highest_from_outside : Link → ℕ
highest_from_outside k = higher_of DEFAULT_PREFERENCE (highest_preference k.receiver.config k.receiver.statement.map_in)

-- the maps of both ends stand here
pub record AreMapsOf (k : Link) (m : SessionMaps) : Type 0 where
  pub out : IsMapOut k m.out
  pub into : IsMapIn k m.into
