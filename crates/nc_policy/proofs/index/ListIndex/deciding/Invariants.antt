use Rattle.std.proofs.Common.{◌≡◌, List}
use Rattle.std.specs.Prelude.{position}
use Rattle.nc_types.specs.declared.config.ListEntry.{ListEntry}
use Rattle.nc_policy.specs.Indexes.{is_shorter}
use Rattle.nc_policy.specs.Seen.{IsIndexOf}
use Rattle.nc_policy.proofs.index.ListIndex.deciding.Given as goal

-- the first entry of shorter prefixes
abbrev pub invariant-lengths : goal.invariant-lengths
invariant-lengths l = (entries : List ListEntry) → IsIndexOf entries l.self → l.best ≡ position (is_shorter l.len l.prefix) entries
