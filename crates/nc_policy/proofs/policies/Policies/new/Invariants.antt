use Rattle.std.proofs.Common.{◌≡◌, ℕ, Some, length, map}
use Rattle.std.specs.Prelude.{slice_get}
use Rattle.nc_types.specs.Config.{ConfigView, config_view}
use Rattle.nc_policy.specs.declared.router_index.RouterIndex.{RouterIndex}
use Rattle.nc_policy.specs.Seen.{IsIndexed}
use Rattle.nc_policy.proofs.policies.Policies.new.Given as goal

-- the routers so far have their tables
abbrev pub invariant-routers : goal.invariant-routers
invariant-routers l = record {
  count : length l.routers.items ≡ l.config-index;
  each : (k : ℕ) (c : ConfigView) (x : RouterIndex) → slice_get (map config_view l.configs) k ≡ Some c → slice_get l.routers.items k ≡ Some x → IsIndexed c x;
}
