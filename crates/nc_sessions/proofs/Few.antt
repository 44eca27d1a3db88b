-- A router of a valid network has few statements and few interfaces.
use Rattle.std.proofs.Common.{◌≡◌, ℕ, ◌^◌, ◌<◌, List, [], length, Option, Some, None, slice_get, refl, arith}
use Rattle.std.specs.Option.{option_map_or}
use Rattle.nc_types.specs.Config.{ConfigView, ProcessView}
use Rattle.nc_types.specs.WellFormed.{IsWellFormed}
use Rattle.nc_types.specs.Network.{element_count}
use Rattle.nc_types.specs.Joining.{IsValid}
use Rattle.nc_types.proofs.Few.{few_interfaces, few_of_process, few_in_network}
use Rattle.nc_types.proofs.Members.{all_in, in_by_get}
use Rattle.nc_sessions.specs.Statements.{neighbors_of}

module _ (routers : List ConfigView) (valid : IsValid routers) (count : element_count routers < 2 ^ 32) (router : ℕ) where
  formed : (c : ConfigView) → slice_get routers router ≡ Some c → IsWellFormed c
  formed c at = all_in IsWellFormed routers valid.each c (in_by_get routers router c at)

  pub few_neighbors : (c : ConfigView) → slice_get routers router ≡ Some c → length (neighbors_of c) < 2 ^ 32
  few_neighbors c at = by_process c.process refl
    where
      by_process : (o : Option ProcessView) → c.process ≡ o → length (option_map_or (λ (p : ProcessView). p.neighbors) o []) < 2 ^ 32
      by_process None e = omega arith
      by_process (Some p) e = omega (arith, few_of_process c p (formed c at) e, few_in_network routers router c at)

  pub few_ifaces : (c : ConfigView) → slice_get routers router ≡ Some c → length c.interfaces < 2 ^ 32
  few_ifaces c at = omega (arith, few_interfaces c (formed c at), few_in_network routers router c at)
