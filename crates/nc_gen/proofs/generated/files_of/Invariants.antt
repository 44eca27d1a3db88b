use Rattle.std.proofs.Common.{◌≡◌, map}
use Rattle.nc_gen.specs.Tree.{below}
use Rattle.nc_gen.specs.Shape.{router_at}
use Rattle.nc_gen.specs.Files.{file_of, file_view}
use Rattle.nc_gen.proofs.generated.files_of.Given as goal

-- the files so far are those of the routers so far
abbrev pub invariant-routers : goal.invariant-routers
invariant-routers l = map file_view l.files.items ≡ map (λ number. file_of l.tree (router_at l.tree number)) (below l.number)
