use Rattle.std.proofs.Common.{◌≡◌, ◌++◌, sym, subst}
use Rattle.nc_gen.specs.declared.tree.Router.{Router}
use Rattle.nc_gen.specs.Files.{text_of, network_lines}
use Rattle.nc_gen.proofs.TextLemmas.{no-line}
use Rattle.nc_gen.proofs.config.push_network.Goals as goal

pub returns-in-Core : goal.returns-in-Core
returns-in-Core c =
    subst (λ (r : Router). c.args.out.now.items ≡ c.args.out.now.items ++ text_of (network_lines c.args.tree r)) (sym c.in-Core.is) (no-line c.args.out.now.items)

pub returns-in-Aggregation : goal.returns-in-Aggregation
returns-in-Aggregation c =
    subst (λ (r : Router). c.args.out.now.items ≡ c.args.out.now.items ++ text_of (network_lines c.args.tree r)) (sym c.in-Aggregation.is) (no-line c.args.out.now.items)
