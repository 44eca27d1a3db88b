use Rattle.std.proofs.Common.{◌++◌, ◌∷◌, [], map, sym, ap, ◌∙◌}
use Rattle.nc_gen.specs.Tree.{number_of}
use Rattle.nc_gen.specs.Files.{system_line, relax_line, paths_line, network_lines, neighbor_line}
use Rattle.nc_gen.proofs.TextLemmas.{then-text, one-line}
use Rattle.nc_gen.proofs.config.push_process.Goals as goal

pub returns : goal.returns
unfolding relax_line
returns c =
    let t = c.args.tree in
    let router = c.args.router in
    let behind = network_lines t router ++ map neighbor_line c.args.ports.now in
    then-text _ _ _ (system_line (number_of t router) ∷ []) (relax_line ∷ paths_line t.half ∷ behind)
    (one-line _ _ _ (system_line (number_of t router)) c.in_ok-push_line.ensures (c.as_bytes.ensures.value ∙ c.in_ok-system.ensures ∙ ap system_line (sym c.requires.numbered.is)))
    (then-text _ _ _ (relax_line ∷ []) (paths_line t.half ∷ behind) c.in_ok-push_line-2.ensures
    (then-text _ _ _ (paths_line t.half ∷ []) behind
    (one-line _ _ _ (paths_line t.half) c.in_ok-push_line-3.ensures (c.as_bytes-2.ensures.value ∙ c.in_ok-paths.ensures))
    (then-text _ _ _ (network_lines t router) (map neighbor_line c.args.ports.now) c.in_ok-push_network.ensures c.in_ok-push_neighbors.ensures)))
