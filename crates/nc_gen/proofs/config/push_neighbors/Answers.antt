use Rattle.std.proofs.Common.{◌++◌, List, map, sym, ◌∙◌, arith}
use Rattle.std.proofs.lemmas.List.{at_drop_more, at_drop_all}
use Rattle.nc_gen.specs.declared.ports.Port.{Port}
use Rattle.nc_gen.specs.Files.{text_of, neighbor_line}
use Rattle.nc_gen.proofs.TextLemmas.{next-text, one-line, all-text}
use Rattle.nc_gen.proofs.config.push_neighbors.Goals as goal

pub ports-preserved : goal.ports-preserved
ports-preserved c =
    let before = λ (ps : List Port). c.ports.out.items ++ text_of (map neighbor_line ps) in
    next-text _ _ _ _ _ (sym (at_drop_more before c.args.ports.now c.ports.port-index _ c.ports-test.true) ∙ c.ports.invariant)
    (one-line _ _ _ _ c.in_ok-push_line.ensures (c.as_bytes.ensures.value ∙ c.in_ok-neighbor.ensures))

pub returns : goal.returns
returns c =
    let before = λ (ps : List Port). c.ports.out.items ++ text_of (map neighbor_line ps) in
    all-text _ _ (sym (at_drop_all before c.args.ports.now c.ports.port-index (omega arith)) ∙ c.ports.invariant)
