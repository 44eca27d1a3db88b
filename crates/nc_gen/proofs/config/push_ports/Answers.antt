use Rattle.std.proofs.Common.{◌++◌, List, sym, ◌∙◌, arith}
use Rattle.std.proofs.lemmas.List.{at_drop_more, at_drop_all}
use Rattle.nc_gen.specs.declared.ports.Port.{Port}
use Rattle.nc_gen.specs.Files.{text_of, port_lines}
use Rattle.nc_gen.proofs.TextLemmas.{next-text, all-text}
use Rattle.nc_gen.proofs.config.push_ports.Goals as goal

pub ports-preserved : goal.ports-preserved
ports-preserved c =
    let before = λ (ps : List Port). c.ports.out.items ++ text_of (port_lines c.ports.place ps) in
    next-text _ _ _ _ _ (sym (at_drop_more before c.args.ports.now c.ports.place _ c.ports-test.true) ∙ c.ports.invariant) c.in_ok-push_interface.ensures

pub returns : goal.returns
returns c =
    let before = λ (ps : List Port). c.ports.out.items ++ text_of (port_lines c.ports.place ps) in
    all-text _ _ (sym (at_drop_all before c.args.ports.now c.ports.place (omega arith)) ∙ c.ports.invariant)
