use Rattle.std.proofs.Common.{◌∙◌}
use Rattle.nc_formula.proofs.laws.formulas_of_a_grown_store.Goals as goal

pub returns : goal.returns
returns c = λ g old new keeps table are. record {
  each = λ i r e.
      let d = are.each i r e in
      let more = keeps r d.belongs in
      record { holds = d.holds; belongs = more.0; means = λ s. more.1 s ∙ d.means s };
}
