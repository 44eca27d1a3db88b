use Rattle.std.proofs.Common.{ℕ, false, List, ap, ◌∙◌}
use Rattle.std.proofs.lemmas.Bool.{eqb-true}
use Rattle.nc_reader.specs.Steps.{kind_of}
use Rattle.nc_reader.proofs.RoleLemmas.{comment_line}
use Rattle.nc_reader.proofs.role.is_comment.Goals as goal

pub returns : goal.returns
returns c = λ e later.
    ap (λ (line : List ℕ). kind_of false line later) c.in-Some.ensures.cases.0 ∙ comment_line c.in-Some.first.now c.in-Some.field-0-1.now later (eqb-true _ _ e)
