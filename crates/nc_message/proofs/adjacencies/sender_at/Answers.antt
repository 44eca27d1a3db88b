use Rattle.std.proofs.Common.{ap, ◌∙◌}
use Rattle.std.specs.Prelude.{is_some}
use Rattle.nc_message.proofs.adjacencies.sender_at.Goals as goal

pub returns-in_err-link-clause-known : goal.returns-in_err-link-clause-known
returns-in_err-link-clause-known c = ap is_some c.from_residual.ensures ∙ ap is_some c.in_err-link.ensures

pub returns-clause-known : goal.returns-clause-known
returns-clause-known c = ap is_some c.in_ok-link.ensures
