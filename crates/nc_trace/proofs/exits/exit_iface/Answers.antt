use Rattle.std.proofs.Common.{ℕ, Option, ap, ◌∙◌}
use Rattle.std.specs.Prelude.{option_and_then}
use Rattle.std.specs.Option.{option_map}
use Rattle.nc_tables.specs.declared.bgp.MainRow.{MainRow}
use Rattle.nc_tables.specs.Forwarding.{exit_by_main}
use Rattle.nc_tables.specs.State.{StateView}
use Rattle.nc_trace.proofs.exits.exit_iface.Goals as goal

-- by a main row
abbrev by_row : StateView → ℕ → ℕ → Option ℕ → MainRow → Option ℕ
by_row s router addr base row = option_map (λ exit. exit.iface) (exit_by_main s.routers s.base s.bgp s.main router addr row row.from base)

pub returns : goal.returns
returns c =
    c.row_iface.ensures c.args.addr.0
    ∙ ap (option_and_then (by_row c.args.state.now c.args.router.0 c.args.addr.0 c.args.way.base)) c.in_ok-row.ensures.row
