use Rattle.std.proofs.Common.{ℕ, All, sym, subst}
use Rattle.nc_round.specs.Renewing.{IsLocRibChange}
use Rattle.nc_round.proofs.renewal.renew.Goals as goal

pub complete-requires : goal.complete-requires
complete-requires c = subst (λ (n : ℕ). All (IsLocRibChange n c.args.ribs.prefixes) c.in_ok-changes.changes.items) (sym c.requires.rows.count) c.in_ok-changes.ensures.changes

pub returns-clause-table : goal.returns-clause-table
returns-clause-table c =
    c.in_ok-made.ensures.table c.args.inputs c.args.rows.now
    (record { enough = c.requires.rows; numbers = c.requires.numbers; anew = record { made = c.in_ok-changes.ensures.rows; each = c.in_ok-changes.ensures.changes } })

pub returns-clause-changed : goal.returns-clause-changed
returns-clause-changed c =
    c.in_ok-made.ensures.changed c.args.inputs c.args.rows.now
    (record { enough = c.requires.rows; numbers = c.requires.numbers; anew = record { made = c.in_ok-changes.ensures.rows; each = c.in_ok-changes.ensures.changes } })
