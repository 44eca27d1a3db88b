use Rattle.nc_report.proofs.Ascii.{texts-made}
use Rattle.nc_report.proofs.report.sheets.Goals as goal

pub returns-clause-texts : goal.returns-clause-texts
returns-clause-texts c =
    texts-made c.args.network.now c.args.marks.now c.routers-routers.result.now _ _ c.routers-routers.ensures.valid c.routers-routers.ensures.routers c.routers.invariant
