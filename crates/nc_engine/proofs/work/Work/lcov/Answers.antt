use Rattle.std.proofs.Common.{map}
use Rattle.nc_report.specs.Texts.{lcov_of}
use Rattle.nc_report.specs.Views.{file_view}
use Rattle.nc_engine.proofs.Replying.{forms}
use Rattle.nc_engine.proofs.work.Work.lcov.Goals as goal

pub returns : goal.returns
returns c =
    let files = map file_view c.args.files.now in
    forms c.args.self.now c.requires c.marks_are_kept.ensures files (λ sheets. lcov_of sheets files) c.args.out.now.items c.push_lcov.new.out.items c.in_ok-push_lcov.ensures
