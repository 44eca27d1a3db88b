use Rattle.nc_report.specs.Texts.{json_of}
use Rattle.nc_engine.proofs.Replying.{forms}
use Rattle.nc_engine.proofs.work.Work.json.Goals as goal

pub returns : goal.returns
returns c = λ files.
    forms c.args.self.now c.requires c.marks_are_kept.ensures files json_of c.args.out.now.items c.push_json.new.out.items c.in_ok-push_json.ensures
