use Rattle.std.proofs.Common.{◌<◌, length, rules}
use Rattle.nc_policy.specs.Seen.{asked_view, prefix_table}
use Rattle.nc_policy.proofs.Asking.{asked_more}
use Rattle.nc_policy.proofs.Tabling.{kept_more}
use Rattle.nc_policy.proofs.kept.Kept.mark.Goals as goal

pub returns-then-map-len-2-clause-kept : goal.returns-then-map-len-2-clause-kept
returns-then-map-len-2-clause-kept c = λ config name are own right.
    let within : c.args.map < length c.args.self.now.asked.items = search rules in
    kept_more config (prefix_table c.args.self.now.numbers.value) c.args.self.now.asked.items c.args.map c.args.asked name within own right are

pub returns-then-map-len-2-clause-asked : goal.returns-then-map-len-2-clause-asked
returns-then-map-len-2-clause-asked c = λ config name are own known.
    let within : c.args.map < length c.args.self.now.asked.items = search rules in
    asked_more asked_view config c.args.self.now.asked.items c.args.map c.args.asked name within own known are
