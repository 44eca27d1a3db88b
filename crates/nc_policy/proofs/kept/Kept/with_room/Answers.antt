use Rattle.nc_policy.specs.Seen.{asked_view, prefix_table}
use Rattle.nc_policy.proofs.Asking.{none_asked, none_more}
use Rattle.nc_policy.proofs.Tabling.{none_kept}
use Rattle.nc_policy.proofs.kept.Kept.with_room.Goals as goal

pub maps-preserved : goal.maps-preserved
maps-preserved c = none_more c.maps.asked.items c.push.new.self.items c.in_ok-push.ensures.items c.maps.invariant

pub returns-clause-kept : goal.returns-clause-kept
returns-clause-kept c = none_kept (prefix_table c.args.numbers.value) c.maps.asked.items 0 c.maps.invariant

pub returns-clause-asked : goal.returns-clause-asked
returns-clause-asked c = λ config. none_asked asked_view config c.maps.asked.items c.maps.invariant
