use Rattle.std.proofs.Common.{◌≡◌, length, List, sym, ap, ◌∙◌, arith}
use Rattle.std.proofs.lemmas.List.{length-map}
use Rattle.nc_types.specs.Config.{ConfigView, config_view}
use Rattle.nc_trace.proofs.Growing.{found_same}
use Rattle.nc_trace.proofs.found.Found.include.Goals as goal

pub find_all-requires-clause-found : goal.find_all-requires-clause-found
find_all-requires-clause-found c = found_same c.args.state.now c.args.packet c.args.self.now c.make_room.new.self c.make_room.ensures.found c.requires.found
