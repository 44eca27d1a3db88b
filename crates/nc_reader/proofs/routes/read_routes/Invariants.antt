use Rattle.std.proofs.Common.{◌≡◌, [], map, take, length}
use Rattle.std.specs.List.{filter_map}
use Rattle.nc_reader.specs.Parts.{AreRoutes}
use Rattle.nc_reader.specs.Things.{routed, ok_of, err_of}
use Rattle.nc_reader.proofs.routes.read_routes.Given as goal

abbrev pub invariant-routes : goal.invariant-routes
invariant-routes l = record {
  same : length l.keys.keys ≡ length l.parts.items;
  parts : AreRoutes l.keys.keys l.parts.items (filter_map ok_of (map (routed l.lines) (take l.line-index l.places)));
  clean : filter_map err_of (map (routed l.lines) (take l.line-index l.places)) ≡ [];
}
