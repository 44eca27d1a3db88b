use Rattle.std.proofs.Common.{sym}
use Rattle.nc_base_rib.proofs.Usable.{of_hop, table_link}
use Rattle.nc_base_rib.proofs.statics.link_of.Goals as goal

pub returns : goal.returns
returns c is ok =
    of_hop is c.args.via.now c.in_ok-hop.hop c.toward.result (sym c.in_ok-hop.ensures)
    (table_link is c.args.links.now ok c.in_ok-hop.hop.0 c.toward.result c.toward.ensures.none c.toward.ensures.found c.toward.ensures.covering)
