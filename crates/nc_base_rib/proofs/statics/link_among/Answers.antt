use Rattle.std.proofs.Common.{Some, None, Option, sym, subst, ◌∙◌}
use Rattle.nc_base_rib.specs.declared.links.Link.{Link}
use Rattle.nc_base_rib.specs.Links.{IsLinkOf}
use Rattle.nc_base_rib.proofs.Usable.{up_here_is, no_link, never_down, link_here, of_hop}
use Rattle.nc_base_rib.proofs.statics.link_among.Goals as goal

pub returns-in_err-place : goal.returns-in_err-place
returns-in_err-place c =
    let is = c.args.interfaces.now in
    let hop = c.in_ok-hop.hop in
    subst (λ (o : Option Link). IsLinkOf is c.args.via.now o) (sym c.from_residual-in_err-place.ensures)
    (of_hop is c.args.via.now hop None (sym c.in_ok-hop.ensures) (no_link is hop.0 (sym c.in_err-place.ensures.place)))

pub returns-in_err-address : goal.returns-in_err-address
returns-in_err-address c =
    absurd (never_down c.args.interfaces.now c.in_ok-hop.hop.0 c.in_ok-place.place c.index-interfaces-place.result (sym c.in_ok-place.ensures.place) c.index-interfaces-place.is (sym c.in_err-address.ensures))

pub returns : goal.returns
returns c =
    let is = c.args.interfaces.now in
    let l : Link = record { network = c.addr.result; address = c.in_ok-address.address; place = c.in_ok-place.place } in
    of_hop is c.args.via.now c.in_ok-hop.hop (Some l) (sym c.in_ok-hop.ensures)
    (link_here is c.in_ok-hop.hop.0 c.requires.apart l (sym c.in_ok-place.ensures.place)
    (up_here_is is c.in_ok-place.place c.index-interfaces-place.result c.in_ok-place.ensures.within c.index-interfaces-place.is ∙ sym c.in_ok-address.ensures))
