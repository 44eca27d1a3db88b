use Rattle.std.proofs.Common.{◌≡◌, ◌∙◌, sym, ap, Some, None, Option, false, cond, nat_eq}
use Rattle.std.specs.Option.{option_or, option_map_or}
use Rattle.nc_types.specs.declared.addr.Addr.{Addr}
use Rattle.nc_types.specs.declared.config.IfaceAddr.{IfaceAddr}
use Rattle.nc_types.specs.Network.{up_of}
use Rattle.nc_types.specs.Tables.{owner_by}
use Rattle.nc_types.proofs.Addressing.{claimed_address}
use Rattle.nc_types.proofs.Options.{is_none}
use Rattle.nc_types.proofs.network.addresses.claim_address.Goals as goal

pub returns : goal.returns
returns c addr =
    let key : Addr = c.in-Some.address.addr in
    let none : owner_by c.args.owners.now key.0 ≡ None = is_none (owner_by c.args.owners.now key.0) (sym c.contains_key.ensures ∙ c.if-contains_key.false) in
    let up : Some c.in-Some.address ≡ up_of c.args.interface.now = sym c.in-Some.is ∙ c.up.ensures in
    c.in_ok-insert.ensures.updates.0 (record { 0 = addr })
    ∙ claimed_address (owner_by c.args.owners.now) key.0 addr c.args.owner none
    ∙ ap (λ (o : Option IfaceAddr). option_or (owner_by c.args.owners.now addr) (cond (option_map_or (λ a. nat_eq a.addr.0 addr) o false) (Some c.args.owner) None)) up
