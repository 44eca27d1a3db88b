use Rattle.std.proofs.Common.{◌≡◌, ◌∙◌, sym, None}
use Rattle.nc_types.proofs.Addressing.{claimed_address}
use Rattle.nc_types.proofs.Options.{is_none}
use Rattle.nc_sessions.specs.Statements.{place_by}
use Rattle.nc_sessions.proofs.places.claim_place.Goals as goal

pub returns : goal.returns
returns c other =
    let none : place_by c.args.places.now c.args.addr.0 ≡ None = is_none (place_by c.args.places.now c.args.addr.0) (sym c.contains_key.ensures ∙ c.if-contains_key.false) in
    c.in_ok-insert.ensures.updates.0 (record { 0 = other }) ∙ claimed_address (place_by c.args.places.now) c.args.addr.0 other c.args.place none
