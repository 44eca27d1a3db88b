use Rattle.std.proofs.Common.{◌≡◌, ℕ, List, Some, None, false, cond, ap, sym, ◌∙◌}
use Rattle.std.specs.Option.{is_some, option_or}
use Rattle.std.specs.Str.{bytes_eq}
use Rattle.nc_filter.specs.Names.{place_named}
use Rattle.nc_filter.proofs.Naming.{put_named}
use Rattle.nc_filter.proofs.names.put_first.Goals as goal

pub returns-in_ok-insert : goal.returns-in_ok-insert
returns-in_ok-insert c q =
    let key = c.in_ok-from_slice.field-0 in
    let first = c.args.first.now in
    let fresh : is_some (place_named first key.items) ≡ false = ap (λ (bs : List ℕ). is_some (place_named first bs)) c.in_ok-from_slice.ensures.items ∙ sym c.contains_key.ensures ∙ c.if-not-contains_key.true in
    put_named key first c.insert.new.self c.args.place c.in_ok-insert.ensures.updates fresh q
    ∙ ap (λ (bs : List ℕ). option_or (place_named first q) (cond (bytes_eq q bs) (Some c.args.place) None)) c.in_ok-from_slice.ensures.items
