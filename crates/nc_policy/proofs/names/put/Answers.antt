use Rattle.std.proofs.Common.{ℕ, List, Some, cond, ap, ◌∙◌}
use Rattle.std.specs.Str.{bytes_eq}
use Rattle.nc_policy.specs.Seen.{place_named}
use Rattle.nc_policy.proofs.Naming.{named_more}
use Rattle.nc_policy.proofs.names.put.Goals as goal

pub returns-clause-later : goal.returns-clause-later
returns-clause-later c = c.in_ok-later.ensures.old ∙ ap (place_named c.args.first.now) c.in_ok-from_slice.ensures.items

pub returns-clause-put : goal.returns-clause-put
returns-clause-put c = λ q.
    let key = c.in_ok-from_slice.field-0 in
    named_more key c.args.first.now c.insert.new.self c.args.place c.in_ok-later.ensures.updates q
    ∙ ap (λ (bs : List ℕ). cond (bytes_eq q bs) (Some c.args.place) (place_named c.args.first.now q)) c.in_ok-from_slice.ensures.items
