use Rattle.std.proofs.Common.{ℕ, ◌+◌, List, drop, Option, sym, ap, ◌∙◌}
use Rattle.std.specs.List.{position_from}
use Rattle.std.specs.Option.{option_or}
use Rattle.std.proofs.lemmas.Iterator.Adapters.{position_from-zero}
use Rattle.nc_policy.specs.declared.spot_table.Placed.{Placed}
use Rattle.nc_policy.specs.Indexes.{is_at}
use Rattle.nc_policy.specs.Seen.{spot_in}
use Rattle.nc_policy.proofs.Spots.{one_more_from, all_from}
use Rattle.nc_policy.proofs.index.places_of.Goals as goal

pub entries-init : goal.entries-init
entries-init c = λ q n few.
    let entries = c.args.entries.now in
    ap (λ (l : List Placed). option_or (spot_in l q n) (position_from (is_at q n) 0 entries)) c.in_ok-items.ensures.items ∙ sym (position_from-zero (is_at q n) entries)

pub entries-preserved : goal.entries-preserved
entries-preserved c = λ q n few.
    let entries = c.args.entries.now in
    let place = c.entries.place in
    let entry = c.index-entries-place.result in
    let found = spot_in c.entries.items.items q n in
    let later = position_from (is_at q n) (place + 1) (drop (place + 1) entries) in
    ap (λ (o : Option ℕ). option_or o later) (c.in_ok-put.ensures q n few)
    ∙ one_more_from (is_at q n) entries place entry found c.index-entries-place.is c.entries-test.true
    ∙ c.entries.invariant q n few

pub returns : goal.returns
returns c = λ q n few.
    sym (all_from (is_at q n) c.args.entries.now c.entries.place (spot_in c.entries.items.items q n) c.entries-test.false) ∙ c.entries.invariant q n few
