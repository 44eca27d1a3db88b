use Rattle.std.proofs.Common.{◌≡◌, ◌≤◌, ◌+◌, ◌&&◌, Some, true, length, refl, ap, sym, ◌∙◌, arith}
use Rattle.std.proofs.lemmas.Option.{slice_get-get_or}
use Rattle.nc_tables.specs.Filters.{decides}
use Rattle.nc_filter.specs.Spots.{spot_of}
use Rattle.nc_filter.proofs.Going.{arrive, decides_for, decides_none, found_arrive, gone_by, listed, onward, spot_at}
use Rattle.nc_filter.proofs.Spotting.{found_all, found_here, found_on, found_none}
use Rattle.nc_filter.proofs.walks.deciding_in.Goals as goal

pub entries-init : goal.entries-init
entries-init c =
    let entries = c.args.entries.now in
    let start = c.new-ahead.ensures entries c.requires refl in
    record {
      size = refl;
      place = c.least-place.ensures;
      ahead = arrive entries c.args.list c.args.from c.args.to 0 c.least-place.result c.new-ahead.result (omega arith) start c.least-place.ensures;
      found = λ q first.
          sym (found_arrive entries c.args.list c.args.from c.args.to 0 c.least-place.result c.new-ahead.result (omega arith) start c.least-place.ensures q first) ∙ found_all (decides_for c.args.from c.args.to q) entries;
    }

pub entries-smaller : goal.entries-smaller
entries-smaller c =
    let entries = c.args.entries.now in
    let place = c.entries.place in
    let at = slice_get-get_or entries place c.index-entries-place.result c.entries-test.true ∙ ap Some (sym c.index-entries-place.is) in
    let behind = c.behind.ensures entries (spot_of entries c.index-entries-place.result) c.requires (spot_at entries c.args.list c.args.from c.args.to place c.index-entries-place.result at) in
    let on = gone_by entries c.args.list c.args.from c.args.to place c.entries.ahead c.entries.invariant.ahead c.index-entries-place.result at c.pass-ahead.result c.behind.result behind
    c.pass-ahead.ensures.source c.pass-ahead.ensures.target c.pass-ahead.ensures.other in
    omega (arith, c.entries-test.true, onward entries c.args.list c.args.from c.args.to (place + 1) c.least-place-in-entries.result c.pass-ahead.result (omega (arith, c.entries-test.true)) on c.least-place-in-entries.ensures)

pub entries-preserved : goal.entries-preserved
entries-preserved c =
    let entries = c.args.entries.now in
    let place = c.entries.place in
    let entry = c.index-entries-place.result in
    let next = c.least-place-in-entries.result in
    let at = slice_get-get_or entries place entry c.entries-test.true ∙ ap Some (sym c.index-entries-place.is) in
    let behind = c.behind.ensures entries (spot_of entries entry) c.requires (spot_at entries c.args.list c.args.from c.args.to place entry at) in
    let on = gone_by entries c.args.list c.args.from c.args.to place c.entries.ahead c.entries.invariant.ahead entry at c.pass-ahead.result c.behind.result behind
    c.pass-ahead.ensures.source c.pass-ahead.ensures.target c.pass-ahead.ensures.other in
    let within : place + 1 ≤ length entries = omega (arith, c.entries-test.true) in
    record {
      size = refl;
      place = c.least-place-in-entries.ensures;
      ahead = arrive entries c.args.list c.args.from c.args.to (place + 1) next c.pass-ahead.result within on c.least-place-in-entries.ensures;
      found = λ q first.
          sym (found_arrive entries c.args.list c.args.from c.args.to (place + 1) next c.pass-ahead.result within on c.least-place-in-entries.ensures q first)
          ∙ sym (found_on (decides_for c.args.from c.args.to q) entries place entry at (decides_none c.args.from c.args.to q entry (sym c.decides.ensures ∙ c.if-decides.false)))
          ∙ c.entries.invariant.found q first;
    }

pub returns-then-decides : goal.returns-then-decides
returns-then-decides c q first =
    let entries = c.args.entries.now in
    let place = c.entries.place in
    let entry = c.index-entries-place.result in
    let at = slice_get-get_or entries place entry c.entries-test.true ∙ ap Some (sym c.index-entries-place.is) in
    let own = listed entries c.args.list c.args.from c.args.to place c.entries.ahead c.entries.invariant.ahead entry at c.entries.invariant.place q first in
    let decided : decides_for c.args.from c.args.to q entry ≡ true = ap (λ b. b && decides c.args.from.0 c.args.to.0 entry) own ∙ sym c.decides.ensures ∙ c.if-decides.true in
    sym (found_here (decides_for c.args.from c.args.to q) entries place entry at decided) ∙ c.entries.invariant.found q first

pub returns : goal.returns
returns c q first = sym (found_none (decides_for c.args.from c.args.to q) c.args.entries.now c.entries.place (omega (arith, c.entries-test.false))) ∙ c.entries.invariant.found q first
