use Rattle.std.proofs.Common.{◌≤◌, ◌++◌, ◌∙◌, List, ℕ, length, drop, map, append-nil, sym, ap, arith}
use Rattle.std.proofs.lemmas.Grind.{common_steps}
use Rattle.std.proofs.lemmas.List.{drop_all}
use Rattle.nc_report.specs.Views.{file_view}
use Rattle.nc_report.proofs.Lists.{lcov-none}
use Rattle.nc_report.proofs.lcov.push_sections.Goals as goal

pub returns-in_default : goal.returns-in_default
returns-in_default c =
    let router = c.routers.router in
    let files = c.args.files.now in
    let past : length files ≤ router = grind (arith, common_steps, c.in_default.ensures.lookup, c.in_default.not-Some) in
    sym (append-nil c.routers.out.items)
    ∙ ap (λ (t : List ℕ). c.routers.out.items ++ t) (sym (lcov-none (drop router c.args.listing.now) (map file_view (drop router files)) (ap (map file_view) (drop_all router files past)))) ∙ c.routers.invariant
