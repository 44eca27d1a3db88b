use Rattle.std.proofs.Common.{◌≡◌, ◌≤◌, ◌*◌, map, take}
use Rattle.nc_load.specs.Limits.{most_lines}
use Rattle.nc_report.specs.Views.{file_view}
use Rattle.nc_session.specs.Generated.{line_count}
use Rattle.nc_session.proofs.generated.line_count.Given as goal

-- the count is that of the files so far
abbrev pub invariant-files : goal.invariant-files
invariant-files l = record {
  counted : l.count ≡ line_count (map (λ file. file.lines) (map file_view (take l.file-index l.files)));
  small : l.count ≤ l.file-index * most_lines;
}
