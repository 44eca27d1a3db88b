use Rattle.std.proofs.Common.{◌≡◌, ◌++◌, None, drop}
use Rattle.std.specs.List.{filter_map}
use Rattle.std.specs.Option.{option_map}
use Rattle.nc_lines.specs.Parts.{numbered}
use Rattle.nc_read_filter.specs.Filters.{entry_at, odd_at, statements_from}
use Rattle.nc_read_filter.specs.Readings.{head_view}
use Rattle.nc_read_filter.proofs.filters.read_filters.Given as goal

abbrev pub invariant-lines : goal.invariant-lines
invariant-lines l = record {
  entries : l.made.entries.items ++ filter_map entry_at (statements_from (option_map head_view l.list) (numbered l.lines (drop l.line-index l.block.lines.items)))
      ≡ filter_map entry_at (statements_from None (numbered l.lines l.block.lines.items));
  odd : l.made.odd.items ++ filter_map odd_at (statements_from (option_map head_view l.list) (numbered l.lines (drop l.line-index l.block.lines.items)))
      ≡ filter_map odd_at (statements_from None (numbered l.lines l.block.lines.items));
}
