use Rattle.std.proofs.Common.{◌≡◌, length}
use Rattle.std.specs.Prelude.{codes}
use Rattle.std.specs.List.{list_any}
use Rattle.std.specs.Str.{bytes_eq}
use Rattle.nc_lines.specs.Lines.{words_of}
use Rattle.nc_read_policy.proofs.setting.is_exact.Given as goal

abbrev pub invariant-words : goal.invariant-words
invariant-words l = list_any (λ word. bytes_eq word (codes "exact-match")) (words_of l.rest) ≡ list_any (λ word. bytes_eq word (codes "exact-match")) (words_of l.line)

abbrev pub decreases-words : goal.decreases-words
decreases-words l = length l.rest
