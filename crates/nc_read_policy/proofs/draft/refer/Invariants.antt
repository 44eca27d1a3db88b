use Rattle.std.proofs.Common.{◌≡◌, ℕ, List, ◌++◌, map, length}
use Rattle.nc_lines.specs.Lines.{words_of}
use Rattle.nc_read_policy.proofs.draft.refer.Given as goal

abbrev pub invariant-names : goal.invariant-names
invariant-names l =
    l.lists.items ++ map (λ (name : List ℕ). record { name = name; line = l.line }) (words_of l.rest)
    ≡ l.fn.lists.items ++ map (λ (name : List ℕ). record { name = name; line = l.line }) (words_of l.names)

abbrev pub decreases-names : goal.decreases-names
decreases-names l = length l.rest
