use Rattle.std.proofs.Common.{◌≡◌, ◌∷◌, ◌++◌, map, drop, Some}
use Rattle.std.specs.List.{last_or}
use Rattle.nc_types.specs.declared.config.ListEntry.{ListEntry}
use Rattle.nc_read_policy.proofs.parts.part.Given as goal

abbrev pub invariant-loop-statement : goal.invariant-loop-statement
invariant-loop-statement l = record {
  last : last_or (Some l.entry) (drop l.statement-index l.run) ≡ last_or (Some l.fn.first) l.run;
  lines : l.earlier.items ++ l.entry.line ∷ map (λ (e : ListEntry). e.line) (drop l.statement-index l.run) ≡ l.fn.first.line ∷ map (λ (e : ListEntry). e.line) l.run;
}
