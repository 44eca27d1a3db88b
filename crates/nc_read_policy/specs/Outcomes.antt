-- What reading a clause, an entry or a list returns.
use Rattle.std.specs.Prelude.{◌≡◌, ℕ, List, [], ◌∷◌, ◌++◌, map, Result, Ok, Err}
use Rattle.std.specs.declared.alloc.Global.{Global}
use Rattle.std.specs.declared.vec.Vec.{Vec}
use Rattle.nc_types.specs.Config.{clause_view}
use Rattle.nc_types.specs.declared.fault.Fault.{Fault}
use Rattle.nc_types.specs.declared.fault.Cause.{Cause}
use Rattle.nc_types.specs.declared.config.Clause.{Clause}
use Rattle.nc_types.specs.declared.config.ListEntry.{ListEntry}
use Rattle.nc_types.specs.declared.communities.CommunityEntry.{CommunityEntry}
use Rattle.nc_types.specs.declared.fault.ConfigFault.{ConfigFault}
use Rattle.nc_lines.specs.Outcomes.{IsFault, at_line}
use Rattle.nc_read_policy.specs.Clauses.{ClausePart}
use Rattle.nc_read_policy.specs.Lists.{EntryPart}
use Rattle.nc_read_policy.specs.declared.parts.EntryLines.{EntryLines}

-- what was returned is this clause with its lines, or this fault, unless memory ran out
abbrev pub IsClause : Result (Clause × Vec ℕ Global) ConfigFault → Result ClausePart Fault → Type 0
IsClause (Ok part) read = read ≡ Ok (record { clause = clause_view part.0; lines = part.1.items })
IsClause (Err fault) read = IsFault fault read

-- what was returned is this list's name with this entry, or this fault, unless memory ran out
abbrev pub IsEntry : Result (List ℕ × ListEntry) ConfigFault → Result (List ℕ × ListEntry) Fault → Type 0
IsEntry (Ok named) read = read ≡ Ok named
IsEntry (Err fault) read = IsFault fault read

-- what was returned is the entry that a line makes, or its cause with the line, unless memory ran out
abbrev pub IsEntryOf : ℕ → Result CommunityEntry ConfigFault → Result CommunityEntry Cause → Type 0
IsEntryOf line (Ok entry) read = read ≡ Ok entry
IsEntryOf line (Err fault) read = IsFault fault (at_line line read)

-- what was returned is this community list's name with this entry, or this fault, unless memory ran out
abbrev pub IsCommunityEntry : Result (List ℕ × CommunityEntry) ConfigFault → Result (List ℕ × CommunityEntry) Fault → Type 0
IsCommunityEntry (Ok named) read = read ≡ Ok named
IsCommunityEntry (Err fault) read = IsFault fault read

-- what was returned is what some lines write, or this fault, unless memory ran out
abbrev pub AreStatements : Result (Vec ListEntry Global) ConfigFault → Result (List ListEntry) Fault → Type 0
AreStatements (Ok entries) read = read ≡ Ok entries.items
AreStatements (Err fault) read = IsFault fault read

-- the lines of the statements of an entry: those before the one that holds, and its own
abbrev pub entry_lines : EntryLines → List ℕ
entry_lines p = p.earlier.items ++ p.entry.line ∷ []

-- an entry with the lines of its statements
abbrev pub entry_part : EntryLines → EntryPart
entry_part p = record { entry = p.entry; lines = entry_lines p }

-- what was returned are these entries, or this fault, unless memory ran out
abbrev pub AreEntries : Result (Vec EntryLines Global) ConfigFault → Result (List EntryPart) Fault → Type 0
AreEntries (Ok parts) read = read ≡ Ok (map entry_part parts.items)
AreEntries (Err fault) read = IsFault fault read
