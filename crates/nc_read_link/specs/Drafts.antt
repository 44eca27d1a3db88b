-- An interface as the lines so far leave it, and what the lines behind them make of it.
use Rattle.std.specs.Prelude.{◌≡◌, ℕ, Bool, true, false, List, [], ◌∷◌, ◌++◌, Option, Some, None, Result, Ok, Err, unwrap_or}
use Rattle.std.specs.List.{filter_map, last_or}
use Rattle.std.specs.Option.{option_map, option_map_or}
use Rattle.nc_types.specs.declared.fault.Fault.{Fault}
use Rattle.nc_types.specs.declared.config.IfaceAddr.{IfaceAddr}
use Rattle.nc_types.specs.declared.fault.ConfigFault.{ConfigFault}
use Rattle.nc_lines.specs.Parts.{Numbered}
use Rattle.nc_lines.specs.Outcomes.{IsFault}
use Rattle.nc_read_link.specs.Interfaces.{InterfacePart, InterfaceStatement, interface_fault, interface_statements, lines_in, address_by, shut_by}
use Rattle.nc_read_link.specs.declared.draft.Draft.{Draft}

-- the address that statements leave where this was in force
abbrev pub address_behind : Option (ℕ × IfaceAddr) → List InterfaceStatement → Option (ℕ × IfaceAddr)
address_behind before ss = unwrap_or (last_or (Some before) (filter_map (λ s. address_by s.line s.setting) ss)) None

-- whether the interface is shut behind statements
abbrev pub shut_behind : Bool → List InterfaceStatement → Bool
shut_behind before ss = unwrap_or (last_or (Some before) (filter_map (λ s. shut_by s.setting) ss)) false

-- an interface with its lines, by its name, its address with the address's line, and whether it is shut
abbrev pub part_of : List ℕ → Option (ℕ × IfaceAddr) → Bool → List ℕ → InterfacePart
part_of name address shut lines =
    record {
      interface = record {
        name = name;
        address = option_map (λ p. p.1) address;
        address_line = option_map_or (λ p. p.0) address 0;
        shut = shut;
        element = 0;
      };
      lines = lines;
    }

-- the interface of this name that lines make behind those before them, of which it has these, or the fault of the first faulty one
unfoldable pub finished : List ℕ → List ℕ → Draft → List Numbered → Result InterfacePart Fault
finished name before d block =
    option_map_or Err (interface_fault block)
    (Ok (part_of name (address_behind d.address (interface_statements block)) (shut_behind d.shut (interface_statements block)) (before ++ lines_in block)))

-- these lines, and one more where it counts
abbrev pub with_counted : List ℕ → Bool → ℕ → List ℕ
with_counted before true line = before ++ line ∷ []
with_counted before false line = before

-- what is told of a line, which some lines follow: it was taken, and whether it is one of the interface's, or it is faulty
abbrev pub Takes : List ℕ → List ℕ → Result Bool ConfigFault → Draft → Draft → Numbered → List Numbered → Type 0
Takes name before (Ok counts) old new l block = finished name before old (l ∷ block) ≡ finished name (with_counted before counts l.line) new block
Takes name before (Err fault) old new l block = IsFault fault (finished name before old (l ∷ block))
