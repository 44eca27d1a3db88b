-- What the lines of an interface's block say, and the interface that they make.
use Rattle.std.specs.Prelude.{ℕ, Bool, true, false, not, ◌&&◌, ◌||◌, ◌==◌, List, [], ◌∷◌, map, filter, Option, Some, None, Result, Ok, Err, is_some, unwrap_or, option_and_then, if◌then◌else◌, codes}
use Rattle.std.specs.List.{filter_map, last_or}
use Rattle.std.specs.Option.{option_map, option_map_or}
use Rattle.std.specs.Str.{bytes_eq}
use Rattle.nc_types.specs.Masks.{network_of}
use Rattle.nc_types.specs.declared.fault.Fault.{Fault}
use Rattle.nc_types.specs.declared.config.IfaceAddr.{IfaceAddr}
use Rattle.nc_types.specs.declared.config.Interface.{Interface}
use Rattle.nc_types.specs.declared.fault.Cause.TheVariants.{Syntax, Unsupported}
use Rattle.nc_lines.specs.Lines.{words_of, is_indented}
use Rattle.nc_lines.specs.Numbers.{masked_of}
use Rattle.nc_lines.specs.Statements.{Reading, Outside, Faulty, Says, after, begins, alone_says, said_of}
use Rattle.nc_lines.specs.Parts.{Numbered, Stated, fault_in, statements_in}
use Rattle.nc_read_link.specs.declared.setting.Setting.{Setting}
use Rattle.nc_read_link.specs.declared.setting.Setting.TheVariants.{Address, NoAddress, Shut}

-- ---- addresses

-- an interface's address: its mask isn't that of length 0
abbrev pub iface_addr_of : List ℕ → List ℕ → Option IfaceAddr
iface_addr_of address mask =
    option_and_then (λ p. if p.1 == 0 then None else Some (record { addr = record { 0 = p.0 }; prefix = record { base = network_of p.0 p.1; len = p.1 } })) (masked_of address mask)

-- ---- statements

-- an address, its mask, and the word `secondary`
abbrev pub is_secondary : List (List ℕ) → Bool
is_secondary (address ∷ mask ∷ word ∷ further) = bytes_eq word (codes "secondary") && is_some (masked_of address mask)
is_secondary words = false

-- what is behind `ip address` that isn't supported
abbrev pub is_other_address : List (List ℕ) → Bool
is_other_address words =
    begins (codes "dhcp" ∷ []) words || (begins (codes "negotiated" ∷ []) words || (begins (codes "pool" ∷ []) words || is_secondary words))

-- statements of an interface that aren't supported
unfoldable pub is_unsupported : List (List ℕ) → Bool
is_unsupported words =
    option_map_or is_other_address (after (codes "ip" ∷ codes "address" ∷ []) words) false
    || (begins (codes "ip" ∷ codes "unnumbered" ∷ []) words
    || (begins (codes "vrf" ∷ codes "forwarding" ∷ []) words
    || (begins (codes "ip" ∷ codes "vrf" ∷ codes "forwarding" ∷ []) words
    || (begins (codes "ip" ∷ codes "policy" ∷ []) words
    || begins (codes "ip" ∷ codes "nat" ∷ []) words))))

-- what is behind `ip address`: an address and a mask
abbrev pub address_says : List (List ℕ) → Reading Setting
address_says (address ∷ mask ∷ []) = option_map_or (λ a. Says (Address a)) (iface_addr_of address mask) (Faulty Syntax)
address_says words = Faulty Syntax

-- the statements of an interface that are read
unfoldable pub read_says : List (List ℕ) → Reading Setting
read_says words =
    option_map_or address_says (after (codes "ip" ∷ codes "address" ∷ []) words)
    (option_map_or (alone_says NoAddress) (after (codes "no" ∷ codes "ip" ∷ codes "address" ∷ []) words)
    (option_map_or (alone_says (Shut true)) (after (codes "shutdown" ∷ []) words)
    (option_map_or (alone_says (Shut false)) (after (codes "no" ∷ codes "shutdown" ∷ []) words) Outside)))

-- what the words of an indented line in an interface's block say: what isn't supported is looked at first
abbrev pub setting_says : List (List ℕ) → Reading Setting
setting_says words = if is_unsupported words then Faulty Unsupported else read_says words

-- ---- blocks

-- the interface that its block makes, and the lines of its statements
pub record InterfacePart : Type 0 where
  pub interface : Interface
  pub lines : List ℕ

-- what a line of a block says: a header sets nothing
abbrev pub line_says : Numbered → Reading Setting
line_says l = if is_indented l.text then setting_says (words_of l.text) else Outside

-- a statement of an interface with its line
abbrev pub InterfaceStatement : Type 0
InterfaceStatement = Stated Setting

-- the first faulty line of an interface's block, and its statements
abbrev pub interface_fault : List Numbered → Option Fault
interface_fault block = fault_in line_says block

abbrev pub interface_statements : List Numbered → List InterfaceStatement
interface_statements block = statements_in line_says block

-- the lines of the statements, the headers among them
abbrev pub lines_in : List Numbered → List ℕ
lines_in block = map (λ l. l.line) (filter (λ l. not (is_indented l.text) || is_some (said_of (line_says l))) block)

-- what a statement says of the address: its line and the address, or that there is none
abbrev pub address_by : ℕ → Setting → Option (Option (ℕ × IfaceAddr))
address_by line (Address a) = Some (Some (line, a))
address_by line NoAddress = Some None
address_by line (Shut b) = None

-- whether a statement shuts the interface or opens it
abbrev pub shut_by : Setting → Option Bool
shut_by (Shut b) = Some b
shut_by setting = None

-- the address in force, with its line: that of the last statement that speaks of it
abbrev pub address_in : List InterfaceStatement → Option (ℕ × IfaceAddr)
address_in ss = unwrap_or (last_or None (filter_map (λ s. address_by s.line s.setting) ss)) None

-- whether the interface is shut in the end
abbrev pub shut_in : List InterfaceStatement → Bool
shut_in ss = unwrap_or (last_or None (filter_map (λ s. shut_by s.setting) ss)) false

abbrev pub interface_of : List ℕ → List InterfaceStatement → Interface
interface_of name ss =
    record {
      name = name;
      address = option_map (λ p. p.1) (address_in ss);
      address_line = option_map_or (λ p. p.0) (address_in ss) 0;
      shut = shut_in ss;
      element = 0;
    }

-- the interface of this name that its block makes, or the fault of the first faulty line
unfoldable pub interface_in : List ℕ → List Numbered → Result InterfacePart Fault
interface_in name block =
    option_map_or Err (interface_fault block) (Ok (record { interface = interface_of name (interface_statements block); lines = lines_in block }))
