-- The session language: what a line of a session asks, and the text of a test.
use Rattle.std.specs.Prelude.{◌≡◌, ℕ, Bool, false, ◌==◌, nat_lt, List, [], ◌∷◌, length, Option, Some, None, Result, Ok, Err, option_and_then, codes, if◌then◌else◌}
use Rattle.std.specs.List.{join_with_byte}
use Rattle.std.specs.Option.{option_map, option_map_or}
use Rattle.std.specs.Str.{bytes_eq}
use Rattle.std.specs.Fmt.{decimal}
use Rattle.nc_types.specs.Cidr.{Cidr}
use Rattle.nc_types.specs.Dotted.{dotted}
use Rattle.nc_types.specs.declared.addr.Addr.{Addr}
use Rattle.nc_types.specs.declared.command.TestCommand.{TestCommand}
use Rattle.nc_types.specs.declared.command.TestCommand.TheVariants.{Rib, Bgp, Session, Reach, Every, Flow, Element}
use Rattle.nc_lines.specs.Lines.{words_of}
use Rattle.nc_lines.specs.Numbers.{number_of, address_of, prefix_of}
use Rattle.nc_command.specs.declared.command.Command.{Command}
use Rattle.nc_command.specs.declared.command.Command.TheVariants.{Test, Forget, Implies, Cut, Show, Lcov, Json, Suite, Dead, Quit}
use Rattle.nc_command.specs.declared.fault.CommandFault.{CommandFault}
use Rattle.nc_command.specs.declared.fault.CommandFault.TheVariants.{Long, Syntax, Memory}

-- ---- what a line asks

-- how many bytes a line has at most, without its line end
abbrev pub most_line_bytes : ℕ
most_line_bytes = 4096

-- the greatest number that stands in a command
abbrev pub most_number : ℕ
most_number = 4294967295

-- what a line of a session is
pub data Line : Type 0 where
  -- blank or a note: it is passed over
  Passed : Line
  -- of too many bytes
  TooLong : Line
  -- no command
  Unread : Line
  Asks : Command → Line

-- a word that begins with a number sign
abbrev pub begins_note : List ℕ → Bool
begins_note [] = false
begins_note (b ∷ bs) = b == 35

-- the address that a word writes
abbrev pub addr_of : List ℕ → Option Addr
addr_of word = option_map (λ a. record { 0 = a }) (address_of word)

-- what may stand behind the needed words: nothing, or a key word and an address
abbrev pub address_behind : List ℕ → List (List ℕ) → Option (Option Addr)
address_behind key [] = Some None
address_behind key (word ∷ address ∷ []) = if bytes_eq word key then option_map Some (addr_of address) else None
address_behind key words = None

-- the test that the words behind a command for a prefix make: a name, the prefix, and perhaps a key word and an address
abbrev pub prefix_test_of : (List ℕ → Cidr → Option Addr → TestCommand) → List ℕ → List (List ℕ) → Option TestCommand
prefix_test_of make key (name ∷ prefix ∷ words) = option_and_then (λ p. option_map (make name p) (address_behind key words)) (prefix_of prefix)
prefix_test_of make key words = None

-- the test that the words behind a command for an address make: a name, the address, and nothing more
abbrev pub address_test_of : (List ℕ → Addr → TestCommand) → List (List ℕ) → Option TestCommand
address_test_of make (name ∷ address ∷ []) = option_map (make name) (addr_of address)
address_test_of make words = None

-- the test that the words behind a command for a flow make: a name, where the packet comes from, where it goes, and nothing more
abbrev pub flow_test_of : List (List ℕ) → Option TestCommand
flow_test_of (name ∷ source ∷ target ∷ []) = option_and_then (λ from. option_map (Flow name from) (addr_of target)) (addr_of source)
flow_test_of words = None

-- the test that the words behind a command for a line make: a name, the line's number, and nothing more
abbrev pub line_test_of : (List ℕ → ℕ → TestCommand) → List (List ℕ) → Option TestCommand
line_test_of make (name ∷ line ∷ []) = option_map (make name) (number_of most_number line)
line_test_of make words = None

-- the test that a command's first word and the words behind it make, if they make one
abbrev pub test_of : List ℕ → List (List ℕ) → Option TestCommand
test_of word words =
    if bytes_eq word (codes "rib") then prefix_test_of Rib (codes "via") words
    else (if bytes_eq word (codes "bgp") then prefix_test_of Bgp (codes "from") words
    else (if bytes_eq word (codes "session") then address_test_of Session words
    else (if bytes_eq word (codes "reach") then address_test_of Reach words
    else (if bytes_eq word (codes "every") then address_test_of Every words
    else (if bytes_eq word (codes "flow") then flow_test_of words
    else (if bytes_eq word (codes "element") then line_test_of Element words
    else None))))))

-- a command that is one word, and nothing behind it
abbrev pub alone : Command → List (List ℕ) → Option Command
alone command [] = Some command
alone command (word ∷ words) = None

-- the name of a router behind `show`, and nothing more
abbrev pub show_by : List (List ℕ) → Option Command
show_by (name ∷ []) = Some (Show name)
show_by words = None

-- the number of a test behind `forget`, and nothing more
abbrev pub forget_by : List (List ℕ) → Option Command
forget_by (number ∷ []) = option_map Forget (number_of most_number number)
forget_by words = None

-- the numbers of two tests behind `implies`, and nothing more
abbrev pub implies_by : List (List ℕ) → Option Command
implies_by (first ∷ second ∷ []) = option_and_then (λ m. option_map (Implies m) (number_of most_number second)) (number_of most_number first)
implies_by words = None

-- the names of the routers to keep that stand behind the number of a test: none, or some behind a key word
abbrev pub kept_by : List (List ℕ) → Option (List (List ℕ))
kept_by [] = Some []
kept_by (word ∷ []) = None
kept_by (word ∷ name ∷ names) = if bytes_eq word (codes "keep") then Some (name ∷ names) else None

-- the number of a test behind `cut`, and the routers to keep
abbrev pub cut_by : List (List ℕ) → Option Command
cut_by [] = None
cut_by (number ∷ words) = option_and_then (λ n. option_map (Cut n) (kept_by words)) (number_of most_number number)

-- the command that a first word and the words behind it make, if they make one
abbrev pub command_by : List ℕ → List (List ℕ) → Option Command
command_by word words =
    if bytes_eq word (codes "quit") then alone Quit words
    else (if bytes_eq word (codes "show") then show_by words
    else (if bytes_eq word (codes "lcov") then alone Lcov words
    else (if bytes_eq word (codes "json") then alone Json words
    else (if bytes_eq word (codes "suite") then alone Suite words
    else (if bytes_eq word (codes "dead") then alone Dead words
    else (if bytes_eq word (codes "forget") then forget_by words
    else (if bytes_eq word (codes "implies") then implies_by words
    else (if bytes_eq word (codes "cut") then cut_by words
    else option_map Test (test_of word words)))))))))

-- what the words of a line ask
abbrev pub asked_by : List (List ℕ) → Line
asked_by [] = Passed
asked_by (word ∷ words) = if begins_note word then Passed else option_map_or Asks (command_by word words) Unread

-- what a line of a session is, by its bytes
unfoldable pub command_of : List ℕ → Line
command_of line = if nat_lt most_line_bytes (length line) then TooLong else asked_by (words_of line)

-- the answer of a reader tells what the line is; where memory is refused it tells nothing
abbrev pub IsRead : Line → Result (Option Command) CommandFault → Type 0
IsRead line (Ok None) = line ≡ Passed
IsRead line (Ok (Some command)) = line ≡ Asks command
IsRead line (Err Long) = line ≡ TooLong
IsRead line (Err Syntax) = line ≡ Unread
IsRead line (Err Memory) = Unit {0}

-- ---- the text of a test

-- a prefix as its address and its length with a slash between them
abbrev pub cidr_text : Cidr → List ℕ
cidr_text p = join_with_byte 47 (dotted p.base ∷ decimal p.len ∷ [])

-- words with a space between each two
abbrev pub spaced : List (List ℕ) → List ℕ
spaced words = join_with_byte 32 words

-- a command for a prefix of a router, and perhaps for an address behind a key word
abbrev pub prefix_text : List ℕ → List ℕ → Cidr → List ℕ → Option Addr → List ℕ
prefix_text command name p key None = spaced (command ∷ name ∷ cidr_text p ∷ [])
prefix_text command name p key (Some addr) = spaced (command ∷ name ∷ cidr_text p ∷ key ∷ dotted addr.0 ∷ [])

-- a command for an address
abbrev pub address_text : List ℕ → List ℕ → Addr → List ℕ
address_text command name addr = spaced (command ∷ name ∷ dotted addr.0 ∷ [])

-- a command for a flow, from an address to another
abbrev pub flow_text : List ℕ → Addr → Addr → List ℕ
flow_text name source target = spaced (codes "flow" ∷ name ∷ dotted source.0 ∷ dotted target.0 ∷ [])

-- a command for a line
abbrev pub line_text : List ℕ → List ℕ → ℕ → List ℕ
line_text command name line = spaced (command ∷ name ∷ decimal line ∷ [])

-- the text of a test
abbrev pub text_of : TestCommand → List ℕ
text_of (Rib name p via) = prefix_text (codes "rib") name p (codes "via") via
text_of (Bgp name p sender) = prefix_text (codes "bgp") name p (codes "from") sender
text_of (Session name addr) = address_text (codes "session") name addr
text_of (Reach name addr) = address_text (codes "reach") name addr
text_of (Every name addr) = address_text (codes "every") name addr
text_of (Flow name source target) = flow_text name source target
text_of (Element name line) = line_text (codes "element") name line
