-- What an `ip route` statement says.
use Rattle.std.specs.Prelude.{ℕ, Bool, true, false, ◌&&◌, ◌||◌, ◌==◌, List, [], ◌∷◌, Option, Some, None, Result, Ok, Err, unwrap_or, if◌then◌else◌, codes}
use Rattle.std.specs.Option.{option_map, option_map_or, option_or}
use Rattle.std.specs.Str.{bytes_eq}
use Rattle.nc_types.specs.declared.TheConstants.{UNUSED_DISTANCE}
use Rattle.nc_types.specs.Cidr.{Cidr}
use Rattle.nc_types.specs.declared.fault.Fault.{Fault}
use Rattle.nc_types.specs.declared.config.Via.{Via}
use Rattle.nc_types.specs.declared.config.Via.TheVariants.{Null, Hop, Through}
use Rattle.nc_types.specs.declared.config.StaticRoute.{StaticRoute}
use Rattle.nc_types.specs.declared.fault.Cause.{Cause}
use Rattle.nc_types.specs.declared.fault.Cause.TheVariants.{Syntax, Unsupported}
use Rattle.nc_lines.specs.Lines.{words_of}
use Rattle.nc_lines.specs.Numbers.{is_plain, number_of, address_of, masked_prefix}
use Rattle.nc_lines.specs.Statements.{after}
use Rattle.nc_lines.specs.Outcomes.{at_line}
use Rattle.nc_read_link.specs.declared.TheConstants.{DEFAULT_DISTANCE}

-- ---- options

-- a distance, from 1 to the one that is never used, in front of the other options, and these
abbrev pub distance_of : List (List ℕ) → ℕ × List (List ℕ)
distance_of [] = (DEFAULT_DISTANCE, [])
distance_of (word ∷ words) =
    option_map_or (λ d. if d == 0 then (DEFAULT_DISTANCE, word ∷ words) else (d, words)) (number_of UNUSED_DISTANCE word) (DEFAULT_DISTANCE, word ∷ words)

-- the word `name` or `tag`, which a value follows
abbrev pub takes_value : List ℕ → Bool
takes_value word = bytes_eq word (codes "name") || bytes_eq word (codes "tag")

-- the word `permanent` or `track`
abbrev pub is_condition : List ℕ → Bool
is_condition word = bytes_eq word (codes "permanent") || bytes_eq word (codes "track")

-- such a word in the place of an option, behind any names and tags
unfoldable pub is_conditional : List (List ℕ) → Bool
is_conditional [] = false
is_conditional (word ∷ []) = is_condition word
is_conditional (word ∷ value ∷ words) = is_condition word || (takes_value word && is_conditional words)

-- a name, and a tag, which is any number
abbrev pub is_name_option : List ℕ → Bool
is_name_option word = bytes_eq word (codes "name")

abbrev pub is_tag_option : List ℕ → List ℕ → Bool
is_tag_option word value = bytes_eq word (codes "tag") && is_plain value

-- a name and a tag, each at most once
abbrev pub are_options : List (List ℕ) → Bool
are_options [] = true
are_options (a ∷ x ∷ []) = is_name_option a || is_tag_option a x
are_options (a ∷ x ∷ b ∷ y ∷ []) = (is_name_option a && is_tag_option b y) || (is_tag_option a x && is_name_option b)
are_options words = false

-- ---- next hops

-- an interface's name and an address behind it
abbrev pub through : ℕ → List (List ℕ) → Option (Via × List (List ℕ))
through line (name ∷ address ∷ words) =
    option_map (λ a. (Through (record { name = name; line = line }) (record { 0 = a }), words)) (address_of address)
through line words = None

-- `Null0`, or an address
abbrev pub direct : List (List ℕ) → Option (Via × List (List ℕ))
direct [] = None
direct (word ∷ words) = if bytes_eq word (codes "Null0") then Some (Null, words) else option_map (λ a. (Hop (record { 0 = a }), words)) (address_of word)

-- the next hop, and the options behind it
abbrev pub via_of : ℕ → List (List ℕ) → Option (Via × List (List ℕ))
via_of line words = option_or (through line words) (direct words)

-- ---- statements

-- what is behind a next hop: its options
abbrev pub options_say : Cidr → Via → List (List ℕ) → Result StaticRoute Cause
options_say prefix via words =
    let own = distance_of words in
    if is_conditional own.1 then Err Unsupported
    else (if are_options own.1 then Ok (record { prefix = prefix; via = via; distance = own.0; element = 0 }) else Err Syntax)

-- a word that is neither an address nor `Null0`, with no address behind it, is an interface alone
abbrev pub alone_says : List (List ℕ) → Result StaticRoute Cause
alone_says [] = Err Syntax
alone_says (word ∷ words) = Err Unsupported

-- what is behind a prefix
abbrev pub target_says : ℕ → Cidr → List (List ℕ) → Result StaticRoute Cause
target_says line prefix words = option_map_or (λ v. options_say prefix v.0 v.1) (via_of line words) (alone_says words)

-- what is behind `ip route`; the line is that of the statement
unfoldable pub route_says : ℕ → List (List ℕ) → Result StaticRoute Cause
route_says line [] = Err Syntax
route_says line (address ∷ []) = if bytes_eq address (codes "vrf") then Err Unsupported else Err Syntax
route_says line (address ∷ mask ∷ words) =
    if bytes_eq address (codes "vrf") then Err Unsupported
    else option_map_or (λ prefix. target_says line prefix words) (masked_prefix address mask) (Err Syntax)

-- the static route of a line
abbrev pub static_at : ℕ → List ℕ → Result StaticRoute Fault
static_at line text = at_line line (route_says line (unwrap_or (after (codes "ip" ∷ codes "route" ∷ []) (words_of text)) []))
