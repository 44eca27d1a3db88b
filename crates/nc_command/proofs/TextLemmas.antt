-- The text of what was read is what was read.
use Rattle.std.proofs.Common.{◌≡◌, ℕ, ◌+◌, ◌-◌, ◌*◌, ◌/◌, ◌%◌, ◌^◌, ◌<◌, ◌≤◌, ◌&&◌, Bool, true, false, cond, List, [], ◌∷◌, ◌++◌, length, Option, Some, None, codes, append_assoc, refl, sym, ap, ◌∙◌, subst, arith}
use Rattle.std.specs.Prelude.{nat_lt, nat_le, ◌==◌, option_and_then}
use Rattle.std.specs.List.{list_all, slice_split, join_with_byte}
use Rattle.std.specs.Option.{option_map, option_map_or}
use Rattle.std.specs.Str.{bytes_eq}
use Rattle.std.specs.Fmt.{decimal}
use Rattle.std.proofs.lemmas.Bool.{leb-true, ltb-true, and_parts}
use Rattle.std.proofs.lemmas.Fmt.{decimal_digit, decimal_step}
use Rattle.std.proofs.lemmas.List.{append-nil}
use Rattle.std.proofs.lemmas.List.Splits.{join_with_byte-slice_split}
use Rattle.std.proofs.lemmas.Option.{option_and_then_some}
use Rattle.std.proofs.lemmas.Slice.Eq.{bytes_eq-Decides}
use Rattle.nc_types.proofs.Options.{map_some}
use Rattle.nc_types.specs.Cidr.{Cidr}
use Rattle.nc_types.specs.Masks.{network_of}
use Rattle.nc_types.specs.declared.addr.Addr.{Addr}
use Rattle.nc_types.specs.declared.command.TestCommand.{TestCommand}
use Rattle.nc_types.specs.declared.command.TestCommand.TheVariants.{Rib, Bgp, Session, Reach, Every, Flow, Element}
use Rattle.nc_lines.specs.Lines.{words_of}
use Rattle.nc_lines.specs.Numbers.{is_digit, value_after, is_plain, number_of, address_of, address_of_parts, prefix_of, prefix_of_parts}
use Rattle.nc_lines.proofs.NumberLemmas.{value_after-ge}
use Rattle.nc_command.specs.declared.command.Command.{Command}
use Rattle.nc_command.specs.declared.command.Command.TheVariants.{Test, Forget, Implies, Cut, Lcov, Json, Suite, Dead, Quit}
use Rattle.nc_types.specs.Dotted.{dotted}
use Rattle.nc_command.specs.Command.{most_number, Passed, TooLong, Unread, Asks, begins_note, addr_of, address_behind, prefix_test_of, address_test_of, flow_test_of, line_test_of, test_of, alone, show_by, forget_by, implies_by, kept_by, cut_by, command_by, asked_by, command_of, cidr_text, spaced, prefix_text, address_text, line_text, text_of}

-- ---- numbers

-- a digit is 48 and its value
digit-is : (d : ℕ) → is_digit d ≡ true → (48 ≤ d) × (d < 58)
digit-is d h =
    let parts = and_parts (nat_le 48 d) (nat_le d 57) h in
    let low = leb-true 48 d parts.0 in
    let high = leb-true d 57 parts.1 in
    (low, omega arith)

-- digits behind a number that isn't 0 are appended to its text
decimal-after : (n : ℕ) (digits : List ℕ) → 0 < n → list_all is_digit digits ≡ true → value_after n digits < 2 ^ 64 → decimal (value_after n digits) ≡ decimal n ++ digits
decimal-after n [] some all small = sym (append-nil (decimal n))
decimal-after n (d ∷ ds) some all small =
    let parts = and_parts (is_digit d) (list_all is_digit ds) all in
    let digit = digit-is d parts.0 in
    let low : 48 ≤ d = digit.0 in
    let high : d < 58 = digit.1 in
    let m = 10 * n + (d - 48) in
    let less : m ≤ value_after m ds = value_after-ge m ds in
    let step : decimal m ≡ decimal (m / 10) ++ ((48 + m % 10) ∷ []) = decimal_step m (omega arith) (omega arith) in
    let front : m / 10 ≡ n = omega arith in
    let last : 48 + m % 10 ≡ d = omega arith in
    decimal-after m ds (omega arith) parts.1 small
    ∙ ap (λ t. t ++ ds) (step ∙ ap (λ k. decimal k ++ ((48 + m % 10) ∷ [])) front ∙ ap (λ k. decimal n ++ (k ∷ [])) last)
    ∙ append_assoc (decimal n) (d ∷ []) ds

-- the text of the number that digits without a leading zero make
decimal-plain : (word : List ℕ) → is_plain word ≡ true → value_after 0 word < 2 ^ 64 → decimal (value_after 0 word) ≡ word
decimal-plain [] plain small = absurd (cc)
decimal-plain (d ∷ []) plain small =
    let digit = digit-is d plain in
    let low : 48 ≤ d = digit.0 in
    let high : d < 58 = digit.1 in
    let value : 10 * 0 + (d - 48) < 10 = omega arith in
    let same : 48 + (10 * 0 + (d - 48)) ≡ d = omega arith in
    decimal_digit (10 * 0 + (d - 48)) value ∙ ap (λ k. k ∷ []) same
decimal-plain (d ∷ e ∷ es) plain small =
    let parts = and_parts (nat_lt 48 d) (list_all is_digit (d ∷ e ∷ es)) plain in
    let all = and_parts (is_digit d) (list_all is_digit (e ∷ es)) parts.1 in
    let above : 48 < d = ltb-true 48 d parts.0 in
    let digit = digit-is d all.0 in
    let high : d < 58 = digit.1 in
    let value : 10 * 0 + (d - 48) < 10 = omega arith in
    let some : 0 < 10 * 0 + (d - 48) = omega arith in
    let same : 48 + (10 * 0 + (d - 48)) ≡ d = omega arith in
    decimal-after (10 * 0 + (d - 48)) (e ∷ es) some all.1 small
    ∙ ap (λ t. t ++ (e ∷ es)) (decimal_digit (10 * 0 + (d - 48)) value ∙ ap (λ k. k ∷ []) same)

-- a word that writes a number is that number's text
number-text : (most n : ℕ) (word : List ℕ) → most < 2 ^ 32 → number_of most word ≡ Some n → (decimal n ≡ word) × (n ≤ most)
unfolding number_of
number-text most n word few at = by_test (is_plain word && nat_le (value_after 0 word) most) refl at
  where
    by_test : (b : Bool) → (is_plain word && nat_le (value_after 0 word) most) ≡ b → cond b (Some (value_after 0 word)) None ≡ Some n → (decimal n ≡ word) × (n ≤ most)
    by_test false test is = absurd (cc)
    by_test true test is =
        let parts = and_parts (is_plain word) (nat_le (value_after 0 word) most) test in
        let within : value_after 0 word ≤ most = leb-true (value_after 0 word) most parts.1 in
        let same : value_after 0 word ≡ n = cc in
        (ap decimal (sym same) ∙ decimal-plain word parts.0 (omega arith), subst (λ k. k ≤ most) same within)

-- ---- addresses and prefixes

octets : (a b c d : ℕ) → a ≤ 255 → b ≤ 255 → c ≤ 255 → d ≤ 255 → dotted (((a * 256 + b) * 256 + c) * 256 + d) ≡ join_with_byte 46 (decimal a ∷ decimal b ∷ decimal c ∷ decimal d ∷ [])
octets a b c d la lb lc ld =
    let n = ((a * 256 + b) * 256 + c) * 256 + d in
    let first : n / 16777216 ≡ a = omega arith in
    let second : n / 65536 % 256 ≡ b = omega arith in
    let third : n / 256 % 256 ≡ c = omega arith in
    let fourth : n % 256 ≡ d = omega arith in
    ap (λ k. join_with_byte 46 (decimal k ∷ decimal (n / 65536 % 256) ∷ decimal (n / 256 % 256) ∷ decimal (n % 256) ∷ [])) first
    ∙ ap (λ k. join_with_byte 46 (decimal a ∷ decimal k ∷ decimal (n / 256 % 256) ∷ decimal (n % 256) ∷ [])) second
    ∙ ap (λ k. join_with_byte 46 (decimal a ∷ decimal b ∷ decimal k ∷ decimal (n % 256) ∷ [])) third
    ∙ ap (λ k. join_with_byte 46 (decimal a ∷ decimal b ∷ decimal c ∷ decimal k ∷ [])) fourth

address-parts : (parts : List (List ℕ)) (n : ℕ) → address_of_parts parts ≡ Some n → dotted n ≡ join_with_byte 46 parts
address-parts [] n at = absurd (cc)
address-parts (p ∷ []) n at = absurd (cc)
address-parts (p ∷ q ∷ []) n at = absurd (cc)
address-parts (p ∷ q ∷ r ∷ []) n at = absurd (cc)
address-parts (p ∷ q ∷ r ∷ s ∷ t ∷ us) n at = absurd (cc)
address-parts (p ∷ q ∷ r ∷ s ∷ []) n at =
    option_and_then_some _ (number_of 255 p) n at (λ a is-a in-a.
    option_and_then_some _ (number_of 255 q) n in-a (λ b is-b in-b.
    option_and_then_some _ (number_of 255 r) n in-b (λ c is-c in-c.
    option_and_then_some _ (number_of 255 s) n in-c (λ d is-d in-d. four a b c d is-a is-b is-c is-d in-d))))
  where
    four : (a b c d : ℕ) → number_of 255 p ≡ Some a → number_of 255 q ≡ Some b → number_of 255 r ≡ Some c → number_of 255 s ≡ Some d → Some (((a * 256 + b) * 256 + c) * 256 + d) ≡ Some n
        → dotted n ≡ join_with_byte 46 (p ∷ q ∷ r ∷ s ∷ [])
    four a b c d is-a is-b is-c is-d is =
        let ta = number-text 255 a p (omega arith) is-a in
        let tb = number-text 255 b q (omega arith) is-b in
        let tc = number-text 255 c r (omega arith) is-c in
        let td = number-text 255 d s (omega arith) is-d in
        let same : ((a * 256 + b) * 256 + c) * 256 + d ≡ n = cc in
        ap dotted (sym same) ∙ octets a b c d ta.1 tb.1 tc.1 td.1
        ∙ ap (λ w. join_with_byte 46 (w ∷ decimal b ∷ decimal c ∷ decimal d ∷ [])) ta.0
        ∙ ap (λ w. join_with_byte 46 (p ∷ w ∷ decimal c ∷ decimal d ∷ [])) tb.0
        ∙ ap (λ w. join_with_byte 46 (p ∷ q ∷ w ∷ decimal d ∷ [])) tc.0
        ∙ ap (λ w. join_with_byte 46 (p ∷ q ∷ r ∷ w ∷ [])) td.0

address-text : (word : List ℕ) (n : ℕ) → address_of word ≡ Some n → dotted n ≡ word
unfolding address_of
address-text word n at = address-parts (slice_split (λ b. b == 46) word) n at ∙ join_with_byte-slice_split 46 word

addr-text : (word : List ℕ) (addr : Addr) → addr_of word ≡ Some addr → dotted addr.0 ≡ word
addr-text word addr at =
    let made = map_some (λ (a : ℕ). let r : Addr = record { 0 = a } in r) (address_of word) addr at in
    ap (λ (a : Addr). dotted a.0) (sym made.2) ∙ address-text word made.0 made.1

prefix-parts : (parts : List (List ℕ)) (p : Cidr) → prefix_of_parts parts ≡ Some p → cidr_text p ≡ join_with_byte 47 parts
prefix-parts [] p at = absurd (cc)
prefix-parts (a ∷ []) p at = absurd (cc)
prefix-parts (a ∷ b ∷ c ∷ ds) p at = absurd (cc)
prefix-parts (address ∷ len ∷ []) p at =
    option_and_then_some _ (address_of address) p at (λ base is-base in-base.
    option_and_then_some _ (number_of 32 len) p in-base (λ bits is-bits in-bits. two base bits is-base is-bits (network_of base bits == base) in-bits))
  where
    two : (base bits : ℕ) → address_of address ≡ Some base → number_of 32 len ≡ Some bits → (b : Bool) → cond b (Some (let c : Cidr = record { base = base; len = bits } in c)) None ≡ Some p
        → cidr_text p ≡ join_with_byte 47 (address ∷ len ∷ [])
    two base bits is-base is-bits false is = absurd (cc)
    two base bits is-base is-bits true is =
        let same : ◌≡◌ {A = Cidr} (record { base = base; len = bits }) p = cc in
        ap cidr_text (sym same)
        ∙ ap (λ w. join_with_byte 47 (w ∷ decimal bits ∷ [])) (address-text address base is-base)
        ∙ ap (λ w. join_with_byte 47 (address ∷ w ∷ [])) (number-text 32 bits len (omega arith) is-bits).0

prefix-text : (word : List ℕ) (p : Cidr) → prefix_of word ≡ Some p → cidr_text p ≡ word
unfolding prefix_of
prefix-text word p at = prefix-parts (slice_split (λ b. b == 47) word) p at ∙ join_with_byte-slice_split 47 word

-- ---- tests

-- a key word and an address behind a prefix
behind-text : (command name : List ℕ) (p : Cidr) (key : List ℕ) (words : List (List ℕ)) (via : Option Addr) → address_behind key words ≡ Some via
    → prefix_text command name p key via ≡ spaced (command ∷ name ∷ cidr_text p ∷ words)
behind-text command name p key [] via at = ap (prefix_text command name p key) (let same : via ≡ None = cc in same)
behind-text command name p key (a ∷ []) via at = absurd (cc)
behind-text command name p key (a ∷ b ∷ c ∷ ds) via at = absurd (cc)
behind-text command name p key (word ∷ address ∷ []) via at = by_key (bytes_eq word key) refl at
  where
    by_key : (b : Bool) → bytes_eq word key ≡ b → cond b (option_map Some (addr_of address)) None ≡ Some via
        → prefix_text command name p key via ≡ spaced (command ∷ name ∷ cidr_text p ∷ word ∷ address ∷ [])
    by_key false test is = absurd (cc)
    by_key true test is =
        let some = map_some Some (addr_of address) via is in
        let same : key ≡ word = sym ((bytes_eq-Decides word key).0 test) in
        ap (prefix_text command name p key) (sym some.2)
        ∙ ap (λ w. spaced (command ∷ name ∷ cidr_text p ∷ key ∷ w ∷ [])) (addr-text address some.0 some.1)
        ∙ ap (λ w. spaced (command ∷ name ∷ cidr_text p ∷ w ∷ address ∷ [])) same

prefix-test-text : (command key : List ℕ) (make : List ℕ → Cidr → Option Addr → TestCommand) → ((name : List ℕ) (p : Cidr) (addr : Option Addr) → text_of (make name p addr) ≡ prefix_text command name p key addr) → (words : List (List ℕ)) (test : TestCommand)
    → prefix_test_of make key words ≡ Some test → text_of test ≡ spaced (command ∷ words)
prefix-test-text command key make texts [] test at = absurd (cc)
prefix-test-text command key make texts (a ∷ []) test at = absurd (cc)
prefix-test-text command key make texts (name ∷ word ∷ words) test at =
    option_and_then_some _ (prefix_of word) test at (λ p is-p in-p.
    let addr = map_some (make name p) (address_behind key words) test in-p in
    ap text_of (sym addr.2)
    ∙ texts name p addr.0
    ∙ behind-text command name p key words addr.0 addr.1
    ∙ ap (λ w. spaced (command ∷ name ∷ w ∷ words)) (prefix-text word p is-p))

-- a name and an address behind a command
address-test-text : (command : List ℕ) (make : List ℕ → Addr → TestCommand) → ((name : List ℕ) (a : Addr) → text_of (make name a) ≡ address_text command name a) → (words : List (List ℕ)) (test : TestCommand) → address_test_of make words ≡ Some test
    → text_of test ≡ spaced (command ∷ words)
address-test-text command make texts [] test at = absurd (cc)
address-test-text command make texts (name ∷ []) test at = absurd (cc)
address-test-text command make texts (name ∷ word ∷ more ∷ words) test at = absurd (cc)
address-test-text command make texts (name ∷ word ∷ []) test at =
    let made = map_some (make name) (addr_of word) test at in
    ap text_of (sym made.2) ∙ texts name made.0 ∙ ap (λ w. spaced (command ∷ name ∷ w ∷ [])) (addr-text word made.0 made.1)

-- a name and two addresses behind a command
flow-test-text : (words : List (List ℕ)) (test : TestCommand) → flow_test_of words ≡ Some test → text_of test ≡ spaced (codes "flow" ∷ words)
flow-test-text [] test at = absurd (cc)
flow-test-text (name ∷ []) test at = absurd (cc)
flow-test-text (name ∷ source ∷ []) test at = absurd (cc)
flow-test-text (name ∷ source ∷ target ∷ more ∷ words) test at = absurd (cc)
flow-test-text (name ∷ source ∷ target ∷ []) test at =
    option_and_then_some _ (addr_of source) test at (λ from is-from in-from.
    let made = map_some (Flow name from) (addr_of target) test in-from in
    ap text_of (sym made.2)
    ∙ ap (λ w. spaced (codes "flow" ∷ name ∷ w ∷ dotted made.0.0 ∷ [])) (addr-text source from is-from)
    ∙ ap (λ w. spaced (codes "flow" ∷ name ∷ source ∷ w ∷ [])) (addr-text target made.0 made.1))

-- a name and a line's number behind a command
line-test-text : (command : List ℕ) (make : List ℕ → ℕ → TestCommand) → ((name : List ℕ) (n : ℕ) → text_of (make name n) ≡ line_text command name n) → (words : List (List ℕ)) (test : TestCommand) → line_test_of make words ≡ Some test
    → text_of test ≡ spaced (command ∷ words)
line-test-text command make texts [] test at = absurd (cc)
line-test-text command make texts (name ∷ []) test at = absurd (cc)
line-test-text command make texts (name ∷ word ∷ more ∷ words) test at = absurd (cc)
line-test-text command make texts (name ∷ word ∷ []) test at =
    let made = map_some (make name) (number_of most_number word) test at in
    ap text_of (sym made.2) ∙ texts name made.0
    ∙ ap (λ w. spaced (command ∷ name ∷ w ∷ [])) (number-text most_number made.0 word (omega arith) made.1).0

-- the words of a command, when its first is known
first-word : (word command : List ℕ) (words : List (List ℕ)) → bytes_eq word command ≡ true → spaced (command ∷ words) ≡ spaced (word ∷ words)
first-word word command words same = ap (λ w. spaced (w ∷ words)) (sym ((bytes_eq-Decides word command).0 same))

module _ (word : List ℕ) (words : List (List ℕ)) where
  -- the test that they make where the first word is none of those before
  abbrev element_test : Option TestCommand
  element_test = cond (bytes_eq word (codes "element")) (line_test_of Element words) None

  abbrev flow_test : Option TestCommand
  flow_test = cond (bytes_eq word (codes "flow")) (flow_test_of words) element_test

  abbrev every_test : Option TestCommand
  every_test = cond (bytes_eq word (codes "every")) (address_test_of Every words) flow_test

  abbrev reach_test : Option TestCommand
  reach_test = cond (bytes_eq word (codes "reach")) (address_test_of Reach words) every_test

  abbrev session_test : Option TestCommand
  session_test = cond (bytes_eq word (codes "session")) (address_test_of Session words) reach_test

  abbrev bgp_test : Option TestCommand
  bgp_test = cond (bytes_eq word (codes "bgp")) (prefix_test_of Bgp (codes "from") words) session_test

  abbrev cut_command : Option Command
  cut_command = cond (bytes_eq word (codes "cut")) (cut_by words) (option_map Test (test_of word words))

  abbrev implies_command : Option Command
  implies_command = cond (bytes_eq word (codes "implies")) (implies_by words) cut_command

  abbrev forget_command : Option Command
  forget_command = cond (bytes_eq word (codes "forget")) (forget_by words) implies_command

  abbrev dead_command : Option Command
  dead_command = cond (bytes_eq word (codes "dead")) (alone Dead words) forget_command

  abbrev suite_command : Option Command
  suite_command = cond (bytes_eq word (codes "suite")) (alone Suite words) dead_command

  abbrev json_command : Option Command
  json_command = cond (bytes_eq word (codes "json")) (alone Json words) suite_command

  abbrev lcov_command : Option Command
  lcov_command = cond (bytes_eq word (codes "lcov")) (alone Lcov words) json_command

  abbrev show_command : Option Command
  show_command = cond (bytes_eq word (codes "show")) (show_by words) lcov_command

  module _ (test : TestCommand) where
    by_element : (b : Bool) → bytes_eq word (codes "element") ≡ b → cond b (line_test_of Element words) None ≡ Some test → text_of test ≡ spaced (word ∷ words)
    by_element false same is = absurd (cc)
    by_element true same is = line-test-text (codes "element") Element (λ name n. refl) words test is ∙ first-word word (codes "element") words same

    by_flow : (b : Bool) → bytes_eq word (codes "flow") ≡ b → cond b (flow_test_of words) element_test ≡ Some test → text_of test ≡ spaced (word ∷ words)
    by_flow false same is = by_element (bytes_eq word (codes "element")) refl is
    by_flow true same is = flow-test-text words test is ∙ first-word word (codes "flow") words same

    by_every : (b : Bool) → bytes_eq word (codes "every") ≡ b → cond b (address_test_of Every words) flow_test ≡ Some test → text_of test ≡ spaced (word ∷ words)
    by_every false same is = by_flow (bytes_eq word (codes "flow")) refl is
    by_every true same is = address-test-text (codes "every") Every (λ name a. refl) words test is ∙ first-word word (codes "every") words same

    by_reach : (b : Bool) → bytes_eq word (codes "reach") ≡ b → cond b (address_test_of Reach words) every_test ≡ Some test → text_of test ≡ spaced (word ∷ words)
    by_reach false same is = by_every (bytes_eq word (codes "every")) refl is
    by_reach true same is = address-test-text (codes "reach") Reach (λ name a. refl) words test is ∙ first-word word (codes "reach") words same

    by_session : (b : Bool) → bytes_eq word (codes "session") ≡ b → cond b (address_test_of Session words) reach_test ≡ Some test → text_of test ≡ spaced (word ∷ words)
    by_session false same is = by_reach (bytes_eq word (codes "reach")) refl is
    by_session true same is = address-test-text (codes "session") Session (λ name a. refl) words test is ∙ first-word word (codes "session") words same

    by_bgp : (b : Bool) → bytes_eq word (codes "bgp") ≡ b → cond b (prefix_test_of Bgp (codes "from") words) session_test ≡ Some test → text_of test ≡ spaced (word ∷ words)
    by_bgp false same is = by_session (bytes_eq word (codes "session")) refl is
    by_bgp true same is = prefix-test-text (codes "bgp") (codes "from") Bgp (λ name p addr. refl) words test is ∙ first-word word (codes "bgp") words same

    by_rib : (b : Bool) → bytes_eq word (codes "rib") ≡ b → cond b (prefix_test_of Rib (codes "via") words) bgp_test ≡ Some test → text_of test ≡ spaced (word ∷ words)
    by_rib false same is = by_bgp (bytes_eq word (codes "bgp")) refl is
    by_rib true same is = prefix-test-text (codes "rib") (codes "via") Rib (λ name p addr. refl) words test is ∙ first-word word (codes "rib") words same

    test-text : test_of word words ≡ Some test → text_of test ≡ spaced (word ∷ words)
    test-text at = by_rib (bytes_eq word (codes "rib")) refl at

-- a test that words ask has the words as its text
asked-text : (words : List (List ℕ)) (test : TestCommand) → asked_by words ≡ Asks (Test test) → text_of test ≡ spaced words
asked-text [] test at = absurd (cc)
asked-text (word ∷ words) test at = by_note (begins_note word) at
  where
    by_test : (o : Option TestCommand) → test_of word words ≡ o → option_map Test o ≡ Some (Test test) → text_of test ≡ spaced (word ∷ words)
    by_test None found is = absurd (cc)
    by_test (Some t) found is = let same : t ≡ test = cc in test-text word words test (found ∙ ap Some same)

    not-alone : (command : Command) (ws : List (List ℕ)) → (command ≡ Test test → ⊥) → alone command ws ≡ Some (Test test) → text_of test ≡ spaced (word ∷ words)
    not-alone command [] other is = absurd (let same : command ≡ Test test = cc in other same)
    not-alone command (w ∷ ws) other is = absurd (cc)

    not-shown : (ws : List (List ℕ)) → show_by ws ≡ Some (Test test) → text_of test ≡ spaced (word ∷ words)
    not-shown [] is = absurd (cc)
    not-shown (name ∷ []) is = absurd (cc)
    not-shown (name ∷ w ∷ ws) is = absurd (cc)

    not-forgetting : (n : Option ℕ) → option_map Forget n ≡ Some (Test test) → text_of test ≡ spaced (word ∷ words)
    not-forgetting None is = absurd (cc)
    not-forgetting (Some n) is = absurd (cc)

    not-forgot : (ws : List (List ℕ)) → forget_by ws ≡ Some (Test test) → text_of test ≡ spaced (word ∷ words)
    not-forgot [] is = absurd (cc)
    not-forgot (number ∷ []) is = not-forgetting (number_of most_number number) is
    not-forgot (number ∷ w ∷ ws) is = absurd (cc)

    not-implying : (m n : Option ℕ) → option_and_then (λ k. option_map (Implies k) n) m ≡ Some (Test test) → text_of test ≡ spaced (word ∷ words)
    not-implying None n is = absurd (cc)
    not-implying (Some m) None is = absurd (cc)
    not-implying (Some m) (Some n) is = absurd (cc)

    not-implied : (ws : List (List ℕ)) → implies_by ws ≡ Some (Test test) → text_of test ≡ spaced (word ∷ words)
    not-implied [] is = absurd (cc)
    not-implied (first ∷ []) is = absurd (cc)
    not-implied (first ∷ second ∷ []) is = not-implying (number_of most_number first) (number_of most_number second) is
    not-implied (first ∷ second ∷ w ∷ ws) is = absurd (cc)

    not-cutting : (n : Option ℕ) (names : Option (List (List ℕ))) → option_and_then (λ k. option_map (Cut k) names) n ≡ Some (Test test) → text_of test ≡ spaced (word ∷ words)
    not-cutting None names is = absurd (cc)
    not-cutting (Some n) None is = absurd (cc)
    not-cutting (Some n) (Some names) is = absurd (cc)

    not-cut : (ws : List (List ℕ)) → cut_by ws ≡ Some (Test test) → text_of test ≡ spaced (word ∷ words)
    not-cut [] is = absurd (cc)
    not-cut (number ∷ ws) is = not-cutting (number_of most_number number) (kept_by ws) is

    by_cut : (b : Bool) → cond b (cut_by words) (option_map Test (test_of word words)) ≡ Some (Test test) → text_of test ≡ spaced (word ∷ words)
    by_cut true is = not-cut words is
    by_cut false is = by_test (test_of word words) refl is

    by_implies : (b : Bool) → cond b (implies_by words) (cut_command word words) ≡ Some (Test test) → text_of test ≡ spaced (word ∷ words)
    by_implies true is = not-implied words is
    by_implies false is = by_cut (bytes_eq word (codes "cut")) is

    by_forget : (b : Bool) → cond b (forget_by words) (implies_command word words) ≡ Some (Test test) → text_of test ≡ spaced (word ∷ words)
    by_forget true is = not-forgot words is
    by_forget false is = by_implies (bytes_eq word (codes "implies")) is

    by_dead : (b : Bool) → cond b (alone Dead words) (forget_command word words) ≡ Some (Test test) → text_of test ≡ spaced (word ∷ words)
    by_dead true is = not-alone Dead words (λ e. absurd (cc)) is
    by_dead false is = by_forget (bytes_eq word (codes "forget")) is

    by_suite : (b : Bool) → cond b (alone Suite words) (dead_command word words) ≡ Some (Test test) → text_of test ≡ spaced (word ∷ words)
    by_suite true is = not-alone Suite words (λ e. absurd (cc)) is
    by_suite false is = by_dead (bytes_eq word (codes "dead")) is

    by_json : (b : Bool) → cond b (alone Json words) (suite_command word words) ≡ Some (Test test) → text_of test ≡ spaced (word ∷ words)
    by_json true is = not-alone Json words (λ e. absurd (cc)) is
    by_json false is = by_suite (bytes_eq word (codes "suite")) is

    by_lcov : (b : Bool) → cond b (alone Lcov words) (json_command word words) ≡ Some (Test test) → text_of test ≡ spaced (word ∷ words)
    by_lcov true is = not-alone Lcov words (λ e. absurd (cc)) is
    by_lcov false is = by_json (bytes_eq word (codes "json")) is

    by_show : (b : Bool) → cond b (show_by words) (lcov_command word words) ≡ Some (Test test) → text_of test ≡ spaced (word ∷ words)
    by_show true is = not-shown words is
    by_show false is = by_lcov (bytes_eq word (codes "lcov")) is

    by_quit : (b : Bool) → cond b (alone Quit words) (show_command word words) ≡ Some (Test test) → text_of test ≡ spaced (word ∷ words)
    by_quit true is = not-alone Quit words (λ e. absurd (cc)) is
    by_quit false is = by_show (bytes_eq word (codes "show")) is

    by_command : (o : Option Command) → command_by word words ≡ o → option_map_or Asks o Unread ≡ Asks (Test test) → text_of test ≡ spaced (word ∷ words)
    by_command None found is = absurd (cc)
    by_command (Some command) found is = let same : command ≡ Test test = cc in by_quit (bytes_eq word (codes "quit")) (found ∙ ap Some same)

    by_note : (b : Bool) → cond b Passed (option_map_or Asks (command_by word words) Unread) ≡ Asks (Test test) → text_of test ≡ spaced (word ∷ words)
    by_note true is = absurd (cc)
    by_note false is = by_command (command_by word words) refl is

pub line-text : (line : List ℕ) (test : TestCommand) → command_of line ≡ Asks (Test test) → text_of test ≡ spaced (words_of line)
unfolding command_of
line-text line test at = by_length (nat_lt 4096 (length line)) at
  where
    by_length : (b : Bool) → cond b TooLong (asked_by (words_of line)) ≡ Asks (Test test) → text_of test ≡ spaced (words_of line)
    by_length true is = absurd (cc)
    by_length false is = asked-text (words_of line) test is
