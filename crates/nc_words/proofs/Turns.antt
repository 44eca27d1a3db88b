-- What `clap` makes of one word, between two words, where a setting waits for its value and behind
-- `--`.
use Rattle.std.proofs.Common.{suc, ◌≡◌, ◌∙◌, ◌++◌, ℕ, true, false, List, [], ◌∷◌, Option, Some, None, length, codes, refl, ap, arith}
use Rattle.std.specs.Prelude.{slice_get}
use Rattle.std.specs.Str.{bytes_eq, chars}
use Rattle.clap.specs.Walk.{Held, Row, Rule, Text, Waiting, Walk, idle, option, positional, settled, used, walked}
use Rattle.clap.specs.Simple.{Shape, built, filled, with_index}
use Rattle.clap.specs.Kinds.{Kinds, or_else}
use Rattle.clap.specs.Faults.{flags_fault, settle_fault, turn_fault, use_fault}
use Rattle.clap.specs.declared.error.kind.ErrorKind.TheVariants.{InvalidValue, UnknownArgument}
use Rattle.nc_words.specs.Words.{FatTree, Item, Names, Rounds, Sets, Setting, Word}
use Rattle.nc_words.specs.Command.{fat_tree_rule, file_rule, netcov_app, rounds_rule}
use Rattle.nc_words.proofs.Shapes.{IsLetters, IsNoFlag, id_of, long_word_of, name_in}

-- the command as it is built
abbrev pub shape : Shape
shape = (built netcov_app).top

abbrev pub rule_for : Item → Rule
rule_for (Sets Rounds value) = filled rounds_rule
rule_for (Sets FatTree value) = filled fat_tree_rule
rule_for (Names name) = with_index 1 (filled file_rule)

abbrev pub value_in : Item → Word
value_in (Sets setting value) = value
value_in (Names name) = name

-- the rows with an item, and its fault
abbrev pub rows_with : List Row → Item → List Row
rows_with rows item = used (rule_for item) (value_in item ∷ []) rows

abbrev pub fault_with : List Row → Item → Kinds
fault_with rows item = use_fault false (rule_for item) (value_in item ∷ []) rows

-- an item whose value is read but not used yet
abbrev pub pending_of : Option Item → Option (Text × List Text)
pending_of None = None
pending_of (Some item) = Some ((rule_for item).id, value_in item ∷ [])

abbrev pub waits_with : Option Item → Waiting
waits_with None = idle
waits_with (Some (Sets setting value)) = idle
waits_with (Some (Names name)) = positional

abbrev pub held : List Row → Option (Text × List Text) → Held
held rows pending = record { rows = rows; pending = pending; skip = 0 }

-- between two words
abbrev pub between : List Row → Option Item → Walk
between rows last = record { held = held rows (pending_of last); waiting = waits_with last; position = 1; is_trailing = false; stopped = None }

-- where a setting waits for its value
abbrev pub valued : List Row → Setting → Walk
valued rows setting = record { held = held rows (Some (id_of setting, [])); waiting = option (id_of setting); position = 1; is_trailing = false; stopped = None }

-- behind `--`
abbrev pub behind : List Row → Option (Text × List Text) → Waiting → Walk
behind rows pending waiting = record { held = held rows pending; waiting = waiting; position = 1; is_trailing = true; stopped = None }

-- the last item used
abbrev pub rows_settled : List Row → Option Item → List Row
rows_settled rows None = rows
rows_settled rows (Some item) = rows_with rows item

abbrev pub fault_settled : List Row → Option Item → Kinds
fault_settled rows None = []
fault_settled rows (Some item) = fault_with rows item

-- the walk with a word more, and its fault
abbrev pub next : Walk → Word → Walk
next w word = walked shape.rules [] w word

abbrev pub fault_at : Walk → Word → Kinds
fault_at w word = turn_fault shape [] w word

-- a word makes a fault
abbrev pub IsRefused : Walk → Word → Type 0
IsRefused w word = fault_at w word ≡ [] → ⊥

pub or_else_nil : (kinds : Kinds) → or_else kinds [] ≡ kinds
or_else_nil [] = refl
or_else_nil (k ∷ ks) = refl

-- ---- between two words

pub dashes_next : (rows : List Row) (last : Option Item) → next (between rows last) (45 ∷ 45 ∷ []) ≡ behind rows (pending_of last) (waits_with last)
unfolding walked
dashes_next rows None = refl
dashes_next rows (Some (Sets Rounds value)) = refl
dashes_next rows (Some (Sets FatTree value)) = refl
dashes_next rows (Some (Names name)) = refl

pub dashes_fault : (rows : List Row) (last : Option Item) → fault_at (between rows last) (45 ∷ 45 ∷ []) ≡ []
dashes_fault rows None = refl
dashes_fault rows (Some (Sets Rounds value)) = refl
dashes_fault rows (Some (Sets FatTree value)) = refl
dashes_fault rows (Some (Names name)) = refl

pub opens_next : (rows : List Row) (last : Option Item) (setting : Setting) → next (between rows last) (long_word_of setting) ≡ valued (rows_settled rows last) setting
unfolding walked
opens_next rows None Rounds = refl
opens_next rows None FatTree = refl
opens_next rows (Some (Sets Rounds value)) Rounds = refl
opens_next rows (Some (Sets Rounds value)) FatTree = refl
opens_next rows (Some (Sets FatTree value)) Rounds = refl
opens_next rows (Some (Sets FatTree value)) FatTree = refl
opens_next rows (Some (Names name)) Rounds = refl
opens_next rows (Some (Names name)) FatTree = refl

pub opens_fault : (rows : List Row) (last : Option Item) (setting : Setting) → fault_at (between rows last) (long_word_of setting) ≡ fault_settled rows last
opens_fault rows None Rounds = refl
opens_fault rows None FatTree = refl
opens_fault rows (Some (Sets Rounds value)) Rounds = or_else_nil (fault_with rows (Sets Rounds value))
opens_fault rows (Some (Sets Rounds value)) FatTree = or_else_nil (fault_with rows (Sets Rounds value))
opens_fault rows (Some (Sets FatTree value)) Rounds = or_else_nil (fault_with rows (Sets FatTree value))
opens_fault rows (Some (Sets FatTree value)) FatTree = or_else_nil (fault_with rows (Sets FatTree value))
opens_fault rows (Some (Names name)) Rounds = refl
opens_fault rows (Some (Names name)) FatTree = refl

pub holds_next : (rows : List Row) (last : Option Item) (setting : Setting) (value : Word) → next (between rows last) (long_word_of setting ++ 61 ∷ value) ≡ between (rows_with (rows_settled rows last) (Sets setting value)) None
unfolding walked
holds_next rows None Rounds value = refl
holds_next rows None FatTree value = refl
holds_next rows (Some (Sets Rounds v)) Rounds value = refl
holds_next rows (Some (Sets Rounds v)) FatTree value = refl
holds_next rows (Some (Sets FatTree v)) Rounds value = refl
holds_next rows (Some (Sets FatTree v)) FatTree value = refl
holds_next rows (Some (Names name)) Rounds value = refl
holds_next rows (Some (Names name)) FatTree value = refl

pub holds_fault : (rows : List Row) (last : Option Item) (setting : Setting) (value : Word) → fault_at (between rows last) (long_word_of setting ++ 61 ∷ value) ≡ or_else (fault_settled rows last) (fault_with (rows_settled rows last) (Sets setting value))
holds_fault rows None Rounds value = or_else_nil (fault_with rows (Sets Rounds value))
holds_fault rows None FatTree value = or_else_nil (fault_with rows (Sets FatTree value))
holds_fault rows (Some (Sets Rounds v)) Rounds value = or_else_nil _
holds_fault rows (Some (Sets Rounds v)) FatTree value = or_else_nil _
holds_fault rows (Some (Sets FatTree v)) Rounds value = or_else_nil _
holds_fault rows (Some (Sets FatTree v)) FatTree value = or_else_nil _
holds_fault rows (Some (Names name)) Rounds value = or_else_nil _
holds_fault rows (Some (Names name)) FatTree value = or_else_nil _

pub plain_next : (rows : List Row) (last : Option Item) (word : Word) → IsNoFlag word → next (between rows last) word ≡ between (rows_settled rows last) (Some (Names word))
unfolding walked
plain_next rows None word is = rw (is.dashes, is.long, is.short) refl
plain_next rows (Some (Sets Rounds value)) word is = rw (is.dashes, is.long, is.short) refl
plain_next rows (Some (Sets FatTree value)) word is = rw (is.dashes, is.long, is.short) refl
plain_next rows (Some (Names name)) word is = rw (is.dashes, is.long, is.short) refl

pub plain_fault : (rows : List Row) (last : Option Item) (word : Word) → IsNoFlag word → fault_at (between rows last) word ≡ fault_settled rows last
plain_fault rows None word is = rw (is.dashes, is.long, is.short) refl
plain_fault rows (Some (Sets Rounds value)) word is = rw (is.dashes, is.long, is.short) refl
plain_fault rows (Some (Sets FatTree value)) word is = rw (is.dashes, is.long, is.short) refl
plain_fault rows (Some (Names name)) word is = rw (is.dashes, is.long, is.short) refl

-- ---- words that begin with a dash and are none of these

module _ (c : ℕ) (cs : Word) where
  pub long_fault_at : (rows : List Row) (last : Option Item) → bytes_eq (codes "rounds") (name_in (c ∷ cs)) ≡ false → bytes_eq (codes "fat-tree") (name_in (c ∷ cs)) ≡ false
      → fault_at (between rows last) (45 ∷ 45 ∷ c ∷ cs) ≡ UnknownArgument ∷ []
  long_fault_at rows None a b = rw (a, b) refl
  long_fault_at rows (Some (Sets Rounds value)) a b = rw (a, b) refl
  long_fault_at rows (Some (Sets FatTree value)) a b = rw (a, b) refl
  long_fault_at rows (Some (Names name)) a b = rw (a, b) refl

  pub valued_long : (rows : List Row) (setting : Setting) → bytes_eq (codes "rounds") (name_in (c ∷ cs)) ≡ false → bytes_eq (codes "fat-tree") (name_in (c ∷ cs)) ≡ false
      → fault_at (valued rows setting) (45 ∷ 45 ∷ c ∷ cs) ≡ UnknownArgument ∷ []
  valued_long rows Rounds a b = rw (a, b) refl
  valued_long rows FatTree a b = rw (a, b) refl

  flags_refused : (x : ℕ) (h : Held) → slice_get (chars (c ∷ cs)) 0 ≡ Some x → flags_fault shape.rules false (length (c ∷ cs)) (c ∷ cs) 0 h ≡ UnknownArgument ∷ []
  unfolding flags_fault
  flags_refused x h first =
      let long : length (c ∷ cs) ≡ suc (length cs) = omega arith in
      ap (λ (n : ℕ). flags_fault shape.rules false n (c ∷ cs) 0 h) long ∙ rw first refl

  pub short_fault_at : (rows : List Row) (last : Option Item) (word : Word) (x : ℕ) → IsLetters word (c ∷ cs) → slice_get (chars (c ∷ cs)) 0 ≡ Some x
      → fault_at (between rows last) word ≡ UnknownArgument ∷ []
  short_fault_at rows None word x is first = rw (is.dashes, is.long, is.short, flags_refused x (between rows None).held first) refl
  short_fault_at rows (Some (Sets Rounds value)) word x is first = rw (is.dashes, is.long, is.short, flags_refused x (between rows (Some (Sets Rounds value))).held first) refl
  short_fault_at rows (Some (Sets FatTree value)) word x is first = rw (is.dashes, is.long, is.short, flags_refused x (between rows (Some (Sets FatTree value))).held first) refl
  short_fault_at rows (Some (Names name)) word x is first = rw (is.dashes, is.long, is.short, flags_refused x (between rows (Some (Names name))).held first) refl

  pub valued_short : (rows : List Row) (setting : Setting) (word : Word) (x : ℕ) → IsLetters word (c ∷ cs) → slice_get (chars (c ∷ cs)) 0 ≡ Some x
      → fault_at (valued rows setting) word ≡ UnknownArgument ∷ []
  valued_short rows Rounds word x is first = rw (is.dashes, is.long, is.short, flags_refused x (valued rows Rounds).held first) refl
  valued_short rows FatTree word x is first = rw (is.dashes, is.long, is.short, flags_refused x (valued rows FatTree).held first) refl

-- ---- where a setting waits for its value

pub valued_end : (rows : List Row) (setting : Setting) → settle_fault shape.rules false (valued rows setting).held ≡ InvalidValue ∷ []
valued_end rows Rounds = refl
valued_end rows FatTree = refl

pub valued_dashes : (rows : List Row) (setting : Setting) → next (valued rows setting) (45 ∷ 45 ∷ []) ≡ behind rows (Some (id_of setting, [])) (option (id_of setting))
unfolding walked
valued_dashes rows Rounds = refl
valued_dashes rows FatTree = refl

pub valued_opens : (rows : List Row) (setting other : Setting) → fault_at (valued rows setting) (long_word_of other) ≡ InvalidValue ∷ []
valued_opens rows Rounds Rounds = refl
valued_opens rows Rounds FatTree = refl
valued_opens rows FatTree Rounds = refl
valued_opens rows FatTree FatTree = refl

pub valued_holds : (rows : List Row) (setting other : Setting) (value : Word) → fault_at (valued rows setting) (long_word_of other ++ 61 ∷ value) ≡ InvalidValue ∷ []
valued_holds rows Rounds Rounds value = refl
valued_holds rows Rounds FatTree value = refl
valued_holds rows FatTree Rounds value = refl
valued_holds rows FatTree FatTree value = refl

pub valued_next : (rows : List Row) (setting : Setting) (word : Word) → IsNoFlag word → next (valued rows setting) word ≡ between rows (Some (Sets setting word))
unfolding walked
valued_next rows Rounds word is = rw (is.dashes, is.long, is.short) refl
valued_next rows FatTree word is = rw (is.dashes, is.long, is.short) refl

pub valued_fault : (rows : List Row) (setting : Setting) (word : Word) → IsNoFlag word → fault_at (valued rows setting) word ≡ []
valued_fault rows Rounds word is = rw (is.dashes, is.long, is.short) refl
valued_fault rows FatTree word is = rw (is.dashes, is.long, is.short) refl

-- ---- behind `--`

pub behind_next : (rows : List Row) (last : Option Item) (waiting : Waiting) (word : Word) → next (behind rows (pending_of last) waiting) word ≡ behind (rows_settled rows last) (pending_of (Some (Names word))) positional
unfolding walked
behind_next rows None waiting word = refl
behind_next rows (Some (Sets Rounds value)) waiting word = refl
behind_next rows (Some (Sets FatTree value)) waiting word = refl
behind_next rows (Some (Names name)) waiting word = refl

pub behind_fault : (rows : List Row) (last : Option Item) (waiting : Waiting) (word : Word) → fault_at (behind rows (pending_of last) waiting) word ≡ fault_settled rows last
behind_fault rows None waiting word = refl
behind_fault rows (Some (Sets Rounds value)) waiting word = refl
behind_fault rows (Some (Sets FatTree value)) waiting word = refl
behind_fault rows (Some (Names name)) waiting word = refl

-- and where the value of a setting is missing
pub behind_missing : (rows : List Row) (setting : Setting) (waiting : Waiting) (word : Word) → fault_at (behind rows (Some (id_of setting, [])) waiting) word ≡ InvalidValue ∷ []
behind_missing rows Rounds waiting word = refl
behind_missing rows FatTree waiting word = refl

-- ---- at the end of the words

pub last_fault : (rows : List Row) (last : Option Item) → settle_fault shape.rules false (held rows (pending_of last)) ≡ fault_settled rows last
last_fault rows None = refl
last_fault rows (Some (Sets Rounds value)) = refl
last_fault rows (Some (Sets FatTree value)) = refl
last_fault rows (Some (Names name)) = refl

pub last_rows : (rows : List Row) (last : Option Item) → (settled shape.rules (held rows (pending_of last))).rows ≡ rows_settled rows last
last_rows rows None = refl
last_rows rows (Some (Sets Rounds value)) = refl
last_rows rows (Some (Sets FatTree value)) = refl
last_rows rows (Some (Names name)) = refl
