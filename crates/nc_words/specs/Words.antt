-- What the words after the program's name ask for. They are read from left to right.
use Rattle.std.specs.Prelude.{ℕ, Bool, false, ◌==◌, List, [], ◌∷◌, map, take, drop, codes, Option, Some, None, option_and_then, unwrap_or, String, string_bytes, if◌then◌else◌}
use Rattle.std.specs.Option.{option_map}
use Rattle.std.specs.List.{flat_map}
use Rattle.std.specs.Str.{bytes_eq}
use Rattle.std.specs.declared.alloc.Global.{Global}
use Rattle.nc_lines.specs.Numbers.{number_of}
use Rattle.nc_gen.specs.Tree.{is_size}
use Rattle.nc_words.specs.declared.TheConstants.{DEFAULT_ROUNDS, MOST_ROUNDS, MOST_PODS}

abbrev pub Word : Type 0
Word = List ℕ

-- the words as their bytes
abbrev pub texts : List (String Global) → List Word
texts words = map string_bytes words

-- ---- what each word says

-- what takes a value: `--rounds` and `--fat-tree`
pub data Setting : Type 0 where
  Rounds : Setting
  FatTree : Setting

-- what words say one after another: the value of a setting, or the name of a file
pub data Item : Type 0 where
  Sets : Setting → Word → Item
  Names : Word → Item

-- how a word is written
pub data Form : Type 0 where
  -- `--`: each word behind it is a file
  Dashes : Form
  -- a setting whose value is the next word
  Opens : Setting → Form
  -- a setting with its value behind `=`
  Holds : Setting → Word → Form
  -- a word of several bytes that begins with `-` and is none of these
  Unknown : Form
  -- every other word
  Plain : Form

-- several bytes, of which the first is `-`
abbrev pub is_dashed : Word → Bool
is_dashed [] = false
is_dashed (b ∷ []) = false
is_dashed (b ∷ next ∷ bs) = b == 45

abbrev pub form_of : Word → Form
form_of word =
    if bytes_eq word (codes "--") then Dashes
    else if bytes_eq word (codes "--rounds") then Opens Rounds
    else if bytes_eq word (codes "--fat-tree") then Opens FatTree
    else if bytes_eq (take 9 word) (codes "--rounds=") then Holds Rounds (drop 9 word)
    else if bytes_eq (take 11 word) (codes "--fat-tree=") then Holds FatTree (drop 11 word)
    else if is_dashed word then Unknown
    else Plain

abbrev pub and_before : Item → Option (List Item) → Option (List Item)
and_before item further = option_map (λ items. item ∷ items) further

-- what a word of a form and the words behind it say; `further` reads those words, the first of
-- them as the value of a setting where there is one
abbrev pub said_by : Form → Word → List Word → (Option Setting → Option (List Item)) → Option (List Item)
said_by Dashes word words further = Some (map Names words)
said_by (Opens setting) word words further = further (Some setting)
said_by (Holds setting value) word words further = and_before (Sets setting value) (further None)
said_by Unknown word words further = None
said_by Plain word words further = and_before (Names word) (further None)

-- what words say, where all of them are allowed; the first is the value of a setting if one stands
-- before it
abbrev pub said : Option Setting → List Word → Option (List Item)
said None [] = Some []
said (Some setting) [] = None
said (Some setting) (value ∷ words) = and_before (Sets setting value) (said None words)
said None (word ∷ words) = said_by (form_of word) word words (λ waiting. said waiting words)

-- ---- what they ask for together

abbrev pub value_of : Setting → Item → List Word
value_of Rounds (Sets Rounds value) = value ∷ []
value_of FatTree (Sets FatTree value) = value ∷ []
value_of setting item = []

-- the values that a setting gets
abbrev pub values_of : Setting → List Item → List Word
values_of setting items = flat_map (value_of setting) items

abbrev pub name_of : Item → List Word
name_of (Names word) = word ∷ []
name_of (Sets setting value) = []

-- the names of the files
abbrev pub names_of : List Item → List Word
names_of items = flat_map name_of items

-- the number of a setting that stands at most once, if it stands
abbrev pub at_most_once : (Word → Option ℕ) → List Word → Option (Option ℕ)
at_most_once number [] = Some None
at_most_once number (value ∷ []) = option_map Some (number value)
at_most_once number (value ∷ again ∷ values) = None

-- a number of rounds, 1 to the most that there are
abbrev pub rounds_of : Word → Option ℕ
rounds_of word = option_and_then (λ n. if n == 0 then None else Some n) (number_of MOST_ROUNDS word)

-- a number of pods, for which a network is generated: 2, 4, 6 or 8
abbrev pub pods_of : Word → Option ℕ
pods_of word = option_and_then (λ k. if is_size k then Some k else None) (number_of MOST_PODS word)

-- the network that is looked at: that of files, or a generated one of so many pods
pub data InputView : Type 0 where
  Files : List Word → InputView
  Generated : ℕ → InputView

-- at least one file, or a number of pods and no file
abbrev pub input_of : Option ℕ → List Word → Option InputView
input_of None [] = None
input_of None (name ∷ names) = Some (Files (name ∷ names))
input_of (Some pods) [] = Some (Generated pods)
input_of (Some pods) (name ∷ names) = None

pub record RequestView : Type 0 where
  -- how many rounds of the routing are made at most
  pub rounds : ℕ
  pub input : InputView

abbrev pub request_by : List Item → Option RequestView
request_by items =
    option_and_then (λ rounds.
    option_and_then (λ pods.
    option_map (λ input. record { rounds = unwrap_or rounds DEFAULT_ROUNDS; input = input })
    (input_of pods (names_of items)))
    (at_most_once pods_of (values_of FatTree items)))
    (at_most_once rounds_of (values_of Rounds items))

-- what words ask for, where they are those that the program takes
unfoldable pub request_of : List Word → Option RequestView
request_of words = option_and_then request_by (said None words)
