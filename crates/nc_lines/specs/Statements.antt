-- What a statement says, by its words.
use Rattle.std.specs.Prelude.{ℕ, Bool, List, [], ◌∷◌, Option, Some, None, is_some, if◌then◌else◌}
use Rattle.std.specs.Str.{bytes_eq}
use Rattle.nc_types.specs.declared.fault.Cause.{Cause}
use Rattle.nc_types.specs.declared.fault.Cause.TheVariants.{Syntax}

-- what a statement says: nothing that is read, what is wrong with it, or something of its own kind
pub data Reading (S : Type 0) : Type 0 where
  Outside : Reading S
  Faulty : Cause → Reading S
  Says : S → Reading S

-- the words behind a first word
abbrev pub after_word : List ℕ → List (List ℕ) → Option (List (List ℕ))
after_word first [] = None
after_word first (word ∷ words) = if bytes_eq word first then Some words else None

-- the words behind these first words
abbrev pub after : List (List ℕ) → List (List ℕ) → Option (List (List ℕ))
after [] words = Some words
after (first ∷ firsts) [] = None
after (first ∷ firsts) (word ∷ words) = if bytes_eq word first then after firsts words else None

-- words that begin with these
abbrev pub begins : List (List ℕ) → List (List ℕ) → Bool
begins firsts words = is_some (after firsts words)

-- what is behind a statement that takes no further words
abbrev pub alone_says : {S : Type 0} → S → List (List ℕ) → Reading S
alone_says s [] = Says s
alone_says s (word ∷ words) = Faulty Syntax

-- what is said in its form, or else a fault of syntax
abbrev pub or_syntax : {S : Type 0} → Option S → Reading S
or_syntax (Some s) = Says s
or_syntax None = Faulty Syntax

-- something that is said, as something else
abbrev pub said_as : {S T : Type 0} → (S → T) → Reading S → Reading T
said_as f Outside = Outside
said_as f (Faulty cause) = Faulty cause
said_as f (Says s) = Says (f s)

-- what is wrong, if something is
abbrev pub fault_of : {S : Type 0} → Reading S → Option Cause
fault_of Outside = None
fault_of (Faulty cause) = Some cause
fault_of (Says s) = None

-- what is said, if something is
abbrev pub said_of : {S : Type 0} → Reading S → Option S
said_of Outside = None
said_of (Faulty cause) = None
said_of (Says s) = Some s
