-- Files by their names.
use Rattle.std.specs.Prelude.{◌≡◌, ℕ, List, [], ◌∷◌, Option, Some, None, if◌then◌else◌}
use Rattle.std.specs.Str.{bytes_eq}

-- a file: its name and its content
pub record Named : Type 0 where
  pub name : List ℕ
  pub content : List ℕ

-- the content of the first file of that name
abbrev pub content_of : List Named → List ℕ → Option (List ℕ)
content_of [] name = None
content_of (file ∷ files) name = if bytes_eq file.name name then Some file.content else content_of files name

-- a file was entered: where the files are told, the one of that name, with its whole content
abbrev pub Enters : Option (List Named) → List ℕ → Option (List ℕ) → Option (List ℕ) → Type 0
Enters None name entered left = Unit {0}
Enters (Some files) name entered left = (content : List ℕ) × (content_of files name ≡ Some content) × (entered ≡ Some name) × (left ≡ Some content)
