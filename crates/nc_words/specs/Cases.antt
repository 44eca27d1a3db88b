-- What some words ask for, by computation.
use Rattle.std.specs.Prelude.{◌≡◌, ℕ, List, [], ◌∷◌, map, Option, Some, None, codes, refl}
use Rattle.nc_lines.specs.Numbers.{number_of}
use Rattle.nc_words.specs.Words.{RequestView, Files, Generated, Word, request_of}

abbrev files : ℕ → List Word → Option RequestView
files rounds names = Some (record { rounds = rounds; input = Files names })

abbrev generated : ℕ → ℕ → Option RequestView
generated rounds pods = Some (record { rounds = rounds; input = Generated pods })

-- files alone, one of them a dash and one without a byte
pub files_alone : request_of (codes "a" ∷ codes "-" ∷ [] ∷ []) ≡ files 256 (codes "a" ∷ codes "-" ∷ [] ∷ [])
unfolding request_of
files_alone = refl

-- the number of rounds in both forms, before, between and behind files
pub rounds_before : request_of (codes "--rounds" ∷ codes "1" ∷ codes "a" ∷ []) ≡ files 1 (codes "a" ∷ [])
unfolding request_of number_of
rounds_before = refl

pub rounds_between : request_of (codes "a" ∷ codes "--rounds=5" ∷ codes "b" ∷ []) ≡ files 5 (codes "a" ∷ codes "b" ∷ [])
unfolding request_of number_of
rounds_between = refl

pub rounds_behind : request_of (codes "a" ∷ codes "--rounds=10000" ∷ []) ≡ files 10000 (codes "a" ∷ [])
unfolding request_of number_of
rounds_behind = refl

-- no number of rounds
pub no_rounds : map (λ word. request_of (codes "--rounds" ∷ word ∷ codes "a" ∷ [])) (codes "0" ∷ codes "10001" ∷ codes "007" ∷ codes "+5" ∷ codes "-5" ∷ codes "-" ∷ codes "--" ∷ [] ∷ []) ≡ None ∷ None ∷ None ∷ None ∷ None ∷ None ∷ None ∷ None ∷ []
unfolding request_of number_of
no_rounds = refl

pub no_value : map request_of ((codes "a" ∷ codes "--rounds" ∷ []) ∷ (codes "a" ∷ codes "--rounds=" ∷ []) ∷ (codes "--fat-tree" ∷ []) ∷ (codes "--fat-tree=" ∷ []) ∷ []) ≡ None ∷ None ∷ None ∷ None ∷ []
unfolding request_of number_of
no_value = refl

-- a setting that stands twice, in either form
pub settings_twice : map request_of ((codes "--rounds" ∷ codes "5" ∷ codes "--rounds=5" ∷ codes "a" ∷ []) ∷ (codes "--rounds=5" ∷ codes "a" ∷ codes "--rounds" ∷ codes "6" ∷ []) ∷ (codes "--fat-tree" ∷ codes "2" ∷ codes "--fat-tree" ∷ codes "2" ∷ []) ∷ []) ≡ None ∷ None ∷ None ∷ []
unfolding request_of number_of
settings_twice = refl

-- a generated network, alone, with rounds in both orders, and with nothing behind `--`
pub generated_alone : map (λ word. request_of (codes "--fat-tree" ∷ word ∷ [])) (codes "2" ∷ codes "4" ∷ codes "6" ∷ codes "8" ∷ []) ≡ generated 256 2 ∷ generated 256 4 ∷ generated 256 6 ∷ generated 256 8 ∷ []
unfolding request_of number_of
generated_alone = refl

pub generated_with_rounds : map request_of ((codes "--fat-tree" ∷ codes "2" ∷ codes "--rounds" ∷ codes "5" ∷ []) ∷ (codes "--rounds=6" ∷ codes "--fat-tree=2" ∷ []) ∷ (codes "--fat-tree=2" ∷ codes "--" ∷ []) ∷ []) ≡ generated 5 2 ∷ generated 6 2 ∷ generated 256 2 ∷ []
unfolding request_of number_of
generated_with_rounds = refl

-- no number of pods, and a file beside a generated network
pub no_pods : map (λ word. request_of (codes "--fat-tree" ∷ word ∷ [])) (codes "0" ∷ codes "1" ∷ codes "3" ∷ codes "10" ∷ codes "02" ∷ []) ≡ None ∷ None ∷ None ∷ None ∷ None ∷ []
unfolding request_of number_of
no_pods = refl

pub with_file : map request_of ((codes "--fat-tree" ∷ codes "2" ∷ codes "a" ∷ []) ∷ (codes "a" ∷ codes "--fat-tree=2" ∷ []) ∷ (codes "--fat-tree=2" ∷ codes "--" ∷ codes "a" ∷ []) ∷ []) ≡ None ∷ None ∷ None ∷ []
unfolding request_of number_of
with_file = refl

-- behind two dashes every word is a file
pub behind_dashes : request_of (codes "--" ∷ codes "--rounds" ∷ codes "--" ∷ codes "-v" ∷ codes "--fat-tree=2" ∷ []) ≡ files 256 (codes "--rounds" ∷ codes "--" ∷ codes "-v" ∷ codes "--fat-tree=2" ∷ [])
unfolding request_of
behind_dashes = refl

pub rounds_and_dashes : request_of (codes "a" ∷ codes "--rounds=7" ∷ codes "--" ∷ codes "--rounds=8" ∷ []) ≡ files 7 (codes "a" ∷ codes "--rounds=8" ∷ [])
unfolding request_of number_of
rounds_and_dashes = refl

-- words that aren't allowed
pub unknown : map (λ word. request_of (word ∷ codes "a" ∷ [])) (codes "--round" ∷ codes "--roundss" ∷ codes "--Rounds=5" ∷ codes "-v" ∷ codes "-5" ∷ codes "---" ∷ codes "--=" ∷ []) ≡ None ∷ None ∷ None ∷ None ∷ None ∷ None ∷ None ∷ []
unfolding request_of
unknown = refl

-- and none that names a file
pub nothing : map request_of ([] ∷ (codes "--" ∷ []) ∷ (codes "--rounds" ∷ codes "5" ∷ []) ∷ []) ≡ None ∷ None ∷ None ∷ []
unfolding request_of number_of
nothing = refl
