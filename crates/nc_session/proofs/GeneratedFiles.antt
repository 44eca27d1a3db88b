-- The files of a generated network: their names are texts, and each of them is there.
use Rattle.std.proofs.Common.{◌≡◌, ◌≢◌, ℕ, ◌<◌, Bool, true, false, cond, nat_le, nat_lt, zero, ◌&&◌, ◌*◌, ◌/◌, suc, List, [], ◌∷◌, ◌++◌, codes, length, map, All, Option, Some, None, Result, Ok, Err, refl, sym, ap, ◌∙◌, subst, arith}
use Rattle.std.specs.List.{flat_map, list_all}
use Rattle.std.specs.Fmt.{decimal}
use Rattle.std.proofs.lemmas.Fmt.{IsAscii-decimal}
use Rattle.std.specs.Str.{IsUtf8, IsAscii, bytes_eq}
use Rattle.std.specs.Option.{option_map_or}
use Rattle.std.proofs.lemmas.Bool.{and_parts}
use Rattle.std.proofs.lemmas.Bool.Decides.{nat_tests}
use Rattle.std.proofs.lemmas.List.Elements.{All-nil, All-cons}
use Rattle.std.proofs.lemmas.Slice.Eq.{bytes_eq-Decides}
use Rattle.std.proofs.lemmas.Str.{IsUtf8-append, IsUtf8-from_ascii}
use Rattle.nc_types.specs.Config.{ConfigView}
use Rattle.nc_types.specs.declared.fault.Fault.{Fault}
use Rattle.nc_outside.specs.Named.{Named, content_of}
use Rattle.nc_lines.specs.Lines.{lines_of}
use Rattle.nc_reader.specs.Configuration.{configuration}
use Rattle.nc_network.specs.Judged.{Names, Overlaps, Addresses, References, Judgement, Clashing, OverLimit, Fine, judged}
use Rattle.nc_tables.specs.State.{StateView}
use Rattle.nc_tables.specs.Settling.{settled}
use Rattle.nc_load.specs.Limits.{most_file_bytes, most_lines, most_routers}
use Rattle.nc_load.specs.declared.refusal.Quantity.TheVariants.{Routers, Bytes, Lines}
use Rattle.nc_gen.specs.declared.generated.GenFile.{GenFile}
use Rattle.nc_gen.specs.Tree.{below, is_size, routers}
use Rattle.nc_gen.specs.Files.{FileView, fat_tree, file_name, file_of, file_view, name_of}
use Rattle.nc_gen.proofs.Sizes.{sizes}
use Rattle.nc_session.specs.Generated.{name_of_file, named_file, tree_files, tree_names}
use Rattle.nc_load.specs.Load.{Refusal, Missing, TooMany, Unsettled, and_then, load_content, load_each, load_joined, load_judged, load_lines, load_names, load_result, load_settled}

-- ---- names are texts

-- a router by the numbers in its name: a core, or one of a pod, which has a letter
data Numbered : Type 0 where
  Core : ℕ → Numbered
  InPod : ℕ → ℕ → ℕ → Numbered

numbered : ℕ → List Numbered
numbered k =
    map Core (below ((k / 2) * (k / 2))) ++ flat_map (λ pod. map (InPod 97 pod) (below (k / 2)) ++ map (InPod 101 pod) (below (k / 2))) (below k)

name_by : Numbered → List ℕ
name_by (Core n) = (codes "c" ++ decimal n) ++ codes ".cfg"
name_by (InPod letter pod place) = ((letter ∷ []) ++ (decimal pod ++ (codes "_" ++ decimal place))) ++ codes ".cfg"

are_small : Numbered → Bool
are_small (Core n) = nat_lt n 256
are_small (InPod letter pod place) = nat_lt letter 128 && (nat_lt pod 256 && nat_lt place 256)

all_small : (k : ℕ) → is_size k ≡ true → list_all are_small (numbered k) ≡ true
unfolding numbered are_small
all_small k is = sizes (λ k. list_all are_small (numbered k) ≡ true) k is refl refl refl refl

names_are : (k : ℕ) → is_size k ≡ true → map name_of_file (fat_tree k).files ≡ map name_by (numbered k)
unfolding fat_tree file_of file_name name_of routers numbered name_by
names_are k is = sizes (λ k. map name_of_file (fat_tree k).files ≡ map name_by (numbered k)) k is refl refl refl refl

number_text : (n : ℕ) → nat_lt n 256 ≡ true → IsUtf8 (decimal n)
number_text n small =
    let few : n < 256 = grind (arith, nat_tests, small) in
    IsUtf8-from_ascii (decimal n) (IsAscii-decimal n (omega (arith, few)))

ascii_one : (letter : ℕ) → letter < 128 → IsAscii (letter ∷ [])
ascii_one letter small zero = small
ascii_one letter small (suc i) = omega arith

letter_text : (letter : ℕ) → nat_lt letter 128 ≡ true → IsUtf8 (letter ∷ [])
letter_text letter small =
    let few : letter < 128 = grind (arith, nat_tests, small) in
    IsUtf8-from_ascii (letter ∷ []) (ascii_one letter few)

suffix_text : IsUtf8 (codes ".cfg")
suffix_text =
    IsUtf8-append (46 ∷ []) (codes "cfg") (letter_text 46 refl)
    (IsUtf8-append (99 ∷ []) (codes "fg") (letter_text 99 refl) (IsUtf8-append (102 ∷ []) (103 ∷ []) (letter_text 102 refl) (letter_text 103 refl)))

name_text : (r : Numbered) → are_small r ≡ true → IsUtf8 (name_by r)
unfolding are_small name_by
name_text (Core n) small =
    IsUtf8-append (codes "c" ++ decimal n) (codes ".cfg") (IsUtf8-append (codes "c") (decimal n) (letter_text 99 refl) (number_text n small)) suffix_text
name_text (InPod letter pod place) small =
    let first = and_parts (nat_lt letter 128) (nat_lt pod 256 && nat_lt place 256) small in
    let others = and_parts (nat_lt pod 256) (nat_lt place 256) first.1 in
    let numbers = IsUtf8-append (decimal pod) (codes "_" ++ decimal place) (number_text pod others.0)
    (IsUtf8-append (codes "_") (decimal place) (letter_text 95 refl) (number_text place others.1)) in
    IsUtf8-append ((letter ∷ []) ++ (decimal pod ++ (codes "_" ++ decimal place))) (codes ".cfg")
    (IsUtf8-append (letter ∷ []) (decimal pod ++ (codes "_" ++ decimal place)) (letter_text letter first.0) numbers) suffix_text

each_text : (rs : List Numbered) → list_all are_small rs ≡ true → All IsUtf8 (map name_by rs)
each_text [] small = All-nil IsUtf8
each_text (r ∷ rs) small =
    let parts = and_parts (are_small r) (list_all are_small rs) small in
    All-cons IsUtf8 (name_by r) (map name_by rs) (name_text r parts.0) (each_text rs parts.1)

-- the names of files that were made
texts_of : (files : List GenFile) → All IsUtf8 (map name_of_file (map file_view files)) → All (λ (file : GenFile). IsUtf8 (file_view file).name) files
texts_of [] texts = All-nil (λ (file : GenFile). IsUtf8 (file_view file).name)
texts_of (file ∷ files) texts =
    All-cons (λ (file : GenFile). IsUtf8 (file_view file).name) file files (texts 0 (file_view file).name (omega arith))
    (texts_of files (λ i d lt. texts (suc i) d (omega (arith, lt))))

pub tree_texts : (k : ℕ) (files : List GenFile) → is_size k ≡ true → map file_view files ≡ (fat_tree k).files → All (λ (file : GenFile). IsUtf8 (file_view file).name) files
tree_texts k files is are =
    texts_of files (subst (All IsUtf8) (sym (ap (map name_of_file) are ∙ names_are k is)) (each_text (numbered k) (all_small k is)))

-- ---- each file is there

Present : List Named → List (List ℕ) → Type 0
Present files [] = Unit {0}
Present files (name ∷ names) = (content_of files name ≢ None) × Present files names

content_by : (own : Bool) (content : List ℕ) (further : Option (List ℕ)) → (own ≡ false → further ≢ None) → cond own (Some content) further ≢ None
content_by true content further other none = absurd cc
content_by false content further other none = other refl none

present_more : (file : Named) (files : List Named) (names : List (List ℕ)) → Present files names → Present (file ∷ files) names
unfolding Present
present_more file files [] are = tt
present_more file files (name ∷ names) are =
    (content_by (bytes_eq file.name name) file.content (content_of files name) (λ other. are.0), present_more file files names are.1)

present_all : (files : List FileView) → Present (map named_file files) (map name_of_file files)
unfolding Present
present_all [] = tt
present_all (file ∷ files) =
    let same : bytes_eq file.name file.name ≡ true = (bytes_eq-Decides file.name file.name).1 refl in (
      content_by (bytes_eq file.name file.name) file.bytes (content_of (map named_file files) file.name) (λ other. let both : true ≡ false = sym same ∙ other in absurd cc),
      present_more (named_file file) (map named_file files) (map name_of_file files) (present_all files),
    )

-- ---- so that none is missing

result_there : (name : List ℕ) (r : Result ConfigView Fault) → load_result name r ≢ Err Missing
result_there name (Ok c) is = absurd cc
result_there name (Err fault) is = absurd cc

lines_there : (name : List ℕ) (r : Result ConfigView Fault) (few : Bool) → cond few (load_result name r) (Err (TooMany Lines)) ≢ Err Missing
lines_there name r true is = result_there name r is
lines_there name r false is = absurd cc

content_there : (name : List ℕ) (lines : List (List ℕ)) (few : Bool) → cond few (load_lines name lines) (Err (TooMany Bytes)) ≢ Err Missing
content_there name lines true is = lines_there name (configuration lines) (nat_le (length lines) most_lines) is
content_there name lines false is = absurd cc

one_there : (name : List ℕ) (content : Option (List ℕ)) → content ≢ None → load_content name content ≢ Err Missing
one_there name None there is = there refl
one_there name (Some content) there is = content_there name (lines_of content) (nat_le (length content) most_file_bytes) is

and_there : (one : Result ConfigView Refusal) (further : Result (List ConfigView) Refusal) → one ≢ Err Missing → further ≢ Err Missing → and_then one further ≢ Err Missing
and_there (Ok c) (Ok cs) first more is = absurd cc
and_there (Ok c) (Err refusal) first more is = let same : refusal ≡ Missing = cc in more (ap Err same)
and_there (Err refusal) further first more is = let same : refusal ≡ Missing = cc in first (ap Err same)

each_there : (files : List Named) (names : List (List ℕ)) → Present files names → load_each files names ≢ Err Missing
unfolding Present
each_there files [] are is = absurd cc
each_there files (name ∷ names) are is =
    and_there (load_content name (content_of files name)) (load_each files names) (one_there name (content_of files name) are.0) (each_there files names are.1) is

judged_there : (names : List (List ℕ)) (routers : List ConfigView) (j : Judgement) → load_judged names routers j ≢ Err Missing
judged_there names routers (Clashing Names c) is = absurd cc
judged_there names routers (Clashing Overlaps c) is = absurd cc
judged_there names routers (Clashing Addresses c) is = absurd cc
judged_there names routers (Clashing References c) is = absurd cc
judged_there names routers (OverLimit which) is = absurd cc
judged_there names routers Fine is = absurd cc

joined_there : (names : List (List ℕ)) (each : Result (List ConfigView) Refusal) → each ≢ Err Missing → load_joined names each ≢ Err Missing
joined_there names (Ok routers) there is = judged_there names routers (judged routers) is
joined_there names (Err refusal) there is = there is

names_there : (names : List (List ℕ)) (files : List Named) → Present files names → load_names names files ≢ Err Missing
unfolding load_names
names_there names files are is = on (nat_le (length names) most_routers) is
  where
    on : (few : Bool) → cond few (load_joined names (load_each files names)) (Err (TooMany Routers)) ≢ Err Missing
    on true is = joined_there names (load_each files names) (each_there files names are) is
    on false is = absurd cc

settled_there : (rounds : ℕ) (loaded : Result (List ConfigView) Refusal) → loaded ≢ Err Missing → load_settled rounds loaded ≢ Err Missing
settled_there rounds (Err refusal) there is = let same : refusal ≡ Missing = cc in there (ap Err same)
settled_there rounds (Ok routers) there is = on (settled rounds routers) is
  where
    on : (o : Option StateView) → option_map_or Ok o (Err (Unsettled rounds)) ≢ Err Missing
    on None is = absurd cc
    on (Some s) is = absurd cc

pub tree_there : (rounds pods : ℕ) → load_settled rounds (load_names (tree_names pods) (tree_files pods)) ≢ Err Missing
tree_there rounds pods = settled_there rounds (load_names (tree_names pods) (tree_files pods)) (names_there (tree_names pods) (tree_files pods) (present_all (fat_tree pods).files))
