-- A run over a generated network: its files by their names, its session, and what is said of it in front of the replies.
use Rattle.std.specs.Prelude.{ℕ, List, ◌++◌, length, map, codes}
use Rattle.std.specs.List.{sum}
use Rattle.std.specs.Fmt.{decimal}
use Rattle.nc_outside.specs.Named.{Named}
use Rattle.nc_gen.specs.Files.{FileView, fat_tree}
use Rattle.nc_report.specs.Texts.{line_of}

abbrev pub named_file : FileView → Named
named_file file = record { name = file.name; content = file.bytes }

abbrev pub name_of_file : FileView → List ℕ
name_of_file file = file.name

-- the files of a fat tree of so many pods, their names in order, and the session that is asked of it
abbrev pub tree_files : ℕ → List Named
tree_files pods = map named_file (fat_tree pods).files

abbrev pub tree_names : ℕ → List (List ℕ)
tree_names pods = map name_of_file (fat_tree pods).files

abbrev pub tree_session : ℕ → List ℕ
tree_session pods = (fat_tree pods).session

-- the numbers of pods, of routers and of the lines of all their files
abbrev pub numbers_text : ℕ → ℕ → ℕ → List ℕ
numbers_text pods routers lines =
    codes "fat-tree " ++ (decimal pods ++ (codes " routers " ++ (decimal routers ++ (codes " lines " ++ decimal lines))))

abbrev pub line_count : List (List (List ℕ)) → ℕ
line_count files = sum (map length files)

-- the line in front of the replies, for files by their lines
abbrev pub heading_text : ℕ → List (List (List ℕ)) → List ℕ
heading_text pods files = line_of (numbers_text pods (length files) (line_count files))
