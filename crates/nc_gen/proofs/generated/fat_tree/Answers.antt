use Rattle.std.proofs.Common.{◌≡◌, ℕ, List, map, ap, ◌∙◌, subst}
use Rattle.nc_gen.specs.declared.tree.Tree.{Tree}
use Rattle.nc_gen.specs.Tree.{routers}
use Rattle.nc_gen.specs.Files.{FileView, GeneratedView, file_view, file_of, session_lines, text_of, fat_tree}
use Rattle.nc_gen.proofs.generated.fat_tree.Goals as goal

pub returns : goal.returns
unfolding fat_tree
returns c =
    let made : List FileView → List ℕ → GeneratedView = λ files session. record { files = files; session = session } in
    let session = c.in_ok-session_text.field-0.items in
    subst (λ (t : Tree). made (map file_view c.in_ok-files_of.field-0.items) session ≡ made (map (file_of t) (routers t)) (text_of (session_lines t))) c.new-tree.ensures.tree
    (ap (λ (files : List FileView). made files session) c.in_ok-files_of.ensures ∙ ap (made (map (file_of c.new-tree.result) (routers c.new-tree.result))) c.in_ok-session_text.ensures)
