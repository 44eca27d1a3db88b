use Rattle.std.proofs.Common.{List, All, ap, sym, subst}
use Rattle.std.specs.Str.{IsUtf8}
use Rattle.nc_gen.specs.declared.generated.GenFile.{GenFile}
use Rattle.nc_gen.specs.Files.{GeneratedView, file_view}
use Rattle.nc_session.proofs.GeneratedFiles.{tree_texts}
use Rattle.nc_session.proofs.generated.run_fat_tree.Goals as goal

pub names_of-requires : goal.names_of-requires
names_of-requires g c =
    subst (λ (files : List GenFile). All (λ (file : GenFile). IsUtf8 (file_view file).name) files) (sym c.deref.ensures.value)
    (tree_texts c.args.pods c.in-Ok.generated.files.items c.requires (ap (λ (network : GeneratedView). network.files) c.in-Ok.ensures))
