use Rattle.std.proofs.Common.{sym, subst, arith}
use Rattle.std.specs.Str.{IsUtf8}
use Rattle.nc_gen.specs.declared.generated.GenFile.{GenFile}
use Rattle.nc_session.proofs.generated.names_of.Goals as goal

pub name_of-requires : goal.name_of-requires
name_of-requires c =
    subst (λ (file : GenFile). IsUtf8 file.name) (sym c.file-item.is) (c.requires c.files.file-index c.file-item.result (omega (arith, c.files-test.true)))
