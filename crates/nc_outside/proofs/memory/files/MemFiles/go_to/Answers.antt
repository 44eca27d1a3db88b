use Rattle.nc_outside.proofs.Places.{Enters-first}
use Rattle.nc_outside.proofs.memory.files.MemFiles.go_to.Goals as goal

pub returns-clause-entered : goal.returns-clause-entered
returns-clause-entered c =
    let found = rw (c.deref.ensures.value, c.as_bytes.ensures.value) at c.in-Some.ensures.found in
    let missing = rw (c.deref.ensures.value, c.as_bytes.ensures.value) at c.in-Some.ensures.missing in
    rw (← c.self.view_is) (Enters-first c.self.inside.files.items c.args.name.now c.in-Some.file found missing)
