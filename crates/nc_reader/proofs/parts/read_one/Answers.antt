use Rattle.std.proofs.Common.{◌∙◌, List, [], ◌∷◌, ◌++◌, map, ap, sym}
use Rattle.std.proofs.lemmas.List.{map_push}
use Rattle.nc_reader.specs.Parts.{part_view}
use Rattle.nc_reader.specs.Things.{Part, part_in}
use Rattle.nc_reader.proofs.FaultLemmas.{ok-push, ok-noted, told-ok, told-err}
use Rattle.nc_reader.proofs.parts.read_one.Goals as goal

pub returns-in_ok-push-in-Ok-clause-parts : goal.returns-in_ok-push-in-Ok-clause-parts
returns-in_ok-push-in-Ok-clause-parts c = λ rs same.
    let part : Part = part_view c.in-Ok.part in
    ap (map part_view) c.in_ok-push-in-Ok.ensures.items ∙ map_push part_view c.args.parts.now.items c.in-Ok.part ∙ ap (λ (ps : List Part). ps ++ part ∷ []) same
    ∙ sym (ok-push rs (part_in c.args.lines.now c.args.process c.args.topic c.args.block.lines.items) part c.in-Ok.ensures)

pub returns-in_ok-push-in-Ok-clause-told : goal.returns-in_ok-push-in-Ok-clause-told
returns-in_ok-push-in-Ok-clause-told c = λ fs rs same.
    told-ok fs c.args.told.now rs (part_in c.args.lines.now c.args.process c.args.topic c.args.block.lines.items) (part_view c.in-Ok.part) c.in-Ok.ensures same

pub returns-in_ok-note-in-Err-clause-parts : goal.returns-in_ok-note-in-Err-clause-parts
returns-in_ok-note-in-Err-clause-parts c = λ rs same.
    same ∙ sym (ok-noted c.in-Err.fault c.args.told.now c.note.new.told rs (part_in c.args.lines.now c.args.process c.args.topic c.args.block.lines.items) c.in_ok-note-in-Err.ensures c.in-Err.ensures)

pub returns-in_ok-note-in-Err-clause-told : goal.returns-in_ok-note-in-Err-clause-told
returns-in_ok-note-in-Err-clause-told c = λ fs rs same.
    told-err c.in-Err.fault fs c.args.told.now c.note.new.told rs (part_in c.args.lines.now c.args.process c.args.topic c.args.block.lines.items) c.in_ok-note-in-Err.ensures c.in-Err.ensures same
