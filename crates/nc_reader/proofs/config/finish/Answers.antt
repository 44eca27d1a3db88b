use Rattle.std.proofs.Common.{◌≡◌, ◌≤◌, List, length, map, None, sym, subst, arith}
use Rattle.nc_types.specs.Config.{element_view}
use Rattle.nc_reader.specs.Arranging.{things_view}
use Rattle.nc_reader.specs.Configuration.{pieces_of}
use Rattle.nc_reader.specs.Parts.{part_view}
use Rattle.nc_reader.specs.Things.{Part}
use Rattle.nc_reader.proofs.ConfigLemmas.{wrong, unnamed, whole}
use Rattle.nc_reader.proofs.config.finish.Goals as goal

pub returns-in-Some : goal.returns-in-Some
returns-in-Some c = record { read = wrong c.args.lines.now c.args.parts.fault c.in-Some.fault c.requires.fault c.in-Some.is; well_formed = tt }

pub returns-in_default-name : goal.returns-in_default-name
returns-in_default-name c =
    let clean : c.args.parts.fault ≡ None = c.in_default.is in
    record { read = unnamed c.args.lines.now c.args.parts.fault c.args.parts.name c.requires.fault clean c.requires.name c.in_default-name.is; well_formed = tt }

pub arrange-requires : goal.arrange-requires
arrange-requires c =
    let few : length (pieces_of (map part_view c.args.parts.made.items)) ≤ length c.args.lines.now = subst (λ (ps : List Part). length (pieces_of ps) ≤ length c.args.lines.now) (sym c.requires.made) (c.elements_are_few.ensures c.args.lines.now) in
    omega (arith, few, c.count-count.ensures, c.count-count.type_inv)

pub returns : goal.returns
returns c =
    let read =
    whole c.args.lines.now c.args.parts.fault c.args.parts.name c.requires.fault c.in_default.is c.requires.name (c.in-Some-name.name_line, c.in-Some-name.name) (map part_view c.args.parts.made.items) c.count-count.result
    (map element_view c.in_ok-things.elements.items) (things_view c.in_ok-things.things) c.in-Some-name.is c.requires.made c.count-count.ensures c.in_ok-things.ensures.elements c.in_ok-things.ensures.things in
    record { read = read; well_formed = c.configurations_are_well_formed.ensures c.args.lines.now _ read }
