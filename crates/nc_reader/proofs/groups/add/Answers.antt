use Rattle.std.proofs.Common.{◌<◌, ◌∷◌, ◌++◌, [], List, ℕ, length, arith}
use Rattle.nc_lines.specs.declared.block.Block.{Block}
use Rattle.nc_reader.proofs.GroupLemmas.{map-set_changed}
use Rattle.nc_reader.proofs.groups.add.Goals as goal

pub returns : goal.returns
returns c =
    let within : c.args.place < length c.args.blocks.now.items = omega (arith, c.args.blocks.now.ok.0, c.requires) in
    map-set_changed (λ (block : Block). block.lines.items) (λ (lines : List ℕ). lines ++ c.args.line ∷ []) c.args.blocks.now.items c.args.place c.index_mut-block.result.now _ within c.index_mut-block.ensures.value c.in_ok-push.ensures.items
