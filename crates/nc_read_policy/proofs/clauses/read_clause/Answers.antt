use Rattle.std.proofs.Common.{◌∙◌}
use Rattle.nc_lines.specs.Parts.{numbered}
use Rattle.nc_read_policy.specs.Drafts.{part_of}
use Rattle.nc_read_policy.proofs.DraftLemmas.{started}
use Rattle.nc_read_policy.proofs.clauses.read_clause.Goals as goal

pub loop-line-init : goal.loop-line-init
loop-line-init c =
    started _ _ (part_of c.new-draft.result) (numbered c.args.lines.now c.args.block.now.lines.items) (c.in_ok-new.ensures ∙ c.name_and_number-number.ensures.name) c.name_and_number-number.ensures.number c.new-draft.ensures
