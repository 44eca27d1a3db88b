use Rattle.std.proofs.Common.{[], length, sym, ap, ◌∙◌}
use Rattle.nc_marks.specs.Sets.{Table}
use Rattle.nc_marks.proofs.PartLemmas.{sets_from-length}
use Rattle.nc_marks.proofs.sets.Sets.len.Goals as goal

pub returns : goal.returns
returns c =
    c.len.ensures ∙ c.self.inside.tails.ok.0 ∙ sym (sets_from-length [] c.self.inside.tails.items c.self.inside.owns c.self.invariant.len) ∙ ap (λ (t : Table). length t.sets) c.self.view_is
