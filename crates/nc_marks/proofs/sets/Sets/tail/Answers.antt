use Rattle.std.proofs.Common.{◌<◌, ◌≤◌, sym, ap, ◌∙◌, subst}
use Rattle.std.proofs.lemmas.List.{get_or_default}
use Rattle.nc_marks.specs.Sets.{Table}
use Rattle.nc_marks.proofs.PartLemmas.{sets-within}
use Rattle.nc_marks.proofs.sets.Sets.tail.Goals as goal

pub index-requires : goal.index-requires
index-requires c = subst (λ n. c.args.place < n) (sym c.self.inside.tails.ok.0) (sets-within c.self.inside.tails.items c.self.inside.owns c.args.self.now c.args.place c.self.invariant (ap (λ (t : Table). t.sets) c.self.view_is) c.requires)

pub returns : goal.returns
returns c =
    let within = sets-within c.self.inside.tails.items c.self.inside.owns c.args.self.now c.args.place c.self.invariant (ap (λ (t : Table). t.sets) c.self.view_is) c.requires in
    subst (λ n. n ≤ c.args.place) (get_or_default c.self.inside.tails.items c.args.place 0 c.index.result.now within ∙ sym c.index.ensures) (c.self.invariant.earlier c.args.place within)
