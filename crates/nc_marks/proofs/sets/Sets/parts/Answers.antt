use Rattle.std.proofs.Common.{◌<◌, ◌≤◌, [], sym, ap, ◌∙◌, subst}
use Rattle.std.proofs.lemmas.List.{get_or_default}
use Rattle.std.proofs.lemmas.Option.{get_or_from_slice_get}
use Rattle.nc_marks.specs.Sets.{Table}
use Rattle.nc_marks.proofs.PartLemmas.{sets-within, sets-at}
use Rattle.nc_marks.proofs.sets.Sets.parts.Goals as goal

pub get-requires : goal.get-requires
get-requires c = subst (λ n. c.args.place < n) (sym c.self.invariant.len) (sets-within c.self.inside.tails.items c.self.inside.owns c.args.self.now c.args.place c.self.invariant (ap (λ (t : Table). t.sets) c.self.view_is) c.requires)

pub index-requires : goal.index-requires
index-requires c = subst (λ n. c.args.place < n) (sym c.self.inside.tails.ok.0) (sets-within c.self.inside.tails.items c.self.inside.owns c.args.self.now c.args.place c.self.invariant (ap (λ (t : Table). t.sets) c.self.view_is) c.requires)

pub returns-clause-tail : goal.returns-clause-tail
returns-clause-tail c =
    let within = sets-within c.self.inside.tails.items c.self.inside.owns c.args.self.now c.args.place c.self.invariant (ap (λ (t : Table). t.sets) c.self.view_is) c.requires in
    subst (λ n. n ≤ c.args.place) (get_or_default c.self.inside.tails.items c.args.place 0 c.index.result.now within ∙ sym c.index.ensures) (c.self.invariant.earlier c.args.place within)

pub returns-clause-parts : goal.returns-clause-parts
returns-clause-parts c =
    let within = sets-within c.self.inside.tails.items c.self.inside.owns c.args.self.now c.args.place c.self.invariant (ap (λ (t : Table). t.sets) c.self.view_is) c.requires in
    sets-at c.self.inside.tails.items c.self.inside.owns c.args.self.now c.args.place c.index.result.now c.get.result.now c.self.invariant (ap (λ (t : Table). t.sets) c.self.view_is) within
    (get_or_default c.self.inside.tails.items c.args.place 0 c.index.result.now within ∙ sym c.index.ensures)
    (get_or_from_slice_get c.self.inside.owns c.args.place c.get.result.now [] c.get.ensures)
