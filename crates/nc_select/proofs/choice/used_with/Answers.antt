use Rattle.std.proofs.Common.{◌≡◌, ap, subst, ◌∙◌, List, map, filter, take}
use Rattle.std.specs.List.Sorted.{IsPermutation}
use Rattle.nc_tables.specs.Choice.{by_preference}
use Rattle.nc_select.specs.declared.choice.Sender.{Sender}
use Rattle.nc_select.specs.Senders.{sender_of, senders_from}
use Rattle.nc_select.proofs.Alike.{is_equal}
use Rattle.nc_select.proofs.Sorting.{sorted_is}
use Rattle.nc_select.proofs.Choosing.{places_taken}
use Rattle.nc_select.proofs.choice.used_with.Goals as goal

pub returns : goal.returns
returns g c =
    let relax = c.args.relax in
    let best = g.C.Candidate.candidate_of c.args.best.now in
    let candidates = map g.C.Candidate.candidate_of c.args.candidates.now in
    let sorted = c.sort_unstable.new.self.items in
    let moved : IsPermutation (senders_from relax best 0 candidates) sorted = subst (λ (l : List Sender). IsPermutation l sorted) c.in_ok-senders.ensures c.sort_unstable.ensures.permutation in
    let is : sorted ≡ map sender_of (filter (is_equal relax best) (by_preference candidates)) = sorted_is relax best candidates sorted moved c.sort_unstable.ensures.sorted in
    c.in_ok-places.ensures
    ∙ ap (map (λ (s : Sender). s.place)) (c.deref.ensures.value ∙ c.truncate.ensures.items ∙ ap (take c.args.limit) is)
    ∙ places_taken c.args.limit (filter (is_equal relax best) (by_preference candidates))
