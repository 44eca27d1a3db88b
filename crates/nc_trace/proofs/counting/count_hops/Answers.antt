use Rattle.std.proofs.Common.{◌≡◌, ◌≤◌, ℕ, suc, nat_le, List, Some, length, drop, replicate, sym, ap, subst, ◌∙◌, arith}
use Rattle.std.proofs.lemmas.List.{length-replicate}
use Rattle.nc_types.specs.declared.TheConstants.{HOP_LIMIT}
use Rattle.nc_underlay.specs.Distances.{fewest_of}
use Rattle.nc_trace.specs.Levels.{AreFewest}
use Rattle.nc_trace.proofs.Finding.{lent}
use Rattle.nc_trace.proofs.Numbers.{none_yet}
use Rattle.nc_trace.proofs.counting.count_hops.Goals as goal

pub lower_all-requires-clause-room : goal.lower_all-requires-clause-room
lower_all-requires-clause-room c =
    let first : c.deref_mut.result.now ≡ replicate c.room.result (suc HOP_LIMIT) = c.deref_mut.ensures.value ∙ c.in_ok-reset.ensures in
    omega (arith, ap (λ (numbers : List ℕ). length numbers) first, length-replicate c.room.result (suc HOP_LIMIT), c.room.ensures)

pub lower_all-requires-clause-backed : goal.lower_all-requires-clause-backed
lower_all-requires-clause-backed c router hops few e =
    let first : c.deref_mut.result.now ≡ replicate c.room.result (suc HOP_LIMIT) = c.deref_mut.ensures.value ∙ c.in_ok-reset.ensures in
    let no = none_yet c.room.result router hops few (ap (λ (numbers : List ℕ). nat_le (fewest_of numbers router) hops) (sym first) ∙ e) in
    absurd cc

pub returns : goal.returns
returns c =
    let asked = c.args.asked in
    let numbers = c.reset.new.fewest in
    let new = c.lower_all.new.fewest in
    subst (AreFewest asked.state.now asked.by asked.addr.0 (Some c.args.found.now)) (sym (lent new (drop (length new) numbers.items) numbers.len (c.lower_all.ensures.len ∙ c.deref_mut.ensures.len)))
    c.lower_all.ensures.fewest
