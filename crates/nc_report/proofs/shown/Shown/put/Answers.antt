use Rattle.std.proofs.Common.{◌≡◌, ◌+◌, ◌<◌, List, ℕ, get_or, sym, subst, arith}
use Rattle.nc_report.specs.Texts.{Sheet}
use Rattle.nc_report.specs.Shown.{count_in, one, AreKept}
use Rattle.nc_report.proofs.Counting.{count-some, count-few, counts-put, none}
use Rattle.nc_report.proofs.shown.Shown.put.Goals as goal

pub recount-requires-clause-some : goal.recount-requires-clause-some
recount-requires-clause-some c =
    let seen = c.self.inside.listing in
    let small : c.in-Some.before < 256 = omega (arith, c.in-Some.ensures.before, (c.self.invariant.texts c.args.router none c.in-Some.ensures.there).letters c.args.place) in
    omega (
      arith,
      c.self.invariant.each c.in-Some.before small,
      subst (λ (n : ℕ). 0 < count_in n seen) (sym c.in-Some.ensures.before) (count-some seen c.args.router c.args.place c.in-Some.ensures.there c.in-Some.ensures.within),
    )

pub recount-requires-clause-room : goal.recount-requires-clause-room
recount-requires-clause-room c =
    omega (arith, c.self.invariant.each c.args.letter (omega (arith, c.ranges.letter.fits)), count-few c.args.letter c.self.inside.listing, c.self.invariant.few)

pub invariant_of-self-2 : goal.invariant_of-self-2
invariant_of-self-2 c =
    let seen = c.self.inside.listing in
    let counts = c.self.inside.counts.items in
    let after = c.recount.new.counts.items in
    subst (λ (ss : List Sheet). AreKept ss after) (sym c.put.ensures.put)
    (counts-put seen counts after c.args.router c.args.place c.args.letter c.requires c.in-Some.ensures.there c.in-Some.ensures.within c.self.invariant c.recount.ensures.len
    (λ sign small. subst (λ (n : ℕ). get_or after sign 0 + one sign n ≡ get_or counts sign 0 + one sign c.args.letter) c.in-Some.ensures.before (c.recount.ensures.each sign small)))
