use Rattle.std.proofs.Common.{length, ap, arith, length-drop}
use Rattle.nc_outside.proofs.Places.{Reads-inside, consumes_front}
use Rattle.nc_outside.proofs.memory.files.MemFiles.give.Goals as goal

pub overflow_add-self : goal.overflow_add-self
overflow_add-self c =
    let file = c.index-file.result.now in
    let reads = Reads-inside c.self.inside.files.items c.self.inside.place c.in-Some.place file c.self.invariant c.in-Some.is c.index-file.ensures in
    omega (arith, ap length c.rest.ensures.rest, length-drop c.in-Some.place.at file.content)

pub returns-clause-count : goal.returns-clause-count
returns-clause-count c =
    let reads = Reads-inside c.self.inside.files.items c.self.inside.place c.in-Some.place c.index-file.result.now c.self.invariant c.in-Some.is c.index-file.ensures in
    rw (← c.self.view_is, reads.left) (omega (arith, ap length c.rest.ensures.rest))

pub returns-clause-moved : goal.returns-clause-moved
returns-clause-moved c =
    let reads = Reads-inside c.self.inside.files.items c.self.inside.place c.in-Some.place c.index-file.result.now c.self.invariant c.in-Some.is c.index-file.ensures in
    rw (← c.self.view_is, reads.left, ← c.rest.ensures.rest) c.copy_front-count.ensures.moved

pub returns-clause-none_entered : goal.returns-clause-none_entered
returns-clause-none_entered c =
    let reads = Reads-inside c.self.inside.files.items c.self.inside.place c.in-Some.place c.index-file.result.now c.self.invariant c.in-Some.is c.index-file.ensures in
    rw (← c.self.view_is, reads.left) (λ none. absurd (cc))

pub returns-clause-bytes : goal.returns-clause-bytes
returns-clause-bytes c =
    let file = c.index-file.result.now in
    let reads = Reads-inside c.self.inside.files.items c.self.inside.place c.in-Some.place file c.self.invariant c.in-Some.is c.index-file.ensures in
    rw (← c.self.view_is, reads.left, reads.found) (consumes_front file.content c.args.into.now c.copy_front-count.new.into c.in-Some.place.at c.copy_front-count.result (rw (← c.rest.ensures.rest) c.copy_front-count.ensures.count) (rw (← c.rest.ensures.rest) c.copy_front-count.ensures.moved))
