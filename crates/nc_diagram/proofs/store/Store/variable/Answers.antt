use Rattle.std.proofs.Common.{◌≡◌, ◌+◌, Bool, true, false, List, ◌∷◌, length, Err, ap, ◌∙◌, arith, if◌then◌else◌}
use Rattle.nc_diagram.specs.declared.fault.StoreFault.TheVariants.{Full}
use Rattle.nc_diagram.specs.declared.node.Node.{Node}
use Rattle.nc_diagram.specs.Sets.{Members, has, Same}
use Rattle.nc_diagram.specs.Diagrams.{meaning}
use Rattle.nc_diagram.proofs.SetLemmas.{IsLowestFixed-itself}
use Rattle.nc_diagram.proofs.DiagramLemmas.{level-constant, meaning-true, meaning-false, meaning-newest}
use Rattle.nc_diagram.proofs.GrowthLemmas.{Adds-none, Adds-makes, IsCrowded-full}
use Rattle.nc_diagram.proofs.store.Store.variable.Goals as goal
use Rattle.nc_diagram.proofs.store.Store.variable.Goals.{In-Ok}

-- the choice between the constants
chosen : (nodes : List Node) (b : Bool) (s : Members) → (if b then meaning nodes 1 s else meaning nodes 0 s) ≡ b
chosen nodes true s = meaning-true nodes s
chosen nodes false s = meaning-false nodes s

end : (nodes : List Node) (b : Bool) (s : Members) → meaning nodes (if b then 1 else 0) s ≡ b
end nodes true s = meaning-true nodes s
end nodes false s = meaning-false nodes s

-- the reference means the variable
is_variable : (c : In-Ok) → Same (meaning c.make.new.self.nodes c.in-Ok.place) (λ s. has s c.args.v)
is_variable c s = c.in-Ok.ensures.made.value s ∙ chosen c.args.self.now.nodes (has s c.args.v) s

pub make-requires-clause-low_later : goal.make-requires-clause-low_later
make-requires-clause-low_later c = omega (arith, level-constant c.args.self.now.nodes 0 (omega arith), c.ranges.v)

pub make-requires-clause-high_later : goal.make-requires-clause-high_later
make-requires-clause-high_later c = omega (arith, level-constant c.args.self.now.nodes 1 (omega arith), c.ranges.v)

pub returns-in-Ok-clause-means : goal.returns-in-Ok-clause-means
returns-in-Ok-clause-means c = record { belongs = c.in-Ok.ensures.made.belongs; means = is_variable c }

pub returns-in-Ok-clause-adds : goal.returns-in-Ok-clause-adds
returns-in-Ok-clause-adds c =
    let old = c.args.self.now in
    let new = c.make.new.self in
    let f : Members → Bool = λ s. has s c.args.v in
    Adds-makes f old old new c.args.v 0 1 c.in-Ok.place (Adds-none f old) c.in-Ok.ensures.made
    (IsLowestFixed-itself f (meaning new.nodes c.in-Ok.place) (is_variable c))

pub returns-in-Err-clause-full : goal.returns-in-Err-clause-full
returns-in-Err-clause-full c = λ full.
    let old = c.args.self.now in
    let f : Members → Bool = λ s. has s c.args.v in
    let n : Node = record { variable = c.args.v; low = 0; high = 1 } in
    let is : c.in-Err.fault ≡ Full = cc in
    let no_room = c.in-Err.ensures.full (ap Err is) in
    IsCrowded-full f old old n (Adds-none f old) c.checked.ensures no_room.0 no_room.1
    (IsLowestFixed-itself f (meaning (n ∷ old.nodes) (length old.nodes + 2)) (λ s. meaning-newest n old.nodes s ∙ end old.nodes (has s c.args.v) s))
