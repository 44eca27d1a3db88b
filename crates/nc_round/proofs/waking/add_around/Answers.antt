use Rattle.std.proofs.Common.{◌≡◌, ◌+◌, ◌++◌, ◌∷◌, Bool, true, false, cond, List, [], All, Contains, drop, map, filter, append_assoc, sym, ap, subst, ◌∙◌, arith}
use Rattle.std.specs.Global.{Vec}
use Rattle.std.specs.List.{list_any}
use Rattle.nc_types.proofs.Walks.{drop_read}
use Rattle.nc_types.specs.Cidr.{Cidr}
use Rattle.nc_types.specs.declared.config.AggregateStatement.{AggregateStatement}
use Rattle.nc_tables.specs.LocRibs.{IsNumbered}
use Rattle.nc_tables.specs.Rounds.{is_longer_in}
use Rattle.nc_tables.specs.declared.ribs.Numbered.{Numbered}
use Rattle.nc_round.specs.Rows.{prefixes_of}
use Rattle.nc_round.proofs.Lists.{any_map}
use Rattle.nc_round.proofs.waking.add_around.Goals as goal
use Rattle.nc_round.proofs.waking.add_around.Goals.{then-has_inside+in_ok-add_numbered, else-has_inside}

-- one item more, which passes a test or doesn't
passes : {X Y : Type 0} (test : X → Bool) (f : X → Y) (x : X) (left rest : List X) (before after : List Y) → left ≡ x ∷ rest → test x ≡ true → after ≡ before ++ f x ∷ []
    → after ++ map f (filter test rest) ≡ before ++ map f (filter test left)
passes {X} {Y} test f x left rest before after parts is longer =
    ap (λ (l : List Y). l ++ map f (filter test rest)) longer
    ∙ append_assoc before (f x ∷ []) (map f (filter test rest))
    ∙ ap (λ (b : Bool). before ++ map f (cond b (x ∷ filter test rest) (filter test rest))) (sym is)
    ∙ ap (λ (l : List X). before ++ map f (filter test l)) (sym parts)

fails : {X Y : Type 0} (test : X → Bool) (f : X → Y) (x : X) (left rest : List X) (before : List Y) → left ≡ x ∷ rest → test x ≡ false → before ++ map f (filter test rest) ≡ before ++ map f (filter test left)
fails {X} {Y} test f x left rest before parts is =
    ap (λ (b : Bool). before ++ map f (cond b (x ∷ filter test rest) (filter test rest))) (sym is)
    ∙ ap (λ (l : List X). before ++ map f (filter test l)) (sym parts)

pub aggregates-preserved : goal.aggregates-preserved
aggregates-preserved c =
    let test : AggregateStatement → Bool = λ a. list_any (λ (q : Cidr). is_longer_in q a.prefix) (prefixes_of c.args.changed.now) in
    let f : AggregateStatement → Cidr = λ a. a.prefix in
    let all = c.args.aggregates.now in
    let index = c.aggregates.aggregate-index in
    let a = c.aggregate-item.result in
    let rest = drop (index + 1) all in
    let parts : drop index all ≡ a ∷ rest = drop_read all index a c.aggregate-item.is (omega arith) in
    let before = c.aggregates.noted.items in
    let tested : test a ≡ c.has_inside.result = any_map (λ (q : Cidr). is_longer_in q a.prefix) (λ (n : Numbered). n.prefix) c.args.changed.now ∙ sym c.has_inside.ensures in
    let numbers : List Numbered → Type 0 = All (IsNumbered c.args.ribs.now.prefixes) in
    elim c.if-has_inside.branch [
      | then-has_inside+in_ok-add_numbered w ↦ record {
        prefixes = passes test f a (drop index all) rest (prefixes_of before) (prefixes_of c.if-has_inside.noted.items) parts (tested ∙ w.if-has_inside.true)
            (ap (λ (v : Vec Numbered). prefixes_of v.items) w.noted-is ∙ w.in_ok-add_numbered.ensures.prefixes) ∙ c.aggregates.invariant.prefixes;
        numbers = subst (λ (v : Vec Numbered). numbers v.items) (sym w.noted-is) w.in_ok-add_numbered.ensures.numbers;
      }
      | else-has_inside w ↦ record {
        prefixes = ap (λ (v : Vec Numbered). prefixes_of v.items ++ map f (filter test rest)) w.noted-is
            ∙ fails test f a (drop index all) rest (prefixes_of before) parts (tested ∙ w.if-has_inside.false) ∙ c.aggregates.invariant.prefixes;
        numbers = subst (λ (v : Vec Numbered). numbers v.items) (sym w.noted-is) c.aggregates.invariant.numbers;
      }
    ]

pub add_numbered-requires-clause-known : goal.add_numbered-requires-clause-known
add_numbered-requires-clause-known c =
    let known : AggregateStatement → Type 0 = λ a. Contains c.args.ribs.now.prefixes a.prefix in
    subst known (sym c.aggregate-item.is) (c.requires.known c.aggregates.aggregate-index c.aggregate-item.result (omega arith))
