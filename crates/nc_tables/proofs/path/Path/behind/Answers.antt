use Rattle.std.proofs.Common.{◌≡◌, refl, arith}
use Rattle.nc_tables.proofs.LongerPath.{own_more, own_path, shared_more, shared_path}
use Rattle.nc_tables.proofs.path.Path.behind.Goals as goal

pub invariant_of-result : goal.invariant_of-result
invariant_of-result c =
    let self = c.self.inside in
    own_path c.args.number self.numbers self.start self.count self.rest c.self.invariant c.args.self c.self.view_is c.if-self-gt0.true c.requires

pub returns-then-self-gt0 : goal.returns-then-self-gt0
returns-then-self-gt0 c =
    let self = c.self.inside in
    own_more c.args.number self.numbers self.start self.count self.rest c.self.invariant c.args.self c.self.view_is c.if-self-gt0.true

pub invariant_of-result-2 : goal.invariant_of-result-2
invariant_of-result-2 c =
    let self = c.self.inside in
    let none : self.start ≡ 0 = omega (arith, c.if-self-gt0.false) in
    shared_path c.args.number self.numbers self.start self.count self.rest c.self.invariant c.args.self c.self.view_is none
    c.in_ok-new.field-0 c.before-piece.result (c.in_ok-new.ensures).ok c.before-piece.ensures.numbers _ refl refl c.before-piece.ensures.piece c.requires

pub returns : goal.returns
returns c =
    let self = c.self.inside in
    let none : self.start ≡ 0 = omega (arith, c.if-self-gt0.false) in
    shared_more c.args.number self.numbers self.start self.count self.rest c.self.invariant c.args.self c.self.view_is none
    c.in_ok-new.field-0 c.before-piece.result (c.in_ok-new.ensures).ok c.before-piece.ensures.numbers
