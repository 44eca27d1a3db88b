use Rattle.std.proofs.Common.{arith, Bool, codes, refl, subst}
use Rattle.nc_rules.specs.Rules.{flow_of}
use Rattle.nc_rules.specs.Seen.{state_of}
use Rattle.nc_report.specs.Texts.{line_of}
use Rattle.nc_engine.specs.Work.{Takes, with_lent}
use Rattle.nc_engine.proofs.Answering.{accepted, overfilled}
use Rattle.nc_engine.proofs.work.Work.count.Goals as goal

pub returns-then-not-branch-clause-counts : goal.returns-then-not-branch-clause-counts
returns-then-not-branch-clause-counts c =
    let old = c.args.self.now in
    let new = c.accept.new.self in
    let s = state_of old.rules in
    overfilled old new c.args.facts.items c.args.out.now.items c.push_line-then-not-branch.new.out.items c.in_ok-accept.ensures.network c.accept.ensures.store (omega (arith, c.if-len-ge-TEST_LIMIT.false, c.len.ensures, old.tests.ok.0))
    c.requires.some (c.closures_have_one_length.ensures.length (flow_of s) (c.rules_make_a_flow.ensures s c.requires.work.state)) c.requires.work
    (subst (λ (fits : Bool). Takes fits old new c.args.facts.items) c.if-not-branch.true c.in_ok-accept.ensures.taken) (line_of (codes "refused limit facts")) refl c.in_ok-push_line-2.ensures

pub returns-clause-counts : goal.returns-clause-counts
returns-clause-counts c =
    let old = c.args.self.now in
    let new = c.accept.new.self in
    let s = state_of old.rules in
    accepted old new c.args.facts.items c.args.out.now.items (with_lent c.in_ok-lends.lends new.shown c.reply.new.out.items) c.in_ok-accept.ensures.network c.accept.ensures.store (omega (arith, c.if-len-ge-TEST_LIMIT.false, c.len.ensures, old.tests.ok.0))
    c.requires.some (c.closures_have_one_length.ensures.length (flow_of s) (c.rules_make_a_flow.ensures s c.requires.work.state)) c.requires.work
    (subst (λ (fits : Bool). Takes fits old new c.args.facts.items) c.if-not-branch.false c.in_ok-accept.ensures.taken) c.in_ok-accept.ensures.work c.in_ok-lends.ensures
