use Rattle.std.proofs.Common.{◌≡◌, ◌+◌, ◌-◌, ◌<◌, ℕ, List, Option, drop, length, sym, ap, ◌∙◌, arith}
use Rattle.std.proofs.lemmas.List.{drop_all}
use Rattle.nc_types.specs.declared.config.Neighbor.{Neighbor}
use Rattle.nc_tables.specs.declared.bgp.Chosen.{Chosen}
use Rattle.nc_tables.specs.Rounds.{entry_at, made_from}
use Rattle.nc_decision.specs.BestPath.{best_among, best_with}
use Rattle.nc_decision.proofs.Making.{read_within}
use Rattle.nc_decision.proofs.Preferred.{best_step}
use Rattle.nc_decision.proofs.best_learnt.best_learnt.Goals as goal

pub neighbors-init : goal.neighbors-init
neighbors-init c =
    let i = c.args.inputs.now in
    let all = c.args.process.now.neighbors.items in
    let make : ℕ → Neighbor → Option Chosen = λ place n. entry_at i.network.now i.base.now i.sessions.now c.args.ribs.now.rows c.args.router.0 place c.args.of.now.prefix in
    let start = c.count-place.result in
    let same : start ≡ length all = c.count-place.ensures ∙ c.requires.all in
    record {
      within = omega (arith, same);
      best = sym (ap (λ (l : List Neighbor). best_among (made_from make start l)) (drop_all start all (omega (arith, same))));
      own = tt;
    }

pub neighbors-preserved : goal.neighbors-preserved
neighbors-preserved c =
    let i = c.args.inputs.now in
    let all = c.args.process.now.neighbors.items in
    let make : ℕ → Neighbor → Option Chosen = λ place n. entry_at i.network.now i.base.now i.sessions.now c.args.ribs.now.rows c.args.router.0 place c.args.of.now.prefix in
    let k = c.neighbors.place - 1 in
    let lt : k < length all = omega (arith, c.neighbors.invariant.within) in
    let on : c.neighbors.place ≡ k + 1 = omega arith in
    let read = read_within all k lt in
    record {
      within = omega (arith, c.neighbors.invariant.within);
      best =
          c.prefer_at.ensures.best
          ∙ ap (best_with (make k read.0)) (c.neighbors.invariant.best ∙ ap (λ (n : ℕ). best_among (made_from make n (drop n all))) on)
          ∙ sym (best_step make all k read.0 read.1 lt);
      own = c.prefer_at.ensures.own c.neighbors.invariant.own;
    }

pub returns-clause-best : goal.returns-clause-best
returns-clause-best c =
    let i = c.args.inputs.now in
    let all = c.args.process.now.neighbors.items in
    let make : ℕ → Neighbor → Option Chosen = λ place n. entry_at i.network.now i.base.now i.sessions.now c.args.ribs.now.rows c.args.router.0 place c.args.of.now.prefix in
    let none : c.neighbors.place ≡ 0 = omega arith in
    c.neighbors.invariant.best ∙ ap (λ (n : ℕ). best_among (made_from make n (drop n all))) none
