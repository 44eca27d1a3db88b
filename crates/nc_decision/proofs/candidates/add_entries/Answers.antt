use Rattle.std.proofs.Common.{◌≡◌, ◌++◌, ◌+◌, ◌<◌, ℕ, List, Option, Some, None, length, drop, option_to_list, append-nil, ap, ◌∙◌, arith, refl}
use Rattle.nc_types.specs.declared.config.Neighbor.{Neighbor}
use Rattle.nc_tables.specs.declared.bgp.Chosen.{Chosen}
use Rattle.nc_tables.specs.Rounds.{entry_at, made_from}
use Rattle.nc_decision.proofs.Making.{makes_one, makes_none, read_within}
use Rattle.nc_decision.proofs.candidates.add_entries.Goals as goal

pub neighbors-preserved : goal.neighbors-preserved
neighbors-preserved c =
    let p = c.args.of.now.prefix in
    let make : ℕ → Neighbor → Option Chosen = λ place n. entry_at c.args.inputs.now.network.now c.args.inputs.now.base.now c.args.inputs.now.sessions.now c.args.ribs.now.rows c.args.router.0 place p in
    let all = c.args.neighbors.now in
    let place = c.neighbors.place in
    let lt : place < length all = omega arith in
    let read = read_within all place lt in
    let items = c.neighbors.candidates.items in
    let new = c.add_entry.new.candidates.items in
    let total = c.args.candidates.now.items ++ made_from make 0 all in
    let by_entry : (o : Option Chosen) → make place read.0 ≡ o → new ≡ items ++ option_to_list o → new ++ made_from make (place + 1) (drop (place + 1) all) ≡ total = λ o e added. elim o as (λ q. make place read.0 ≡ q → new ≡ items ++ option_to_list q → new ++ made_from make (place + 1) (drop (place + 1) all) ≡ total) [
      | None ↦ λ f g. ap (λ (l : List Chosen). l ++ made_from make (place + 1) (drop (place + 1) all)) (g ∙ append-nil items) ∙ makes_none make all place read.0 read.1 lt items total c.neighbors.invariant.made f
      | Some x ↦ λ f g. makes_one make all place read.0 read.1 lt items total c.neighbors.invariant.made x new f g
    ] e added in
    record {
      made = by_entry (make place read.0) refl c.in_ok-add_entry.ensures.made;
      own = λ before. c.in_ok-add_entry.ensures.own (c.neighbors.invariant.own before);
    }
