use Rattle.std.proofs.Common.{◌≡◌, ◌==◌, ℕ, zero, suc, Bool, true, false, ◌+◌, ◌<◌, ◌≤◌, List, length, map, sym, ap, subst, ◌∙◌, arith, rules}
use Rattle.std.proofs.lemmas.List.{length-map}
use Rattle.nc_types.specs.declared.TheConstants.{MULTIPATH_LIMIT}
use Rattle.nc_types.specs.Cidr.{Cidr}
use Rattle.nc_tables.specs.LocRibs.{Ascend}
use Rattle.nc_tables.specs.Rounds.{BgpRowView, chosen_at, no_routes}
use Rattle.nc_round.specs.declared.changed.NumberedRow.{NumberedRow}
use Rattle.nc_round.specs.Changes.{IsRoundOver}
use Rattle.nc_round.specs.Next.{next_of}
use Rattle.nc_round.specs.Rows.{row_key, AreRows}
use Rattle.nc_round.specs.Waking.{HaveAggregates}
use Rattle.nc_round.proofs.SettledOf.{after_of, count_of, made_of, more_of, on_of, start_of, stop_of, IsRunOf, IsSettledOf}
use Rattle.nc_round.proofs.Spread.{few_of, known_over, stable_over, unstable_over}
use Rattle.nc_round.proofs.settling.settle_table.Goals as goal

none_left : (rows : List NumberedRow) → length rows ≡ 0 → length (map row_key rows) ≡ 0
none_left rows none = length-map rows row_key ∙ none

some_left : (rows : List NumberedRow) → 0 < length rows → 0 < length (map row_key rows)
some_left rows some = omega (arith, length-map rows row_key)

positive : (n : ℕ) (b : Bool) → b ≡ (n == 0) → b ≡ false → 0 < n
positive zero b is fails = let bad : true ≡ false = sym is ∙ fails in absurd cc
positive (suc n) b is fails = omega arith

pub first_by-requires-clause-ordered : goal.first_by-requires-clause-ordered
first_by-requires-clause-ordered c = subst Ascend (sym c.deref.ensures.value) c.in_ok-likeness.ensures.standing

pub rounds-init : goal.rounds-init
rounds-init c =
    let i = c.args.inputs in
    let standing = c.in_ok-likeness.likeness.standing.items in
    let same : c.deref.result.now ≡ standing = c.deref.ensures.value in
    record {
      run = start_of standing i.network.now i.base.now i.sessions.now c.in_ok-likeness.ensures.standing c.in_ok-ribs.ribs.rows (map row_key c.in_ok-ribs.changed.rows.items)
          (c.in_ok-ribs.ensures.table ∙ ap (λ (ps : List Cidr). next_of ps i (no_routes i.network.now)) same) c.in_ok-ribs.ensures.changed;
      prefixes = c.in_ok-ribs.ensures.prefixes ∙ same;
      numbers = c.in_ok-ribs.ensures.numbers;
    }

pub next_by-requires-clause-made : goal.next_by-requires-clause-made
next_by-requires-clause-made c =
    let i = c.args.inputs in
    let standing = c.in_ok-likeness.likeness.standing.items in
    let changed = map row_key c.rounds.changed.rows.items in
    let k = c.rounds._more in (
      after_of standing i.network.now i.base.now i.sessions.now k,
      subst (λ (ps : List Cidr). IsRoundOver i.network.now i.base.now i.sessions.now ps (after_of standing i.network.now i.base.now i.sessions.now k) c.rounds.ribs.rows changed) (sym c.rounds.invariant.prefixes)
          (made_of standing i.network.now i.base.now i.sessions.now c.in_ok-likeness.ensures.standing c.rounds.ribs.rows changed k c.rounds.invariant.run),
    )

pub next_by-requires-clause-known : goal.next_by-requires-clause-known
next_by-requires-clause-known c =
    let i = c.args.inputs in
    subst (HaveAggregates i.network.now) (sym c.rounds.invariant.prefixes)
    (known_over i.network.now i.base.now i.sessions.now c.routers-routers.ensures.valid.each c.in_ok-likeness.likeness c.in_ok-likeness.ensures)

pub rounds-preserved : goal.rounds-preserved
rounds-preserved c =
    let i = c.args.inputs in
    let standing = c.in_ok-likeness.likeness.standing.items in
    let k = c.rounds._more in
    let up : suc k ≡ k + 1 = omega arith in
    let next = c.in_ok-next.next in
    record {
      run = subst (λ (n : ℕ). IsRunOf standing i.network.now i.base.now i.sessions.now n next.0.rows (map row_key next.1.rows.items)) up
          (more_of standing i.network.now i.base.now i.sessions.now c.in_ok-likeness.ensures.standing k c.rounds.ribs.rows next.0.rows (map row_key c.rounds.changed.rows.items) (map row_key next.1.rows.items) c.rounds.invariant.run
          (some_left c.rounds.changed.rows.items (omega (arith, c.rounds.changed.rows.ok.0, positive c.rounds.changed.rows.len c.is_empty.result c.is_empty.ensures c.if-is_empty.false)))
          (c.in_ok-next.ensures.table ∙ ap (λ (ps : List Cidr). next_of ps i c.rounds.ribs.rows) c.rounds.invariant.prefixes) c.in_ok-next.ensures.changed);
      prefixes = c.in_ok-next.ensures.prefixes ∙ c.rounds.invariant.prefixes;
      numbers = subst (λ (ps : List Cidr). AreRows ps next.1.rows.items) (sym c.in_ok-next.ensures.prefixes) c.in_ok-next.ensures.numbers;
    }

pub table_of-requires-clause-few : goal.table_of-requires-clause-few
table_of-requires-clause-few c =
    let i = c.args.inputs in
    subst (λ (t : List (List BgpRowView)). (router : ℕ) (p : Cidr) → length (chosen_at t router p) ≤ MULTIPATH_LIMIT) (sym c.rounds.invariant.run.table)
    (few_of i.network.now i.base.now i.sessions.now c.routers-routers.ensures.valid.each c.in_ok-likeness.likeness.standing.items (suc c.rounds._more))

pub table_of-requires-clause-ribs : goal.table_of-requires-clause-ribs
table_of-requires-clause-ribs c =
    let i = c.args.inputs in
    ap length c.rounds.invariant.run.table ∙ count_of c.in_ok-likeness.likeness.standing.items i.network.now i.base.now i.sessions.now (suc c.rounds._more)

pub table_of-requires-then-is_empty-2-clause-few : goal.table_of-requires-then-is_empty-2-clause-few
table_of-requires-then-is_empty-2-clause-few c =
    let i = c.args.inputs in
    subst (λ (t : List (List BgpRowView)). (router : ℕ) (p : Cidr) → length (chosen_at t router p) ≤ MULTIPATH_LIMIT) (sym c.rounds.invariant.run.table)
    (few_of i.network.now i.base.now i.sessions.now c.routers-routers.ensures.valid.each c.in_ok-likeness.likeness.standing.items (suc c.rounds._more))

pub table_of-requires-then-is_empty-2-clause-ribs : goal.table_of-requires-then-is_empty-2-clause-ribs
table_of-requires-then-is_empty-2-clause-ribs c =
    let i = c.args.inputs in
    ap length c.rounds.invariant.run.table ∙ count_of c.in_ok-likeness.likeness.standing.items i.network.now i.base.now i.sessions.now (suc c.rounds._more)

pub returns-then-is_empty : goal.returns-then-is_empty
returns-then-is_empty c =
    let i = c.args.inputs in
    let standing = c.in_ok-likeness.likeness.standing.items in
    let k = c.rounds._more in
    let run = c.rounds.invariant.run in
    stable_over i.network.now i.base.now i.sessions.now c.routers-routers.ensures.valid.each c.in_ok-likeness.likeness c.in_ok-likeness.ensures k c.args.rounds c.rounds.ribs.rows c.in_ok-table.table (omega arith) run.table
    (stop_of standing i.network.now i.base.now i.sessions.now c.in_ok-likeness.ensures.standing c.rounds.ribs.rows (map row_key c.rounds.changed.rows.items) k run (none_left c.rounds.changed.rows.items (search rules)))
    run.before c.in_ok-table.ensures.rows c.in_ok-table.ensures.spread

pub returns-then-is_empty-2 : goal.returns-then-is_empty-2
returns-then-is_empty-2 c =
    let i = c.args.inputs in
    let standing = c.in_ok-likeness.likeness.standing.items in
    let k = c.rounds._more in
    let run = c.rounds.invariant.run in
    stable_over i.network.now i.base.now i.sessions.now c.routers-routers.ensures.valid.each c.in_ok-likeness.likeness c.in_ok-likeness.ensures k c.args.rounds c.rounds.ribs.rows c.in_ok-table-2.table (omega arith) run.table
    (stop_of standing i.network.now i.base.now i.sessions.now c.in_ok-likeness.ensures.standing c.rounds.ribs.rows (map row_key c.rounds.changed.rows.items) k run (none_left c.rounds.changed.rows.items (search rules)))
    run.before c.in_ok-table-2.ensures.rows c.in_ok-table-2.ensures.spread

pub returns : goal.returns
returns c =
    let i = c.args.inputs in
    let standing = c.in_ok-likeness.likeness.standing.items in
    let all : suc c.rounds._more ≡ c.args.rounds = omega arith in
    unstable_over i.network.now i.base.now i.sessions.now c.routers-routers.ensures.valid.each c.in_ok-likeness.likeness c.in_ok-likeness.ensures c.args.rounds
    (subst (λ (n : ℕ). (j : ℕ) → j < n → IsSettledOf standing i.network.now i.base.now i.sessions.now j → ⊥) all
    (on_of standing i.network.now i.base.now i.sessions.now c.in_ok-likeness.ensures.standing c.rounds.ribs.rows (map row_key c.rounds.changed.rows.items) c.rounds._more c.rounds.invariant.run (some_left c.rounds.changed.rows.items (search rules))))
