use Rattle.std.proofs.Common.{◌≡◌, ℕ, ◌-◌, ◌/◌, ◌<◌, sym, ap, subst, ◌∙◌, arith}
use Rattle.nc_types.specs.Cidr.{Covers}
use Rattle.nc_types.specs.Masks.{size_of}
use Rattle.nc_tables.proofs.LongestPrefix.{AreShorter, step, read_last, none_covers, last_upto, last_point, last_rows, last_shares, not_found, all_short}
use Rattle.nc_tables.proofs.Nested.{fewer}
use Rattle.nc_tables.proofs.SideBySide.{side_by_side, ends_in_order}
use Rattle.nc_tables.proofs.longest.longest_rows.Goals as goal

pub first_place-from-requires-clause-behind : goal.first_place-from-requires-clause-behind
first_place-from-requires-clause-behind g c =
    let pre = g.R.HasPrefix.prefix_of in
    let rows = c.args.rows.now in
    let addr = c.args.addr.0 in
    let to = c.place_behind-to.result in
    let s = step pre addr rows c.requires c.lengths.len to c.around.result (omega (arith, c.lengths-test.true)) c.lengths.invariant.within c.lengths.invariant.short c.around.ensures c.place_behind-to.ensures.parts in
    let last = read_last pre addr rows to c.index-rows-to.result c.prefix-prefix.result c.if-to-eq0.false c.place_behind-to.ensures.bound c.index-rows-to.is c.prefix-prefix.ensures in
    last_point pre addr rows (c.lengths.len - 1) to s c.prefix-prefix.result last

pub returns-then-covers-clause-rows : goal.returns-then-covers-clause-rows
returns-then-covers-clause-rows g c =
    let pre = g.R.HasPrefix.prefix_of in
    let rows = c.args.rows.now in
    let addr = c.args.addr.0 in
    let to = c.place_behind-to.result in
    let from = c.first_place-from.result in
    let p = c.prefix-prefix.result in
    let s = step pre addr rows c.requires c.lengths.len to c.around.result (omega (arith, c.lengths-test.true)) c.lengths.invariant.within c.lengths.invariant.short c.around.ensures c.place_behind-to.ensures.parts in
    let last = read_last pre addr rows to c.index-rows-to.result p c.if-to-eq0.false c.place_behind-to.ensures.bound c.index-rows-to.is c.prefix-prefix.ensures in
    last_rows pre addr rows (c.lengths.len - 1) to s p last c.index-rows-to.result (c.covers.ensures.0 c.if-covers.true) from (to - from)
    (side_by_side pre p rows from to c.first_place-from.ensures.bound c.place_behind-to.ensures.bound c.first_place-from.ensures.parts (last_point pre addr rows (c.lengths.len - 1) to s p last))

pub lengths-smaller : goal.lengths-smaller
lengths-smaller g c =
    let pre = g.R.HasPrefix.prefix_of in
    let rows = c.args.rows.now in
    let addr = c.args.addr.0 in
    let to = c.place_behind-to.result in
    let p = c.prefix-prefix.result in
    let shared = c.shared_bits-len.result in
    let s = step pre addr rows c.requires c.lengths.len to c.around.result (omega (arith, c.lengths-test.true)) c.lengths.invariant.within c.lengths.invariant.short c.around.ensures c.place_behind-to.ensures.parts in
    let last = read_last pre addr rows to c.index-rows-to.result p c.if-to-eq0.false c.place_behind-to.ensures.bound c.index-rows-to.is c.prefix-prefix.ensures in
    let alike : p.base / size_of shared ≡ addr / size_of shared = ap (λ (k : ℕ). k / size_of shared) (sym c.addr.ensures.base) ∙ c.shared_bits-len.ensures.alike in
    let less : shared < c.lengths.len - 1 =
    fewer addr p (c.lengths.len - 1) s.within (last_upto pre addr rows (c.lengths.len - 1) to s p last c.index-rows-to.result) shared c.shared_bits-len.ensures.within alike
    (λ (cover : Covers p addr). let yes = c.covers.ensures.1 cover in let no = c.if-covers.false in absurd cc) in
    omega (arith, less)

pub lengths-preserved : goal.lengths-preserved
lengths-preserved g c =
    let pre = g.R.HasPrefix.prefix_of in
    let rows = c.args.rows.now in
    let addr = c.args.addr.0 in
    let to = c.place_behind-to.result in
    let p = c.prefix-prefix.result in
    let s = step pre addr rows c.requires c.lengths.len to c.around.result (omega (arith, c.lengths-test.true)) c.lengths.invariant.within c.lengths.invariant.short c.around.ensures c.place_behind-to.ensures.parts in
    let last = read_last pre addr rows to c.index-rows-to.result p c.if-to-eq0.false c.place_behind-to.ensures.bound c.index-rows-to.is c.prefix-prefix.ensures in
    record {
      short = last_shares pre addr rows (c.lengths.len - 1) to s p last c.shared_bits-len.result (λ l le e. c.shared_bits-len.ensures.most l le (ap (λ (k : ℕ). k / size_of l) c.addr.ensures.base ∙ e));
      within = omega (arith, c.shared_bits-len.ensures.within);
    }

pub returns-after-lengths-clause-rows : goal.returns-after-lengths-clause-rows
returns-after-lengths-clause-rows g c =
    let none : c.lengths.len ≡ 0 = omega (arith, c.lengths-test.false) in
    not_found g.R.HasPrefix.prefix_of c.args.addr.0 c.args.rows.now (subst (λ (n : ℕ). AreShorter g.R.HasPrefix.prefix_of c.args.addr.0 n c.args.rows.now) none c.lengths.invariant.short)

pub returns-then-to-eq0-clause-rows : goal.returns-then-to-eq0-clause-rows
returns-then-to-eq0-clause-rows g c =
    let pre = g.R.HasPrefix.prefix_of in
    let rows = c.args.rows.now in
    let to = c.place_behind-to.result in
    let s = step pre c.args.addr.0 rows c.requires c.lengths.len to c.around.result (omega (arith, c.lengths-test.true)) c.lengths.invariant.within c.lengths.invariant.short c.around.ensures c.place_behind-to.ensures.parts in
    not_found pre c.args.addr.0 rows (none_covers pre c.args.addr.0 rows (c.lengths.len - 1) to s c.if-to-eq0.true)

pub lengths-init : goal.lengths-init
lengths-init g c = record {
  short = all_short g.R.HasPrefix.prefix_of c.args.addr.0 c.args.rows.now c.requires.valid;
  within = omega arith;
}

pub returns-then-covers-clause-ordered : goal.returns-then-covers-clause-ordered
returns-then-covers-clause-ordered g c =
    let pre = g.R.HasPrefix.prefix_of in
    let rows = c.args.rows.now in
    let addr = c.args.addr.0 in
    let to = c.place_behind-to.result in
    let p = c.prefix-prefix.result in
    let s = step pre addr rows c.requires c.lengths.len to c.around.result (omega (arith, c.lengths-test.true)) c.lengths.invariant.within c.lengths.invariant.short c.around.ensures c.place_behind-to.ensures.parts in
    let last = read_last pre addr rows to c.index-rows-to.result p c.if-to-eq0.false c.place_behind-to.ensures.bound c.index-rows-to.is c.prefix-prefix.ensures in
    ends_in_order pre p rows c.first_place-from.result to c.first_place-from.ensures.bound c.place_behind-to.ensures.bound c.first_place-from.ensures.parts (last_point pre addr rows (c.lengths.len - 1) to s p last)
