use Rattle.std.proofs.Common.{◌≡◌, ◌<◌, ℕ, [], List, Vec, Global, true, false, map, slice_get, inl, inr, sym, ap, subst, ◌∙◌}
use Rattle.nc_types.specs.Cidr.{Cidr}
use Rattle.nc_tables.specs.declared.bgp.BgpRow.{BgpRow}
use Rattle.nc_tables.specs.LocRibs.{Ascend}
use Rattle.nc_tables.specs.Rounds.{BgpRowView, bgp_row_view}
use Rattle.nc_round.proofs.Expanding.{is_expansion, prefixes_pass, same_prefixes}
use Rattle.nc_round.proofs.NextRows.{prefixes_up}
use Rattle.nc_round.proofs.expansion.expand.Goals as goal

pub returns-then-eq : goal.returns-then-eq
returns-then-eq c =
    let same : c.as_slice.result.now ≡ c.prefixes.result.now = same_prefixes c.as_slice.result.now c.prefixes.result.now c.eq.result c.eq.ensures c.if-eq.true in
    inl (sym c.requires.standing ∙ sym c.prefixes.ensures.prefixes ∙ sym same ∙ c.as_slice.ensures.value, c.in_ok-table.ensures)

pub spread-requires-clause-ordered : goal.spread-requires-clause-ordered
spread-requires-clause-ordered c = subst Ascend (sym c.requires.likeness.all) (prefixes_up c.args.inputs.now.network.now)

pub returns : goal.returns
returns c =
    let i = c.args.inputs.now in
    let l = c.args.likeness in
    let table = c.args.ribs.rows in
    let own : List (List BgpRowView) = map (λ (rows : Vec BgpRow Global). map bgp_row_view rows.items) c.in_ok-own.own.items in
    let told = c.in_ok-table-2.ensures in
    let differs : l.standing.items ≡ l.all.items → ⊥ = λ same.
    let passes : c.eq.result ≡ true = prefixes_pass c.as_slice.result.now c.prefixes.result.now c.eq.result c.eq.ensures (c.as_slice.ensures.value ∙ sym same ∙ sym c.requires.standing ∙ sym c.prefixes.ensures.prefixes) in
    let bad : true ≡ false = sym passes ∙ c.if-eq.false in absurd cc in
    inr (
      differs,
      is_expansion i.network.now l table c.in_ok-table-2.table own told.count c.in_ok-own.ensures.own
          (λ r k place q p at known stands. told.chosen r k place q p at known (ap (λ (ps : List Cidr). slice_get ps place) c.requires.standing ∙ stands)) told.others,
    )
