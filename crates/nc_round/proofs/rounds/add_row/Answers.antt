use Rattle.std.proofs.Common.{◌++◌, [], List, Option, map, append-nil, sym, ap, ◌∙◌}
use Rattle.std.specs.List.{cons_option}
use Rattle.std.proofs.lemmas.List.{map_push}
use Rattle.nc_types.specs.Cidr.{Cidr}
use Rattle.nc_types.proofs.Members.{in_by_get}
use Rattle.nc_round.specs.declared.changed.NumberedRow.{NumberedRow}
use Rattle.nc_round.specs.Keys.{Key}
use Rattle.nc_round.specs.Rows.{numbered_row, row_among, row_key}
use Rattle.nc_round.proofs.Woken.{is_among, not_among}
use Rattle.nc_round.proofs.rounds.add_row.Goals as goal

-- the prefix has no number
pub returns-in_default-clause-key : goal.returns-in_default-clause-key
returns-in_default-clause-key c =
    sym (ap (λ (o : Option Key). map row_key c.args.rows.now.items ++ cons_option o []) (not_among c.args.ribs.now.prefixes c.args.key c.in_default.ensures.none) ∙ append-nil (map row_key c.args.rows.now.items))

pub returns-clause-key : goal.returns-clause-key
returns-clause-key c =
    let before : List NumberedRow = c.args.rows.now.items in
    let ps = c.args.ribs.now.prefixes in
    let of = c.in-Some.of in
    let own : Key = (c.args.key.0, of.prefix) in
    ap (map row_key) c.in_ok-push.ensures.items ∙ map_push row_key before (numbered_row c.args.key.0 of)
    ∙ sym (ap (λ (o : Option Key). map row_key before ++ cons_option o []) (is_among ps own (in_by_get ps of.number of.prefix c.in-Some.ensures.number)))
    ∙ ap (λ (p : Cidr). let k : Key = (c.args.key.0, p) in map row_key before ++ cons_option (row_among ps k) []) c.in-Some.ensures.same
