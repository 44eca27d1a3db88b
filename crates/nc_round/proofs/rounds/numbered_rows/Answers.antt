use Rattle.std.proofs.Common.{◌≡◌, ◌++◌, ◌∷◌, [], ◌+◌, ◌<◌, List, Option, Some, None, length, map, drop, append_assoc, append-nil, sym, ap, ◌∙◌, arith}
use Rattle.std.specs.List.{cons_option, filter_map}
use Rattle.nc_types.proofs.Walks.{drop_read}
use Rattle.nc_round.specs.Keys.{Key}
use Rattle.nc_round.specs.Rows.{row_among, row_key, rows_among}
use Rattle.nc_round.proofs.rounds.numbered_rows.Goals as goal

-- one more row
more : (f : Key → Option Key) (k : Key) (left rest before after all : List Key) → left ≡ k ∷ rest → after ≡ before ++ cons_option (f k) [] → before ++ filter_map f left ≡ all → after ++ filter_map f rest ≡ all
more f k left rest before after all parts longer is = ap (λ (l : List Key). l ++ filter_map f rest) longer ∙ on (f k) ∙ ap (λ (l : List Key). before ++ filter_map f l) (sym parts) ∙ is
  where
    on : (o : Option Key) → (before ++ cons_option o []) ++ filter_map f rest ≡ before ++ cons_option o (filter_map f rest)
    on None = ap (λ (l : List Key). l ++ filter_map f rest) (append-nil before)
    on (Some x) = append_assoc before (x ∷ []) (filter_map f rest)

pub keys-preserved : goal.keys-preserved
keys-preserved c =
    let keys = c.args.keys.now in
    let k = c.keys.key-index in
    let lt : k < length keys = omega arith in
    record {
      keys = more (row_among c.args.ribs.now.prefixes) c.key-item.result (drop k keys) (drop (k + 1) keys) (map row_key c.keys.rows.items) (map row_key c.add_row.new.rows.items) (rows_among c.args.ribs.now.prefixes keys)
          (drop_read keys k c.key-item.result c.key-item.is lt) c.in_ok-add_row.ensures.key c.keys.invariant.keys;
      numbers = c.in_ok-add_row.ensures.numbers;
    }
