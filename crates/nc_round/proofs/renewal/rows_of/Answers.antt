use Rattle.std.proofs.Common.{◌≡◌, ◌++◌, ◌+◌, ◌∷◌, ◌<◌, [], List, length, map, drop, append_assoc, sym, ap, subst, ◌∙◌, arith}
use Rattle.std.proofs.lemmas.List.{map_push}
use Rattle.std.proofs.lemmas.List.Elements.{All-push}
use Rattle.nc_types.proofs.Walks.{drop_read}
use Rattle.nc_tables.specs.LocRibs.{IsNumbered}
use Rattle.nc_round.specs.declared.changed.NumberedRow.{NumberedRow}
use Rattle.nc_round.specs.declared.loc_rib_change.LocRibChange.{LocRibChange}
use Rattle.nc_round.specs.Keys.{Key}
use Rattle.nc_round.specs.Renewing.{row_change, IsLocRibChange}
use Rattle.nc_round.specs.Rows.{row_key, AreRows}
use Rattle.nc_round.proofs.renewal.rows_of.Goals as goal

-- the row of one more
more : (n : LocRibChange) (left rest : List LocRibChange) (before after all : List Key) → left ≡ n ∷ rest → after ≡ before ++ (row_change n).key ∷ [] → before ++ map (λ (m : LocRibChange). (row_change m).key) left ≡ all → after ++ map (λ (m : LocRibChange). (row_change m).key) rest ≡ all
more n left rest before after all parts longer is =
    ap (λ (l : List Key). l ++ map (λ (m : LocRibChange). (row_change m).key) rest) longer
    ∙ append_assoc before ((row_change n).key ∷ []) (map (λ (m : LocRibChange). (row_change m).key) rest)
    ∙ ap (λ (l : List LocRibChange). before ++ map (λ (m : LocRibChange). (row_change m).key) l) (sym parts) ∙ is

pub changes-preserved : goal.changes-preserved
changes-preserved c =
    let changes = c.args.changes.now in
    let k = c.changes.new-index in
    let n = c.new-item.result in
    let lt : k < length changes = omega arith in
    let rows = c.changes.rows.items in
    let x : NumberedRow = record { router = n.router; of = n.of } in
    let items = c.in_ok-push.ensures.items in
    record {
      keys = more n (drop k changes) (drop (k + 1) changes) (map row_key rows) (map row_key c.push.new.self.items) (map (λ (m : LocRibChange). (row_change m).key) changes)
          (drop_read changes k n c.new-item.is lt) (ap (map row_key) items ∙ map_push row_key rows x) c.changes.invariant.keys;
      numbers = λ count prefixes are.
          subst (AreRows prefixes) (sym items) (All-push (λ (r : NumberedRow). IsNumbered prefixes r.of) rows x (c.changes.invariant.numbers count prefixes are) (subst (IsLocRibChange count prefixes) (sym c.new-item.is) (are k n lt)).number);
    }
