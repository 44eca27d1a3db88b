-- What is chosen anew of rows, where more rows come behind.
use Rattle.std.proofs.Common.{◌≡◌, List, [], ◌∷◌, ◌++◌, length, map, All, Option, Some, None, append_assoc, append-nil, refl, sym, ap, ◌∙◌, arith}
use Rattle.std.specs.List.{cons_option, filter_map}
use Rattle.std.proofs.lemmas.List.{map-append}
use Rattle.std.proofs.lemmas.List.Elements.{filter_map-append}
use Rattle.nc_types.specs.Cidr.{Cidr}
use Rattle.nc_tables.specs.Rounds.{BgpRowView}
use Rattle.nc_message.specs.declared.inputs.RoutingInputs.{RoutingInputs}
use Rattle.nc_round.specs.declared.changed.NumberedRow.{NumberedRow}
use Rattle.nc_round.specs.declared.loc_rib_change.LocRibChange.{LocRibChange}
use Rattle.nc_round.specs.Keys.{Key}
use Rattle.nc_round.specs.Renewing.{RowChange, row_change, change_at, AreChangesOf, IsLocRibChange}
use Rattle.nc_round.specs.Rows.{row_key}

-- what is new of one more row
pub one_more : (f : Key → Option RowChange) (k : Key) (left rest : List Key) (before after all : List RowChange) → left ≡ k ∷ rest → after ≡ before ++ cons_option (f k) [] → before ++ filter_map f left ≡ all → after ++ filter_map f rest ≡ all
one_more f k left rest before after all parts longer is = ap (λ (l : List RowChange). l ++ filter_map f rest) longer ∙ on (f k) ∙ ap (λ (l : List Key). before ++ filter_map f l) (sym parts) ∙ is
  where
    on : (o : Option RowChange) → (before ++ cons_option o []) ++ filter_map f rest ≡ before ++ cons_option o (filter_map f rest)
    on None = ap (λ (l : List RowChange). l ++ filter_map f rest) (append-nil before)
    on (Some x) = append_assoc before (x ∷ []) (filter_map f rest)

module _ (i : RoutingInputs) (prefixes : List Cidr) (table : List (List BgpRowView)) where
  pub none_renewed : AreChangesOf i prefixes table [] []
  none_renewed = record { made = refl; each = λ k d lt. absurd (omega arith) }

  pub more_renewed : (before added : List NumberedRow) (old new : List LocRibChange) → AreChangesOf i prefixes table before old
      → map row_change new ≡ map row_change old ++ filter_map (change_at i table) (map row_key added) → All (IsLocRibChange (length i.network.now) prefixes) new → AreChangesOf i prefixes table (before ++ added) new
  more_renewed before added old new are longer each = record {
    made = longer
        ∙ ap (λ (l : List RowChange). l ++ filter_map (change_at i table) (map row_key added)) are.made
        ∙ sym (filter_map-append (change_at i table) (map row_key before) (map row_key added))
        ∙ ap (filter_map (change_at i table)) (sym (map-append row_key before added));
    each = each;
  }
