-- What is chosen of a prefix is of the prefix.
use Rattle.std.proofs.Common.{◌≡◌, Bool, true, false, cond, List, [], ◌∷◌, All, Some, refl, ◌∙◌, arith}
use Rattle.std.specs.List.{find}
use Rattle.std.specs.Option.{option_map_or}
use Rattle.std.proofs.lemmas.List.Elements.{All-head, All-tail}
use Rattle.nc_types.specs.Cidr.{Cidr, same_prefix}
use Rattle.nc_types.proofs.Sameness.{same_prefix_is}
use Rattle.nc_tables.specs.Rounds.{BgpRowView, chosen_in}
use Rattle.nc_message.specs.Inputs.{IsOf}

-- the candidates of a row are of its prefix
abbrev pub AreOwn : BgpRowView → Type 0
AreOwn row = All (λ x. x.route.prefix ≡ row.prefix) row.chosen

pub row_own : (p : Cidr) (rows : List BgpRowView) → All AreOwn rows → All (IsOf p) (chosen_in rows p)
row_own p [] own = λ k d lt. absurd (omega arith)
row_own p (row ∷ rows) own = on (same_prefix row.prefix p) refl (row_own p rows (All-tail AreOwn row rows own))
  where
    on : (b : Bool) → same_prefix row.prefix p ≡ b → All (IsOf p) (chosen_in rows p)
        → All (IsOf p) (option_map_or (λ (r : BgpRowView). r.chosen) (cond b (Some row) (find (λ (r : BgpRowView). same_prefix r.prefix p) rows)) [])
    on true is rest = λ k d lt. All-head AreOwn row rows own k d lt ∙ same_prefix_is row.prefix p is
    on false is rest = rest
