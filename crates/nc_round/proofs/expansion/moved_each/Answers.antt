use Rattle.std.proofs.Common.{◌≡◌, ◌++◌, ◌+◌, ◌∷◌, ◌<◌, [], List, length, map, drop, append_assoc, sym, ap, ◌∙◌, arith}
use Rattle.nc_types.proofs.Walks.{drop_read}
use Rattle.nc_tables.specs.declared.bgp.Chosen.{Chosen}
use Rattle.nc_round.specs.Likeness.{moved, network_at}
use Rattle.nc_round.proofs.expansion.moved_each.Goals as goal

-- one more
more : (f : Chosen → Chosen) (x : Chosen) (left rest before after all : List Chosen) → left ≡ x ∷ rest → after ≡ before ++ f x ∷ [] → before ++ map f left ≡ all → after ++ map f rest ≡ all
more f x left rest before after all parts longer is =
    ap (λ (l : List Chosen). l ++ map f rest) longer
    ∙ append_assoc before (f x ∷ []) (map f rest)
    ∙ ap (λ (l : List Chosen). before ++ map f l) (sym parts) ∙ is

pub entries-preserved : goal.entries-preserved
entries-preserved c =
    let f : Chosen → Chosen = moved c.args.prefix (network_at c.args.inputs.now.network.now c.args.router.0 c.args.prefix) in
    let chosen = c.args.chosen.now in
    let k = c.entries.entry-index in
    let x = c.entry-item.result in
    let lt : k < length chosen = omega arith in
    let before = c.entries.entries.items in
    more f x (drop k chosen) (drop (k + 1) chosen) before c.push.new.self.items (map f chosen) (drop_read chosen k x c.entry-item.is lt)
    (c.in_ok-push.ensures.items ∙ ap (λ (y : Chosen). before ++ y ∷ []) c.in_ok-made.ensures) c.entries.invariant
