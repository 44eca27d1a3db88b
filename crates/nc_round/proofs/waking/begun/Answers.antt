use Rattle.std.proofs.Common.{◌≡◌, ℕ, suc, ◌+◌, ◌++◌, ◌∷◌, List, drop, map, append_assoc, sym, ap, ◌∙◌, arith}
use Rattle.nc_types.proofs.Walks.{drop_view}
use Rattle.nc_types.specs.Config.{ConfigView, config_view}
use Rattle.nc_tables.specs.Rounds.{prefixes_in}
use Rattle.nc_round.specs.Waking.{begun_from}
use Rattle.nc_round.specs.Keys.{Key, key}
use Rattle.nc_round.proofs.waking.begun.Goals as goal

-- what one more router begins is added
one_more : (number next : ℕ) (c : ConfigView) (left rest : List ConfigView) (before after all : List Key) → next ≡ suc number → left ≡ c ∷ rest → after ≡ before ++ map (λ p. key number p) (prefixes_in c) → before ++ begun_from number left ≡ all
    → after ++ begun_from next rest ≡ all
one_more number next c left rest before after all up parts added is =
    ap (λ (l : List Key). l ++ begun_from next rest) added
    ∙ append_assoc before (map (λ p. key number p) (prefixes_in c)) (begun_from next rest)
    ∙ ap (λ (n : ℕ). before ++ (map (λ p. key number p) (prefixes_in c) ++ begun_from n rest)) up
    ∙ ap (λ (l : List ConfigView). before ++ begun_from number l) (sym parts) ∙ is

pub routers-preserved : goal.routers-preserved
routers-preserved c =
    let number = c.routers.router in
    let routers = c.routers-routers.result.now in
    let x = c.index-routers-router.result in
    let same = c.routers-routers.ensures.routers in
    one_more number (number + 1) (config_view x) (drop number c.args.network.now) (drop (number + 1) c.args.network.now) c.routers.woken.items c.wake_begun.new.woken.items (begun_from 0 c.args.network.now) (omega arith)
    (ap (drop number) (sym same) ∙ drop_view config_view routers number x c.index-routers-router.is (omega arith) ∙ ap (λ (l : List ConfigView). config_view x ∷ drop (number + 1) l) same)
    c.in_ok-wake_begun.ensures c.routers.invariant
