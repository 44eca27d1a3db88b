use Rattle.std.proofs.Common.{◌≡◌, ℕ, Bool, Bor, true, false, not, ◌&&◌, List, [], ◌∷◌, Option, Some, None, slice_get, IfNone, IfSome, refl, sym, ap, subst, ◌∙◌}
use Rattle.std.specs.List.{list_any}
use Rattle.std.specs.Option.{option_map, option_map_or}
use Rattle.nc_types.specs.Cidr.{Cidr}
use Rattle.nc_types.specs.Config.{ConfigView, ProcessView, process_view}
use Rattle.nc_types.specs.declared.config.Process.{Process}
use Rattle.nc_tables.specs.declared.base.BaseRow.{BaseRow}
use Rattle.nc_tables.specs.declared.bgp.SessionRow.{SessionRow}
use Rattle.nc_tables.specs.declared.bgp.Chosen.{Chosen}
use Rattle.nc_tables.specs.Rounds.{BgpRowView, chosen_at, entry_at, link_at}
use Rattle.nc_tables.specs.Sessions.{process_of}
use Rattle.nc_decision.specs.BestPath.{is_from, is_beaten, leaves_best_beside, leaves_best_path}
use Rattle.nc_decision.specs.declared.peerings.Peering.{Peering}
use Rattle.nc_decision.specs.Peerings.{IsPeering}
use Rattle.nc_decision.proofs.Outranked.{cannot_win_alone}
use Rattle.nc_decision.proofs.best_path.leaves_best_path.Goals as goal

module _ (routers : List ConfigView) (tables : List (List BaseRow)) (sessions : List (List SessionRow)) (table : List (List BgpRowView)) (router place : ℕ) (prefix : Cidr) (cs : List Chosen) (at : cs ≡ chosen_at table router prefix) where
  abbrev entry : Option Chosen
  entry = entry_at routers tables sessions table router place prefix

  abbrev by_process : List Chosen → Option ProcessView → Bool
  by_process l o = option_map_or (λ p. leaves_best_beside p place entry l) o false

  opened : by_process cs (process_of routers router) ≡ leaves_best_path routers tables sessions table router place prefix
  unfolding leaves_best_path
  opened = ap (λ (l : List Chosen). by_process l (process_of routers router)) at

  idle_if_none : None ≡ slice_get cs 0 → false ≡ leaves_best_path routers tables sessions table router place prefix
  idle_if_none e = on cs e (process_of routers router) ∙ opened
    where
      on : (l : List Chosen) → None ≡ slice_get l 0 → (o : Option ProcessView) → false ≡ by_process l o
      on [] f None = refl
      on [] f (Some p) = refl
      on (x ∷ xs) f o = absurd cc

  idle_if_from : list_any (λ x. is_from place x.from) cs ≡ true → false ≡ leaves_best_path routers tables sessions table router place prefix
  idle_if_from e = on cs e (process_of routers router) ∙ opened
    where
      on : (l : List Chosen) → list_any (λ x. is_from place x.from) l ≡ true → (o : Option ProcessView) → false ≡ by_process l o
      on [] f o = absurd cc
      on (x ∷ xs) f None = refl
      on (x ∷ xs) f (Some p) = sym (ap (λ (b : Bool). not b && option_map_or (is_beaten p x) entry true) f)

  idle_if_alone : process_of routers router ≡ None → false ≡ leaves_best_path routers tables sessions table router place prefix
  idle_if_alone e = sym (ap (by_process cs) e) ∙ opened

  idle_if_beaten : (p : ProcessView) → process_of routers router ≡ Some p → (best : Chosen) → Some best ≡ slice_get cs 0 → list_any (λ x. is_from place x.from) cs ≡ false → option_map_or (is_beaten p best) entry true ≡ leaves_best_path routers tables sessions table router place prefix
  idle_if_beaten p e best first none = on cs first none ∙ sym (ap (by_process cs) e) ∙ opened
    where
      on : (l : List Chosen) → Some best ≡ slice_get l 0 → list_any (λ x. is_from place x.from) l ≡ false → option_map_or (is_beaten p best) entry true ≡ leaves_best_beside p place entry l
      on [] f g = absurd cc
      on (x ∷ xs) f g =
          let same : best ≡ x = cc in
          ap (λ (c : Chosen). option_map_or (is_beaten p c) entry true) same ∙ sym (ap (λ (b : Bool). not b && option_map_or (is_beaten p x) entry true) g)

-- the process that is told
abbrev seen : Option (Bor Process) → Option ProcessView
seen o = option_map (λ (q : Bor Process). process_view q.now) o

pub returns-in_default : goal.returns-in_default
returns-in_default c =
    let i = c.args.inputs.now in
    idle_if_none i.network.now i.base.now i.sessions.now c.args.ribs.now.rows c.args.router.0 c.args.place c.args.of.now.prefix c.chosen-chosen.result.now c.chosen-chosen.ensures.chosen c.in_default.ensures.value

pub returns-then-has_from : goal.returns-then-has_from
returns-then-has_from c =
    let i = c.args.inputs.now in
    idle_if_from i.network.now i.base.now i.sessions.now c.args.ribs.now.rows c.args.router.0 c.args.place c.args.of.now.prefix c.chosen-chosen.result.now c.chosen-chosen.ensures.chosen (sym c.has_from.ensures ∙ c.if-has_from.true)

pub returns-in_default-process : goal.returns-in_default-process
returns-in_default-process c =
    let i = c.args.inputs.now in
    idle_if_alone i.network.now i.base.now i.sessions.now c.args.ribs.now.rows c.args.router.0 c.args.place c.args.of.now.prefix c.chosen-chosen.result.now c.chosen-chosen.ensures.chosen
    (sym c.requires.process ∙ ap seen c.in_default-process.is)

pub returns-in_default-peering : goal.returns-in_default-peering
returns-in_default-peering c =
    let i = c.args.inputs.now in
    let routers = i.network.now in
    let p = process_view c.in-Some-process.process.now in
    let none : None ≡ link_at routers i.sessions.now c.args.router.0 c.args.place = subst (λ (o : Option (Bor Peering)). IfNone (option_map (λ (q : Bor Peering). q.now) o) (None ≡ link_at routers i.sessions.now c.args.router.0 c.args.place)) c.in_default-peering.is c.requires.peering.none in
    sym (cannot_win_alone routers i.base.now i.sessions.now c.args.ribs.now.rows c.args.router.0 c.args.place c.args.of.now.prefix c.in-Some.best.now p (sym none))
    ∙ idle_if_beaten i.network.now i.base.now i.sessions.now c.args.ribs.now.rows c.args.router.0 c.args.place c.args.of.now.prefix c.chosen-chosen.result.now c.chosen-chosen.ensures.chosen p
    (sym c.requires.process ∙ ap seen c.in-Some-process.is) c.in-Some.best.now c.in-Some.ensures.value (sym c.has_from.ensures ∙ c.if-has_from.false)

pub cannot_win-requires-clause-peering : goal.cannot_win-requires-clause-peering
cannot_win-requires-clause-peering c =
    let i = c.args.inputs.now in
    subst (λ (o : Option (Bor Peering)). IfSome (option_map (λ (q : Bor Peering). q.now) o) (IsPeering i.network.now i.base.now i.sessions.now c.args.router.0)) c.in-Some-peering.is c.requires.peering.peering

pub returns : goal.returns
returns c =
    let i = c.args.inputs.now in
    let routers = i.network.now in
    let p = process_view c.in-Some-process.process.now in
    let own : c.in-Some-peering.peering.now.place ≡ c.args.place = subst (λ (o : Option (Bor Peering)). IfSome (option_map (λ (q : Bor Peering). q.now) o) (λ q. q.place ≡ c.args.place)) c.in-Some-peering.is c.requires.peering.own in
    c.cannot_win.ensures
    ∙ ap (λ (n : ℕ). option_map_or (is_beaten p c.in-Some.best.now) (entry_at routers i.base.now i.sessions.now c.args.ribs.now.rows c.args.router.0 n c.args.of.now.prefix) true) own
    ∙ idle_if_beaten i.network.now i.base.now i.sessions.now c.args.ribs.now.rows c.args.router.0 c.args.place c.args.of.now.prefix c.chosen-chosen.result.now c.chosen-chosen.ensures.chosen p
    (sym c.requires.process ∙ ap seen c.in-Some-process.is) c.in-Some.best.now c.in-Some.ensures.value (sym c.has_from.ensures ∙ c.if-has_from.false)
