use Rattle.std.proofs.Common.{◌++◌, ◌∷◌, [], List, All, map, sym, ap, subst, ◌∙◌}
use Rattle.std.proofs.lemmas.List.{map_push}
use Rattle.std.proofs.lemmas.List.Elements.{All-push}
use Rattle.std.specs.List.{range_with_len}
use Rattle.nc_tables.specs.declared.bgp.SessionRow.{SessionRow}
use Rattle.nc_tables.specs.Sessions.{sessions_of, AreSessions}
use Rattle.nc_sessions.proofs.Numbers.{each_more}
use Rattle.nc_sessions.proofs.table.sessions.Goals as goal

pub routers-preserved : goal.routers-preserved
routers-preserved c =
    let f = sessions_of c.args.network.now c.args.base.now in
    let router = c.routers.router in
    let rows = c.in_ok-sessions_of.field-0 in
    let items = c.in_ok-push.ensures.items in
    record {
      kept = c.in_ok-sessions_of.ensures.kept;
      rows =
          ap (map (λ v. v.items)) items
          ∙ map_push (λ v. v.items) c.routers.rows.items rows
          ∙ ap (λ (l : List (List SessionRow)). l ++ rows.items ∷ []) c.routers.invariant.rows
          ∙ ap (λ (l : List SessionRow). map f (range_with_len 0 router) ++ l ∷ []) c.in_ok-sessions_of.ensures.sessions
          ∙ sym (each_more router f);
      each = subst (λ l. All (λ v. AreSessions v.items) l) (sym items) (All-push (λ v. AreSessions v.items) c.routers.rows.items rows c.routers.invariant.each c.in_ok-sessions_of.ensures.ordered);
    }
