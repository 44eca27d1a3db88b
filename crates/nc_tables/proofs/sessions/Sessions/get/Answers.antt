use Rattle.std.proofs.Common.{false, get_or, List, ap, sym, ◌∙◌, rules}
use Rattle.std.proofs.lemmas.List.Sorted.{answers_always}
use Rattle.nc_tables.specs.declared.bgp.SessionRow.{SessionRow}
use Rattle.nc_tables.specs.Sessions.{session_in}
use Rattle.nc_tables.proofs.SessionOrder.{searchable, here_is, nowhere_is, tied_at}
use Rattle.nc_tables.proofs.sessions.Sessions.get.Goals as goal

pub returns-in-Ok : goal.returns-in-Ok
returns-in-Ok c =
    let rows = c.rows-rows.result.now in
    let place = c.in-Ok.place in
    let equal = c.in-Ok.ensures.position (λ (s : SessionRow). s.neighbor) (answers_always _ _ _ (λ f a r g called. search rules)) in
    sym (here_is rows c.args.neighbor place _ c.rows-rows.ensures.ordered c.in-Ok.ensures.bound (equal _))
    ∙ ap (λ (l : List SessionRow). session_in l c.args.neighbor) c.rows-rows.ensures.rows

pub returns-in-Err : goal.returns-in-Err
returns-in-Err c =
    let rows = c.rows-rows.result.now in
    let parted = c.in-Err.ensures.position (λ (s : SessionRow). s.neighbor) (answers_always _ _ _ (λ f a r g called. search rules)) (searchable rows c.args.neighbor c.rows-rows.ensures.ordered) in
    sym (nowhere_is rows c.args.neighbor c.in-Err.field-0 parted)
    ∙ ap (λ (l : List SessionRow). session_in l c.args.neighbor) c.rows-rows.ensures.rows

-- the row at the statement's place is its session
pub returns-then-row-neighbor : goal.returns-then-row-neighbor
returns-then-row-neighbor c =
    let rows = c.rows-rows.result.now in
    let none : SessionRow = record { router = record { 0 = 0 }; neighbor = 0; peer = record { 0 = 0 }; peer_neighbor = 0; source = record { 0 = 0 }; peer_source = record { 0 = 0 }; internal = false } in
    sym (here_is rows c.args.neighbor c.args.neighbor none c.rows-rows.ensures.ordered c.if-neighbor-rows.true (tied_at (get_or rows c.args.neighbor none).neighbor c.args.neighbor c.if-row-neighbor.true))
    ∙ ap (λ (l : List SessionRow). session_in l c.args.neighbor) c.rows-rows.ensures.rows
