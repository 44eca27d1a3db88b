use Rattle.std.proofs.Common.{◌≡◌, ◌+◌, ◌<◌, ◌++◌, [], ◌∷◌, true, false, List, map, drop, length, sym, ap, ◌∙◌, arith}
use Rattle.std.specs.Global.{Vec}
use Rattle.std.proofs.lemmas.List.{length-map}
use Rattle.nc_types.specs.declared.addr.Addr.{Addr}
use Rattle.nc_tables.specs.Choice.{is_equal_to}
use Rattle.nc_select.specs.declared.choice.Sender.{Sender}
use Rattle.nc_select.specs.Senders.{senders_from}
use Rattle.nc_select.proofs.Choosing.{sender_left, sender_taken}
use Rattle.nc_select.proofs.Mapped.{read_view}
use Rattle.nc_select.proofs.choice.senders_of.Goals as goal
use Rattle.nc_select.proofs.choice.senders_of.Goals.{then-is_equal_to+in_ok-push, else-is_equal_to}

pub candidates-preserved : goal.candidates-preserved
candidates-preserved g c =
    let f = g.C.Candidate.candidate_of in
    let all = map f c.args.candidates.now in
    let best = f c.args.best.now in
    let relax = c.args.relax in
    let place = c.candidates.place in
    let x = c.index-candidates-place.result in
    let items = c.candidates.senders.items in
    let lt : place < length c.args.candidates.now = omega arith in
    let many : place < length all = omega (arith, length-map c.args.candidates.now f) in
    let at = read_view f c.args.candidates.now place x c.index-candidates-place.is lt in
    elim c.if-is_equal_to.branch [
      | then-is_equal_to+in_ok-push w ↦
          let e : is_equal_to relax best (f x) ≡ true = sym c.is_equal_to.ensures ∙ w.if-is_equal_to.true in
          let pushed : c.if-is_equal_to.senders.items ≡ items ++ record { id = (f x).sender_id; address = (f x).sender; place = place } ∷ [] =
          ap (λ (v : Vec Sender). v.items) w.senders-is ∙ w.in_ok-push.ensures.items
          ∙ ap (λ (a : Addr). items ++ record { id = a; address = w.sender.result; place = place } ∷ []) w.sender_id.ensures
          ∙ ap (λ (a : Addr). items ++ record { id = (f x).sender_id; address = a; place = place } ∷ []) w.sender.ensures in
          ap (λ (l : List Sender). l ++ senders_from relax best (place + 1) (drop (place + 1) all)) pushed
          ∙ sender_taken relax best all place (f x) many at items c.candidates.invariant e
      | else-is_equal_to w ↦
          let e : is_equal_to relax best (f x) ≡ false = sym c.is_equal_to.ensures ∙ w.if-is_equal_to.false in
          ap (λ (v : Vec Sender). v.items ++ senders_from relax best (place + 1) (drop (place + 1) all)) w.senders-is
          ∙ sender_left relax best all place (f x) many at items c.candidates.invariant e
    ]
