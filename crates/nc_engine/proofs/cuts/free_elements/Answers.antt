use Rattle.std.proofs.Common.{◌≡◌, ◌+◌, ◌-◌, ◌<◌, ◌++◌, ℕ, Bool, not, false, List, ◌∷◌, length, drop, replicate, sym, ap, ◌∙◌, append_assoc, append-nil, arith}
use Rattle.std.specs.Prelude.{slice_index_or}
use Rattle.std.specs.Vec.{vec_len}
use Rattle.std.proofs.lemmas.List.{take_all, length-map, get_or_default}
use Rattle.nc_types.specs.Config.{ConfigView, config_view, element_view}
use Rattle.nc_types.proofs.Walks.{drop_view}
use Rattle.nc_engine.specs.Cuts.{is_kept}
use Rattle.nc_engine.proofs.Cutting.{free_from, free_next, free_end, free_of}
use Rattle.nc_engine.proofs.cuts.free_elements.Goals as goal

pub routers-preserved : goal.routers-preserved
routers-preserved c =
    let routers = c.args.network.now in
    let kept = is_kept routers c.args.names.now in
    let configs = c.routers-config-items.result.now in
    let same = c.routers-config-items.ensures.routers in
    let i = c.routers.router in
    let x = config_view c.config-item.result in
    let lt : i < length configs = c.routers-test.true in
    let split : drop i routers ≡ x ∷ drop (i + 1) routers =
    ap (drop i) (sym same) ∙ drop_view config_view configs i c.config-item.result c.config-item.is lt ∙ ap (λ (cs : List ConfigView). x ∷ drop (i + 1) cs) same in
    let mark : c.index.result.now ≡ kept i = c.index.ensures ∙ get_or_default c.in_ok-kept.kept.items i c.index.result.now false (omega (arith, c.in_ok-kept.ensures.0, ap length same, length-map configs config_view)) ∙ c.in_ok-kept.ensures.1 i (omega (arith, ap length same, length-map configs config_view)) in
    let grown : c.resize.new.self.items ≡ c.routers.free.items ++ replicate (length x.elements) (not (kept i)) =
    c.in_ok-resize.ensures.items
    ∙ ap (λ (xs : List Bool). xs ++ replicate ((c.len.result + c.len-in-routers.result) - vec_len c.routers.free) (not c.index.result.now)) (take_all (c.len.result + c.len-in-routers.result) c.routers.free.items (omega (arith, c.len.ensures, c.routers.free.ok.0)))
    ∙ ap (λ (n : ℕ). c.routers.free.items ++ replicate n (not c.index.result.now)) {x = (c.len.result + c.len-in-routers.result) - vec_len c.routers.free} {y = length x.elements}
    (omega (arith, c.len.ensures, c.len-in-routers.ensures, c.routers.free.ok.0, c.config-item.result.elements.ok.0, length-map c.config-item.result.elements.items element_view))
    ∙ ap (λ (b : Bool). c.routers.free.items ++ replicate (length x.elements) (not b)) mark in
    ap (λ (xs : List Bool). xs ++ free_from kept (i + 1) (drop (i + 1) routers)) grown
    ∙ append_assoc c.routers.free.items (replicate (length x.elements) (not (kept i))) (free_from kept (i + 1) (drop (i + 1) routers))
    ∙ ap (λ (ys : List Bool). c.routers.free.items ++ ys) (sym (free_next kept i x (drop (i + 1) routers) (drop i routers) split))
    ∙ c.routers.invariant

pub returns : goal.returns
returns c = λ element.
    let routers = c.args.network.now in
    let names = c.args.names.now in
    let kept = is_kept routers names in
    let configs = c.routers-config-items.result.now in
    let all : length routers ≡ length configs = sym (ap length c.routers-config-items.ensures.routers) ∙ length-map configs config_view in
    let items : c.routers.free.items ≡ free_from kept 0 routers =
    sym (append-nil c.routers.free.items) ∙ ap (λ (ys : List Bool). c.routers.free.items ++ ys) (sym (free_end kept c.routers.router c.routers.router routers (omega (arith, all, c.routers-test.false)))) ∙ c.routers.invariant in
    ap (λ (xs : List Bool). slice_index_or xs element false) items ∙ free_of routers names element
