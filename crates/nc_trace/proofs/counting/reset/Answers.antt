use Rattle.std.proofs.Common.{◌≡◌, ◌++◌, ◌-◌, ℕ, List, [], suc, take, replicate, ap, ◌∙◌, arith}
use Rattle.std.specs.Vec.{vec_len}
use Rattle.std.proofs.lemmas.List.{take_all}
use Rattle.nc_types.specs.declared.TheConstants.{HOP_LIMIT}
use Rattle.nc_trace.proofs.counting.reset.Goals as goal

pub returns : goal.returns
returns c =
    let n = c.args.count in
    let cleared = c.clear.new.self in
    let empty : take n cleared.items ≡ [] = ap (take n) c.clear.ensures.items ∙ take_all {A = ℕ} n [] (omega arith) in
    let size : n - vec_len cleared ≡ n = omega (arith, c.clear.ensures.len) in
    c.in_ok-resize.ensures.items
    ∙ ap (λ (numbers : List ℕ). numbers ++ replicate (n - vec_len cleared) (suc HOP_LIMIT)) empty
    ∙ ap (λ (k : ℕ). replicate k (suc HOP_LIMIT)) size
