use Rattle.std.proofs.Common.{◌≡◌, ℕ, List, ◌∙◌, sym, subst, Some, None}
use Rattle.std.specs.Global.{Vec}
use Rattle.std.specs.BTreeMap.{BTreeMap, UpdatesBy}
use Rattle.std.specs.Cmp.Lexicographic.{slice_cmp}
use Rattle.std.specs.Ordering.{nat_cmp}
use Rattle.nc_types.specs.declared.config.RouterId.{RouterId}
use Rattle.nc_types.specs.Tables.{named_by}
use Rattle.nc_types.proofs.Options.{is_none}
use Rattle.nc_types.proofs.Naming.{claimed_name}
use Rattle.nc_types.proofs.network.names.claim_name.Goals as goal

pub returns : goal.returns
returns c q =
    let m : BTreeMap (Vec ℕ) RouterId = c.args.names.now in
    let name : List ℕ = c.args.name.now in
    let none : named_by m name ≡ None = is_none (named_by m name) (sym c.contains_key.ensures ∙ c.if-contains_key.false) in
    let updates : UpdatesBy (λ (x y : Vec ℕ). slice_cmp nat_cmp x.items y.items) (λ (k : Vec ℕ). slice_cmp nat_cmp name k.items) m c.insert.new.self (Some c.args.router) =
    subst (λ (l : List ℕ). UpdatesBy (λ (x y : Vec ℕ). slice_cmp nat_cmp x.items y.items) (λ (k : Vec ℕ). slice_cmp nat_cmp l k.items) m c.insert.new.self (Some c.args.router)) c.in_ok-from_slice.ensures.items c.in_ok-insert.ensures.updates in
    claimed_name name m c.insert.new.self c.args.router updates none q
