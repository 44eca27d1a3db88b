use Rattle.std.proofs.Common.{◌≡◌, ◌++◌, ◌∷◌, [], ℕ, List, map, sym, ap, ◌∙◌, arith}
use Rattle.std.proofs.lemmas.List.{map_push}
use Rattle.std.proofs.lemmas.List.FromFn.{map-range_with_len_more}
use Rattle.std.proofs.lemmas.Simd.{map-map}
use Rattle.nc_gen.specs.declared.generated.GenFile.{GenFile}
use Rattle.nc_gen.specs.Tree.{below}
use Rattle.nc_gen.specs.Shape.{router_at, router_count}
use Rattle.nc_gen.specs.Files.{FileView, file_of, file_view}
use Rattle.nc_gen.proofs.ShapeLemmas.{routers-are}
use Rattle.nc_gen.proofs.generated.files_of.Goals as goal

pub routers-preserved : goal.routers-preserved
routers-preserved c =
    let n = c.routers.number in
    let made = λ (number : ℕ). file_of c.args.tree (router_at c.args.tree number) in
    ap (λ (fs : List GenFile). map file_view fs) c.in_ok-push.ensures.items ∙ map_push file_view c.routers.files.items c.in_ok-file_of.field-0
    ∙ ap (λ (fs : List FileView). fs ++ file_view c.in_ok-file_of.field-0 ∷ []) c.routers.invariant
    ∙ ap (λ (f : FileView). map made (below n) ++ f ∷ []) c.in_ok-file_of.ensures
    ∙ sym (map-range_with_len_more made 0 n n (omega arith))

pub returns : goal.returns
returns c =
    let t = c.args.tree in
    let all : c.routers.number ≡ router_count t = omega arith in
    c.routers.invariant ∙ ap (λ (n : ℕ). map (λ (number : ℕ). file_of t (router_at t number)) (below n)) all
    ∙ sym (map-map (file_of t) (router_at t) (below (router_count t))) ∙ ap (map (file_of t)) (routers-are t c.requires)
