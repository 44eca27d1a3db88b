use Rattle.std.proofs.Common.{◌≡◌, ◌++◌, ◌∷◌, [], ℕ, List, All, map, sym, ap, ◌∙◌, subst, arith}
use Rattle.std.proofs.lemmas.List.Elements.{All-push}
use Rattle.std.proofs.lemmas.List.FromFn.{map-range_with_len_more}
use Rattle.nc_gen.specs.declared.tree.Link.{Link}
use Rattle.nc_gen.specs.Tree.{below}
use Rattle.nc_gen.specs.Shape.{IsSmall, link_at, link_count}
use Rattle.nc_gen.proofs.ShapeLemmas.{links-are}
use Rattle.nc_gen.proofs.tree.Tree.links.Goals as goal

pub links-preserved : goal.links-preserved
links-preserved c =
    let t = c.args.self in
    let n = c.links.number in
    let items = c.in_ok-push.ensures.items in
    record {
      links = items ∙ ap (λ (ls : List Link). ls ++ c.link.result ∷ []) c.links.invariant.links ∙ ap (λ (l : Link). map (link_at t) (below n) ++ l ∷ []) c.link.ensures.link
          ∙ sym (map-range_with_len_more (link_at t) 0 n n (omega arith));
      small = subst (All IsSmall) (sym items) (All-push IsSmall c.links.links.items c.link.result c.links.invariant.small c.link.ensures.small);
    }

pub returns-clause-links : goal.returns-clause-links
returns-clause-links c =
    let t = c.args.self in
    let all : c.links.number ≡ link_count t = omega arith in
    c.links.invariant.links ∙ ap (λ (n : ℕ). map (link_at t) (below n)) all ∙ links-are t c.requires
