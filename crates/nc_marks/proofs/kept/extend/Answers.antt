use Rattle.std.proofs.Common.{◌+◌, ◌≤◌, ◌||◌, length, take, slice_index_or, sym, ap, subst, ◌∙◌}
use Rattle.nc_graph.specs.Derivation.{strong}
use Rattle.nc_marks.specs.Sets.{ArePlaced, Grows, IsAt, has_node, in_some}
use Rattle.nc_graph.specs.Nodes.{node_flow}
use Rattle.nc_marks.proofs.RaiseLemmas.{reached-same}
use Rattle.nc_marks.proofs.kept.extend.Goals as goal

pub returns-clause-reached : goal.returns-clause-reached
returns-clause-reached g c = λ live are.
    c.in_ok-news.ensures.reached live (reached-same (node_flow c.args.graph.now) live c.args.nodes.now.reached.items c.add_flags.new.reached.items c.add_flags.ensures.flags are)

pub returns-clause-width : goal.returns-clause-width
returns-clause-width g c =
    ap (λ v. v.width) c.reach_more.ensures.gathered ∙ c.add_places.ensures.width

pub returns-clause-grows : goal.returns-clause-grows
returns-clause-grows g c =
    subst (Grows c.args.nodes.now.sets) (sym c.reach_more.ensures.sets) c.add_places.ensures.grows

pub returns-clause-places : goal.returns-clause-places
returns-clause-places g c =
    ap (λ v. take (length c.args.nodes.now.places.items) v.items) c.reach_more.ensures.places ∙ c.add_places.ensures.kept

pub returns-clause-placed : goal.returns-clause-placed
returns-clause-placed g c =
    subst (λ t. ArePlaced t c.reach_more.new.nodes.places.items) (sym c.reach_more.ensures.sets) (subst (λ v. ArePlaced c.add_places.new.sets v.items) (sym c.reach_more.ensures.places) c.add_places.ensures.within)

pub returns-in_err-news-clause-width : goal.returns-in_err-news-clause-width
returns-in_err-news-clause-width g c =
    ap (λ v. v.width) c.reach_more.ensures.gathered ∙ c.add_places.ensures.width

pub returns-in_err-news-clause-grows : goal.returns-in_err-news-clause-grows
returns-in_err-news-clause-grows g c =
    subst (Grows c.args.nodes.now.sets) (sym c.reach_more.ensures.sets) c.add_places.ensures.grows

pub returns-in_err-news-clause-places : goal.returns-in_err-news-clause-places
returns-in_err-news-clause-places g c =
    ap (λ v. take (length c.args.nodes.now.places.items) v.items) c.reach_more.ensures.places ∙ c.add_places.ensures.kept

pub returns-in_err-news-clause-placed : goal.returns-in_err-news-clause-placed
returns-in_err-news-clause-placed g c =
    subst (λ t. ArePlaced t c.reach_more.new.nodes.places.items) (sym c.reach_more.ensures.sets) (subst (λ v. ArePlaced c.add_places.new.sets v.items) (sym c.reach_more.ensures.places) c.add_places.ensures.within)

pub returns-clause-few : goal.returns-clause-few
returns-clause-few g c =
    subst (λ t. length t.sets ≤ length c.reach_more.new.nodes.places.items + 1) (sym c.reach_more.ensures.sets) (subst (λ v. length c.add_places.new.sets.sets ≤ length v.items + 1) (sym c.reach_more.ensures.places) c.in_ok-add_places.ensures.few)

pub returns-clause-len : goal.returns-clause-len
returns-clause-len g c =
    ap (λ v. length v.items) c.reach_more.ensures.places ∙ c.in_ok-add_places.ensures.len

pub returns-clause-sets : goal.returns-clause-sets
returns-clause-sets g c =
    λ was i lt. subst (λ t. IsAt t (slice_index_or c.reach_more.new.nodes.places.items i 0) (λ e. strong (node_flow c.args.graph.now) e i)) (sym c.reach_more.ensures.sets)
    (subst (λ v. IsAt c.add_places.new.sets (slice_index_or v.items i 0) (λ e. strong (node_flow c.args.graph.now) e i)) (sym c.reach_more.ensures.places) (c.in_ok-add_places.ensures.strong was i lt))

pub returns-clause-raised : goal.returns-clause-raised
returns-clause-raised g c =
    λ i. c.in_ok-news.ensures.raised i ∙ ap (λ b. has_node c.in_ok-news.news.raised.items i || b) (c.add_flags.ensures.flags i)

pub returns-clause-strong : goal.returns-clause-strong
returns-clause-strong g c =
    λ e lt other low.
    ap (λ t. in_some t c.reach_more.new.nodes.places.items c.args.tested.now e) c.reach_more.ensures.sets ∙ ap (λ v. in_some c.add_places.new.sets v.items c.args.tested.now e) c.reach_more.ensures.places ∙ c.in_ok-news.ensures.strong e lt other low

pub returns-clause-valid : goal.returns-clause-valid
returns-clause-valid g c =
    c.in_ok-news.ensures.valid

pub returns-clause-within : goal.returns-clause-within
returns-clause-within g c =
    c.in_ok-news.ensures.within

pub returns-clause-some : goal.returns-clause-some
returns-clause-some g c =
    c.in_ok-news.ensures.some
