use Rattle.std.proofs.Common.{List, Option, ℕ, is_some, sym, ap, ◌∙◌}
use Rattle.nc_types.specs.Communities.{put_all, limited}
use Rattle.nc_types.specs.Setting.{set_all}
use Rattle.nc_types.specs.declared.communities.SetCommunity.{SetCommunity}
use Rattle.nc_community.proofs.MergeLemmas.{limited_small}
use Rattle.nc_community.proofs.held.Held.fits.Goals as goal

pub returns-in-None : goal.returns-in-None
returns-in-None c =
    let held : List ℕ = put_all c.self.inside.numbers.now c.self.inside.added.now in
    sym (
    ap (λ (s : Option SetCommunity). is_some (limited (set_all s c.args.self.now))) c.in-None.is
    ∙ ap (λ (l : List ℕ). is_some (limited l)) (sym c.self.view_is)
    ∙ ap is_some (limited_small held c.self.invariant.few)
    )
