use Rattle.std.proofs.Common.{[], ◌∷◌, ◌++◌, ℕ, refl, ap, ◌∙◌}
use Rattle.nc_round.proofs.Drafted.{stood}
use Rattle.nc_round.proofs.likeness.Draft.stand.Goals as goal

pub returns-clause-draft : goal.returns-clause-draft
returns-clause-draft c cs tables seen up draft =
    stood cs tables seen c.args.prefix c.args.self.now (record { standing = c.push.new.self; places = c.push-2.new.self; firsts = c.args.self.now.firsts }) draft up c.in_ok-push.ensures.items
    (c.in_ok-push-2.ensures.items ∙ ap (λ (n : ℕ). c.args.self.now.places.items ++ n ∷ []) (c.len-place.ensures ∙ c.args.self.now.standing.ok.0)) refl
