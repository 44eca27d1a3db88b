use Rattle.std.proofs.Common.{◌<◌, List, [], ◌∷◌, ◌++◌, Option, Some, IfSome, slice_get, length, refl, sym, ap, subst, ◌∙◌}
use Rattle.std.proofs.lemmas.Option.{slice_get-get_or}
use Rattle.nc_types.specs.Cidr.{Cidr}
use Rattle.nc_types.specs.declared.config.RouterId.{RouterId}
use Rattle.nc_round.specs.Likeness.{BeginsAlone}
use Rattle.nc_round.proofs.Drafted.{joined, last_is, noted_first}
use Rattle.nc_round.proofs.likeness.Draft.take.Goals as goal

pub returns-in_default-clause-draft : goal.returns-in_default-clause-draft
returns-in_default-clause-draft c cs tables seen up alone draft = c.in_ok-stand.ensures.draft cs tables seen up draft

pub returns-in-Some-index-clause-draft : goal.returns-in-Some-index-clause-draft
returns-in-Some-index-clause-draft c cs tables seen up alone draft =
    let d = c.args.self.now in
    let router = c.in-Some.router.0 in
    let own : BeginsAlone cs tables c.args.prefix router = subst (λ (o : Option RouterId). IfSome o (λ r. BeginsAlone cs tables c.args.prefix r.0)) c.in-Some.is alone in
    let within : router < length d.firsts.items = subst (λ (o : Option RouterId). IfSome o (λ r. r.0 < length d.firsts.items)) c.in-Some.is c.requires.within in
    joined cs tables seen c.args.prefix d (record { standing = d.standing; places = c.push.new.self; firsts = d.firsts }) draft router c.in-Some-index.place own
    (slice_get-get_or d.firsts.items router c.index.result.now within ∙ ap Some (sym c.index.ensures ∙ c.in-Some-index.is)) refl c.in_ok-push.ensures.items refl

pub returns-clause-draft : goal.returns-clause-draft
returns-clause-draft c cs tables seen up alone draft =
    let d = c.args.self.now in
    let router = c.in-Some.router.0 in
    let own : BeginsAlone cs tables c.args.prefix router = subst (λ (o : Option RouterId). IfSome o (λ r. BeginsAlone cs tables c.args.prefix r.0)) c.in-Some.is alone in
    noted_first cs tables (seen ++ c.args.prefix ∷ []) c.args.prefix c.stand-2.new.self _ router c.in_ok-place.place (c.in_ok-place.ensures.draft cs tables seen up draft) own
    (ap (λ (l : List Cidr). slice_get l c.in_ok-place.place) c.in_ok-place.ensures.standing ∙ ap (slice_get (d.standing.items ++ c.args.prefix ∷ [])) c.in_ok-place.ensures.place ∙ last_is d.standing.items c.args.prefix) refl refl refl
