use Rattle.std.proofs.Common.{◌++◌, ◌∷◌, [], List, ap, ◌∙◌}
use Rattle.std.proofs.lemmas.List.{map_push}
use Rattle.nc_types.specs.Cidr.{Cidr}
use Rattle.nc_tables.specs.declared.ribs.Numbered.{Numbered}
use Rattle.nc_round.specs.Rows.{prefixes_of}
use Rattle.nc_round.proofs.waking.add_numbered.Goals as goal

-- the prefix has a number
pub returns-in_default-clause-prefixes : goal.returns-in_default-clause-prefixes
returns-in_default-clause-prefixes c = absurd (c.in_default.ensures.none c.requires.known)

pub returns-clause-prefixes : goal.returns-clause-prefixes
returns-clause-prefixes c =
    let before : List Numbered = c.args.noted.now.items in
    ap prefixes_of c.in_ok-push.ensures.items ∙ map_push (λ (n : Numbered). n.prefix) before c.in-Some.of
    ∙ ap (λ (p : Cidr). prefixes_of before ++ p ∷ []) c.in-Some.ensures.same
