use Rattle.std.proofs.Common.{◌≡◌, ◌∙◌, [], ap, sym, subst, inl, inr}
use Rattle.clap.specs.Faults.{fault_of, is_simple_and_free}
use Rattle.clap.specs.Matches.{found_of}
use Rattle.clap.specs.Simple.{app_of, matches_of}
use Rattle.clap.specs.Simple
use Rattle.clap.specs.Walk.{rows_of}
use Rattle.clap.specs.Kinds.{IsAmong}
use Rattle.clap.specs.Values.{kind_of}
use Rattle.nc_words.specs.Command.{netcov_app}
use Rattle.nc_words.specs.Words.{texts}
use Rattle.nc_words.specs.declared.request.WordsFault.TheVariants as WordsFault
use Rattle.nc_words.proofs.Parsed.{are_texts, failed, found_values, is_simple, is_simple_app, parsed}
use Rattle.nc_words.proofs.read.parse.Goals as goal

pub returns-in-Ok-clause-asked : goal.returns-in-Ok-clause-asked
returns-in-Ok-clause-asked c =
    let words = texts c.args.words.now in
    let app : app_of c.in_ok-command.command ≡ netcov_app = c.in_ok-command.ensures in
    let none : fault_of netcov_app words ≡ [] = ap (λ a. fault_of a words) (sym app) ∙ c.in-Ok.ensures.kinds (ap is_simple_and_free app ∙ is_simple) in
    let rows : rows_of (found_of c.in-Ok.matches) ≡ matches_of netcov_app words = (c.in-Ok.ensures.matches (ap Simple.is_simple app ∙ is_simple_app)).0 ∙ ap (λ a. matches_of a words) app in
    parsed words (are_texts c.args.words.now) none ∙ sym (found_values c.in-Ok.matches words rows)

pub returns-in-Err-clause-refused : goal.returns-in-Err-clause-refused
returns-in-Err-clause-refused c = λ usage.
    let words = texts c.args.words.now in
    let app : app_of c.in_ok-command.command ≡ netcov_app = c.in_ok-command.ensures in
    failed words (are_texts c.args.words.now) (λ none.
    let same : fault_of (app_of c.in_ok-command.command) words ≡ [] = ap (λ a. fault_of a words) app ∙ none in
    elim (c.in-Err.ensures.kinds (ap is_simple_and_free app ∙ is_simple)) [
      | inl memory ↦
          let is : c.fault_of.result ≡ WordsFault.Memory = c.fault_of.ensures (c.kind.ensures ∙ memory) in
          cc
      | inr among ↦ subst (IsAmong (kind_of c.in-Err.error)) same among
    ])
