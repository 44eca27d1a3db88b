use Rattle.std.proofs.Common.{rules, ◌≡◌, ◌∙◌, ap, ap₂, true}
use Rattle.clap.specs.Walk.{rule_of}
use Rattle.clap.specs.Simple.{App, Shape, app_of, app_of_fields, on_top, with_rule}
use Rattle.nc_words.specs.Command.{bare_app, fat_tree_rule, file_rule, rounds_rule}
use Rattle.nc_words.proofs.command.netcov_command.Goals as goal

abbrev behind_the_name : App → App
behind_the_name = on_top (λ (s : Shape). record s { no_binary_name = true })

abbrev without_help : App → App
without_help = on_top (λ (s : Shape). record s { disable_help_flag = true })

abbrev without_version : App → App
without_version = on_top (λ (s : Shape). record s { disable_version_flag = true })

pub returns : goal.returns
returns c =
    let rounds : rule_of c.long-rounds.result ≡ rounds_rule = search rules in
    let fat_tree : rule_of c.long-fat_tree.result ≡ fat_tree_rule = search rules in
    let file : rule_of c.action-file.result ≡ file_rule = search rules in
    let bare : app_of c.disable_version_flag-command.result ≡ bare_app =
    ap app_of_fields c.disable_version_flag-command.ensures
    ∙ ap without_version (ap app_of_fields c.disable_help_flag.ensures
    ∙ ap without_help (ap app_of_fields c.no_binary_name.ensures
    ∙ ap behind_the_name c.new-4.ensures.app)) in
    c.in_ok-command.ensures.shape (search rules)
    ∙ ap₂ with_rule (c.in_ok-arg-2.ensures.shape (search rules)
    ∙ ap₂ with_rule (c.in_ok-arg.ensures.shape (search rules) ∙ ap₂ with_rule bare rounds) fat_tree) file
