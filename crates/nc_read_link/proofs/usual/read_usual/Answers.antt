use Rattle.std.proofs.Common.{sym, ◌∙◌, true, false, codes}
use Rattle.nc_read_link.specs.declared.setting.Setting.TheVariants.{NoAddress, Shut}
use Rattle.nc_read_link.proofs.UsualLemmas.{is_usual, shut_says, open_says, bare_says}
use Rattle.nc_read_link.proofs.usual.read_usual.Goals as goal

pub returns-then-is_word : goal.returns-then-is_word
returns-then-is_word c = is_usual c.args.line.now (codes " shutdown") (Shut true) (sym c.is_word.ensures ∙ c.if-is_word.true) shut_says

pub returns-then-is_word-2 : goal.returns-then-is_word-2
returns-then-is_word-2 c = is_usual c.args.line.now (codes " no ip address") NoAddress (sym c.is_word-2.ensures ∙ c.if-is_word-2.true) bare_says

pub returns-then-is_word-3 : goal.returns-then-is_word-3
returns-then-is_word-3 c = is_usual c.args.line.now (codes " no shutdown") (Shut false) (sym c.is_word-3.ensures ∙ c.if-is_word-3.true) open_says
