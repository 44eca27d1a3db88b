use Rattle.nc_command.proofs.TextLemmas.{line-text}
use Rattle.nc_command.proofs.laws.text_is_the_words.Goals as goal

pub returns : goal.returns
returns c = λ line test asked. line-text line test asked
