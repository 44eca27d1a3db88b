use Rattle.std.proofs.Common.{◌∙◌, sym}
use Rattle.nc_command.proofs.CutLemmas.{feed_none, at_feed}
use Rattle.nc_command.proofs.cutter.cut_at_feed.Goals as goal

pub returns-in_err-at : goal.returns-in_err-at
returns-in_err-at c = rw c.from_residual.ensures (feed_none c.args.piece.now (sym c.feed_place.ensures ∙ c.in_err-at.was))

pub returns : goal.returns
returns c = at_feed c.args.piece.now c.in_ok-at.at (sym c.feed_place.ensures ∙ c.in_ok-at.was) c.split_at.result.0.now c.split_at-2.result.1.now c.split_at.ensures.front c.split_at-2.ensures.back
