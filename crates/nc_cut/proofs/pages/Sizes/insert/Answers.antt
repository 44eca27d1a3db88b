use Rattle.std.proofs.Common.{◌+◌, ◌%◌, set, sym, ap, ◌∙◌, arith}
use Rattle.nc_cut.specs.Pages.{known_at}
use Rattle.nc_cut.proofs.PageLemmas.{put_others}
use Rattle.nc_cut.proofs.pages.Sizes.insert.Goals as goal

pub returns-clause-others : goal.returns-clause-others
returns-clause-others c =
    λ q ne.
    let starts = c.page.new.self.starts.items in
    let slots = c.page.new.self.slots.items in
    ap (λ start. known_at starts (set slots (start + c.args.place % 256) c.slot_with.result) q) (sym c.in_ok-start.ensures.start.1)
    ∙ put_others starts slots c.page.new.self.paged c.args.place c.slot_with.result (omega (arith, c.in_ok-start.ensures.start)) q ne
    ∙ c.in_ok-start.ensures.same q
