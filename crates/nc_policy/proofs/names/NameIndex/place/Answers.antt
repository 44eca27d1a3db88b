use Rattle.std.proofs.Common.{sym, ◌∙◌}
use Rattle.nc_policy.proofs.Naming.{named_seen}
use Rattle.nc_policy.proofs.names.NameIndex.place.Goals as goal

pub returns : goal.returns
returns c = c.copied.ensures ∙ c.get.ensures.value ∙ sym (named_seen c.args.self.now.first.entries c.args.name.now)
