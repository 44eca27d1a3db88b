use Rattle.nc_rules_route.proofs.SentFacts.{entry_accepted, message_sent}
use Rattle.nc_rules_route.proofs.parents.push_parents.Goals as goal

pub push_message-requires-clause-sent : goal.push_message-requires-clause-sent
push_message-requires-clause-sent c = let is = c.in-Message in message_sent c.args.state.now c.args.fact.now is.router is.place is.prefix is.is c.requires.holds

pub push_entry-requires-clause-accepted : goal.push_entry-requires-clause-accepted
push_entry-requires-clause-accepted c = let is = c.in-Entry in entry_accepted c.args.state.now c.args.fact.now is.router is.place is.prefix is.is c.requires.holds
