use Rattle.nc_message.proofs.messages.message_of.Goals as goal

pub returns-clause-message : goal.returns-clause-message
returns-clause-message c = c.in_ok-out.ensures.message

pub returns-clause-feasible : goal.returns-clause-feasible
returns-clause-feasible c = record { short = c.in_ok-out.ensures.short; few = c.in_ok-out.ensures.few }
