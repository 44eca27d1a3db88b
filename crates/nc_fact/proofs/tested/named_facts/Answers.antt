use Rattle.std.proofs.Common.{ap, ◌∙◌}
use Rattle.nc_fact.specs.Tested.{packet_of, flow_packet_of}
use Rattle.nc_fact.proofs.tested.named_facts.Goals as goal

pub facts_of_reach-requires : goal.facts_of_reach-requires
facts_of_reach-requires c = record { traced = λ start e. c.requires.traced start (ap (packet_of c.args.state.now) c.in-Reach.is ∙ e) }

pub facts_of_every-requires : goal.facts_of_every-requires
facts_of_every-requires c = record { traced = λ start e. c.requires.traced start (ap (packet_of c.args.state.now) c.in-Every.is ∙ e) }

pub facts_of_flow-requires : goal.facts_of_flow-requires
facts_of_flow-requires c = record { flowing = λ start e. c.requires.flowing start (ap (flow_packet_of c.args.state.now) c.in-Flow.is ∙ e) }
