use Rattle.nc_reader.specs.Readings.{topic_of}
use Rattle.nc_reader.proofs.AskedLemmas.{found_at}
use Rattle.nc_reader.proofs.groups.looked_up.Goals as goal

pub returns-in-List : goal.returns-in-List
returns-in-List c = found_at (topic_of c.args.subject) c.args.topics.now.keys _ c.get_index_of.ensures.index c.get_index_of.ensures.found

pub returns-in-Communities : goal.returns-in-Communities
returns-in-Communities c = found_at (topic_of c.args.subject) c.args.topics.now.keys _ c.get_index_of-in-Communities.ensures.index c.get_index_of-in-Communities.ensures.found
