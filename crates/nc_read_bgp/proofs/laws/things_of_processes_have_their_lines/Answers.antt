use Rattle.nc_read_bgp.proofs.LawLemmas.{well_formed, have_lines_beside, have_lines, own_line, own_number, are_within, ascend, are_apart}
use Rattle.nc_read_bgp.proofs.laws.things_of_processes_have_their_lines.Goals as goal

pub returns-clause-well_formed : goal.returns-clause-well_formed
returns-clause-well_formed c = well_formed

pub returns-clause-beside : goal.returns-clause-beside
returns-clause-beside c = have_lines_beside

pub returns-clause-some : goal.returns-clause-some
returns-clause-some c = have_lines

pub returns-clause-own : goal.returns-clause-own
returns-clause-own c = own_line

pub returns-clause-number : goal.returns-clause-number
returns-clause-number c = own_number

pub returns-clause-within : goal.returns-clause-within
returns-clause-within c = are_within

pub returns-clause-ascend : goal.returns-clause-ascend
returns-clause-ascend c = ascend

pub returns-clause-apart : goal.returns-clause-apart
returns-clause-apart c = are_apart
