use Rattle.std.proofs.Common.{◌≡◌, ℕ, List, [], ◌++◌, map, Option, Result, sym, ap, ◌∙◌}
use Rattle.std.specs.List.{filter_map}
use Rattle.nc_types.specs.Faults.{lowest}
use Rattle.nc_types.specs.declared.fault.Fault.{Fault}
use Rattle.nc_reader.specs.Roles.{roles_from}
use Rattle.nc_reader.specs.Configuration.{wrong_at, topics_of, process_number, parts_of, odd_faults}
use Rattle.nc_reader.specs.Parts.{part_view, parts_by}
use Rattle.nc_reader.specs.Things.{Part, ok_of, err_of}
use Rattle.nc_reader.specs.declared.things.Part.{Part as PartRead}
use Rattle.nc_reader.specs.Topics.{process_among}
use Rattle.nc_reader.proofs.ConfigLemmas.{read-blocks}
use Rattle.nc_reader.proofs.LowestFaults.{lowest_same}
use Rattle.nc_reader.proofs.parts.read_parts.Goals as goal

pub returns : goal.returns
returns c =
    let lines = c.args.lines.now in
    let seen = c.in_ok-name.ensures in
    let gathered = c.in_ok-name.field-0 in
    let process : Option ℕ = c.process_among-process.result in
    let number : process ≡ process_number (roles_from [] lines) = c.process_among-process.ensures ∙ ap process_among (c.as_slice.ensures.keys ∙ seen.topics) in
    let read : parts_by lines process gathered.topics.keys gathered.lines.items ≡ parts_of lines (roles_from [] lines) =
    ap (λ (o : Option ℕ). parts_by lines o gathered.topics.keys gathered.lines.items) number
    ∙ read-blocks lines (process_number (roles_from [] lines)) gathered.topics.keys gathered.lines.items (topics_of (roles_from [] lines)) seen.topics seen.spoken in
    let wrongs : List Fault = filter_map (λ r. wrong_at r.line r.role) (roles_from [] lines) in
    let made = c.in_ok-read.ensures.parts ∙ ap (filter_map ok_of) read in
    let told = c.in_ok-read.ensures.told wrongs seen.fault ∙ ap (λ (rs : List (Result Part Fault)). lowest (wrongs ++ filter_map err_of rs)) read in
    let faults : List Fault = wrongs ++ filter_map err_of (parts_of lines (roles_from [] lines)) in
    record {
      name = seen.name;
      made = made;
      fault = c.in_ok-fault.ensures faults told ∙ ap (λ (ps : List PartRead). lowest (faults ++ odd_faults (map part_view ps))) c.deref.ensures.value
          ∙ ap (λ (ps : List Part). lowest (faults ++ odd_faults ps)) made ∙ sym (lowest_same lines);
    }
