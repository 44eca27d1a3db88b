use Rattle.std.proofs.Common.{◌≤◌, ℕ, List, [], ◌∷◌, ◌++◌, Result, Ok, length, map, get_or, sym, ap, ◌∙◌, arith}
use Rattle.std.proofs.lemmas.List.{map_push}
use Rattle.nc_types.specs.declared.fault.Fault.{Fault}
use Rattle.nc_types.specs.declared.communities.CommunityEntry.{CommunityEntry}
use Rattle.nc_read_policy.specs.Results.{ok_map}
use Rattle.nc_reader.specs.Parts.{community_line}
use Rattle.nc_reader.specs.Things.{CommunityPart, community_part}
use Rattle.nc_reader.proofs.ReadLemmas.{fault_map, clean_more, read_more, all_clean, stops}
use Rattle.nc_reader.proofs.communities.read_communities.Goals as goal

pub returns-in-Err : goal.returns-in-Err
returns-in-Err c = stops (community_part c.args.lines.now) c.args.places.now c.entries.line-index 0 c.in-Err.fault c.entries-test.true c.entries.invariant.clean (fault_map c.in-Err.fault _ _ c.in-Err.ensures)

pub entries-preserved : goal.entries-preserved
entries-preserved c =
    let lines = c.args.lines.now in
    let ks = c.args.places.now in
    let i = c.entries.line-index in
    let part : List ℕ × CommunityEntry → CommunityPart = λ named. record { entry = named.1; line = get_or ks i 0 } in
    let as_part : Result (List ℕ × CommunityEntry) Fault → Result CommunityPart Fault = ok_map part in
    let read = ap as_part c.in-Ok.ensures in
    record {
      parts =
          ap (map community_line) c.in_ok-push.ensures.items ∙ map_push community_line c.entries.parts.items _ ∙ ap (λ (ps : List CommunityPart). ps ++ part c.in-Ok.named ∷ []) c.entries.invariant.parts
          ∙ sym (read_more (community_part lines) ks i 0 _ c.entries-test.true read);
      clean = clean_more (community_part lines) ks i 0 _ c.entries-test.true c.entries.invariant.clean read;
    }

pub returns : goal.returns
returns c =
    let done : length c.args.places.now ≤ c.entries.line-index = omega arith in
    let whole : List CommunityPart → Result (List CommunityPart) Fault = λ ps. Ok ps in
    all_clean (community_part c.args.lines.now) c.args.places.now c.entries.line-index done c.entries.invariant.clean ∙ ap whole (sym c.entries.invariant.parts)
