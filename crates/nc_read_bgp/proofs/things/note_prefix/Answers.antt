use Rattle.std.proofs.Common.{List, ap, ◌∙◌, sym}
use Rattle.indexmap.specs.IndexMap.{IndexMap, insert_entry}
use Rattle.nc_types.specs.Cidr.{Cidr, same_prefix}
use Rattle.nc_read_bgp.specs.declared.prefix_draft.PrefixDraft.{PrefixDraft}
use Rattle.nc_read_bgp.specs.Processes.{PrefixFields}
use Rattle.nc_read_bgp.specs.Steps.{no_prefix, prefix_with}
use Rattle.nc_read_bgp.specs.Drafts.{prefix_fields, prefixes_of}
use Rattle.nc_read_bgp.proofs.KeptLemmas.{put_known, put_new}
use Rattle.nc_read_bgp.proofs.things.note_prefix.Goals as goal

pub returns-in-Some : goal.returns-in-Some
returns-in-Some c =
    let with = λ (f : PrefixFields). prefix_with c.args.summary_only c.args.line f in
    ap prefixes_of (c.get_mut.follows.holds c.take.new.self).0
    ∙ put_known same_prefix prefix_fields c.args.prefix no_prefix with c.args.prefixes.now.entries c.in-Some.draft.now c.take.new.self (sym c.in-Some.ensures.value) c.in_ok-take.ensures

pub returns : goal.returns
returns c =
    let with = λ (f : PrefixFields). prefix_with c.args.summary_only c.args.line f in
    ap prefixes_of c.in_ok-insert.ensures.entries
    ∙ ap (λ (es : List (Cidr × PrefixDraft)). prefixes_of (insert_entry same_prefix es c.args.prefix c.take-2.new.self)) (ap (λ (m : IndexMap Cidr PrefixDraft _). m.entries) c.get_mut.follows.holds-at-none)
    ∙ put_new same_prefix prefix_fields c.args.prefix no_prefix with c.args.prefixes.now.entries c.take-2.new.self (sym c.in_default.ensures.value)
    (c.in_ok-take-2.ensures ∙ ap with c.new-draft.ensures)
