use Rattle.std.proofs.Common.{◌≡◌, ◌<◌, List, Some, None, true, length, map, refl, ap, sym, subst, ◌∙◌, arith}
use Rattle.std.specs.Prelude.{slice_get}
use Rattle.std.proofs.lemmas.List.{length-map, length_push}
use Rattle.nc_types.specs.Cidr.{Cidr}
use Rattle.nc_types.specs.Config.{PrefixListView, list_view}
use Rattle.nc_types.specs.declared.config.ListEntry.{ListEntry}
use Rattle.nc_tables.specs.Policy.{permitting_prefix}
use Rattle.nc_policy.specs.Spans.{is_outside}
use Rattle.nc_policy.specs.declared.spans.Span.{Span}
use Rattle.nc_policy.proofs.Permitting.{seen_at}
use Rattle.nc_policy.proofs.Tables.{pushed}
use Rattle.nc_policy.proofs.spans.list_spans.Goals as goal

abbrev Misses : PrefixListView → Span → Type 0
Misses l s = (p : Cidr) → p.base < 4294967296 → is_outside s p.base ≡ true → permitting_prefix p l.entries ≡ None

pub lists-preserved : goal.lists-preserved
lists-preserved c =
    let lists = c.args.lists.now in
    let list = c.list-item.result in
    let old = c.lists.spans.items in
    let span = c.of_list.result in
    let within : c.lists.list-index < length lists = omega arith in
    let at : slice_get (map list_view lists) (length old) ≡ Some (list_view list) =
    ap (slice_get (map list_view lists)) c.lists.invariant.count ∙ seen_at list_view lists lists c.lists.list-index list refl within c.list-item.is in
    let here : Misses (list_view list) span = λ p few out. subst (λ (es : List ListEntry). permitting_prefix p es ≡ None) c.deref.ensures.value (c.of_list.ensures p few out) in
    record {
      count = omega (arith, ap (length {A = Span}) c.in_ok-push.ensures.items, length_push old span);
      each = pushed Misses (map list_view lists) old c.push.new.self.items (list_view list) span c.in_ok-push.ensures.items at here c.lists.invariant.each;
    }

pub returns : goal.returns
returns c =
    let all : c.lists.list-index ≡ length c.args.lists.now = omega arith in
    record { count = c.lists.invariant.count ∙ all ∙ sym (length-map c.args.lists.now list_view); each = c.lists.invariant.each }
