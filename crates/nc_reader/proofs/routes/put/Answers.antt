use Rattle.std.proofs.Common.{◌≡◌, [], ◌∷◌, ◌++◌, map, Bool, true, false, cond, Some, ℕ, sym, ap, ◌∙◌, length}
use Rattle.std.specs.List.{list_any}
use Rattle.std.proofs.lemmas.List.{length-map}
use Rattle.std.proofs.lemmas.Bool.{not-false, not-true}
use Rattle.nc_reader.specs.contracts.routes.RouteKeyPartialEq.TheImpl.{eq-value}
use Rattle.nc_reader.specs.Things.{Routed}
use Rattle.nc_reader.specs.Parts.{static_part, key_view, with_statement}
use Rattle.nc_lines.specs.Groups.{changed_at}
use Rattle.nc_reader.proofs.GroupLemmas.{length-changed_at}
use Rattle.nc_reader.proofs.RouteLemmas.{known-new, known-same, made-new, made-same}
use Rattle.nc_reader.proofs.routes.put.Goals as goal

pub returns-in_ok-add-clause-more : goal.returns-in_ok-add-clause-more
returns-in_ok-add-clause-more c = λ rs same.
    let r : Routed = record { line = c.args.line; route = c.args.route } in
    let k = c.in_ok-key_of.field-0 in
    let keys = c.args.keys.now.keys in
    let new : list_any ((eq-value).it k) keys ≡ false = not-true _ (sym c.in_ok-place.ensures.added ∙ c.if-is_new.true) in
    record {
      known = ap (map key_view) (c.in_ok-place.ensures.keys ∙ ap (λ (b : Bool). cond b keys (keys ++ k ∷ [])) new) ∙ known-new keys k rs r c.in_ok-key_of.ensures same.known new;
      made = ap (map (λ p. Some p)) c.in_ok-add.ensures ∙ made-new keys k (map static_part c.args.parts.now.items) rs r c.in_ok-key_of.ensures same.known new same.made;
    }

pub returns-in_ok-renew-clause-same : goal.returns-in_ok-renew-clause-same
returns-in_ok-renew-clause-same c =
    let k = c.in_ok-key_of.field-0 in
    let keys = c.args.keys.now.keys in
    let there : list_any ((eq-value).it k) keys ≡ true = not-false _ (sym c.in_ok-place.ensures.added ∙ c.if-is_new.false) in
    let kept : c.insert_full.new.self.keys ≡ keys = c.in_ok-place.ensures.keys ∙ ap (λ (b : Bool). cond b keys (keys ++ k ∷ [])) there in
    ap length kept ∙ c.requires ∙ sym (length-map c.args.parts.now.items static_part) ∙ sym (length-changed_at (with_statement c.args.line c.args.route) c.in_ok-place.place (map static_part c.args.parts.now.items))
    ∙ ap length (sym c.in_ok-renew.ensures) ∙ length-map c.renew.new.parts.items static_part

pub returns-in_ok-renew-clause-more : goal.returns-in_ok-renew-clause-more
returns-in_ok-renew-clause-more c = λ rs same.
    let r : Routed = record { line = c.args.line; route = c.args.route } in
    let k = c.in_ok-key_of.field-0 in
    let keys = c.args.keys.now.keys in
    let there : list_any ((eq-value).it k) keys ≡ true = not-false _ (sym c.in_ok-place.ensures.added ∙ c.if-is_new.false) in
    record {
      known = ap (map key_view) (c.in_ok-place.ensures.keys ∙ ap (λ (b : Bool). cond b keys (keys ++ k ∷ [])) there) ∙ known-same keys k rs r c.in_ok-key_of.ensures same.known there;
      made = ap (map (λ p. Some p)) (c.in_ok-renew.ensures ∙ ap (λ (n : ℕ). changed_at (with_statement c.args.line c.args.route) n (map static_part c.args.parts.now.items)) c.in_ok-place.ensures.index)
          ∙ made-same keys k (map static_part c.args.parts.now.items) rs r c.in_ok-key_of.ensures same.known there same.made;
    }
