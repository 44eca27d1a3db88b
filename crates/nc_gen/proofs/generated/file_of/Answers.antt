use Rattle.std.proofs.Common.{◌≡◌, ℕ, List, sym, ap, ◌∙◌, subst}
use Rattle.nc_gen.specs.declared.tree.Router.{Router}
use Rattle.nc_gen.specs.declared.tree.Link.{Link}
use Rattle.nc_gen.specs.declared.ports.Port.{Port}
use Rattle.nc_gen.specs.Tree.{links, number_of, ports_in}
use Rattle.nc_gen.specs.Files.{text_of, name_of, file_name, config_lines, FileView, file_of}
use Rattle.nc_gen.proofs.generated.file_of.Goals as goal

pub returns : goal.returns
unfolding file_of
returns c =
    let t = c.args.tree in
    let router = c.router-router.result in
    let made : List ℕ → List ℕ → FileView = λ name bytes. record { name = name; bytes = bytes } in
    let name : c.in_ok-new.field-0 ≡ file_name (name_of router) =
    c.in_ok-new.ensures ∙ c.as_bytes.ensures.value ∙ c.in_ok-file_name.ensures ∙ ap file_name (c.deref.ensures ∙ c.in_ok-name.ensures) in
    let bytes : c.in_ok-config_text.field-0.items ≡ text_of (config_lines t router (ports_in (links t) (number_of t router))) =
    c.in_ok-config_text.ensures ∙ ap (λ (ports : List Port). text_of (config_lines t router ports))
    (c.deref-3.ensures.value ∙ c.in_ok-ports.ensures ∙ ap (λ (all : List Link). ports_in all c.args.number) c.requires.links ∙ ap (ports_in (links t)) (sym c.router-router.ensures.numbered.is)) in
    subst (λ (r : Router). made c.in_ok-new.field-0 c.in_ok-config_text.field-0.items ≡ file_of t r) c.router-router.ensures.router
    (ap (λ (n : List ℕ). made n c.in_ok-config_text.field-0.items) name ∙ ap (made (file_name (name_of router))) bytes)
