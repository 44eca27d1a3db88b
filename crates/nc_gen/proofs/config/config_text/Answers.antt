use Rattle.std.proofs.Common.{◌++◌, ◌∷◌, [], ℕ, List, length, ap, ◌∙◌}
use Rattle.nc_gen.specs.Files.{text_of, name_of, hostname_line, port_lines, lan_lines, process_lines}
use Rattle.nc_gen.proofs.TextLemmas.{then-text, one-line}
use Rattle.nc_gen.proofs.config.config_text.Goals as goal

pub returns : goal.returns
returns c =
    let t = c.args.tree in
    let router = c.args.router in
    let ports = c.args.ports.now in
    let lan = lan_lines t (length ports) router in
    let process = process_lines t router ports in
    then-text [] _ _ (hostname_line (name_of router) ∷ []) (port_lines 0 ports ++ (lan ++ process))
    (one-line [] _ _ (hostname_line (name_of router)) (c.in_ok-push_line.ensures ∙ ap (λ (o : List ℕ). o ++ text_of (c.as_bytes.result.now ∷ [])) c.in_ok-out.ensures.items)
    (c.as_bytes.ensures.value ∙ c.in_ok-hostname.ensures ∙ ap hostname_line c.requires.name))
    (then-text _ _ _ (port_lines 0 ports) (lan ++ process) c.in_ok-push_ports.ensures
    (then-text _ _ _ lan process c.in_ok-push_lan.ensures c.in_ok-push_process.ensures))
