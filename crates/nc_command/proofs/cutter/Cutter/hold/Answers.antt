use Rattle.std.proofs.Common.{◌≡◌, ◌≤◌, ◌-◌, ◌++◌, ◌∙◌, List, ℕ, length, take, min, ap, arith}
use Rattle.nc_command.specs.Cutting.{most_held_bytes}
use Rattle.nc_command.proofs.CutLemmas.{front_taken}
use Rattle.nc_command.proofs.cutter.Cutter.hold.Goals as goal

pub returns-clause-held : goal.returns-clause-held
returns-clause-held c =
    let within : length c.args.self.now ≤ most_held_bytes = omega arith in
    let count : c.min-count.result ≡ min (length c.args.bytes.now) (most_held_bytes - length c.args.self.now) = omega arith in
    let items : c.extend_from_slice.new.self.items ≡ c.args.self.now ++ take c.min-count.result c.args.bytes.now =
    c.in_ok-extend_from_slice.ensures.items ∙ ap (λ (l : List ℕ). l ++ c.split_at.result.0.now) c.self.view_is ∙ ap (λ (l : List ℕ). c.args.self.now ++ l) c.split_at.ensures.front in
    items ∙ front_taken c.args.self.now c.args.bytes.now c.min-count.result within count
