use Rattle.std.proofs.Common.{◌≡◌, ◌++◌, drop, map}
use Rattle.std.specs.List.{flat_map}
use Rattle.nc_engine.specs.Questions.{element_text}
use Rattle.nc_engine.proofs.dead_elements.push_ids.Given as goal

-- the elements so far and those that are left are all elements
abbrev pub invariant-elements : goal.invariant-elements
invariant-elements l =
    l.out.items ++ flat_map (element_text l.network) (map (λ e. e.0) (drop l.element-index l.elements))
    ≡ l.fn.out.items ++ flat_map (element_text l.network) (map (λ e. e.0) l.elements)
