-- What is gathered in one pass over the lines of a file.
use Rattle.std.specs.Prelude.{◌≡◌, ℕ, ◌<◌, ◌≤◌, List, [], length, map, All}
use Rattle.std.specs.List.{filter_map}
use Rattle.nc_types.specs.Faults.{lowest}
use Rattle.nc_reader.specs.declared.gather.Draft.{Draft}
use Rattle.nc_reader.specs.declared.gather.Gathered.{Gathered}
use Rattle.nc_reader.specs.Roles.{roles_from}
use Rattle.nc_reader.specs.Readings.{lines_in}
use Rattle.nc_reader.specs.Steps.{Sketch}
use Rattle.nc_reader.specs.Configuration.{name_of, topics_of, wrong_at}

-- a line of the file
abbrev pub IsLine : List (List ℕ) → ℕ → Type 0
IsLine lines k = (0 < k) × (k ≤ length lines)

-- the name, the topics with their lines and the lowest wrong line are those of the whole file
pub record Gathers (lines : List (List ℕ)) (g : Gathered) : Type 0 where
  pub name : g.name ≡ name_of (roles_from [] lines)
  pub topics : g.topics.keys ≡ map (λ group. group.key) (topics_of (roles_from [] lines))
  pub spoken : lines_in g.lines.items ≡ map (λ group. group.values) (topics_of (roles_from [] lines))
  pub fault : g.fault ≡ lowest (filter_map (λ r. wrong_at r.line r.role) (roles_from [] lines))
  pub block_lines : All (λ b. All (IsLine lines) b.lines.items) g.lines.items

-- what is gathered so far, as lists
abbrev pub sketch : Draft → Sketch
sketch d = record { name = d.name; topics = d.topics.keys; blocks = lines_in d.blocks.items; fault = d.fault; in_banner = d.in_banner; block = d.block }
