-- How each line of a network's files is marked for the tested facts.
use Rattle.std.specs.Prelude.{◌≡◌, ℕ, Bool, ◌+◌, ◌<◌, List, length, map, Some, slice_get, slice_index_or}
use Rattle.nc_types.specs.Config.{ConfigView}
use Rattle.nc_types.specs.Network.{owner_at}
use Rattle.nc_graph.specs.Flow.{Flow}
use Rattle.nc_marks.specs.Marks.{IsMark}
use Rattle.nc_marks.specs.declared.mark.Mark.{Mark}
use Rattle.nc_marks.specs.declared.mark.Mark.TheVariants.{Outside}
use Rattle.nc_fact.specs.declared.fact.Fact.{Fact}
use Rattle.nc_report.specs.Texts.{Sheet, letter, report_by}

module _ (g : Flow Fact) (tested : List Fact) (routers : List ConfigView) where
  -- the marks of the lines of a router's file, each by its owner
  pub record AreLineMarks (router lines : ℕ) (marks : List Mark) : Type 0 where
    pub count : length marks ≡ lines
    pub each : (k : ℕ) → k < lines → IsMark g tested (owner_at routers router (k + 1)) (slice_index_or marks k Outside)

  -- a router's sheet has its name and the letters of the marks of its lines
  pub record IsSheet (router : ℕ) (c : ConfigView) (s : Sheet) : Type 0 where
    pub name : s.name ≡ c.name
    pub marks : List Mark
    pub are_marks : AreLineMarks router c.line_count marks
    pub letters : s.letters ≡ map letter marks

  -- the sheets of all routers, in order
  pub record AreSheets (sheets : List Sheet) : Type 0 where
    pub count : length sheets ≡ length routers
    pub each : (router : ℕ) (c : ConfigView) (s : Sheet) → slice_get routers router ≡ Some c → slice_get sheets router ≡ Some s → IsSheet router c s

  -- a text is a form of them
  pub record IsFormOf (form : List Sheet → List ℕ) (text : List ℕ) : Type 0 where
    pub sheets : List Sheet
    pub are : AreSheets sheets
    pub text_is : text ≡ form sheets

  -- a report, which lists the lines of the routers or doesn't
  abbrev pub IsReport : Bool → List ℕ → Type 0
  IsReport listed report = IsFormOf (report_by listed) report
