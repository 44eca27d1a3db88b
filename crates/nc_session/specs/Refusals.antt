-- What is written where a run is refused, and the numbers and statuses with which it ends.
use Rattle.std.specs.Prelude.{ℕ, List, [], ◌∷◌, ◌++◌, codes}
use Rattle.std.specs.Fmt.{decimal}
use Rattle.nc_load.specs.declared.refusal.Quantity.{Quantity}
use Rattle.nc_load.specs.declared.refusal.Reason.{Reason}
use Rattle.nc_session.specs.declared.status.Status.{Status}
use Rattle.nc_session.specs.declared.status.Status.TheVariants.{Done, Config, Usage, Unstable, InputFault, OutputFault, FileFault, Memory, Limit}
use Rattle.nc_report.specs.Texts.{line_of}
use Rattle.nc_load.specs.Load.{Refusal, WrongWords, TooMany, Missing, Faulty, Unsettled}
use Rattle.nc_load.specs.Reasons.{quantity_text, reason_text}

-- the number that a program ends with
abbrev pub number_of : Status → ℕ
number_of Done = 0
number_of Config = 1
number_of Usage = 2
number_of Unstable = 3
number_of InputFault = 4
number_of OutputFault = 5
number_of FileFault = 6
number_of Memory = 7
number_of Limit = 8

abbrev pub usage_text : List ℕ
usage_text = line_of (codes "refused usage")

abbrev pub long_session_text : List ℕ
long_session_text = line_of (codes "refused limit session")

abbrev pub limit_text : Quantity → List ℕ
limit_text quantity = line_of (codes "refused limit " ++ quantity_text quantity)

abbrev pub fault_text : List ℕ → ℕ → Reason → List ℕ
fault_text name line reason = line_of (codes "refused config " ++ (name ++ (32 ∷ (decimal line ++ (32 ∷ reason_text reason)))))

abbrev pub unsettled_text : ℕ → List ℕ
unsettled_text rounds = line_of (codes "refused unstable " ++ decimal rounds)

-- the text of a refusal, and the status with which it ends the run
abbrev pub refusal_text : Refusal → List ℕ
refusal_text WrongWords = usage_text
refusal_text (TooMany quantity) = limit_text quantity
refusal_text Missing = []
refusal_text (Faulty name line reason) = fault_text name line reason
refusal_text (Unsettled rounds) = unsettled_text rounds

abbrev pub refusal_status : Refusal → Status
refusal_status WrongWords = Usage
refusal_status (TooMany quantity) = Limit
refusal_status Missing = FileFault
refusal_status (Faulty name line reason) = Config
refusal_status (Unsettled rounds) = Unstable
