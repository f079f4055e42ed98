-- The steps that a go in code is made of, in the words of the definitions.
use Rattle.std.specs.Prelude.{◌≡◌, ℕ, Ok, Err, Result}
use Rattle.labels.specs.Kind.{Kind}
use Rattle.rules.specs.Tables.{Table}
use Rattle.rules.specs.declared.Policy.{Ghosts as Policy}
use Rattle.machine.specs.Stations.{Station, idle, running, shut, run_steps}
use Rattle.machine.specs.Steps.{Round, Contents, made_of}
use Rattle.machine.specs.declared.answers.End.{End}
use Rattle.machine.specs.declared.answers.End.TheVariants.{Finished, OutOfFuel, Stopped}
use Rattle.steps.specs.Operations.{round}
use Rattle.steps.specs.declared.registers.Registers.{Registers}
use Rattle.station.specs.Views.{station_with}
use Rattle.station.specs.declared.any.Station.{Station as StationCode}
use Rattle.station.specs.declared.running.Gone.{Gone}
use Rattle.station.specs.declared.running.Running.{Running}

module _ {L : Type 0} where
  -- The station after a go that ended so, of the round as it stood then.
  abbrev pub ended : End → Round L → Station L
  ended Finished s = idle s.kept
  ended OutOfFuel s = running s
  ended (Stopped stop) s = shut stop s.pc s.kept

  -- a station that was settled so, whatever its parts hold
  abbrev pub Settles : Running L → End → StationCode L → Type 0
  Settles st end settled = (parts : Contents L) → station_with settled parts ≡ ended end (round st.registers parts)

  -- what a step comes to that leaves these registers, or the end
  abbrev pub advanced : Result (Unit {0}) End → Running L → Result (Registers L) End
  advanced (Ok _) st = Ok st.registers
  advanced (Err end) st = Err end

-- The steps of a go: over every table that the policy is true to they are those that are defined.
abbrev pub Runs : {P L : Type 0} → Policy P L → Kind L → P → Contents L → Contents L → ℕ → Running L
    → Gone L → Type 0
Runs {P} {L} policy kind before parts parts' fuel st gone = (table : Table L) → policy.faithful before table
    → run_steps kind (made_of parts) table fuel (round st.registers parts)
    ≡ record { station = station_with gone.station parts'; steps = gone.steps }
