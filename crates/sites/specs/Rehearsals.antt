-- Rounds that are stepped on copies.
use Rattle.std.specs.Prelude.{◌≡◌, Some, None, Ok, Err, Option, Result}
use Rattle.machine.specs.Stations.{Running, running}
use Rattle.machine.specs.Steps.{made_of}
use Rattle.machine.specs.declared.answers.End.{End}
use Rattle.steps.specs.Operations.{round}
use Rattle.steps.specs.declared.registers.Registers.{Registers}
use Rattle.sites.specs.Calls.{Sited}
use Rattle.sites.specs.Sites.{held}
use Rattle.sites.specs.declared.rehearsal.Rehearsal.{Rehearsal}

-- After a step that was done the round stands where the step left it, else where it stood.
abbrev pub Follows : {L : Type 0} → Registers L → Registers L → Result (Registers L) End → Type 0
Follows before after (Ok registers) = after ≡ registers
Follows before after (Err end) = after ≡ before

-- A rehearsal stands where the station does, if that runs a round, with parts as long as the station's own.
abbrev pub Rehearses : {L : Type 0} → Sited L → Option (Rehearsal L) → Type 0
Rehearses site None = Running site.station → ⊥
Rehearses site (Some r) =
    (site.setup ≡ made_of (held r.parts))
    × (site.station ≡ running (round r.registers (held r.parts)))
