-- Places of a program.
use Rattle.std.specs.Prelude.{ℤ, pos, ◌≤ℤ◌, ◌<ℤ◌}
use Rattle.machine.specs.Numbers.{most}
use Rattle.machine.specs.declared.answers.Part.TheVariants.{Program}

-- a place of some program, none of which is longer than its limit
abbrev pub InProgram : ℤ → Type 0
InProgram place = (pos 0 ≤ℤ place) × (place <ℤ pos (most Program))
