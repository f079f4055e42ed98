-- A command in the log, with whose readings it can carry.
use Rattle.std.specs.Prelude.{ℕ, List, ◌++◌, codes}
use Rattle.std.specs.Fmt.{decimal, signed_decimal}
use Rattle.readings.specs.declared.logged.Logged.{Logged}

module _ {L : Type 0} (text words : L → List ℕ) where
  -- its place, its number and label, and what the label admits
  abbrev pub logged_text : Logged L → List ℕ
  logged_text x =
      decimal x.place
      ++ (codes " " ++ (signed_decimal x.command.value
      ++ (codes "@" ++ (text x.command.label
      ++ (codes ": " ++ words x.command.label)))))
