-- What the lines before a program say together.
use Rattle.std.specs.Prelude.{◌≡◌, ◌≢◌, ℕ, ◌<◌, ◌⊎◌, List, [], ◌∷◌, ◌++◌, codes, length, map}
use Rattle.std.specs.Prelude.{Option, Some, None, unwrap_or}
use Rattle.std.specs.Fmt.{decimal}
use Rattle.std.specs.List.{Contains, slice_index_or}
use Rattle.std.specs.Option.{IsSome}
use Rattle.machine.specs.declared.parts.Labelled.{Labelled}
use Rattle.sheets.specs.declared.reader.Given.{Given}
use Rattle.sheets.specs.declared.reader.Settings.{Settings}
use Rattle.sheets.specs.declared.settings.Setting.{Setting}
use Rattle.sheets.specs.Lines.{SaysCount, SaysSetting}
use Rattle.sheets.specs.Numbers.{CountRead, NumberRead}
use Rattle.sheets.specs.Parts.{zero_at}

-- the line says a setting
abbrev pub IsSetting : List (List ℕ) → Type 0
IsSetting line = (setting : Setting) × SaysSetting line setting

-- each of the lines says a setting
abbrev pub AreSettings : List (List (List ℕ)) → Type 0
AreSettings lines = (line : List (List ℕ)) → Contains lines line → IsSetting line

-- one of the lines says it
abbrev pub SomeLine : List (List (List ℕ)) → (List (List ℕ) → Type 0) → Type 0
SomeLine lines Says = (line : List (List ℕ)) × Contains lines line × Says line

-- the line does not begin with those words
abbrev pub BeginsOther : List (List ℕ) → List (List ℕ) → Type 0
BeginsOther first line = (rest : List (List ℕ)) → line ≢ first ++ rest

-- one of the lines says it, and so does each that begins with those words
abbrev pub OnlySaid : List (List (List ℕ)) → List (List ℕ) → (List (List ℕ) → Type 0) → Type 0
OnlySaid lines first Says =
    SomeLine lines Says
    × ((line : List (List ℕ)) → Contains lines line → BeginsOther first line ⊎ Says line)

-- none of the lines begins with those words
abbrev pub NoLine : List (List (List ℕ)) → List (List ℕ) → Type 0
NoLine lines first = (line : List (List ℕ)) → Contains lines line → BeginsOther first line

-- the number that a line gives behind the name, or the usual one if no line begins with the name
abbrev pub GivenOr : ℕ → List (List (List ℕ)) → List ℕ → ℕ → Type 0
GivenOr usual lines name n =
    OnlySaid lines (name ∷ []) (λ line. SaysCount 65535 line name n)
    ⊎ ((n ≡ usual) × NoLine lines (name ∷ []))

-- the line is the first to give a number behind the name, or it begins otherwise and all stays
abbrev pub GivesCount : List (List ℕ) → List ℕ → Option ℕ → Option ℕ → Type 0
GivesCount line name before after =
    ((n : ℕ) × SaysCount 65535 line name n × (before ≡ None) × (after ≡ Some n))
    ⊎ (BeginsOther (name ∷ []) line × (after ≡ before))

module _ {L : Type 0} (text : L → List ℕ) where
  -- the line says what cell c holds
  abbrev pub SaysCell : List (List ℕ) → ℕ → Labelled L → Type 0
  SaysCell line c v =
      (cell number : List ℕ) × (line ≡ codes "cell" ∷ cell ∷ number ∷ [])
      × CountRead 4294967295 cell c × NumberRead text number v

  -- the line is the first to say what cell c holds, or it begins otherwise and all stays
  abbrev pub GivesCell : List (List ℕ) → ℕ → Option (Labelled L) → Option (Labelled L) → Type 0
  GivesCell line c before after =
      ((v : Labelled L) × SaysCell line c v × (before ≡ None) × (after ≡ Some v))
      ⊎ (BeginsOther (codes "cell" ∷ decimal c ∷ []) line × (after ≡ before))

  -- what a line adds to what was given
  pub record AddsSetting (line : List (List ℕ)) (before after : Given L) : Type 0 where
    pub says : IsSetting line
    pub stack : GivesCount line (codes "stack") before.stack after.stack
    pub log : GivesCount line (codes "log") before.log after.log
    pub size : length after.cells.items ≡ length before.cells.items
    pub cells : (c : ℕ) → c < length before.cells.items
        → GivesCell line c
        (slice_index_or before.cells.items c None) (slice_index_or after.cells.items c None)

  -- the number that a line says cell c to hold, or 0 with that label if no line begins with the cell
  abbrev pub HeldOr : L → List (List (List ℕ)) → ℕ → Labelled L → Type 0
  HeldOr bottom lines c v =
      OnlySaid lines (codes "cell" ∷ decimal c ∷ []) (λ line. SaysCell line c v)
      ⊎ ((v ≡ zero_at bottom) × NoLine lines (codes "cell" ∷ decimal c ∷ []))

  -- Each line says a setting. A line says the size of the memory. Of each cell the lines that begin
  -- with its text say what it holds; where none does, it holds 0 with that label. So it is with
  -- stack and log, which are 64 long where no line says them.
  pub record SaysSettings (bottom : L) (lines : List (List (List ℕ))) (memory : List (Labelled L))
      (stack log : ℕ) : Type 0 where
    pub each : AreSettings lines
    pub size : SomeLine lines (λ line. SaysCount 65535 line (codes "memory") (length memory))
    pub cells : (c : ℕ) (d : Labelled L) → c < length memory
        → HeldOr bottom lines c (slice_index_or memory c d)
    pub deep : GivenOr 64 lines (codes "stack") stack
    pub long : GivenOr 64 lines (codes "log") log

-- what was given, and what stands for the rest
pub record FillsIn {L : Type 0} (bottom : L) (memory : Option ℕ) (given : Given L)
    (settings : Settings L) : Type 0 where
  pub sized : IsSome memory
  pub cells : settings.memory.items
      ≡ map (λ (cell : Option (Labelled L)). unwrap_or cell (zero_at bottom)) given.cells.items
  pub stack : settings.stack ≡ unwrap_or given.stack 64
  pub log : settings.log ≡ unwrap_or given.log 64
