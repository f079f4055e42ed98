-- What is told of two runs to an observer at a level.
use Rattle.std.specs.Prelude.{◌≡◌, ◌≢◌, ℕ, ◌<◌, true, List, filter, length, Some, None, Ok, Err, Option}
use Rattle.labels.specs.Kind.{Kind}
use Rattle.rules.specs.Tables.{published}
use Rattle.rules.specs.declared.Policy.{Ghosts as Policy}
use Rattle.machine.specs.Lists.{Each, OneBegins}
use Rattle.machine.specs.Calls.{lent}
use Rattle.machine.specs.Observer.{History, Alike, AlikeOperation, AlikeInput, AlikeStations, AlikeCalls, visible}
use Rattle.machine.specs.Stations.{Answer, Idle, answer, commands_of}
use Rattle.machine.specs.declared.calls.Call.TheVariants.{Look}
use Rattle.machine.specs.declared.parts.Labelled.{Labelled}
use Rattle.sites.specs.Calls.{Sited}
use Rattle.sites.specs.Sites.{Installs, Installed}
use Rattle.sites.specs.declared.lending.Parts.{Parts}
use Rattle.compare.specs.Differences.{Breaks}
use Rattle.compare.specs.Runs.{RunsTo, counts, inputs_of, history}
use Rattle.compare.specs.declared.reports.Compared.{Compared}
use Rattle.compare.specs.declared.reports.Looks.{Looks}
use Rattle.compare.specs.declared.reports.Looks.TheVariants.{NotDue, Same, DifferAt}
use Rattle.compare.specs.declared.reports.Report.{Report}
use Rattle.compare.specs.declared.reports.Unmade.{Unmade}
use Rattle.compare.specs.declared.reports.Unmade.TheVariants.{First, Second}
use Rattle.compare.specs.declared.exchanges.Exchange.{Exchange}
use Rattle.compare.specs.declared.plans.Plan.{Plan}

module _ {L : Type 0} (kind : Kind L) (o : L) where
  -- calls of two lists that stand for alike enters and starts
  abbrev pub AlikeExchange : Exchange L → Exchange L → Type 0
  AlikeExchange e f = Each (AlikeInput kind o) (inputs_of e) (inputs_of f)

  -- what a look into a station's own memory answers, with the level as the clearance
  -- (it asks no policy, so any table stands for one)
  abbrev pub look_at : Sited L → ℕ → Answer L
  look_at site cell =
      answer kind site.setup site.station (lent (Look cell o) site.setup.sizes (λ _. None))

  -- Looks are compared where equally many enters and starts count and both stations are idle.
  abbrev pub LooksDue : List (Exchange L) → List (Exchange L) → Sited L → Sited L → Type 0
  LooksDue es fs one two = (length (filter counts es) ≡ length (filter counts fs))
      × Idle one.station × Idle two.station

  -- Where looks into two stations first differ, if they do.
  abbrev pub FirstLook : Sited L → Sited L → Option ℕ → Type 0
  FirstLook one two None = (cell : ℕ) → look_at one cell ≡ look_at two cell
  FirstLook one two (Some cell) = (look_at one cell ≢ look_at two cell)
      × ((earlier : ℕ) → earlier < cell → look_at one earlier ≡ look_at two earlier)

  -- what the report tells of looks, where they are compared
  abbrev pub LooksTold : Type 0 → Sited L → Sited L → Looks → Type 0
  LooksTold Due one two NotDue = Due → ⊥
  LooksTold Due one two Same = Due × FirstLook one two None
  LooksTold Due one two (DifferAt cell) = Due × FirstLook one two (Some cell)

  -- The report on two stations made of these parts, the calls that were made on them, and what these left.
  pub record Reports
      (parts parts' : Parts L) (es fs : List (Exchange L)) (one two : Sited L) (report : Report) : Type 0 where
    -- where the programs and the memories cease to be alike, as they were made
    pub programs :
        Breaks (Each (AlikeOperation kind o)) parts.program.items parts'.program.items report.programs
    pub memories : Breaks (Each (Alike kind o)) parts.memory.items parts'.memory.items report.memories
    -- where, of the calls that count, neither list begins the other any more
    pub calls : Breaks (OneBegins AlikeExchange) (filter counts es) (filter counts fs) report.calls
    -- likewise of the commands at or below the level
    pub commands : Breaks (OneBegins ◌≡◌)
        (visible kind o (commands_of one.station)) (visible kind o (commands_of two.station)) report.commands
    -- whether every look has the same answer, where looks are compared
    pub looks : LooksTold (LooksDue es fs one two) one two report.looks

-- Where every look at a level has the same answer on both stations,
-- so has every look with a clearance at or below the level.
abbrev pub SameBelow : {L : Type 0} → Kind L → Type 0
SameBelow {L} kind = (o clearance : L) → kind.below clearance o ≡ true → (one two : Sited L)
    → FirstLook kind o one two None → FirstLook kind clearance one two None

-- The report says that programs, memories and calls were alike.
abbrev pub SaysAlike : Report → Type 0
SaysAlike report = (report.programs ≡ None) × (report.memories ≡ None) × (report.calls ≡ None)

-- The report says that nothing differs that is compared, commands and looks.
abbrev pub NothingDiffers : Report → Type 0
NothingDiffers report = (report.commands ≡ None) × ((cell : ℕ) → report.looks ≢ DifferAt cell)

module _ {P Q L : Type 0} (kind : Kind L) (p : Policy P L) (q : Policy Q L) (o : L)
    (one : Plan P L) (two : Plan Q L) where
  -- the histories of the two stations
  abbrev pub first_history : Compared P Q L → History L
  first_history c = history kind one.parts c.one.exchanges.items

  abbrev pub second_history : Compared P Q L → History L
  second_history c = history kind two.parts c.two.exchanges.items

  -- What comparing two plans comes to.
  pub record Compares (c : Compared P Q L) : Type 0 where
    pub first : RunsTo kind p one (Ok c.one)
    pub second : RunsTo kind q two (Ok c.two)
    pub report : Reports kind o one.parts two.parts c.one.exchanges.items c.two.exchanges.items
        c.one.site.sited c.two.site.sited c.report

  -- Under policies that are true to the published rows, for stations and calls
  -- that are alike to the observer, nothing differs.
  abbrev pub KeepsSecret : Compared P Q L → Type 0
  KeepsSecret c = p.faithful one.policy (published kind) → q.faithful two.policy (published kind)
      → AlikeStations kind o (first_history c) (second_history c)
      → AlikeCalls kind o (first_history c) (second_history c)
      → NothingDiffers c.report

  -- The report itself tells whether they were alike.
  abbrev pub TellsAlike : Compared P Q L → Type 0
  TellsAlike c = p.faithful one.policy (published kind) → q.faithful two.policy (published kind)
      → SaysAlike c.report → NothingDiffers c.report

  -- Refused, it says which station was, and why: the first is made first.
  abbrev pub IsUnmade : Unmade → Type 0
  IsUnmade (First why) = RunsTo kind p one (Err why)
  IsUnmade (Second why) = ((made : Installed P L) × Installs one.parts one.policy (Ok made))
      × RunsTo kind q two (Err why)
