-- What running a plan in numbers comes to.
use Rattle.std.specs.Prelude.{◌≡◌, ℕ, List, [], map, length, reverse, pos, Ok, Err, Result}
use Rattle.labels.specs.Kind.{Kind}
use Rattle.rules.specs.declared.Policy.{Ghosts as Policy}
use Rattle.machine.specs.Numbers.{stop_number}
use Rattle.machine.specs.Stations.{Station, idle, running, shut, commands_of, memory_of}
use Rattle.machine.specs.declared.parts.Entry.{Entry}
use Rattle.compare.specs.Runs.{RunsTo}
use Rattle.compare.specs.declared.plans.Plan.{Plan}
use Rattle.compare.specs.declared.plans.Ran.{Ran}
use Rattle.sites.specs.declared.lending.Parts.{Parts}
use Rattle.boundary.specs.Calls.{CodesExchange, reply_code}
use Rattle.boundary.specs.Parts.{CodesEach, CodesEntry, CodesNumber, CodesOperation, entry_code}
use Rattle.boundary.specs.Parts.{number_code}
use Rattle.boundary.specs.declared.faults.Fault.{Fault}
use Rattle.boundary.specs.declared.faults.Fault.TheVariants.{NoCode, OutOfMemory, Unmade}
use Rattle.boundary.specs.declared.plans.End.{End}
use Rattle.boundary.specs.declared.plans.PlanCode.{PlanCode}
use Rattle.boundary.specs.declared.plans.RanCode.{RanCode}

-- an end that says nothing
abbrev pub blank_end : End
blank_end = record {
  place = pos 0;
  depth = 0;
  commands = 0;
  code = 0;
  refusal = 0;
  part = 0;
  state = 0;
  label = 0;
}

module _ {L : Type 0} (code : L → ℕ) where
  -- each part, element by element
  pub record CodesParts (c : PlanCode) (parts : Parts L) : Type 0 where
    pub program : CodesEach (CodesOperation code) c.program.now parts.program.items
    pub memory : CodesEach (CodesNumber code) c.memory.now parts.memory.items
    pub stack : CodesEach (CodesEntry code) c.stack.now parts.stack.items
    pub log : CodesEach (CodesNumber code) c.log.now parts.log.items

  -- The state, the commands in the log, and of a round the program counter and the entries in use.
  abbrev pub end_code : Station L → End
  end_code (idle kept) = record blank_end { commands = length kept.commands }
  end_code (running s) = record blank_end {
    state = 1;
    place = s.pc;
    label = code s.pc_label;
    depth = length s.stack;
    commands = length s.kept.commands;
  }
  end_code (shut stop place kept) =
      record blank_end { state = stop_number stop; place = place; commands = length kept.commands }

  -- the entries in use, the oldest first
  abbrev pub stack_in_use : Station L → List (Entry L)
  stack_in_use (idle kept) = []
  stack_in_use (running s) = reverse s.stack
  stack_in_use (shut stop place kept) = []

  -- what the last call left, and the replies
  pub record CodesRan {P : Type 0} (c : RanCode) (ran : Ran P L) : Type 0 where
    pub memory : c.memory.items ≡ map (number_code code) (memory_of ran.site.sited.station)
    pub commands : c.commands.items ≡ map (number_code code) (commands_of ran.site.sited.station)
    pub stack : c.stack.items ≡ map (entry_code code) (stack_in_use ran.site.sited.station)
    pub replies : c.replies.items ≡ map (λ e. reply_code code e.reply) ran.exchanges.items
    pub end : c.end ≡ end_code ran.site.sited.station

module _ {P L : Type 0} (code : L → ℕ) (policy : P) where
  -- a plan under this policy
  pub record CodesPlan (c : PlanCode) (plan : Plan P L) : Type 0 where
    pub parts : CodesParts code c plan.parts
    pub calls : CodesEach (CodesExchange code) c.calls.now plan.exchanges.items
    pub same_policy : plan.policy ≡ policy

  -- A plan in numbers that is run: what is left of the plan that they code, or that making
  -- its station is refused, that they code no plan, or that there was no memory.
  abbrev pub RunsCode : Kind L → Policy P L → PlanCode → Result RanCode Fault → Type 0
  RunsCode kind ghosts c (Ok told) =
      (plan : Plan P L) × CodesPlan c plan
      × ((ran : Ran P L) × RunsTo kind ghosts plan (Ok ran) × CodesRan code told ran)
  RunsCode kind ghosts c (Err NoCode) = (plan : Plan P L) → CodesPlan c plan → ⊥
  RunsCode kind ghosts c (Err OutOfMemory) = Unit {0}
  RunsCode kind ghosts c (Err (Unmade why)) =
      (plan : Plan P L) × CodesPlan c plan × RunsTo kind ghosts plan (Err why)
