-- What the C functions come to.
use Rattle.std.specs.Prelude.{◌≡◌, ◌≢◌, ◌⊎◌, ℕ, pos, replicate, List, take, drop, length, ◌++◌, Ok}
use Rattle.std.specs.Prelude.{Err, Result}
use Rattle.labels.specs.Kind.{Kind}
use Rattle.machine.specs.Numbers.{refusal_number}
use Rattle.rules.specs.Policies.{cached_policy, direct_policy}
use Rattle.rules.specs.Rows.{rows_policy}
use Rattle.rules.specs.Tables.{published}
use Rattle.rules.specs.declared.Policy.{Ghosts as Policy}
use Rattle.compare.specs.Reports.{Compares, IsUnmade}
use Rattle.compare.specs.declared.plans.Plan.{Plan}
use Rattle.compare.specs.declared.reports.Compared.{Compared}
use Rattle.compare.specs.declared.reports.Unmade.{Unmade as UnmadeStation}
use Rattle.boundary.specs.Calls.{refused_part}
use Rattle.boundary.specs.Kinds.{OfKind, kind_number}
use Rattle.boundary.specs.Plans.{CodesPlan, RunsCode, blank_end}
use Rattle.boundary.specs.Reports.{CodesReport, CodesUnmade}
use Rattle.boundary.specs.declared.choices.PolicyCode.{PolicyCode}
use Rattle.boundary.specs.declared.choices.PolicyCode.TheVariants.{Direct, Rows, Cached}
use Rattle.boundary.specs.declared.choices.PolicyCode.TheVariants.{CachedTwice}
use Rattle.boundary.specs.declared.faults.Fault.{Fault}
use Rattle.boundary.specs.declared.faults.Fault.TheVariants.{NoCode, OutOfMemory, Unmade}
use Rattle.boundary.specs.declared.kinds.KindCode.{KindCode}
use Rattle.boundary.specs.declared.plans.End.{End}
use Rattle.boundary.specs.declared.plans.PlanCode.{PlanCode}
use Rattle.boundary.specs.declared.calls.CallCode.{CallCode}
use Rattle.boundary.specs.declared.calls.ReplyCode.{ReplyCode}
use Rattle.boundary.specs.declared.parts.EntryCode.{EntryCode}
use Rattle.boundary.specs.declared.parts.NumberCode.{NumberCode}
use Rattle.boundary.specs.declared.parts.OperationCode.{OperationCode}
use Rattle.boundary.specs.declared.plans.RanCode.{RanCode}
use Rattle.boundary.specs.declared.reports.ReportCode.{ReportCode}

-- The numbers by which programs outside name the policies.
abbrev pub policy_number : PolicyCode → ℕ
policy_number Direct = 0
policy_number Rows = 1
policy_number Cached = 2
policy_number CachedTwice = 3

module _ {L : Type 0} (code : L → ℕ) (kind : Kind L) where
  -- run under a policy that is true to the published rows
  abbrev pub RunsTrue : {P : Type 0} → Policy P L → PlanCode → Result RanCode Fault
      → Type 0
  RunsTrue {P} ghosts c r =
      (policy : P) × ghosts.faithful policy (published kind) × RunsCode code policy kind ghosts c r

  -- What a report says of two plans: what comparing them comes to, or which station is not made.
  abbrev pub Told : {P : Type 0} → Policy P L → L → Plan P L → Plan P L → ReportCode
      → Type 0
  Told {P} ghosts o one two report =
      ((compared : Compared P P L) × Compares kind ghosts ghosts o one two compared
      × CodesReport report compared.report)
      ⊎ ((unmade : UnmadeStation) × IsUnmade kind ghosts ghosts o one two unmade
      × CodesUnmade report unmade)

  -- Two plans compared at a level, each under its policy: the report, or why there is none.
  abbrev pub Reported : {P : Type 0} → Policy P L → ℕ → PlanCode → PlanCode → P → P
      → Result ReportCode Fault → Type 0
  Reported {P} ghosts level c d first second (Ok report) =
      (o : L) × (level ≡ code o)
      × ((one : Plan P L) × CodesPlan code first c one
      × ((two : Plan P L) × CodesPlan code second d two
      × Told ghosts o one two report))
  Reported {P} ghosts level c d first second (Err NoCode) =
      (o : L) → level ≡ code o
      → (one : Plan P L) → CodesPlan code first c one
      → (two : Plan P L) → CodesPlan code second d two
      → ⊥
  Reported {P} ghosts level c d first second (Err OutOfMemory) = Unit {0}
  Reported {P} ghosts level c d first second (Err (Unmade why)) = ⊥

  -- the same, under policies that are true to the published rows
  abbrev pub ReportsTrue : {P : Type 0} → Policy P L → ℕ → PlanCode → PlanCode
      → Result ReportCode Fault → Type 0
  ReportsTrue {P} ghosts level c d r =
      (first : P) × ghosts.faithful first (published kind)
      × ((second : P) × ghosts.faithful second (published kind)
      × Reported ghosts level c d first second r)

  -- run under the policy of this name
  abbrev pub RunsUnder : PolicyCode → PlanCode → Result RanCode Fault → Type 0
  RunsUnder Direct = RunsTrue (direct_policy kind)
  RunsUnder Rows = RunsTrue (rows_policy kind)
  RunsUnder Cached = RunsTrue (cached_policy (rows_policy kind))
  RunsUnder CachedTwice = RunsTrue (cached_policy (cached_policy (direct_policy kind)))

  -- compared, each under a policy of this name
  abbrev pub ReportsUnder : PolicyCode → ℕ → PlanCode → PlanCode → Result ReportCode Fault → Type 0
  ReportsUnder Direct = ReportsTrue (direct_policy kind)
  ReportsUnder Rows = ReportsTrue (rows_policy kind)
  ReportsUnder Cached = ReportsTrue (cached_policy (rows_policy kind))
  ReportsUnder CachedTwice = ReportsTrue (cached_policy (cached_policy (direct_policy kind)))

-- run with labels of this kind under this policy
abbrev pub RunsAs : KindCode → PolicyCode → PlanCode → Result RanCode Fault → Type 0
RunsAs kind policy c r = OfKind kind (λ L code order. RunsUnder code order policy c r)

-- compared with labels of this kind under these policies
abbrev pub ReportsAs : KindCode → PolicyCode → ℕ → PlanCode → PlanCode → Result ReportCode Fault
    → Type 0
ReportsAs kind policy level c d r =
    OfKind kind (λ L code order. ReportsUnder code order policy level c d r)

-- What is done with the kind and the policy of these numbers, or that a number is none's.
abbrev pub Chosen : {A : Type 0} → ℕ → ℕ → (KindCode → PolicyCode → Result A Fault → Type 0)
    → Result A Fault → Type 0
Chosen {A} kind policy Promises r =
    ((k : KindCode) × (kind ≡ kind_number k)
    × ((p : PolicyCode) × (policy ≡ policy_number p) × Promises k p r))
    ⊎ ((r ≡ Err NoCode)
    × ((k : KindCode) → kind ≡ kind_number k → (p : PolicyCode) → policy ≡ policy_number p → ⊥))

-- The values are written over the first places, as many as there are.
abbrev pub written : {A : Type 0} → List A → List A → List A
written values places = take (length places) values ++ drop (length values) places

-- why a plan was not run
abbrev pub fault_end : Fault → End
fault_end NoCode = record blank_end { code = 2 }
fault_end OutOfMemory = record blank_end { code = 3 }
fault_end (Unmade why) =
    record blank_end { code = 1; refusal = refusal_number why; part = refused_part why }

-- The lists that a run is lent, and writes over.
pub record RunLists : Type 0 where
  pub memory : List NumberCode
  pub stack : List EntryCode
  pub log : List NumberCode
  pub replies : List ReplyCode

-- What a run writes into the lists and the end that it is lent.
pub record Writes (before after : RunLists) (ran : RanCode) (end' : End) : Type 0 where
  pub memory_is : after.memory ≡ written ran.memory.items before.memory
  pub stack_is : after.stack ≡ written ran.stack.items before.stack
  pub log_is : after.log ≡ written ran.commands.items before.log
  pub replies_is : after.replies ≡ written ran.replies.items before.replies
  pub end_is : end' ≡ ran.end

-- A run that is not done leaves them as they were, and the end says why.
pub record Leaves (before after : RunLists) (fault : Fault) (end' : End) : Type 0 where
  pub memory_is : after.memory ≡ before.memory
  pub stack_is : after.stack ≡ before.stack
  pub log_is : after.log ≡ before.log
  pub replies_is : after.replies ≡ before.replies
  pub end_is : end' ≡ fault_end fault

-- what a run writes, or that it is not done
abbrev pub Leaving : RunLists → RunLists → End → Result RanCode Fault → Type 0
Leaving before after end' (Ok ran) = Writes before after ran end'
Leaving before after end' (Err fault) = Leaves before after fault end'

-- A run of the plan that these lists code, or that there is not a reply for each call.
abbrev pub RunsAll : ℕ → ℕ → ℕ → PlanCode → Result RanCode Fault → Type 0
RunsAll kind policy replies c r =
    ((replies ≡ length c.calls.now) × Chosen kind policy (λ k p. RunsAs k p c) r)
    ⊎ ((replies ≢ length c.calls.now) × (r ≡ Err NoCode))

-- What running comes to: the plan that the lists code is run, and what is left of it is written, or
-- the end says why not.
pub record RunsLists (kind policy : ℕ) (program : List OperationCode) (calls : List CallCode)
    (before after : RunLists) (end' : End) : Type 0 where
  pub plan : PlanCode
  pub program_is : plan.program.now ≡ program
  pub memory_is : plan.memory.now ≡ before.memory
  pub stack_is : plan.stack.now ≡ before.stack
  pub log_is : plan.log.now ≡ before.log
  pub calls_are : plan.calls.now ≡ calls
  pub told : Result RanCode Fault
  pub runs : RunsAll kind policy (length before.replies) plan told
  pub leaving : Leaving before after end' told

-- The lists of a plan that is compared.
pub record PlanLists : Type 0 where
  pub program : List OperationCode
  pub memory : List NumberCode
  pub calls : List CallCode

-- A plan of these lists, with a stack and a log so long that hold 0 with the number 0 as label.
pub record Plain (c : PlanCode) (lists : PlanLists) (stack log : ℕ) : Type 0 where
  pub program_is : c.program.now ≡ lists.program
  pub memory_is : c.memory.now ≡ lists.memory
  pub calls_are : c.calls.now ≡ lists.calls
  pub stack_is : c.stack.now ≡ replicate stack (record { number = pos 0; label = 0; form = 0 })
  pub log_is : c.log.now ≡ replicate log (record { value = pos 0; label = 0 })

-- why there is no report
abbrev pub CodesNoReport : Fault → ReportCode → Type 0
CodesNoReport NoCode c = c.code ≡ 3
CodesNoReport OutOfMemory c = c.code ≡ 4
CodesNoReport (Unmade why) c = c.code ≡ 1

-- the report, or why there is none
abbrev pub CodesReported : Result ReportCode Fault → ReportCode → Type 0
CodesReported (Ok report) c = c ≡ report
CodesReported (Err fault) c = CodesNoReport fault c

-- What comparing comes to: a report on the plans that the lists code, or why there is none.
pub record Comparison (kind policy level stack log : ℕ) (first second : PlanLists)
    (report' : ReportCode) : Type 0 where
  pub one : PlanCode
  pub two : PlanCode
  pub one_is : Plain one first stack log
  pub two_is : Plain two second stack log
  pub told : Result ReportCode Fault
  pub reports : Chosen kind policy (λ k p. ReportsAs k p level one two) told
  pub reported : CodesReported told report'
