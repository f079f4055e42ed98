-- How calls, replies and states are coded by structs of numbers.
use Rattle.std.specs.Prelude.{◌≡◌, ℕ, ◌<◌, ◌^◌, ℤ, pos, Some, None, Option}
use Rattle.machine.specs.Numbers.{refusal_number, refusal_part, stop_number}
use Rattle.machine.specs.declared.answers.Part.{Part}
use Rattle.machine.specs.declared.answers.Part.TheVariants.{Program, Memory, Stack, Log}
use Rattle.machine.specs.declared.answers.Refusal.{Refusal}
use Rattle.sites.specs.Sites.{sizes_of}
use Rattle.machine.specs.declared.calls.Call.{Call}
use Rattle.machine.specs.declared.calls.Call.TheVariants.{Enter, Look, Start, Go, NextCommand}
use Rattle.sites.specs.declared.replies.Reply.{Reply}
use Rattle.sites.specs.declared.replies.Reply.TheVariants.{Entered, Shown, Started, Gone, Found}
use Rattle.sites.specs.declared.replies.Reply.TheVariants.{Refused, NotTaken, NotLent}
use Rattle.machine.specs.declared.calls.State.{State}
use Rattle.machine.specs.declared.calls.State.TheVariants.{Idle, Running, Shut}
use Rattle.compare.specs.declared.exchanges.Exchange.{Exchange}
use Rattle.compare.specs.declared.exchanges.Lent.{Lent}
use Rattle.compare.specs.declared.exchanges.Lent.TheVariants.{Own, Others}
use Rattle.boundary.specs.declared.calls.CallCode.{CallCode}
use Rattle.boundary.specs.declared.calls.ReplyCode.{ReplyCode}

module _ {L : Type 0} (code : L → ℕ) where
  -- A call's number, and what goes with it. The other fields say nothing.
  abbrev pub CodesCall : CallCode → Call L → Type 0
  CodesCall c (Enter cell v) =
      (c.code ≡ 0) × (c.index ≡ cell) × (c.value ≡ v.value) × (c.label ≡ code v.label)
  CodesCall c (Look cell clearance) = (c.code ≡ 1) × (c.index ≡ cell) × (c.label ≡ code clearance)
  CodesCall c Start = c.code ≡ 2
  CodesCall c (Go fuel) = (c.code ≡ 3) × (c.index ≡ fuel) × (fuel < 2 ^ 32)
  CodesCall c (NextCommand from clearance) =
      (c.code ≡ 4) × (c.index ≡ from) × (c.label ≡ code clearance)

  -- the station's own parts, or others of these lengths
  abbrev pub CodesLent : CallCode → Lent L → Type 0
  CodesLent c Own = c.lent ≡ 0
  CodesLent c (Others parts) =
      (c.lent ≡ 1) × (sizes_of parts
      ≡ record { program = c.program; memory = c.memory; stack = c.stack; log = c.log })

  -- a call that was not made yet
  pub record CodesExchange (c : CallCode) (e : Exchange L) : Type 0 where
    pub call : CodesCall c e.call
    pub lent : CodesLent c e.lent
    pub unanswered : e.reply ≡ None

-- idle, running, or the stop
abbrev pub state_code : State → ℕ
state_code Idle = 0
state_code Running = 1
state_code (Shut stop place) = stop_number stop

-- the stop's place
abbrev pub state_place : State → ℤ
state_place Idle = pos 0
state_place Running = pos 0
state_place (Shut stop place) = place

-- from 1 on
abbrev pub part_code : Part → ℕ
part_code Program = 1
part_code Memory = 2
part_code Stack = 3
part_code Log = 4

-- a part, or 0 for none
abbrev pub part_or_none : Option Part → ℕ
part_or_none None = 0
part_or_none (Some part) = part_code part

-- the part that a refusal is for, if any
abbrev pub refused_part : Refusal → ℕ
refused_part why = part_or_none (refusal_part why)

-- no reply
abbrev blank : ReplyCode
blank = record { number = pos 0; place = 0; code = 0; label = 0; steps = 0; state = 0; refusal = 0; part = 0 }

-- A reply's number, and what goes with it. The other fields are 0, and so are all where there is none.
abbrev pub reply_code : {L : Type 0} → (L → ℕ) → Option (Reply L) → ReplyCode
reply_code code None = blank
reply_code code (Some Entered) = record blank { code = 1 }
reply_code code (Some (Shown v)) = record blank { code = 2; number = v.value; label = code v.label }
reply_code code (Some Started) = record blank { code = 3 }
reply_code code (Some (Gone steps state)) =
    record blank { code = 4; steps = steps; state = state_code state; number = state_place state }
reply_code code (Some (Found (Some place))) = record blank { code = 5; place = place }
reply_code code (Some (Found None)) = record blank { code = 6 }
reply_code code (Some (Refused why)) =
    record blank { code = 7; refusal = refusal_number why; part = refused_part why }
reply_code code (Some (NotTaken state)) =
    record blank { code = 8; state = state_code state; number = state_place state }
reply_code code (Some NotLent) = record blank { code = 9 }
