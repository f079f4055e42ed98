-- What an operation comes to, and one step, by what stands at the program counter.
use Rattle.std.proofs.Common.{◌≡◌, ◌≢◌, ℕ, zero, suc, ◌<◌, ◌≤◌, false, cond, List, length, ℤ}
use Rattle.std.proofs.Common.{Some, None, Err, Result, sym, ap, ap₂, subst, ◌∙◌, refl, arith}
use Rattle.labels.specs.Kind.{Kind}
use Rattle.rules.specs.Tables.{Table}
use Rattle.rules.specs.declared.Policy.{Ghosts as Policy}
use Rattle.machine.specs.Steps.{Setup, Round, Contents, contents, stopped}
use Rattle.machine.specs.Steps.{at_place, halts, halted, tried, attempt, step}
use Rattle.machine.specs.declared.answers.End.{End}
use Rattle.machine.specs.declared.answers.End.TheVariants.{OutOfFuel}
use Rattle.machine.specs.declared.answers.Stop.TheVariants.{OutsideProgram}
use Rattle.machine.specs.declared.parts.Entry.{Entry}
use Rattle.machine.specs.declared.parts.Labelled.{Labelled}
use Rattle.machine.specs.declared.parts.Operation.{Operation}
use Rattle.machine.specs.declared.parts.Operation.TheVariants.{Halt}
use Rattle.steps.specs.Operations.{registers_at, InUse, Steps}
use Rattle.steps.specs.declared.registers.Registers.{Registers}
use Rattle.steps.proofs.Places.{place_there, place_none}

-- every operation but halt
pub no_halt : {L : Type 0} (op : Operation L) → op ≢ Halt → halts op ≡ false
no_halt Halt not = absurd (not refl)
no_halt op not = refl

module _ {L : Type 0} (kind : Kind L) (table : Table L) (setup : Setup L) (s : Round L) where
  -- without fuel any operation but halt waits
  pub waiting : (op : Operation L) → op ≢ Halt → attempt kind table setup 0 s op ≡ Err OutOfFuel
  waiting op not = ap (λ b. cond b (halted kind table setup s) (Err OutOfFuel)) (no_halt op not)

  -- and with some every operation is tried
  pub fuelled : (fuel : ℕ) → fuel ≢ 0 → (op : Operation L)
      → attempt kind table setup fuel s op ≡ tried kind table setup op s
  fuelled zero some op = absurd (some refl)
  fuelled (suc fuel) some Halt = refl
  fuelled (suc fuel) some op = refl

  pub steps_outside : (fuel : ℕ) → at_place setup.program s.pc None Some ≡ None
      → step kind table setup fuel s ≡ stopped OutsideProgram
  steps_outside fuel none = place_none _ _ setup.program s.pc none

  pub steps_on : (fuel : ℕ) (op : Operation L) → at_place setup.program s.pc None Some ≡ Some op
      → step kind table setup fuel s ≡ attempt kind table setup fuel s op
  steps_on fuel op there = place_there _ _ setup.program s.pc op there

-- An operation that the match found, of registers that it was handed by their fields and a stack that was split.
module _ {P L : Type 0} (kind : Kind L) {policy : Policy P L} {before after : P}
    (self : Registers L) (rest : Contents L)
    {stack : List (Entry L)} (memory log : List (Labelled L)) {whole : List (Entry L)} (split : stack ≡ whole)
    (in_use : InUse self (contents rest.program memory stack log)) where
  pub found_as : {parts' : Contents L} {r : Result (Registers L) End} {op op' : Operation L} {pc : ℤ} {depth : ℕ}
      → op ≡ op' → pc ≡ self.pc → depth ≡ self.depth
      → (InUse (registers_at pc self.pc_label depth self.window) (contents rest.program memory whole log)
      → Steps policy before after (contents rest.program memory whole log) parts'
      (registers_at pc self.pc_label depth self.window) r
      (λ table setup. tried kind table setup op'))
      → Steps policy before after (contents rest.program memory stack log) parts' self r
      (λ table setup. tried kind table setup op)
  found_as {parts'} {r} {op' = op'} op_is pc_is depth_is did =
      let same : registers_at _ self.pc_label _ self.window ≡ self =
      ap₂ (λ pc depth. registers_at pc self.pc_label depth self.window) pc_is depth_is in
      let held : InUse self (contents rest.program memory whole log) = record {
        depth = subst (λ s. self.depth ≤ length s) split in_use.depth;
        commands = in_use.commands;
      } in
      rw (op_is, split)
      (subst
      (λ start.
      Steps policy before after (contents rest.program memory whole log) parts' start r
      (λ table setup. tried kind table setup op'))
      same
      (did
      (subst (λ start. InUse start (contents rest.program memory whole log)) (sym same) held)))
