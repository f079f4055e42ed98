-- How a running station stands, read off its registers.
use Rattle.std.proofs.Common.{◌≡◌, ℕ, ◌≤◌, List, length, ℤ, sym, ap, ◌∙◌}
use Rattle.machine.specs.Stations.{Station, running, commands_of}
use Rattle.machine.specs.Steps.{Contents}
use Rattle.machine.specs.declared.parts.Labelled.{Labelled}
use Rattle.steps.specs.Operations.{round}
use Rattle.steps.specs.Walks.{newest}
use Rattle.steps.specs.declared.registers.Registers.{Registers}
use Rattle.steps.proofs.Stacks.{length_newest}
use Rattle.boundary.specs.Plans.{end_code}
use Rattle.boundary.specs.declared.plans.End.{End}

-- the end of a running station
abbrev at : ℤ → ℕ → ℕ → ℕ → End
at place depth commands label = record {
  place = place;
  depth = depth;
  commands = commands;
  code = 0;
  refusal = 0;
  part = 0;
  state = 1;
  label = label;
}

pub running_end : {L : Type 0} (code : L → ℕ) (st : Station L) (r : Registers L)
    (parts : Contents L) (commands : List (Labelled L)) (place : ℤ) (label : ℕ)
    → st ≡ running (round r parts) → r.depth ≤ length parts.stack → commands ≡ commands_of st
    → place ≡ r.pc → label ≡ code r.pc_label
    → at place r.depth (length commands) label ≡ end_code code st
running_end code st r parts commands place label is fits same pc is_label =
    ap (λ p. at p r.depth (length commands) label) pc
    ∙ ap (λ l. at r.pc r.depth (length commands) l) is_label
    ∙ ap (λ d. at r.pc d (length commands) (code r.pc_label))
    (sym (length_newest r.depth parts.stack fits))
    ∙ ap (λ n. at r.pc (length (newest r.depth parts.stack)) n (code r.pc_label))
    (ap length (same ∙ ap commands_of is))
    ∙ sym (ap (end_code code) is)
