-- The parts of a station as they lie in their vectors.
use Rattle.std.proofs.Common.{◌≡◌, List, length, sym, ◌∙◌, refl}
use Rattle.std.proofs.lemmas.List.{with_items_is}
use Rattle.std.specs.Vec.{with_items}
use Rattle.machine.specs.Steps.{contents, lengths}
use Rattle.machine.specs.declared.parts.Entry.{Entry}
use Rattle.machine.specs.declared.parts.Labelled.{Labelled}
use Rattle.sites.specs.Sites.{held}
use Rattle.sites.specs.declared.lending.Parts.{Parts}

module _ {L : Type 0} (parts : Parts L) (memory' log' : List (Labelled L)) (stack' : List (Entry L))
    (memories : length memory' ≡ length parts.memory.items)
    (stacks : length stack' ≡ length parts.stack.items)
    (logs : length log' ≡ length parts.log.items) where
  -- parts written to, as the vectors hold them
  abbrev pub written : Parts L
  written =
      record parts {
        memory = with_items parts.memory memory';
        stack = with_items parts.stack stack';
        log = with_items parts.log log';
      }

  pub held_with : held written ≡ contents parts.program.items memory' stack' log'
  held_with =
      rw (
        with_items_is parts.memory memory' (memories ∙ sym parts.memory.ok.0),
        with_items_is parts.stack stack' (stacks ∙ sym parts.stack.ok.0),
        with_items_is parts.log log' (logs ∙ sym parts.log.ok.0),
      )
      refl

  -- they are as long as they were
  pub as_long : lengths (contents parts.program.items memory' stack' log') ≡ lengths (held parts)
  as_long = rw (memories, stacks, logs) refl
