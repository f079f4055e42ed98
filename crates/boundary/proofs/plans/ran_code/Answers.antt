-- What is left of a run, part by part.
use Rattle.std.proofs.Common.{ap, ◌∙◌, map}
use Rattle.boundary.proofs.plans.ran_code.Goals as goal

pub returns : goal.returns
returns g c = record {
  memory = c.in_ok-coded_numbers.ensures ∙ ap (map _) c.memory.ensures.is;
  commands = c.in_ok-coded_numbers-2.ensures ∙ ap (map _) c.commands.ensures;
  stack = c.in_ok-end.ensures.stack;
  replies = c.in_ok-coded_replies.ensures ∙ ap (map _) c.as_slice.ensures.value;
  end = c.in_ok-end.ensures.end;
}
