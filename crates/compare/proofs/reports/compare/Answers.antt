-- Each part of the report is the comparison that is defined; what follows for alike stations and calls.
use Rattle.std.proofs.Common.{filter, subst}
use Rattle.machine.specs.Lists.{Each, OneBegins}
use Rattle.machine.specs.Observer.{Alike, AlikeOperation, AlikeStations}
use Rattle.compare.specs.Differences.{Breaks}
use Rattle.compare.specs.Runs.{counts, history}
use Rattle.compare.specs.Reports.{AlikeExchange}
use Rattle.compare.proofs.Histories.{past}
use Rattle.compare.proofs.Comparing.{of_commands, nothing_differs, calls_alike}
use Rattle.compare.proofs.reports.compare.Goals as goal

pub returns-clause-compares : goal.returns-clause-compares
returns-clause-compares g c = record {
  first = c.in-Ok.ensures;
  second = c.in-Ok-run.ensures;
  report = record {
    programs = rw (c.as_slice.ensures.value, c.as_slice-2.ensures.value) at c.first_unlike-programs.ensures;
    memories = rw (c.as_slice-3.ensures.value, c.as_slice-4.ensures.value) at c.first_unlike-memories.ensures;
    calls = rw (c.as_slice-5.ensures.value, c.as_slice-6.ensures.value) at c.first_difference.ensures;
    commands = of_commands g.L.Label.kind c.args.level _ _ _
        (rw (c.commands.ensures, c.commands-2.ensures) at c.first_difference-2.ensures);
    looks = c.compare_looks.ensures;
  };
}

pub returns-clause-secrecy : goal.returns-clause-secrecy
returns-clause-secrecy g c true_one true_two alike_stations alike_calls =
    let kind = g.L.Label.kind in
    nothing_differs kind c.args.level g.met.L.Label.lawful _ _ _ _ _ _
    (past kind g.P.Policy c.args.one c.in-Ok.one true_one c.in-Ok.ensures)
    (past kind g.Q.Policy c.args.two c.in-Ok-run.two true_two c.in-Ok-run.ensures)
    (returns-clause-compares g c).report alike_stations alike_calls

pub returns-clause-told : goal.returns-clause-told
returns-clause-told g c true_one true_two alike =
    let kind = g.L.Label.kind in
    let one = past kind g.P.Policy c.args.one c.in-Ok.one true_one c.in-Ok.ensures in
    let two = past kind g.Q.Policy c.args.two c.in-Ok-run.two true_two c.in-Ok-run.ensures in
    let report = (returns-clause-compares g c).report in
    let alike_stations : AlikeStations kind c.args.level (history kind c.args.one.parts c.in-Ok.one.exchanges.items)
    (history kind c.args.two.parts c.in-Ok-run.two.exchanges.items)
    = (
      subst (Breaks
          (Each (AlikeOperation kind c.args.level)) c.args.one.parts.program.items
          c.args.two.parts.program.items) alike.0 report.programs,
      subst (Breaks
          (Each (Alike kind c.args.level)) c.args.one.parts.memory.items c.args.two.parts.memory.items) alike.1
          report.memories,
    ) in
    nothing_differs kind c.args.level g.met.L.Label.lawful _ _ _ _ _ _ one two report alike_stations
    (calls_alike kind c.args.level g.met.L.Label.lawful _ _ _ _ _ _ one two
    (subst (Breaks (OneBegins (AlikeExchange kind c.args.level)) (filter counts c.in-Ok.one.exchanges.items)
    (filter counts c.in-Ok-run.two.exchanges.items)) alike.2 report.calls))
