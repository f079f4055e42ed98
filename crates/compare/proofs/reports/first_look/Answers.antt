-- One cell more has the same answer, or another, or there is none left.
use Rattle.std.proofs.Common.{◌≤◌, length, refl, sym, ap, ◌∙◌, ⊎_elim, arith, below_more}
use Rattle.machine.specs.Stations.{memory_of}
use Rattle.compare.proofs.Looking.{same_said, said_same, look_is, look_says, look_beyond, inside_or_beyond}
use Rattle.compare.proofs.reports.first_look.Goals as goal

pub returns-then-not-same_reply : goal.returns-then-not-same_reply
returns-then-not-same_reply g c =
    let kind = g.L.Label.kind in
    let cell = c.loop-cell.cell in (
      λ same. cc (c.if-not-same_reply.ensures.1 (said_same _ _ _ _ _ _
          (look_says kind c.args.level c.args.one.now.sited cell _ c.requires.one c.look.ensures)
          (look_says kind c.args.level c.args.two.now.sited cell _ c.requires.two c.look-in-loop-cell.ensures)
          (look_is kind c.args.level c.args.one.now.sited cell) same)),
      c.loop-cell.invariant,
    )

pub loop-cell-preserved : goal.loop-cell-preserved
loop-cell-preserved g c =
    let kind = g.L.Label.kind in
    let cell = c.loop-cell.cell in
    below_more _ _ c.loop-cell.invariant (same_said _ _ _ _ _ _
    (look_says kind c.args.level c.args.one.now.sited cell _ c.requires.one c.look.ensures)
    (look_says kind c.args.level c.args.two.now.sited cell _ c.requires.two c.look-in-loop-cell.ensures)
    (c.if-not-same_reply.ensures.0 refl))

pub returns : goal.returns
returns g c cell =
    let kind = g.L.Label.kind in
    let one = c.args.one.now.sited in
    let two = c.args.two.now.sited in
    ⊎_elim
    (λ inside. c.loop-cell.invariant cell inside)
    (λ beyond.
    let over : length (memory_of one.station) ≤ cell =
    omega (arith, c.max-cells.ensures, ap length c.memory.ensures.is) in
    let over' : length (memory_of two.station) ≤ cell =
    omega (arith, c.max-cells.ensures, ap length c.memory-2.ensures.is) in
    look_beyond kind c.args.level one cell over ∙ sym (look_beyond kind c.args.level two cell over'))
    (inside_or_beyond cell c.loop-cell.cell)
