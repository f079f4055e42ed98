-- An enter on an idle station's memory: what it is lent and gives back.
use Rattle.std.proofs.Common.{Ok, Err, refl, ap, ◌∙◌, length}
use Rattle.sites.specs.declared.replies.Reply.TheVariants.{Entered, Refused}
use Rattle.sites.proofs.Handing.{entered}
use Rattle.sites.proofs.lending.Parts.enter.Goals as goal

pub returns-in-Ok : goal.returns-in-Ok
returns-in-Ok g c =
    let handed = rw (c.as_mut_slice.ensures.value, c.in-Ok.is) at c.enter.ensures in
    rw c.in-Idle.is
    (entered g.L.Label.kind c.in-Idle.idle c.args.self.now c.args.cell c.args.number (Ok tt)
    Entered (c.enter.auto.memory ∙ ap length c.as_mut_slice.ensures.value) handed
    (λ _ rests. (refl, rests)) (λ why e. cc))

pub returns-in-Err : goal.returns-in-Err
returns-in-Err g c =
    let handed = rw (c.as_mut_slice.ensures.value, c.in-Err.is) at c.enter.ensures in
    rw c.in-Idle.is
    (entered g.L.Label.kind c.in-Idle.idle c.args.self.now c.args.cell c.args.number
    (Err c.in-Err.why) (Refused c.in-Err.why)
    (c.enter.auto.memory ∙ ap length c.as_mut_slice.ensures.value) handed (λ _ _. refl)
    (λ why e. cc))
