-- A look into an idle station's memory.
use Rattle.std.proofs.Common.{Ok, Err, refl}
use Rattle.sites.specs.declared.replies.Reply.TheVariants.{Shown, Refused}
use Rattle.sites.proofs.Handing.{looked}
use Rattle.sites.proofs.lending.Parts.look.Goals as goal

pub returns-in-Ok : goal.returns-in-Ok
returns-in-Ok g c =
    let seen = rw (c.as_slice.ensures.value, c.in-Ok.is) at c.look.ensures in
    rw c.in-Idle.is
    (looked g.L.Label.kind c.in-Idle.idle c.args.self.now c.args.cell c.args.clearance
    (Ok c.in-Ok.number) (Shown c.in-Ok.number) seen (λ _. refl) (λ why e. cc))

pub returns-in-Err : goal.returns-in-Err
returns-in-Err g c =
    let seen = rw (c.as_slice.ensures.value, c.in-Err.is) at c.look.ensures in
    rw c.in-Idle.is
    (looked g.L.Label.kind c.in-Idle.idle c.args.self.now c.args.cell c.args.clearance
    (Err c.in-Err.why) (Refused c.in-Err.why) seen (λ _. refl) (λ why e. cc))
