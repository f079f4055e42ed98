-- The question for the next command, of a station in any state.
use Rattle.std.proofs.Common.{Ok, Err, refl}
use Rattle.sites.specs.declared.replies.Reply.TheVariants.{Found, Refused}
use Rattle.sites.proofs.Handing.{told_next}
use Rattle.sites.proofs.lending.Parts.next_command.Goals as goal

pub returns-in-Ok : goal.returns-in-Ok
returns-in-Ok g c =
    let told = rw (c.as_slice.ensures.value, c.in-Ok.is) at c.next_command.ensures in
    told_next g.L.Label.kind c.args.station.now c.args.self.now c.args.from c.args.clearance
    (Ok c.in-Ok.place) (Found c.in-Ok.place) told (λ _. refl) (λ why e. cc)

pub returns-in-Err : goal.returns-in-Err
returns-in-Err g c =
    let told = rw (c.as_slice.ensures.value, c.in-Err.is) at c.next_command.ensures in
    told_next g.L.Label.kind c.args.station.now c.args.self.now c.args.from c.args.clearance
    (Err c.in-Err.why) (Refused c.in-Err.why) told (λ _. refl) (λ why e. cc)
