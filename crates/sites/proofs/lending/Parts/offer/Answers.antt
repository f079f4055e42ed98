-- Others' parts offered: by whether the state takes the call and whether the parts pass for the station's own.
use Rattle.std.proofs.Common.{inr}
use Rattle.sites.specs.Sites.{held}
use Rattle.sites.proofs.Offering.{taken_in, offered_declined, offered_own_lengths}
use Rattle.sites.proofs.Offering.{offered_refused, offered_kept, never_passes}
use Rattle.sites.proofs.lending.Parts.offer.Goals as goal

pub returns-then-not-is_taken_in-clause-offers : goal.returns-then-not-is_taken_in-clause-offers
returns-then-not-is_taken_in-clause-offers g c =
    let never = taken_in c.args.station c.args.call c.state.result _ c.state.ensures c.if-not-is_taken_in.ensures in
    offered_declined (held c.args.own.now) (held c.args.self.now) c.args.station c.requires
    c.args.call never c.declined.result c.declined.ensures

pub returns-then-pass_for-clause-offers : goal.returns-then-pass_for-clause-offers
returns-then-pass_for-clause-offers g c =
    let taken = taken_in c.args.station c.args.call c.state.result _ c.state.ensures c.if-not-is_taken_in.ensures in
    offered_own_lengths (held c.args.own.now) (held c.args.self.now) c.args.station c.requires
    c.args.call taken c.if-pass_for.ensures

pub returns-clause-offers : goal.returns-clause-offers
returns-clause-offers g c =
    let taken = taken_in c.args.station c.args.call c.state.result _ c.state.ensures c.if-not-is_taken_in.ensures in
    offered_refused (held c.args.own.now) (held c.args.self.now) c.args.station c.requires
    c.args.call taken c.if-pass_for.ensures c.lend.ensures.hands

pub returns-clause-untouched : goal.returns-clause-untouched
returns-clause-untouched g c =
    let taken = taken_in c.args.station c.args.call c.state.result _ c.state.ensures c.if-not-is_taken_in.ensures in
    (offered_kept (held c.args.own.now) (held c.args.self.now) c.args.station c.requires c.args.call
    taken c.if-pass_for.ensures c.lend.ensures.hands).1

pub returns-clause-policy : goal.returns-clause-policy
returns-clause-policy g c =
    let taken = taken_in c.args.station c.args.call c.state.result _ c.state.ensures c.if-not-is_taken_in.ensures in
    c.lend.ensures.unasked
    (inr
    (never_passes (held c.args.own.now) (held c.args.self.now) c.args.station c.requires
    c.args.call taken c.if-pass_for.ensures))
