-- Where `lent` is neither 0 nor 1, no exchange is coded.
use Rattle.std.proofs.Common.{◌≡◌, ℕ, Bool, true, false, cond}
use Rattle.compare.specs.declared.exchanges.Lent.{Lent}
use Rattle.compare.specs.declared.exchanges.Lent.TheVariants.{Own, Others}
use Rattle.boundary.specs.Calls.{CodesLent}
use Rattle.boundary.specs.declared.calls.CallCode.{CallCode}
use Rattle.boundary.proofs.calls.CallCode.exchange.Goals as goal

-- What is lent is the station's own parts or others.
either : {L : Type 0} (code : L → ℕ) (call : CallCode) (lent : Lent L)
    → ((b : Bool) → call.lent ≡ cond b 1 0 → ⊥) → CodesLent code call lent → ⊥
either code call Own neither is = neither false is
either code call (Others parts) neither is = neither true is.0

pub returns-in-None : goal.returns-in-None
returns-in-None g c e coded = either g.L.Coded.code c.args.self e.lent c.in-None.ensures coded.lent
