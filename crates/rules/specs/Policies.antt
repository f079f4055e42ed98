-- When the direct and the cached policy are true to a table, and what asking them does.
use Rattle.std.specs.Prelude.{◌≡◌, ◌≢◌, ◌↔◌, Some, None, Option}
use Rattle.labels.specs.Kind.{Kind}
use Rattle.rules.specs.Tables.{Table, Same, Truth, Effect, published}
use Rattle.rules.specs.declared.Policy.{Ghosts}
use Rattle.rules.specs.declared.Request.{Request}
use Rattle.rules.specs.declared.Verdict.{Verdict}
use Rattle.rules.specs.declared.cached.Cached.{Cached}
use Rattle.rules.specs.declared.cached.Memory.{Memory}
use Rattle.rules.specs.declared.direct.Direct.{Direct}

module _ {L : Type 0} (kind : Kind L) where
  -- a policy that works the published rows out is true to them, whatever it holds
  abbrev pub DirectFaithful : Truth Direct L
  DirectFaithful policy t = Same (published kind) t

  -- asked, it works the row out and keeps what it holds
  abbrev pub DirectAsked : Effect Direct L
  DirectAsked before request answer after = (answer ≡ published kind request) × (after ≡ before)

  -- what it is true to and what asking it does, as the trait has them
  abbrev pub direct_policy : Ghosts Direct L
  direct_policy = record { faithful = DirectFaithful; asked = DirectAsked }

-- what is remembered, if anything, is the table's answer
abbrev pub Remembers : {L : Type 0} → Option (Memory L) → Table L → Type 0
Remembers None t = Unit {0}
Remembers (Some m) t = m.answer ≡ t m.request

-- a cached policy is true to a table when the one below is and what it remembers is its answer
abbrev pub CachedFaithful : {P L : Type 0} → Truth P L → Truth (Cached P L) L
CachedFaithful faithful policy t = faithful policy.below t × Remembers policy.last t

-- the memory of this request and answer
abbrev pub memory : {L : Type 0} → Request L → Option (Verdict L) → Option (Memory L)
memory request answer = Some (record { request = request; answer = answer })

module _ {P L : Type 0} (asked : Effect P L) (before : Cached P L) where
  -- What asking a cached policy does, where `asked` says what asking the one below does.
  pub record CachedAsked (request : Request L) (answer : Option (Verdict L)) (after : Cached P L)
      : Type 0 where
    -- it remembers this request and answer
    pub remembers : after.last ≡ memory request answer
    -- told what it remembered, it answers from memory, and the one below is as it was
    pub hit : (a : Option (Verdict L)) → before.last ≡ memory request a
        → (answer ≡ a) × (after.below ≡ before.below)
    -- told any other, it asks below
    pub miss : ((a : Option (Verdict L)) → before.last ≢ memory request a)
        → asked before.below request answer after.below

-- the same of a cache over a policy
abbrev pub cached_policy : {P L : Type 0} → Ghosts P L → Ghosts (Cached P L) L
cached_policy below =
    record { faithful = CachedFaithful below.faithful; asked = CachedAsked below.asked }

-- A policy, as code sees it that knows only the trait, is the one that is named.
pub record Named {P L : Type 0} (seen named : Ghosts P L) : Type 0 where
  -- it is true to the same tables,
  pub truth : (policy : P) (t : Table L) → seen.faithful policy t ↔ named.faithful policy t
  -- and asking it does the same
  pub effect : (before : P) (request : Request L) (answer : Option (Verdict L)) (after : P)
      → seen.asked before request answer after ↔ named.asked before request answer after
