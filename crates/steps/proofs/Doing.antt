-- How an operation in code comes to what is defined: it ended the go, or it was done.
use Rattle.std.proofs.Common.{◌≡◌, ℕ, ◌<◌, ◌≤◌, ltb, List, length, arith, length-append, ℤ, IsErrAnd}
use Rattle.std.proofs.Common.{Some, None, Ok, Err, Option, Result, inl, inr, sym, refl, ap, ◌∙◌, subst}
use Rattle.std.proofs.lemmas.Result.{err_from_is_err_and}
use Rattle.std.proofs.lemmas.Bool.{lt-ltb, le-ltb}
use Rattle.std.specs.Option.{ok_or}
use Rattle.rules.specs.Tables.{Table, Obeys}
use Rattle.rules.specs.declared.Policy.{Ghosts as Policy}
use Rattle.rules.specs.declared.Request.{Request}
use Rattle.rules.specs.declared.Verdict.{Verdict}
use Rattle.machine.specs.Steps.{Setup, Round, Contents, Outcome, made_of, stopped, done, provided, ruled}
use Rattle.machine.specs.declared.answers.End.{End}
use Rattle.machine.specs.declared.answers.End.TheVariants.{Stopped}
use Rattle.machine.specs.declared.answers.Stop.{Stop}
use Rattle.machine.specs.declared.answers.Stop.TheVariants.{Forbidden}
use Rattle.machine.specs.declared.parts.Entry.{Entry}
use Rattle.machine.specs.declared.parts.Labelled.{Labelled}
use Rattle.steps.specs.Operations.{registers_at, starting, round, with_stack, with_used}
use Rattle.steps.specs.Operations.{Rules, Heeded, AtMostOnce, StaysTrue, AsksPolicy, Steps}
use Rattle.steps.specs.declared.registers.Registers.{Registers}
use Rattle.steps.specs.declared.window.Window.{Window}
use Rattle.steps.proofs.Stacks.{newest_on}

module _ {P L : Type 0} (policy : Policy P L) {before after : P} where
  -- what follows from an answer that was heeded
  pub once_as : {Heeds Heeds' : Option (Verdict L) → Type 0}
      → ((answer : Option (Verdict L)) → Heeds answer → Heeds' answer)
      → AtMostOnce policy before after Heeds → AtMostOnce policy before after Heeds'
  once_as weaker (inl same) = inl same
  once_as weaker (inr (q, (answer, (did, heeded)))) = inr (q, (answer, (did, weaker answer heeded)))

-- What was heeded with one result that is done is heeded with any other, and so is an end.
module _ (A B : Type 0) {L : Type 0} where
  done_as : (x : A) (y : B) (answer : Option (Verdict L)) → Heeded (Ok x) answer → Heeded (Ok y) answer
  done_as x y (Some v) heeded = tt
  done_as x y None never = never

  end_as : (end : End) (answer : Option (Verdict L)) → Heeded {A = A} (Err end) answer → Heeded {A = B} (Err end) answer
  end_as end (Some v) never = never
  end_as end None is = is

-- What an operation leaves of a policy, with this result.
pub record Leaves {P L A : Type 0} (policy : Policy P L) (before after : P) (r : Result A End) : Type 0 where
  pub still : StaysTrue policy before after
  pub asks : AtMostOnce policy before after (Heeded r)

module _ {P L : Type 0} {policy : Policy P L} where
  -- asked by the trait's call, whose contract these two facts are
  pub asks_once : {before after : P} {q : Request L} (answer : Option (Verdict L)) (r : Result (Verdict L) End)
      → r ≡ ok_or answer (Stopped Forbidden) → Obeys policy.faithful before q answer after
      → policy.asked before q answer after
      → AsksPolicy policy before after (Heeded r) (λ table. Rules (table q) r)
  asks_once {before} {after} {q} (Some v) r is obeys did =
      subst (λ r. AsksPolicy policy before after (Heeded r) (λ table. Rules (table q) r)) (sym is)
      (record {
        holds = λ table true then. ap (λ a. ruled a then) (sym (obeys table true).0);
        still = λ table true. (obeys table true).1;
        asks = inr (q, (Some v, (did, tt)));
      })
  asks_once {before} {after} {q} None r is obeys did =
      subst (λ r. AsksPolicy policy before after (Heeded r) (λ table. Rules (table q) r)) (sym is)
      (record {
        holds = λ table true then. ap (λ a. ruled a then) (sym (obeys table true).0);
        still = λ table true. (obeys table true).1;
        asks = inr (q, (None, (did, refl)));
      })

  -- not asked
  pub unasked : {A : Type 0} {before : P} {r : Result A End} → Leaves policy before before r
  unasked = record { still = λ table true. true; asks = inl refl }

  -- asked, and allowed
  pub allowed : {before after : P} {r : Registers L} {Holds : Table L → Type 0} (v : Verdict L)
      → AsksPolicy policy before after (Heeded (Ok v)) Holds → Leaves policy before after (Ok r)
  allowed {r = r} v asked = record {
    still = asked.still;
    asks = once_as policy (done_as (Verdict L) (Registers L) v r) asked.asks;
  }

  -- asked, and forbidden
  pub forbidden : {before after : P} {end : End} {Holds : Table L → Type 0}
      → AsksPolicy policy before after (Heeded {A = Verdict L} (Err end)) Holds
      → Leaves {A = Registers L} policy before after (Err end)
  forbidden {end = end} asked = record {
    still = asked.still;
    asks = once_as policy (end_as (Verdict L) (Registers L) end) asked.asks;
  }

-- what is defined is this outcome, over every table that the policy is true to
abbrev Comes : {P L : Type 0} → Policy P L → P → (Table L → Setup L → Round L → Outcome L) → Setup L
    → Round L → Outcome L → Type 0
Comes {P} {L} policy before defined setup s x =
    (table : Table L) → policy.faithful before table → x ≡ defined table setup s

-- and the other way round
abbrev Gives : {P L : Type 0} → Policy P L → P → (Table L → Setup L → Round L → Outcome L) → Setup L
    → Round L → Outcome L → Type 0
Gives {P} {L} policy before defined setup s x =
    (table : Table L) → policy.faithful before table → defined table setup s ≡ x

module _ {L : Type 0} where
  abbrev at : ℤ → L → List (Entry L) → List (Labelled L) → List (Labelled L) → Outcome L
  at pc label stack memory commands =
      done
      (record {
        pc = pc;
        pc_label = label;
        stack = stack;
        kept = record { memory = memory; commands = commands };
      })

  -- An operation is done alike where the stack, the memory or the commands are the same.
  pub done_stack : {pc : ℤ} {label : L} {stack stack' : List (Entry L)}
      {memory commands : List (Labelled L)}
      → stack ≡ stack' → at pc label stack memory commands ≡ at pc label stack' memory commands
  done_stack {pc} {label} {stack} {stack'} {memory} {commands} same = ap (λ s. at pc label s memory commands) same

  pub done_memory : {pc : ℤ} {label : L} {stack : List (Entry L)}
      {memory memory' commands : List (Labelled L)}
      → memory ≡ memory' → at pc label stack memory commands ≡ at pc label stack memory' commands
  done_memory {pc} {label} {stack} {memory} {memory'} {commands} same = ap (λ m. at pc label stack m commands) same

  pub done_commands : {pc : ℤ} {label : L} {stack : List (Entry L)}
      {memory commands commands' : List (Labelled L)}
      → commands ≡ commands'
      → at pc label stack memory commands ≡ at pc label stack memory commands'
  done_commands {pc} {label} {stack} {memory} {commands} {commands'} same = ap (λ g. at pc label stack memory g) same

  pub done_place : {pc pc' : ℤ} {label : L} {stack : List (Entry L)}
      {memory commands : List (Labelled L)}
      → pc ≡ pc' → at pc label stack memory commands ≡ at pc' label stack memory commands
  done_place {pc} {pc'} {label} {stack} {memory} {commands} same = ap (λ p. at p label stack memory commands) same

  -- A test for room.
  pub with_room : (n room : ℕ) (stop : Stop) (x : Outcome L) → n < room → provided (ltb n room) stop x ≡ x
  with_room n room stop x less = ap (λ b. provided b stop x) (lt-ltb n room less)

  pub no_room : (n room : ℕ) (stop : Stop) (x : Outcome L) → room ≤ n → provided (ltb n room) stop x ≡ stopped stop
  no_room n room stop x full = ap (λ b. provided b stop x) (le-ltb n room full)

  module _ {P : Type 0} {policy : Policy P L} {before after : P} {parts : Contents L} {start : Registers L}
      {defined : Table L → Setup L → Round L → Outcome L} where
    -- ended
    pub ends : {end : End} → Leaves {A = Registers L} policy before after (Err end)
        → Gives policy before defined (made_of parts) (round start parts) (Err end)
        → Steps policy before after parts parts start (Err end) defined
    ends left gives = record {
      comes_to = λ table true. sym (gives table true);
      still = left.still;
      asks = left.asks;
      keeps = refl;
      fits = tt;
    }

    -- an end handed on by `?`
    pub hands_on : {r : Result (Registers L) End} {end : End} → IsErrAnd r (λ y. y ≡ end)
        → Leaves {A = Registers L} policy before after (Err end)
        → Gives policy before defined (made_of parts) (round start parts) (Err end)
        → Steps policy before after parts parts start r defined
    hands_on {r} {end} by left comes =
        let p = err_from_is_err_and r by in
        subst (λ x. Steps policy before after parts parts start x defined) (sym (p.1 ∙ ap Err p.2)) (ends left comes)

    -- done, with these registers
    pub does : {parts' : Contents L} {q : Registers L} {pc : ℤ} {label : L} {depth : ℕ} {window : Window}
        → q ≡ registers_at pc label depth window → Leaves policy before after (Ok (registers_at pc label depth window))
        → depth ≤ length parts.stack → window.count ≤ length parts.log
        → Comes policy before defined (made_of parts) (round start parts)
        (done (round (registers_at pc label depth window) parts'))
        → Steps policy before after parts parts' start (Ok q) defined
    does {parts'} {q} {pc} {label} {depth} {window} is left deep many comes =
        subst (λ x. Steps policy before after parts parts' start (Ok x) defined) (sym is) (record {
          comes_to = comes;
          still = left.still;
          asks = left.asks;
          keeps = tt;
          fits = record { depth = deep; commands = many };
        })

    -- an operation that comes to what another definition says too
    pub defined_as : {parts' : Contents L} {r : Result (Registers L) End}
        {defined' : Table L → Setup L → Round L → Outcome L}
        → ((table : Table L)
        → defined table (made_of parts) (round start parts)
        ≡ defined' table (made_of parts) (round start parts))
        → Steps policy before after parts parts' start r defined'
        → Steps policy before after parts parts' start r defined
    defined_as same did = record {
      comes_to = λ table true. did.comes_to table true ∙ sym (same table);
      still = did.still;
      asks = did.asks;
      keeps = did.keeps;
      fits = did.fits;
    }

  -- What is asked with labels filled in, where it is known what was asked without them.
  pub asked : {P : Type 0} {policy : Policy P L} {before after : P} {q q' : Request L} (fill : Request L → Request L)
      (r : Result (Verdict L) End) → q ≡ q'
      → AsksPolicy policy before after (Heeded r) (λ table. Rules (table (fill q)) r)
      → AsksPolicy policy before after (Heeded r) (λ table. Rules (table (fill q')) r)
  asked {policy = policy} {before} {after} fill r same under =
      subst (λ x. AsksPolicy policy before after (Heeded r) (λ table. Rules (table (fill x)) r)) same under

  -- the round that an operation starts from, with nothing beyond the entries in use
  abbrev of_used : Registers L → List (Entry L) → Contents L → Round L
  of_used start used rest = round (starting start (length used)) (with_stack used rest)

  -- What an operation starts from is the same with what lies beyond the entries in use as without it.
  before_is : (start : Registers L) (used : List (Entry L)) (rest : Contents L)
      → round (starting start (length used)) (with_used used rest)
      ≡ round (starting start (length used)) (with_stack used rest)
  before_is start used rest = ap on (newest_on (length used) used rest.stack (omega arith))
    where
      on : List (Entry L) → Round L
      on s = record { pc = start.pc; pc_label = start.pc_label; stack = s; kept = (round start rest).kept }

  module _ {P : Type 0} (policy : Policy P L) (before : P) (defined : Table L → Setup L → Round L → Outcome L)
      (start : Registers L) (used : List (Entry L)) (rest : Contents L) {x : Outcome L} where
    come : Comes policy before defined (made_of (with_used used rest)) (of_used start used rest) x
        → Comes policy before defined (made_of (with_used used rest))
        (round (starting start (length used)) (with_used used rest)) x
    come comes table true =
        comes table true
        ∙ sym (ap (defined table (made_of (with_used used rest))) (before_is start used rest))

    give : Gives policy before defined (made_of (with_used used rest)) (of_used start used rest) x
        → Gives policy before defined (made_of (with_used used rest))
        (round (starting start (length used)) (with_used used rest)) x
    give gives table true =
        ap (defined table (made_of (with_used used rest))) (before_is start used rest)
        ∙ gives table true

  -- The same over the entries in use, whatever lies beyond them.
  module _ {P : Type 0} {policy : Policy P L} {before after : P} {defined : Table L → Setup L → Round L → Outcome L}
      (start : Registers L) (used : List (Entry L)) (rest : Contents L) where
    pub used_ends : {end : End} → Leaves {A = Registers L} policy before after (Err end)
        → Gives policy before defined (made_of (with_used used rest)) (of_used start used rest)
        (Err end)
        → Steps policy before after (with_used used rest) (with_used used rest)
        (starting start (length used)) (Err end) defined
    used_ends left gives = ends left (give policy before defined start used rest gives)

    pub used_hands_on : {r : Result (Registers L) End} {end : End} → IsErrAnd r (λ y. y ≡ end)
        → Leaves {A = Registers L} policy before after (Err end)
        → Gives policy before defined (made_of (with_used used rest)) (of_used start used rest)
        (Err end)
        → Steps policy before after (with_used used rest) (with_used used rest) (starting start (length used)) r defined
    used_hands_on by left gives = hands_on by left (give policy before defined start used rest gives)

    pub used_does : (used' : List (Entry L)) (rest' : Contents L) {q : Registers L} {pc : ℤ}
        {label : L} {depth : ℕ} {window : Window}
        → q ≡ registers_at pc label depth window → Leaves policy before after (Ok (registers_at pc label depth window))
        → length used' ≡ length used → depth ≤ length used → window.count ≤ length rest.log
        → Comes policy before defined (made_of (with_used used rest)) (of_used start used rest)
        (done (round (registers_at pc label depth window) (with_stack used' rest')))
        → Steps policy before after (with_used used rest) (with_used used' rest')
        (starting start (length used)) (Ok q) defined
    used_does used' rest' {pc = pc} {label} {depth} {window} is left same deep many comes =
        does is left (omega (arith, length-append used rest.stack)) many
        (come policy before defined start used rest
        (λ table true. done_stack (newest_on depth used' rest'.stack (omega arith))
        ∙ comes table true))

    pub used_defined_as : (used' : List (Entry L)) (rest' : Contents L) {r : Result (Registers L) End}
        {defined' : Table L → Setup L → Round L → Outcome L}
        → ((table : Table L) (setup : Setup L)
        → defined table setup (round (starting start (length used)) (with_stack used rest))
        ≡ defined' table setup (round (starting start (length used)) (with_stack used rest)))
        → Steps policy before after (with_used used rest) (with_used used' rest')
        (starting start (length used)) r defined'
        → Steps policy before after (with_used used rest) (with_used used' rest')
        (starting start (length used)) r defined
    used_defined_as used' rest' {defined' = defined'} same did =
        let is = before_is start used rest in
        let setup = made_of (with_used used rest) in
        defined_as (λ table. ap (defined table setup) is ∙ same table setup ∙ sym (ap (defined' table setup) is)) did
