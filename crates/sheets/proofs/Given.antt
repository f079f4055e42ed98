-- What the lines before a program have given so far.
use Rattle.std.proofs.Common.{◌≡◌, ◌≢◌, ℕ, zero, suc, false, ◌<◌, ◌≤◌, arith, List, [], ◌∷◌, ◌++◌}
use Rattle.std.proofs.Common.{length, length-set, get_or, set, map, Result, Ok, Err, Option, Some}
use Rattle.std.proofs.Common.{None, unwrap_or, inl, inr, ⊎_elim, refl, sym, subst, ap, ◌∙◌, ◌⊎◌}
use Rattle.std.specs.Prelude.{codes}
use Rattle.std.specs.Fmt.{decimal}
use Rattle.std.specs.List.{Contains}
use Rattle.std.specs.Option.{IfSome, IsSome, is_none}
use Rattle.std.specs.Result.{IfOk, MatchResult, IsErrAnd}
use Rattle.std.proofs.lemmas.List.{length-map, get_or-set_same, get_or-set_other, get_or-map}
use Rattle.std.proofs.lemmas.List.Elements.{Contains-append_left, Contains-append_right}
use Rattle.std.proofs.lemmas.List.Elements.{Contains-append_cases, Contains-get_or}
use Rattle.machine.specs.declared.parts.Labelled.{Labelled}
use Rattle.sheets.specs.declared.reader.Given.{Given}
use Rattle.sheets.specs.Lines.{SaysCount}
use Rattle.sheets.specs.Numbers.{CountRead}
use Rattle.sheets.specs.Settings.{IsSetting, AreSettings, SomeLine, OnlySaid, BeginsOther, NoLine}
use Rattle.sheets.specs.Settings.{GivenOr, GivesCount, SaysCell, GivesCell, HeldOr, AddsSetting}
use Rattle.sheets.specs.Settings.{SaysSettings, FillsIn}
use Rattle.sheets.specs.Parts.{zero_at}
use Rattle.sheets.specs.declared.reader.Settings.{Settings}

same_or_not : (c d : ℕ) → (c ≡ d) ⊎ (c ≢ d)
same_or_not zero zero = inl refl
same_or_not zero (suc d) = inr (λ q. absurd (cc q))
same_or_not (suc c) zero = inr (λ q. absurd (cc q))
same_or_not (suc c) (suc d) =
    ⊎_elim (λ same. inl (ap suc same)) (λ other. inr (λ q. other (omega (arith, q))))
    (same_or_not c d)

pub some_there : {X : Type 0} (o : Option X) → is_none o ≡ false → IsSome o
some_there None e = absurd (cc e)
some_there (Some x) e = refl

-- what holds of a value, where another answer passes it on
pub passed_on : {X E F : Type 0} (r : Result X E) (s : Result X F) (P : X → Type 0)
    (Q : E → F → Type 0) → MatchResult r (λ x. s ≡ Ok x) (λ e. IsErrAnd s (Q e)) → IfOk r P → IfOk s P
passed_on (Ok x) s P Q passed p = subst (λ t. IfOk t P) (sym passed) p
passed_on (Err e) (Err f) P Q passed p = tt
passed_on (Err e) (Ok x) P Q passed p = absurd passed

-- three facts of an answer, taken as one
pub ok_of_three : {X E : Type 0} (r : Result X E) (P Q R S : Type 0) → (P → Q → R → S)
    → IfOk r (λ _. P) → IfOk r (λ _. Q) → IfOk r (λ _. R) → IfOk r (λ _. S)
ok_of_three (Ok x) P Q R S so p q r = so p q r
ok_of_three (Err e) P Q R S so p q r = tt

-- what holds of an answer holds of its value
pub at_ok_value : {X E : Type 0} (r : Result X E) (x : X) (P : X → Type 0) → r ≡ Ok x → IfOk r P
    → P x
at_ok_value r x P is p = subst (λ t. IfOk t P) is p

pub some_at : {X : Type 0} (f : X → List (List ℕ)) (xs : List X) (i : ℕ) (d : X)
    (P : List (List ℕ) → Type 0) → i < length xs → P (f (get_or xs i d)) → SomeLine (map f xs) P
some_at f xs i d P lt says =
    let small : i < length (map f xs) = rw (length-map xs f) lt in
    let among = Contains-get_or (map f xs) i (f d) small in (
      f (get_or xs i d),
      subst (λ w. Contains (map f xs) w) (get_or-map f xs i d (f d) lt) among,
      says,
    )

-- a list of one has that one alone
only : {X : Type 0} (w x : X) → Contains (w ∷ []) x → x ≡ w
only w x (k, lt, is) = let z : k ≡ 0 = omega (arith, lt) in sym (rw z at is)

one : {X : Type 0} (w : X) → Contains (w ∷ []) w
one w = (0, omega arith, refl)

pub some_more : (ws : List (List (List ℕ))) (w : List (List ℕ)) (P : List (List ℕ) → Type 0)
    → SomeLine ws P → SomeLine (ws ++ w ∷ []) P
some_more ws w P (line, among, says) = (line, Contains-append_left ws (w ∷ []) line among, says)

pub some_last : (ws : List (List (List ℕ))) (w : List (List ℕ)) (P : List (List ℕ) → Type 0) → P w
    → SomeLine (ws ++ w ∷ []) P
some_last ws w P says = (w, Contains-append_right ws (w ∷ []) w (one w), says)

no_more : (ws : List (List (List ℕ))) (w first : List (List ℕ)) → NoLine ws first
    → BeginsOther first w → NoLine (ws ++ w ∷ []) first
no_more ws w first none other line among =
    ⊎_elim (λ before. none line before)
    (λ last. subst (λ l. BeginsOther first l) (sym (only w line last)) other)
    (Contains-append_cases ws (w ∷ []) line among)

only_first : (ws : List (List (List ℕ))) (w first : List (List ℕ)) (P : List (List ℕ) → Type 0)
    → NoLine ws first → P w → OnlySaid (ws ++ w ∷ []) first P
only_first ws w first P none says = (
  some_last ws w P says,
  λ line among.
      ⊎_elim (λ before. inl (none line before))
      (λ last. inr (subst P (sym (only w line last)) says))
      (Contains-append_cases ws (w ∷ []) line among),
)

only_more : (ws : List (List (List ℕ))) (w first : List (List ℕ)) (P : List (List ℕ) → Type 0)
    → OnlySaid ws first P → BeginsOther first w → OnlySaid (ws ++ w ∷ []) first P
only_more ws w first P (some, each) other = (
  some_more ws w P some,
  λ line among.
      ⊎_elim (λ before. each line before)
      (λ last. inl (subst (λ l. BeginsOther first l) (sym (only w line last)) other))
      (Contains-append_cases ws (w ∷ []) line among),
)

-- the number that a line so far gives behind the name, if one begins with it
abbrev pub CountSaid : List (List (List ℕ)) → List ℕ → Option ℕ → Type 0
CountSaid ws name (Some n) = OnlySaid ws (name ∷ []) (λ line. SaysCount 65535 line name n)
CountSaid ws name None = NoLine ws (name ∷ [])

count_stays : (ws : List (List (List ℕ))) (w : List (List ℕ)) (name : List ℕ) (o : Option ℕ)
    → CountSaid ws name o → BeginsOther (name ∷ []) w → CountSaid (ws ++ w ∷ []) name o
count_stays ws w name (Some n) said other =
    only_more ws w (name ∷ []) (λ line. SaysCount 65535 line name n) said other
count_stays ws w name None said other = no_more ws w (name ∷ []) said other

count_more : (ws : List (List (List ℕ))) (w : List (List ℕ)) (name : List ℕ) (o p : Option ℕ)
    → CountSaid ws name o → GivesCount w name o p → CountSaid (ws ++ w ∷ []) name p
count_more ws w name o p said gives =
    ⊎_elim
    (λ (n, says, was, is).
    let none : NoLine ws (name ∷ []) = subst (λ q. CountSaid ws name q) was said in
    subst (λ q. CountSaid (ws ++ w ∷ []) name q) (sym is)
    (only_first ws w (name ∷ []) (λ line. SaysCount 65535 line name n) none says))
    (λ (other, is).
    subst (λ q. CountSaid (ws ++ w ∷ []) name q) (sym is) (count_stays ws w name o said other))
    gives

pub count_or : (ws : List (List (List ℕ))) (name : List ℕ) (o : Option ℕ) (usual : ℕ)
    → CountSaid ws name o → GivenOr usual ws name (unwrap_or o usual)
count_or ws name (Some n) usual said = inl said
count_or ws name None usual said = inr (refl, said)

module _ {L : Type 0} (text : L → List ℕ) where
  -- what a line so far says of cell c, if one does
  abbrev pub CellSaid : List (List (List ℕ)) → ℕ → Option (Labelled L) → Type 0
  CellSaid ws c (Some v) =
      OnlySaid ws (codes "cell" ∷ decimal c ∷ []) (λ line. SaysCell text line c v)
  CellSaid ws c None = NoLine ws (codes "cell" ∷ decimal c ∷ [])

  cell_stays : (ws : List (List (List ℕ))) (w : List (List ℕ)) (c : ℕ) (o : Option (Labelled L))
      → CellSaid ws c o → BeginsOther (codes "cell" ∷ decimal c ∷ []) w → CellSaid (ws ++ w ∷ []) c o
  cell_stays ws w c (Some v) said other =
      only_more ws w (codes "cell" ∷ decimal c ∷ []) (λ line. SaysCell text line c v) said other
  cell_stays ws w c None said other = no_more ws w (codes "cell" ∷ decimal c ∷ []) said other

  cell_more : (ws : List (List (List ℕ))) (w : List (List ℕ)) (c : ℕ) (o p : Option (Labelled L))
      → CellSaid ws c o → GivesCell text w c o p → CellSaid (ws ++ w ∷ []) c p
  cell_more ws w c o p said gives =
      ⊎_elim
      (λ (v, says, was, is).
      let none : NoLine ws (codes "cell" ∷ decimal c ∷ []) = subst (λ q. CellSaid ws c q) was said in
      subst (λ q. CellSaid (ws ++ w ∷ []) c q) (sym is)
      (only_first ws w (codes "cell" ∷ decimal c ∷ []) (λ line. SaysCell text line c v) none says))
      (λ (other, is).
      subst (λ q. CellSaid (ws ++ w ∷ []) c q) (sym is) (cell_stays ws w c o said other))
      gives

  -- what was given is what the lines so far say
  pub record AllSaid (memory : Option ℕ) (ws : List (List (List ℕ))) (given : Given L)
      : Type 0 where
    pub each : AreSettings ws
    pub size : length given.cells.items ≡ unwrap_or memory 0
    pub cells : (c : ℕ) → c < length given.cells.items
        → CellSaid ws c (get_or given.cells.items c None)
    pub stack : CountSaid ws (codes "stack") given.stack
    pub log : CountSaid ws (codes "log") given.log

  pub all_more : (memory : Option ℕ) (ws : List (List (List ℕ))) (w : List (List ℕ))
      (before after : Given L) → AllSaid memory ws before → AddsSetting text w before after
      → AllSaid memory (ws ++ w ∷ []) after
  all_more memory ws w before after said adds = record {
    each =
        λ line among.
        ⊎_elim (λ before. said.each line before)
        (λ last. subst (λ l. IsSetting l) (sym (only w line last)) adds.says)
        (Contains-append_cases ws (w ∷ []) line among);
    size = adds.size ∙ said.size;
    cells = λ c lt.
        let small : c < length before.cells.items = rw (sym adds.size) lt in
        cell_more ws w c _ _ (said.cells c small) (adds.cells c small);
    stack = count_more ws w (codes "stack") _ _ said.stack adds.stack;
    log = count_more ws w (codes "log") _ _ said.log adds.log;
  }

  cell_apart : (line : List (List ℕ)) (cell number : List ℕ) (c d : ℕ)
      → line ≡ codes "cell" ∷ cell ∷ number ∷ [] → CountRead 4294967295 cell c → d ≤ 4294967295 → c ≢ d
      → BeginsOther (codes "cell" ∷ decimal d ∷ []) line
  cell_apart line cell number c d is read small apart rest begins =
      let same : cell ≡ decimal d = cc (sym is ∙ begins) in
      apart (read.1 d small same)

  head_apart : (line : List (List ℕ)) (a b : List ℕ) (more : List (List ℕ)) → line ≡ a ∷ more
      → a ≢ b → BeginsOther (b ∷ []) line
  head_apart line a b more is apart rest begins =
      let same : a ≡ b = cc (sym is ∙ begins) in
      apart same

  cell_gives : (line : List (List ℕ)) (c d : ℕ) (v : Labelled L)
      (xs ys : List (Option (Labelled L))) → SaysCell text line c v → c < length xs → length xs ≤ 65535
      → get_or xs c None ≡ None → ys ≡ set xs c (Some v) → d < length xs
      → GivesCell text line d (get_or xs d None) (get_or ys d None)
  cell_gives line c d v xs ys (cell, number, is, read, value) in_xs few was e lt =
      ⊎_elim
      (λ same.
      inl (
        v,
        (cell, number, is, subst (λ n. CountRead 4294967295 cell n) same read, value),
        subst (λ n. get_or xs n None ≡ None) same was,
        ap (λ zs. get_or zs d None) e
            ∙ (subst (λ n. get_or (set xs c (Some v)) n None ≡ Some v) same
            (get_or-set_same xs c (Some v) None in_xs)),
      ))
      (λ other.
      inr (
        cell_apart line cell number c d is read (omega (arith, few, lt)) other,
        ap (λ zs. get_or zs d None) e
            ∙ get_or-set_other xs c d (Some v) None (λ q. other (sym q)),
      ))
      (same_or_not c d)

  -- a line of a cell adds that cell
  pub cell_adds : (line : List (List ℕ)) (c : ℕ) (v : Labelled L) (before after : Given L)
      → IsSetting line → SaysCell text line c v → length before.cells.items ≤ 65535
      → after.stack ≡ before.stack → after.log ≡ before.log → c < length before.cells.items
      → get_or before.cells.items c None ≡ None
      → after.cells.items ≡ set before.cells.items c (Some v) → AddsSetting text line before after
  cell_adds line c v before after setting says few stack log lt was e =
      let (cell, number, is, read, value) = says in
      record {
        says = setting;
        stack =
            inr (head_apart line (codes "cell") (codes "stack") _ is (λ q. absurd (cc q)), stack);
        log = inr (head_apart line (codes "cell") (codes "log") _ is (λ q. absurd (cc q)), log);
        size = ap length e ∙ length-set before.cells.items c (Some v);
        cells =
            λ d small.
            cell_gives line c d v before.cells.items after.cells.items says lt few was e small;
      }

  cell_held : (ws : List (List (List ℕ))) (bottom : L) (c : ℕ) (o : Option (Labelled L))
      (v : Labelled L) → CellSaid ws c o → v ≡ unwrap_or o (zero_at bottom)
      → HeldOr text bottom ws c v
  cell_held ws bottom c (Some u) v said e =
      inl
      (subst (λ z. OnlySaid ws (codes "cell" ∷ decimal c ∷ []) (λ line. SaysCell text line c z))
      (sym e) said)
  cell_held ws bottom c None v said e = inr (e, said)

  size_said : (ws : List (List (List ℕ))) (memory : Option ℕ) (n : ℕ) → n ≡ unwrap_or memory 0
      → IsSome memory
      → IfSome memory (λ m. SomeLine ws (λ line. SaysCount 65535 line (codes "memory") m))
      → SomeLine ws (λ line. SaysCount 65535 line (codes "memory") n)
  size_said ws None n e there said = absurd (cc there)
  size_said ws (Some m) n e there said =
      subst (λ k. SomeLine ws (λ line. SaysCount 65535 line (codes "memory") k)) (sym e) said

  pub all_settled : (bottom : L) (memory : Option ℕ) (ws : List (List (List ℕ))) (given : Given L)
      → AllSaid memory ws given
      → IfSome memory (λ m. SomeLine ws (λ line. SaysCount 65535 line (codes "memory") m))
      → (s : Settings L) → FillsIn bottom memory given s
      → SaysSettings text bottom ws s.memory.items s.stack s.log
  all_settled bottom memory ws given said sized s settles =
      let cell : Option (Labelled L) → Labelled L = λ o. unwrap_or o (zero_at bottom) in
      let same : length s.memory.items ≡ length given.cells.items =
      ap length settles.cells ∙ length-map given.cells.items cell in
      record {
        each = said.each;
        size = size_said ws memory (length s.memory.items) (same ∙ said.size) settles.sized sized;
        cells = λ c d lt.
            let small : c < length given.cells.items = omega (arith, lt, same) in
            cell_held ws bottom c _ _ (said.cells c small)
            (ap (λ zs. get_or zs c d) settles.cells
            ∙ get_or-map cell given.cells.items c None d small);
        deep =
            subst (λ n. GivenOr 64 ws (codes "stack") n) (sym settles.stack)
            (count_or ws (codes "stack") given.stack 64 said.stack);
        long =
            subst (λ n. GivenOr 64 ws (codes "log") n) (sym settles.log)
            (count_or ws (codes "log") given.log 64 said.log);
      }
