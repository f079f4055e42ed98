-- What the rows of a table must do with labels to keep what is hidden from an observer; the published rows do it.
use Rattle.std.proofs.Common.{◌≡◌, Bool, true, false, cond, None, Option, refl, inl}
use Rattle.labels.specs.Kind.{Kind, Lawful}
use Rattle.rules.specs.Tables.{Table, request, verdict, published}
use Rattle.rules.specs.declared.Opcode.{Opcode}
use Rattle.rules.specs.declared.Opcode.TheVariants.{Push, Pop, Noop, Add, Sub, Less, Load}
use Rattle.rules.specs.declared.Opcode.TheVariants.{Store, Jump, Bnz, Call, Return, Output}
use Rattle.rules.specs.declared.Verdict.{Verdict}
use Rattle.machine.proofs.Hiding.{Hidden, Covers, AlikeLabels, upward, join_left, join_right, join_alike}

-- what holds of the labels N and R of a verdict, if there is one
pub data On {L : Type 0} (Q : L → L → Type 0) : Option (Verdict L) → Type 0 where
  forbids : On Q None
  allows : {N R : L} → Q N R → On Q (verdict N R)

-- what holds of two verdicts, if there are both
pub data Both {L : Type 0} (Q : L → L → L → L → Type 0) : Option (Verdict L) → Option (Verdict L) → Type 0 where
  left_forbids : {y : Option (Verdict L)} → Both Q None y
  right_forbids : {x : Option (Verdict L)} → Both Q x None
  both_allow : {N R N' R' : L} → Q N R N' R' → Both Q (verdict N R) (verdict N' R')

module _ {L : Type 0} (kind : Kind L) (o : L) where
  abbrev Covered : L → L → Type 0
  Covered = Covers kind o

  -- a result of two numbers, and a branch by one
  abbrev pub TwoFlow : L → L → L → L → L → Type 0
  TwoFlow p a b N R = record { p_pc : Covered p N; a_result : Covered a R; b_result : Covered b R }

  abbrev pub BranchFlow : L → L → L → L → Type 0
  BranchFlow p a N R = record { p_pc : Covered p N; a_pc : Covered a N }

  -- Where each operation must carry the labels P, A, B and C that it is asked with: to the program counter, to
  -- the result, to the cell.
  abbrev pub Flow : Opcode → L → L → L → L → L → L → Type 0
  Flow Push p a b c N R = record { p_pc : Covered p N; a_result : Covered a R }
  Flow Pop p a b c N R = Covered p N
  Flow Noop p a b c N R = Covered p N
  Flow Add p a b c N R = TwoFlow p a b N R
  Flow Sub p a b c N R = TwoFlow p a b N R
  Flow Less p a b c N R = TwoFlow p a b N R
  Flow Load p a b c N R = TwoFlow p a b N R
  Flow Store p a b c N R = record {
    p_pc : Covered p N;
    a_result : Covered a R;
    b_result : Covered b R;
    p_result : Covered p R;
    a_cell : Covered a c;
    p_cell : Covered p c;
  }
  Flow Jump p a b c N R = BranchFlow p a N R
  Flow Bnz p a b c N R = BranchFlow p a N R
  -- a frame has the label of the program counter that it brings back
  Flow Call p a b c N R = record { p_pc : Covered p N; a_pc : Covered a N; p_frame : R ≡ p }
  Flow Return p a b c N R = record { frame_pc : N ≡ a; b_result : Covered b R; p_result : Covered p R }
  Flow Output p a b c N R = record { p_pc : Covered p N; a_result : Covered a R; p_result : Covered p R }

  abbrev pub AlikeCounters : L → L → L → L → Type 0
  AlikeCounters N R N' R' = AlikeLabels kind o N N'

  abbrev pub AlikeVerdicts : L → L → L → L → Type 0
  AlikeVerdicts N R N' R' = record { pc : AlikeLabels kind o N N'; result : AlikeLabels kind o R R' }

  pub record Secure (table : Table L) : Type 0 where
    -- hidden labels go where they must
    pub flows : (op : Opcode) (p a b c : L) → On (Flow op p a b c) (table (request op p a b c))
    -- at one label of the program counter, alike labels give alike labels
    pub alike : (op : Opcode) (p : L) {a a' b b' c c' : L} → AlikeLabels kind o a a' → AlikeLabels kind o b b'
        → AlikeLabels kind o c c'
        → Both AlikeVerdicts (table (request op p a b c)) (table (request op p a' b' c'))
    -- and so do labels of any two cells at hidden addresses, for the program counter
    pub loads : (p : L) {a a' b b' c c' : L} → Hidden kind o a → Hidden kind o a'
        → Both AlikeCounters (table (request Load p a b c)) (table (request Load p a' b' c'))
    pub stores : (p : L) {a a' b b' c c' : L} → Hidden kind o a → Hidden kind o a'
        → Both AlikeCounters (table (request Store p a b c)) (table (request Store p a' b' c'))

module _ {L : Type 0} {kind : Kind L} (laws : Lawful kind) (o : L) where
  open kind use {below, join}

  same : {l : L} → Covers kind o l l
  same h = h

  if_allowed : {Q : L → L → Type 0} (b : Bool) (N R : L) → (b ≡ true → Q N R) → On Q (cond b (verdict N R) None)
  if_allowed true N R q = allows (q refl)
  if_allowed false N R q = forbids

  if_both_allowed : {Q : L → L → L → L → Type 0} (b b' : Bool) (N R N' R' : L) → Q N R N' R'
      → Both Q (cond b (verdict N R) None) (cond b' (verdict N' R') None)
  if_both_allowed true true N R N' R' q = both_allow q
  if_both_allowed true false N R N' R' q = right_forbids
  if_both_allowed false b' N R N' R' q = left_forbids

  two_flows : (p a b : L) → On (TwoFlow kind o p a b) (verdict p (join a b))
  two_flows p a b = allows (record { p_pc = same; a_result = join_left laws o a b; b_result = join_right laws o a b })

  branch_flows : (p a : L) → On (BranchFlow kind o p a) (verdict (join a p) kind.bottom)
  branch_flows p a = allows (record { p_pc = join_right laws o a p; a_pc = join_left laws o a p })

  published_flows : (op : Opcode) (p a b c : L) → On (Flow kind o op p a b c) (published kind (request op p a b c))
  published_flows Push p a b c = allows (record { p_pc = same; a_result = same })
  published_flows Pop p a b c = allows same
  published_flows Noop p a b c = allows same
  published_flows Add p a b c = two_flows p a b
  published_flows Sub p a b c = two_flows p a b
  published_flows Less p a b c = two_flows p a b
  published_flows Load p a b c = two_flows p a b
  published_flows Store p a b c = if_allowed (below (join a p) c) _ _ λ allowed. record {
    p_pc = same;
    a_result = λ h. join_left laws o (join a b) p (join_left laws o a b h);
    b_result = λ h. join_left laws o (join a b) p (join_right laws o a b h);
    p_result = join_right laws o (join a b) p;
    a_cell = λ h. upward laws o (join a p) c allowed (join_left laws o a p h);
    p_cell = λ h. upward laws o (join a p) c allowed (join_right laws o a p h);
  }
  published_flows Jump p a b c = branch_flows p a
  published_flows Bnz p a b c = branch_flows p a
  published_flows Call p a b c =
      allows (record { p_pc = join_right laws o a p; a_pc = join_left laws o a p; p_frame = refl })
  published_flows Return p a b c =
      allows
      (record {
        frame_pc = refl;
        b_result = join_left laws o b p;
        p_result = join_right laws o b p;
      })
  published_flows Output p a b c =
      allows
      (record { p_pc = same; a_result = join_left laws o a p; p_result = join_right laws o a p })

  published_alike : (op : Opcode) (p : L) {a a' b b' c c' : L} → AlikeLabels kind o a a' → AlikeLabels kind o b b'
      → AlikeLabels kind o c c'
      → Both (AlikeVerdicts kind o) (published kind (request op p a b c)) (published kind (request op p a' b' c'))
  published_alike Push p a_alike b_alike c_alike = both_allow (record { pc = inl refl; result = a_alike })
  published_alike Pop p a_alike b_alike c_alike = both_allow (record { pc = inl refl; result = inl refl })
  published_alike Noop p a_alike b_alike c_alike = both_allow (record { pc = inl refl; result = inl refl })
  published_alike Add p a_alike b_alike c_alike =
      both_allow (record { pc = inl refl; result = join_alike laws o a_alike b_alike })
  published_alike Sub p a_alike b_alike c_alike =
      both_allow (record { pc = inl refl; result = join_alike laws o a_alike b_alike })
  published_alike Less p a_alike b_alike c_alike =
      both_allow (record { pc = inl refl; result = join_alike laws o a_alike b_alike })
  published_alike Load p a_alike b_alike c_alike =
      both_allow (record { pc = inl refl; result = join_alike laws o a_alike b_alike })
  published_alike Store p {a} {a'} {b} {b'} {c} {c'} a_alike b_alike c_alike =
      if_both_allowed (below (join a p) c) (below (join a' p) c') _ _ _ _
      (record {
        pc = inl refl;
        result = join_alike laws o (join_alike laws o a_alike b_alike) (inl refl);
      })
  published_alike Jump p a_alike b_alike c_alike =
      both_allow (record { pc = join_alike laws o a_alike (inl refl); result = inl refl })
  published_alike Bnz p a_alike b_alike c_alike =
      both_allow (record { pc = join_alike laws o a_alike (inl refl); result = inl refl })
  published_alike Call p a_alike b_alike c_alike =
      both_allow (record { pc = join_alike laws o a_alike (inl refl); result = inl refl })
  published_alike Return p a_alike b_alike c_alike =
      both_allow (record { pc = a_alike; result = join_alike laws o b_alike (inl refl) })
  published_alike Output p a_alike b_alike c_alike =
      both_allow (record { pc = inl refl; result = join_alike laws o a_alike (inl refl) })

  pub published_secure : Secure kind o (published kind)
  published_secure = record {
    flows = published_flows;
    alike = published_alike;
    loads = λ p h h'. both_allow (inl refl);
    stores =
        λ p {a} {a'} {b} {b'} {c} {c'} h h'.
        if_both_allowed (below (join a p) c) (below (join a' p) c') _ _ _ _ (inl refl);
  }
